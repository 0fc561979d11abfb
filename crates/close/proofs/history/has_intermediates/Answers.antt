use Rattle.std.proofs.Common.{◌≡◌, get_or, pos, true, sym, ◌∙◌, rules}
use Rattle.std.proofs.lemmas.Int.{ints}
use Rattle.rules.specs.Layout.{read_fields}
use Rattle.close.specs.Facts.{is_superseded, intermediates_of}
use Rattle.close.proofs.Scans.{any_here, any_end, kept_any}
use Rattle.close.proofs.history.has_intermediates.Goals as goal

pub returns-then-is_superseded : goal.returns-then-is_superseded
unfolding intermediates_of
returns-then-is_superseded c =
    let test = is_superseded c.args.added.now (read_fields c.args.f).current in
    let e : is_superseded c.args.added.now (read_fields c.args.f).current (get_or c.args.mains.now c.loop-id.id-index (pos 0)) ≡ true = search (rules, ints) in
    sym (kept_any test c.args.mains.now ∙ c.loop-id.invariant ∙ any_here test c.args.mains.now c.loop-id.id-index (pos 0) c.loop-id-test.true e)

pub returns : goal.returns
unfolding intermediates_of
returns c =
    let test = is_superseded c.args.added.now (read_fields c.args.f).current in
    sym (kept_any test c.args.mains.now ∙ c.loop-id.invariant ∙ any_end test c.args.mains.now c.loop-id.id-index c.loop-id-test.false)
