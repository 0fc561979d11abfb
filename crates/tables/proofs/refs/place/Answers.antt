use Rattle.std.proofs.Common.{not, sym, ap, ◌∙◌}
use Rattle.rules.specs.Names.{name_below}
use Rattle.rules.specs.Layout.{read_name}
use Rattle.tables.specs.Laid.{LaidName}
use Rattle.tables.proofs.Spans.{each_slot, stopped, ran_out, run_place}
use Rattle.tables.proofs.Each.{tidy_refs, ref_at_lem, name_of}
use Rattle.tables.proofs.refs.place.Goals as goal

pub name_is_below-requires-clause-laid_name : goal.name_is_below-requires-clause-laid_name
name_is_below-requires-clause-laid_name c = each_slot (tidy_refs c.requires.laid_refs) (λ x. LaidName x.name) (λ i d b. name_of (ref_at_lem c.requires.laid_refs i d b)) _ c.loop-i-test.true

pub returns-then-not-name_is_below : goal.returns-then-not-name_is_below
returns-then-not-name_is_below c =
    let h = tidy_refs c.requires.laid_refs in
    run_place h (λ x. not (name_below x.name (read_name c.args.name))) (stopped h (λ x. not (name_below (read_name x.name) (read_name c.args.name))) _ c.loop-i-test.true c.loop-i.invariant (ap not (sym c.name_is_below.ensures ∙ c.if-not-name_is_below.true)))

pub returns : goal.returns
returns c =
    let h = tidy_refs c.requires.laid_refs in
    run_place h (λ x. not (name_below x.name (read_name c.args.name))) (ran_out h (λ x. not (name_below (read_name x.name) (read_name c.args.name))) c.loop-i-test.false c.loop-i.auto.i-end c.loop-i.invariant)
