use Rattle.std.proofs.Common.{rules, ◌<◌, ◌∙◌, ap, false, set, arith}
use lib.ListN.{length-take}
use lib.Seq.{get_or-take}
use Rattle.records.specs.Blanks.{no_ref}
use Rattle.records.specs.declared.reference.Refs.{Refs}
use Rattle.tables.proofs.Each.{tidy_refs, made_refs, none_refs}
use Rattle.formed.proofs.Scans.{slots}
use Rattle.expiry.proofs.Leaving.{picking_start, picking_more, picking_less}
use Rattle.expiry.proofs.list.dropped.Goals as goal
use Rattle.expiry.proofs.list.dropped.Goals.{then-goes-i, else-goes-i}

pub loop-i-init : goal.loop-i-init
loop-i-init c = picking_start made_refs (tidy_refs c.requires) (search (rules, slots)) (c.blank-gone.ensures ∙ none_refs)

pub loop-i-preserved : goal.loop-i-preserved
loop-i-preserved c =
    let t = c.args.t in
    let gone = c.loop-i.gone in
    let b : c.loop-i.i < t.count = omega (arith, c.loop-i-test.true, length-take t.count t.items) in
    elim c.if-goes-i.branch [
      | then-goes-i w ↦ picking_more made_refs (tidy_refs c.requires) false _ b c.loop-i.invariant w.if-goes-i.true (ap (λ (r : Refs). r.items) w.gone-is ∙ ap (set gone.items gone.count) (get_or-take t.count t.items c.loop-i.i _ b)) (ap (λ (r : Refs). r.count) w.gone-is)
      | else-goes-i w ↦ rw w.gone-is (picking_less made_refs (tidy_refs c.requires) false no_ref b c.loop-i.invariant w.if-goes-i.false)
    ]
