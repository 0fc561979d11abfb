use Rattle.std.proofs.Common.{rules, ◌<◌, ◌∙◌, ap, set, arith}
use borrow.Author.Tests.{eq-eqb, ne_eqb}
use lib.ListN.{length-take}
use lib.Seq.{get_or-take}
use Rattle.records.specs.Blanks.{no_snapshot}
use Rattle.records.specs.declared.snapshot.Snapshots.{Snapshots}
use Rattle.tables.proofs.Each.{tidy_snapshots, made_snapshots, none_snapshots}
use Rattle.formed.proofs.Scans.{slots}
use Rattle.expiry.specs.Answer.{no_reason}
use Rattle.expiry.proofs.Leaving.{picking_start, picking_more, picking_less}
use Rattle.expiry.proofs.list.leaving.Goals as goal
use Rattle.expiry.proofs.list.leaving.Goals.{then-stays-i-eq-NOTHING, else-stays-i-eq-NOTHING}

pub loop-i-init : goal.loop-i-init
loop-i-init c = picking_start made_snapshots (tidy_snapshots c.requires) (search (rules, slots)) (c.blank-gone.ensures ∙ none_snapshots)

pub loop-i-preserved : goal.loop-i-preserved
loop-i-preserved c =
    let t = c.args.t in
    let gone = c.loop-i.gone in
    let b : c.loop-i.i < t.count = omega (arith, c.loop-i-test.true, length-take t.count t.items) in
    elim c.if-stays-i-eq-NOTHING.branch [
      | then-stays-i-eq-NOTHING w ↦ picking_more made_snapshots (tidy_snapshots c.requires) no_reason no_snapshot b c.loop-i.invariant (eq-eqb _ _ w.if-stays-i-eq-NOTHING.true) (ap (λ (r : Snapshots). r.items) w.gone-is ∙ ap (set gone.items gone.count) (get_or-take t.count t.items c.loop-i.i no_snapshot b)) (ap (λ (r : Snapshots). r.count) w.gone-is)
      | else-stays-i-eq-NOTHING w ↦ rw w.gone-is (picking_less made_snapshots (tidy_snapshots c.requires) no_reason no_snapshot b c.loop-i.invariant (ne_eqb _ _ w.if-stays-i-eq-NOTHING.false))
    ]
