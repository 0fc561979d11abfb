-- The range is disjoint from this one, so those that are left decide.
use Rattle.std.proofs.Common.{sym, ◌∙◌, arith}
use Rattle.rules.specs.Layout.{read_snapshot}
use Rattle.rules.specs.Rows.{rows_disjoint}
use Rattle.row_ranges.proofs.Each.{all_next}
use Rattle.row_ranges.proofs.disjoint_from.Goals as goal

pub loop-b-preserved : goal.loop-b-preserved
loop-b-preserved c =
    c.loop-b.invariant
    ∙ all_next (rows_disjoint (read_snapshot c.args.a)) c.args.others.now c.loop-b.b-index _ (omega arith) (sym c.rows_disjoint.ensures ∙ c.if-not-rows_disjoint.false)
