-- At version 3 the leaf grows the next row id where no check fails; below it stays.
use Rattle.std.proofs.Common.{ap, ◌∙◌}
use Rattle.primitives.specs.Answers.{rows_checked}
use Rattle.primitives.specs.declared.row_ids.RowsChecked.{RowsChecked}
use Rattle.snapshot_updates.proofs.Rows.{row_grows}
use Rattle.snapshot_updates.proofs.next_row_after.Goals as goal

pub returns : goal.returns
unfolding rows_checked
returns c z = ap (λ (r : RowsChecked). r.next) c.check_rows.ensures ∙ row_grows c.args.f c.args.s c.if-f-ne3.false z
