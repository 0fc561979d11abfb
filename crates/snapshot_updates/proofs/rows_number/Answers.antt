-- Behind the version and the flag the leaf checks the rows.
use borrow.Author.Tests.{not-false}
use Rattle.std.proofs.Common.{sym, ap, ◌∙◌}
use Rattle.primitives.specs.Answers.{rows_checked}
use Rattle.primitives.specs.declared.row_ids.RowsChecked.{RowsChecked}
use Rattle.snapshot_updates.proofs.Rows.{with_rows_lem}
use Rattle.snapshot_updates.proofs.rows_number.Goals as goal

pub returns : goal.returns
unfolding rows_checked
returns c = ap (λ (r : RowsChecked). r.number) c.check_rows.ensures ∙ sym (with_rows_lem c.args.f c.args.s c.if-f-ne3.false (not-false _ c.if-not-s.false))
