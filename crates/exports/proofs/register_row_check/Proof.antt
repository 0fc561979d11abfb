-- The answer's two fields are those of the check.
use mathlib.Core.Path.{ap}
use borrow.Author.Rules.{rules}
use Rattle.primitives.specs.declared.row_ids.RowsChecked.{RowsChecked}
use Rattle.primitives.specs.Answers.{rows_checked}
use Rattle.exports.specs.declared.RowCheck.{RowCheck}
use Rattle.exports.specs.Answers.{row_check}
use Rattle.exports.proofs.register_row_check.Statement.{statement}
use Rattle.exports.proofs.register_row_check.Tie as tie

-- the check's answer, its next row id as a number
abbrev plain : RowsChecked → RowCheck
plain r = record { number = r.number; next = r.next.0 }

pub register_row_check_spec : {M : Type 1} → statement M
unfolding rows_checked row_check
register_row_check_spec = tie.close (tie.spec (λ c κs. search rules) (λ c. ap plain c.check_rows-checked.ensures))
