-- The code asks for a number and a name.
use borrow.Author.Rules.{rules}
use mathlib.Core.Path.{sym}
use Rattle.offers.proofs.Fields.{tidy_parts}
use Rattle.offers.proofs.field.is_tidy_field.Statement.{statement}
use Rattle.offers.proofs.field.is_tidy_field.Tie as tie

pub is_tidy_field_spec : {M : Type 1} → statement M
is_tidy_field_spec =
    tie.close
    (tie.spec
    (λ c κs. search rules)
    (λ c κs. search rules)
    (λ c. rw (c.is_number_at.ensures, c.is_name_at.ensures) (sym (tidy_parts c.args.bytes.now))))
