-- A magnitude and a sign.
use borrow.Author.Rules.{rules}
use native.Mathlib.Numerals.{add-one}
use Rattle.file_records.specs.Decoded.{number_at}
use Rattle.file_records.proofs.value.number_at.Statement.{statement}
use Rattle.file_records.proofs.value.number_at.Tie as tie

returns : tie.Need-returns
unfolding number_at
returns c = rw (c.signed.ensures, c.head_of.ensures, add-one _)

pub number_at_spec : {M : Type 1} → statement M
number_at_spec = tie.close (tie.spec (λ c κs. search rules) (λ c. search rules) (λ c. search rules) (λ c. search rules) (λ c κs. search rules) returns)
