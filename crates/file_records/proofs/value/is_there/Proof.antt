-- A cell above 0.
use mathlib.Core.Path.{refl}
use borrow.Author.Rules.{rules}
use Rattle.file_records.specs.Decoded.{is_there}
use Rattle.file_records.proofs.value.is_there.Statement.{statement}
use Rattle.file_records.proofs.value.is_there.Tie as tie

returns : tie.Need-returns
unfolding is_there
returns c = refl

pub is_there_spec : {M : Type 1} → statement M
is_there_spec = tie.close (tie.spec (λ c. search rules) (λ c. search rules) returns)
