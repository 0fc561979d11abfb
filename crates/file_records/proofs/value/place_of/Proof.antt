-- One less, where there is one.
use mathlib.Core.Path.{refl}
use borrow.Author.Rules.{rules}
use native.Mathlib.Omega.{arith}
use Rattle.file_records.specs.Decoded.{place_of}
use Rattle.file_records.proofs.value.place_of.Statement.{statement}
use Rattle.file_records.proofs.value.place_of.Tie as tie

returns : tie.Need-returns-then-cell-eq0
unfolding place_of
returns c = omega arith

returns_2 : tie.Need-returns
unfolding place_of
returns_2 c = refl

pub place_of_spec : {M : Type 1} → statement M
place_of_spec = tie.close (tie.spec (λ c. search rules) (λ c. search rules) returns (λ c. search rules) returns_2)
