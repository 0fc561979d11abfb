-- Where it is there.
use mathlib.Core.Path.{sym, ◌∙◌}
use borrow.Author.Rules.{rules}
use native.Mathlib.Numerals.{add-one}
use Rattle.file_records.specs.Decoded.{natural_at}
use Rattle.file_records.proofs.value.natural.Statement.{statement}
use Rattle.file_records.proofs.value.natural.Tie as tie

returns : tie.Need-returns-then-is_there
unfolding natural_at
returns c = rw (sym c.is_there.ensures ∙ c.if-is_there.true, add-one)

returns_2 : tie.Need-returns
unfolding natural_at
returns_2 c = rw (sym c.is_there.ensures ∙ c.if-is_there.false)

pub natural_spec : {M : Type 1} → statement M
natural_spec = tie.close (tie.spec (λ c κs. search rules) (λ c. search rules) (λ c. search rules) (λ c. search rules) returns returns_2)
