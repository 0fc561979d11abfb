-- What is said of an answer, by whether it is accepted.
use mathlib.Core.Path.{◌≡◌}
use borrow.Author.Tests.{eq-eqb, ne_eqb}
use Rattle.records.specs.declared.metadata.TableMetadata.{TableMetadata}
use Rattle.records.specs.declared.run.Answer.{Answer}
use Rattle.compare.specs.Parts.{first_difference, no_difference}
use Rattle.verdict.specs.Judged.{judged}

module _ (a : Answer) (ending : TableMetadata) where
  pub refused : (a.number ≡ 0 → ⊥) → record { number = a.number; place = a.place; difference = no_difference } ≡ judged a ending
  unfolding judged
  refused n = rw (ne_eqb a.number 0 n)

  pub compared : a.number ≡ 0 → record { number = a.number; place = a.place; difference = first_difference a.metadata ending } ≡ judged a ending
  unfolding judged
  compared z = rw (eq-eqb a.number 0 z)
