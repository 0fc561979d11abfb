-- One cell, and the next.
use mathlib.Core.Path.{◌∙◌}
use borrow.Author.Rules.{rules}
use native.Mathlib.Numerals.{add-one}
use Rattle.file_walk.proofs.cells.put_value.Statement.{statement}
use Rattle.file_walk.proofs.cells.put_value.Tie as tie

pub put_value_spec : {M : Type 1} → statement M
put_value_spec =
    tie.close
    (tie.spec
    (λ c κs. search rules)
    (λ c. search rules)
    (λ c κs. search rules)
    (λ c. c.put-2.ensures ∙ rw (c.put.ensures, add-one c.args.base)))
