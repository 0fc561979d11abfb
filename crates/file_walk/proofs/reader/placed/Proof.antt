-- Its number, and its place.
use mathlib.Core.Path.{◌∙◌}
use borrow.Author.Rules.{rules}
use Rattle.file_walk.proofs.reader.placed.Statement.{statement}
use Rattle.file_walk.proofs.reader.placed.Tie as tie

pub placed_spec : {M : Type 1} → statement M
placed_spec =
    tie.close
    (tie.spec
    (λ c κs. search rules)
    (λ c κs. search rules)
    (λ c κs. search rules)
    (λ c. c.refuse.ensures ∙ rw (c.own_place.ensures, c.misplaced_number.ensures)))
