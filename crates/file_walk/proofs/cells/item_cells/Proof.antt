-- The product is small.
use borrow.Author.Rules.{rules}
use native.Mathlib.Omega.{arith}
use native.Mathlib.Numerals.{add-one}
use Rattle.file_walk.proofs.Bounds.{product_small}
use Rattle.file_walk.proofs.cells.item_cells.Statement.{statement}
use Rattle.file_walk.proofs.cells.item_cells.Tie as tie

pub item_cells_spec : {M : Type 1} → statement M
item_cells_spec =
    tie.close
    (tie.spec
    (λ c. search rules)
    (λ c κs. search rules)
    (λ c. rw c.size_of.ensures (record { fits = omega (arith, product_small _ _ c.requires.1.0 c.requires.1.1) }))
    (λ c. rw c.size_of.ensures (record { fits = omega (arith, product_small _ _ c.requires.1.0 c.requires.1.1) }))
    (λ c. rw (c.size_of.ensures, add-one c.args.base)))
