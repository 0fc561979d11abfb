-- The product is small.
use Prim.Native.Nat.{ℕ, ◌+◌, ◌*◌, ◌≤◌}
use borrow.Author.Rules.{rules}
use native.Mathlib.Omega.{arith}
use native.Mathlib.Nat.{mul-le-mul}
use native.Mathlib.Numerals.{add-one}
use Rattle.file_walk.proofs.names.named_cells.Statement.{statement}
use Rattle.file_walk.proofs.names.named_cells.Tie as tie

product_small : (count size : ℕ) → count ≤ 128 → size ≤ 9047 → count * (2 + size) ≤ 1158272
product_small count size h k = let l : 2 + size ≤ 9049 = omega arith in mul-le-mul h l

pub named_cells_spec : {M : Type 1} → statement M
named_cells_spec =
    tie.close
    (tie.spec
    (λ c. search rules)
    (λ c κs. search rules)
    (λ c. rw c.size_of.ensures (record { fits = omega (arith, c.requires.1.1) }))
    (λ c. rw c.size_of.ensures (record { fits = omega (arith, product_small _ _ c.requires.1.0 c.requires.1.1) }))
    (λ c. rw c.size_of.ensures (record { fits = omega (arith, product_small _ _ c.requires.1.0 c.requires.1.1) }))
    (λ c. rw (c.size_of.ensures, add-one c.args.base)))
