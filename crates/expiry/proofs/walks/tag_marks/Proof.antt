-- The mark stands where the snapshot does; one that is not held has none.
use Prim.Native.Nat.{ℕ, ◌≤◌, ◌<◌}
use mathlib.Core.Path.{◌≡◌, ap₂, ◌∙◌}
use mathlib.Core.Bool.{true, false}
use mathlib.Core.List.{List, [], ◌∷◌}
use native.Mathlib.Omega.{arith}
use borrow.Author.Rules.{rules}
use lib.IntN.{ℤ}
use lib.ListN.{length, set, replicate}
use lib.Signed.{lt_z}
use Rattle.rules.specs.Words.{eq_z, ascending}
use Rattle.rules.specs.Capacities.{snapshot_room}
use Rattle.rules.proofs.Orders.{numbers_told}
use Rattle.retention.specs.Reasons.{nothing, named, place_of, why_at}
use Rattle.expiry.specs.Found.{marked, place_in}
use Rattle.expiry.proofs.Slots.{slotted_none, slotted_set, slotted_same}
use Rattle.expiry.proofs.walks.tag_marks.Statement.{statement}
use Rattle.expiry.proofs.walks.tag_marks.Tie as tie

module _ (id count : ℤ) where
  abbrev why : ℤ → ℕ
  why x = why_at count (place_of (id ∷ []) x)

  -- of another there is none
  other : (x : ℤ) → eq_z id x ≡ false → nothing ≡ why x
  other x e = rw e

  module _ (ids : List ℤ) (few : length ids ≤ snapshot_room) {start : ℕ} (e : start ≡ place_in ids id) where
    held : ascending lt_z ids ≡ true → start < length ids → set (replicate 64 nothing) start named ≡ marked why ids
    held u b =
        let w : named ≡ why id = rw (numbers_told.itself id) in
        ap₂ (λ (l : List ℕ) (v : ℕ). set l start v) (slotted_none nothing ids few) w ∙ slotted_set nothing (λ x. nothing) why ids id e other b u

    absent : length ids ≤ start → replicate 64 nothing ≡ marked why ids
    absent b = slotted_none nothing ids few ∙ slotted_same nothing (λ x. nothing) why ids id e other b

pub tag_marks_spec : {M : Type 1} → statement M
tag_marks_spec =
    tie.close
    (tie.spec
    (λ c. search rules)
    (λ c ids id count u n e. held id count ids (omega (arith, n, c.requires)) e u (omega (arith, n, c.if-start-held.true)))
    (λ c ids id count u n e. absent id count ids (omega (arith, n, c.requires)) e (omega (arith, n, c.if-start-held.false))))
