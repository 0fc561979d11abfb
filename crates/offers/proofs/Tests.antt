-- The tests of an offer, one after the other as the code makes them: that no more fields are counted than there is room for and all their bytes are there,
-- that the bytes say fields, that what they say is well formed. Where one fails the offer is not well formed, and past all of them it is.
use mathlib.Core.Path.{◌≡◌, refl, sym, ◌∙◌}
use mathlib.Core.Bool.{Bool, true, false, not, ◌&&◌, false≢true}
use borrow.Author.Tests.{not-true, not-false}
use Rattle.rules.proofs.Checks.{both, and_left, and_right}

-- a test that holds only where another does fails with it
fails : (a : Bool) {b : Bool} → (a ≡ true → b ≡ true) → b ≡ false → a ≡ false
fails true f e = absurd (false≢true (sym e ∙ f refl))
fails false f e = refl

-- what the rule asks includes that there is room
module _ (few within tidy formed : Bool) (bounded : formed ≡ true → few ≡ true) where
  abbrev rule : Bool
  rule = within && tidy && formed

  pub fails_there : {z : Bool} → z ≡ (few && within) → not z ≡ true → rule ≡ false
  fails_there {z} e h = fails rule (λ r. both (bounded (and_right (within && tidy) formed r)) (and_left within tidy (and_left (within && tidy) formed r))) (sym e ∙ not-true z h)

  pub fails_tidy : {z : Bool} → z ≡ tidy → not z ≡ true → rule ≡ false
  fails_tidy {z} e h = fails rule (λ r. and_right within tidy (and_left (within && tidy) formed r)) (sym e ∙ not-true z h)

  pub fails_formed : {z : Bool} → z ≡ formed → not z ≡ true → rule ≡ false
  fails_formed {z} e h = fails rule (λ r. and_right (within && tidy) formed r) (sym e ∙ not-true z h)

  pub passes : {t d z : Bool} → t ≡ (few && within) → not t ≡ false → d ≡ tidy → not d ≡ false → z ≡ formed → not z ≡ false → rule ≡ true
  passes {t} {d} {z} u v x y e w = both (both (and_right few within (sym u ∙ not-false t v)) (sym x ∙ not-false d y)) (sym e ∙ not-false z w)
