-- The ids that a walk is given.
use Rattle.std.specs.Prelude.{◌≡◌, Bool, true, ◌&&◌, not, List, ◌∷◌, ℤ, negsuc}
use Rattle.std.specs.Int.Signed.{lt_z, non_neg}
use Rattle.rules.specs.Words.{all, ascending, unequal}

-- no id stands twice, and none is below 0
unfoldable pub ids_formed : List ℤ → Bool
ids_formed ids = unequal ids && all non_neg ids

-- each is above the one before it, and the first is above -1
unfoldable pub rising : List ℤ → Bool
rising ids = ascending lt_z (negsuc 0 ∷ ids)

-- none of the ids is below it
unfoldable pub NoneBelow : ℤ → List ℤ → Type 0
NoneBelow least ids = all (λ x. not (lt_z x least)) ids ≡ true
