-- The slots of a table that are in use, lent.
use Rattle.std.proofs.Common.{◌≡◌, ℕ, ◌<◌, List, sym, subst, length, take, get_or, arith}
use lib.ListN.{length-take}
use lib.Seq.{get_or-take}
use Rattle.tables.proofs.Table.{Kind, Tidy, element_back}

-- the list that is lent
abbrev pub lent : (K : Kind) → K.Whole → List K.Slot
lent K t = take (K.count t) (K.items t)

module _ (K : Kind) (t : K.Whole) (k : ℕ) (d : K.Slot) (b : k < length (lent K t)) where
  pub in_use : k < K.count t
  in_use = omega (arith, length-take (K.count t) (K.items t))

  -- what holds of each slot that is in use
  pub of_lent : (P : K.Slot → Type 0) → P (get_or (K.items t) k d) → P (get_or (lent K t) k d)
  of_lent P h = subst P (sym (get_or-take (K.count t) (K.items t) k d in_use)) h

  pub lent_back : Tidy K t → K.lay (K.read (get_or (lent K t) k d)) ≡ get_or (lent K t) k d
  lent_back h = of_lent (λ (x : K.Slot). K.lay (K.read x) ≡ x) (element_back h k d in_use)
