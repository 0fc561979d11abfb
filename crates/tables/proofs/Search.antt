-- Searches through a table from the front, for any test: where the first stands that passes, which it is, and whether one passes.
use Prim.Native.Nat.{ℕ, suc, ◌+◌, ◌≤◌, ◌<◌}
use native.Mathlib.Omega.{arith}
use mathlib.Core.Path.{◌≡◌, refl, sym, ap, ap₂, ◌∙◌}
use mathlib.Core.Bool.{Bool, true, false, false≢true}
use mathlib.Core.List.{List, [], ◌∷◌, map}
use mathlib.Core.Option.{none, some}
use borrow.Author.Tests.{ltb-true}
use borrow.Table.Steps.{cases}
use lib.Dec.{ltb}
use lib.ListN.{get_or, drop, drop_of_length-le}
use Rattle.rules.specs.Words.{any, first}
use Rattle.rules.proofs.Checks.{neither}
use Rattle.search.specs.Places.{index_of}
use Rattle.search.proofs.Places.{index_le, index_below}
use Rattle.tables.proofs.Table.{Kind, Tidy, listed, read_length, at, within, rest}

-- none of the first i passes
pub record Sought (K : Kind) (p : K.Plain → Bool) (t : K.Whole) (i : ℕ) : Type 0 where
  pub fits : K.count t ≤ K.room
  pub sofar : i ≤ K.count t
  pub place : index_of p (listed K t) ≡ i + index_of p (drop i (listed K t))
  pub found : any p (listed K t) ≡ any p (drop i (listed K t))

module _ {K : Kind} {t : K.Whole} (h : Tidy K t) {p : K.Plain → Bool} where
  pub sought_start : Sought K p t 0
  sought_start = record { fits = within h; sofar = omega arith; place = omega arith; found = refl }

  module _ {i : ℕ} (d : K.Slot) (b : i < K.count t) (s : Sought K p t i) where
    pub sought_here : p (K.read (get_or (K.items t) i d)) ≡ true → i ≡ index_of p (listed K t)
    sought_here e = let z : index_of p (drop i (listed K t)) ≡ 0 = rw (rest h i d b, e) in omega (arith, s.place)

    pub found_here : p (K.read (get_or (K.items t) i d)) ≡ true → true ≡ any p (listed K t)
    found_here e = sym (s.found ∙ rw (rest h i d b, e))

    pub sought_on : p (K.read (get_or (K.items t) i d)) ≡ false → Sought K p t (i + 1)
    sought_on e =
        let z : index_of p (drop i (listed K t)) ≡ suc (index_of p (drop (i + 1) (listed K t))) = rw (rest h i d b, e) in
        record { fits = s.fits; sofar = omega arith; place = omega (arith, s.place); found = s.found ∙ rw (rest h i d b, e) }

  module _ {i : ℕ} (b : K.count t ≤ i) (s : Sought K p t i) where
    none_left : drop i (listed K t) ≡ []
    none_left = drop_of_length-le (listed K t) {i = i} (omega (arith, read_length h))

    pub sought_end : K.count t ≡ index_of p (listed K t)
    sought_end = let z : index_of p (drop i (listed K t)) ≡ 0 = rw none_left in omega (arith, s.place, s.sofar)

    pub found_end : false ≡ any p (listed K t)
    found_end = sym (s.found ∙ rw none_left)

module _ {K : Kind} {t : K.Whole} (h : Tidy K t) (p : K.Plain → Bool) {i : ℕ} (e : i ≡ index_of p (listed K t)) where
  pub place_within : i ≤ K.count t
  place_within = omega (arith, e, index_le p (listed K t), read_length h)

  -- one passes exactly if the first that does stands in the table
  pub place_held : ltb i (K.count t) ≡ any p (listed K t)
  place_held = ap₂ ltb e (sym (read_length h)) ∙ index_below p (listed K t)

pub any_map : {A B : Type 0} (p : B → Bool) (f : A → B) (l : List A) → any p (map f l) ≡ any (λ x. p (f x)) l
any_map p f [] = refl
any_map p f (x ∷ l) = rw (any_map p f l)

first_at : {A : Type 0} (p : A → Bool) (l : List A) (d : A) → any p l ≡ true → first p l ≡ some (get_or l (index_of p l) d)
first_at p [] d e = absurd (false≢true e)
first_at p (x ∷ l) d e = cases (p x) (λ t. rw t) (λ f. rw f (first_at p l d (rw f at e)))

pub first_none : {A : Type 0} (p : A → Bool) (l : List A) → any p l ≡ false → first p l ≡ none
first_none p [] e = refl
first_none p (x ∷ l) e = let n = neither (p x) (any p l) e in rw n.0 (first_none p l n.1)

-- one that passes stands where it is found
module _ {K : Kind} {t : K.Whole} (h : Tidy K t) (p : K.Plain → Bool) (a : any p (listed K t) ≡ true) {i : ℕ} (e : i ≡ index_of p (listed K t)) where
  pub found_within : i < K.count t
  found_within = ltb-true i (K.count t) (place_held h p e ∙ a)

  pub found_first : (d : K.Slot) → first p (listed K t) ≡ some (K.read (get_or (K.items t) i d))
  found_first d = first_at p (listed K t) (K.read d) a ∙ ap some (ap (λ (k : ℕ). get_or (listed K t) k (K.read d)) (sym e) ∙ at h i d found_within)
