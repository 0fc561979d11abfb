-- A list is ascending if each element is below the next, since the order is transitive.
use Prim.Native.Nat.{ℕ, ◌+◌, ◌-◌, ◌≤◌, ◌<◌}
use native.Mathlib.Omega.{arith}
use native.Mathlib.Numerals.{add-one}
use mathlib.Core.Path.{◌≡◌, refl, sym, ◌∙◌}
use mathlib.Core.Bool.{Bool, true, ◌&&◌, and-true}
use mathlib.Core.List.{List, [], ◌∷◌}
use lib.ListN.{length, get_or, take, drop, length-drop}
use lib.Seq.{drop-cons, length-take-le, get_or-take}
use Rattle.rules.specs.Words.{ascending}
use Rattle.rules.proofs.Orders.{Ordered}
use Rattle.rules.proofs.Tables.{by_key, ascending_two}
use Rattle.formed.proofs.Scans.{Scanned, scan_on}

few : {A : Type 0} (below : A → A → Bool) (l : List A) → length l ≤ 1 → ascending below l ≡ true
few below [] h = refl
few below (x ∷ []) h = refl
few below (x ∷ y ∷ l) h = absurd (omega arith)

abbrev ascending_from : {A : Type 0} → (A → A → Bool) → ℕ → List A → Bool
ascending_from below i l = ascending below l

-- i is the element after the one that is reached, and ok what was found up to it
pub record Ascended {A K : Type 0} (lt : K → K → Bool) (key : A → K) (l : List A) (i : ℕ) (ok : Bool) : Type 0 where
  pub after : 1 ≤ i
  pub upto : Scanned (ascending_from (by_key lt key)) l 0 (i - 1) true ok

module _ {A K : Type 0} {lt : K → K → Bool} {key : A → K} {l : List A} where
  module _ {i : ℕ} {ok : Bool} (s : Ascended lt key l i ok) where
    pub ascended_on : Ordered lt → (d : A) {z : Bool} → i < length l → z ≡ lt (key (get_or l (i - 1) d)) (key (get_or l i d)) → Ascended lt key l (i + 1) (ok && z)
    ascended_on o d {z} k e =
        let j : (i - 1) + 1 ≡ i = omega (arith, s.after) in
        let j' : (i + 1) - 1 ≡ i = omega arith in
        let c : drop i l ≡ get_or l i d ∷ drop (i + 1) l = drop-cons l i d k ∙ rw add-one in
        let two = ascending_two o key (get_or l (i - 1) d) (get_or l i d) (drop (i + 1) l) in
        let on : Scanned (ascending_from (by_key lt key)) l 0 ((i - 1) + 1) true (ok && z) = scan_on s.upto d z (omega arith) (rw (j, c, e) two) in
        record { after = omega arith; upto = rw j' (rw j at on) }

    pub ascended_end : length l ≤ i → ok ≡ ascending (by_key lt key) l
    ascended_end k =
        let f : ascending (by_key lt key) (drop (i - 1) l) ≡ true = few (by_key lt key) (drop (i - 1) l) (rw length-drop (omega (arith, s.after))) in
        sym (s.upto.so ∙ rw f (and-true ok))

-- the same of the first n slots of an array
module _ {A K : Type 0} {lt : K → K → Bool} {key : A → K} (n : ℕ) (items : List A) {i : ℕ} {ok : Bool} (s : Ascended lt key (take n items) i ok) (f : n ≤ length items) where
  pub slots_on : Ordered lt → (d : A) {z : Bool} → i < n → z ≡ lt (key (get_or items (i - 1) d)) (key (get_or items i d)) → Ascended lt key (take n items) (i + 1) (ok && z)
  slots_on o d k e = ascended_on s o d (omega (arith, length-take-le n items f)) (e ∙ sym (rw (get_or-take n items (i - 1) d (omega (arith, s.after)), get_or-take n items i d k)))

  pub slots_end : n ≤ i → ok ≡ ascending (by_key lt key) (take n items)
  slots_end k = ascended_end s (omega (arith, length-take-le n items f))
