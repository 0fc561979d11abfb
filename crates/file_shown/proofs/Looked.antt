-- A test of each slot, and of what each is read as.
use Rattle.std.proofs.Common.{◌≡◌, ℕ, ◌+◌, ◌≤◌, ◌<◌, Bool, true, false, List, [], ◌∷◌, get_or, drop, map, refl, sym, ap, ◌∙◌, arith}
use lib.ListN.{drop_of_length-le}
use Rattle.rules.specs.Words.{all}
use Rattle.rules.specs.Layout.{counted}
use Rattle.rules.proofs.Slots.Relaid.{length_counted}
use Rattle.file_text.proofs.Slots.{from_slot}

module _ {A : Type 0} (p : A → Bool) (blank : A) (l : List A) (n i : ℕ) (e : all p (counted blank l n) ≡ all p (drop i (counted blank l n))) where
  module _ (x : A) (h : i < n) (q : x ≡ get_or l i blank) where
    here : all p (counted blank l n) ≡ all p (x ∷ drop (i + 1) (counted blank l n))
    here = e ∙ ap (all p) (from_slot blank l n i h ∙ ap (λ (y : A). y ∷ drop (i + 1) (counted blank l n)) (sym q))

    pub looked_on : p x ≡ true → all p (counted blank l n) ≡ all p (drop (i + 1) (counted blank l n))
    looked_on t = here ∙ rw t

    pub missed : p x ≡ false → false ≡ all p (counted blank l n)
    missed t = sym (here ∙ rw t)

  pub looked_end : n ≤ i → true ≡ all p (counted blank l n)
  looked_end h = sym (e ∙ rw (drop_of_length-le (counted blank l n) {i = i} (omega (arith, length_counted blank l n))))

module _ {A B : Type 0} (p : B → Bool) (rd : A → B) (l : List A) (n : ℕ) where
  all_read : {test : A → Bool} (same : (x : A) → test x ≡ p (rd x)) (m : List A) → all test m ≡ all p (map rd m)
  all_read same [] = refl
  all_read same (x ∷ m) = rw (same x, all_read same m)

  pub looked : {test : A → Bool} {r : Bool} {none blank : A} → r ≡ all test (counted none l n) → none ≡ blank → ((x : A) → test x ≡ p (rd x)) → r ≡ all p (map rd (counted blank l n))
  looked {blank = blank} e b same = e ∙ rw b (all_read same (counted blank l n))
