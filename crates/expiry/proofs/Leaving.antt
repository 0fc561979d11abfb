-- The elements of a table at whose place a test is passed, in a table of the same kind, from the front.
use Prim.Native.Nat.{ℕ, zero, suc, ◌+◌, ◌≤◌, ◌<◌}
use native.Mathlib.Omega.{arith}
use native.Mathlib.Numerals.{add-one}
use mathlib.Core.Path.{◌≡◌, refl, sym, ap, ◌∙◌}
use mathlib.Core.Bool.{Bool, true, false, cond}
use mathlib.Core.List.{List, [], ◌∷◌, ◌++◌, append-nil}
use borrow.Table.Steps.{cases}
use lib.ListN.{length, get_or, set, take, length-take}
use Rattle.rules.specs.Words.{all}
use Rattle.rules.proofs.Checks.{both}
use Rattle.rules.proofs.Tables.{all_head, all_tail}
use Rattle.tables.proofs.Table.{Kind, Tidy, Made, listed, read_length, within, at, element_back}
use Rattle.tables.proofs.Push.{pushed}
use Rattle.expiry.specs.List.{picked}

module _ {A B : Type 0} (q : B → Bool) where
  pub picked_length : (ys : List B) (l : List A) → length (picked q ys l) ≤ length l
  picked_length [] l = omega arith
  picked_length (y ∷ ys) [] = omega arith
  picked_length (y ∷ ys) (x ∷ l) = cases (q y) (λ t. rw t (omega (arith, picked_length ys l))) (λ f. rw f (omega (arith, picked_length ys l)))

  pub picked_all : (p : A → Bool) (ys : List B) (l : List A) → all p l ≡ true → all p (picked q ys l) ≡ true
  picked_all p [] l h = refl
  picked_all p (y ∷ ys) [] h = refl
  picked_all p (y ∷ ys) (x ∷ l) h =
      let k = picked_all p ys l (all_tail p x l h) in
      cases (q y) (λ t. rw t (both (all_head p x l h) k)) (λ f. rw f k)

  pub picked_none : (ys : List B) → ◌≡◌ {A = List A} (picked q ys []) []
  picked_none [] = refl
  picked_none (y ∷ ys) = refl

  -- one more of the front
  picked_next : (e : B) (d : A) (ys : List B) (l : List A) (i : ℕ) → i < length ys → i < length l → picked q ys (take (suc i) l) ≡ picked q ys (take i l) ++ cond (q (get_or ys i e)) (get_or l i d ∷ []) []
  picked_next e d [] l i a b = absurd (omega arith)
  picked_next e d (y ∷ ys) [] i a b = absurd (omega arith)
  picked_next e d (y ∷ ys) (x ∷ l) zero a b = rw (picked_none ys)
  picked_next e d (y ∷ ys) (x ∷ l) (suc i) a b =
      let k = picked_next e d ys l i (omega arith) (omega arith) in
      cases (q y) (λ t. rw t (ap (λ (r : List A). x ∷ r) k)) (λ f. rw f k)

-- r has what is picked of the first i
pub record Picking {B : Type 0} (K : Kind) (laid : List K.Plain → K.Whole) (q : B → Bool) (ys : List B) (t r : K.Whole) (i : ℕ) : Type 0 where
  pub long : length ys ≡ K.room
  pub fits : K.count t ≤ K.room
  pub sofar : i ≤ K.count t
  pub short : K.count r ≤ i
  pub so : r ≡ laid (picked q ys (take i (listed K t)))

module _ {B : Type 0} {K : Kind} {laid : List K.Plain → K.Whole} (m : Made K laid) {t : K.Whole} (h : Tidy K t) {q : B → Bool} {ys : List B} where
  pub picking_start : {r : K.Whole} → length ys ≡ K.room → r ≡ laid [] → Picking K laid q ys t r 0
  picking_start e f =
      record { long = e; fits = within h; sofar = omega arith; short = omega (arith, ap K.count f, m.laid_count []); so = f ∙ ap laid (sym (picked_none q ys)) }

  module _ {r : K.Whole} {i : ℕ} (o : B) (d : K.Slot) (b : i < K.count t) (k : Picking K laid q ys t r i) where
    abbrev x : K.Plain
    x = K.read (get_or (K.items t) i d)

    more : picked q ys (take (i + 1) (listed K t)) ≡ picked q ys (take i (listed K t)) ++ cond (q (get_or ys i o)) (x ∷ []) []
    more =
        rw add-one
        (picked_next q o (K.read d) ys (listed K t) i (omega (arith, k.long, within h)) (omega (arith, read_length h))
        ∙ ap (λ (z : K.Plain). picked q ys (take i (listed K t)) ++ cond (q (get_or ys i o)) (z ∷ []) []) (at h i d b))

    pub picking_less : q (get_or ys i o) ≡ false → Picking K laid q ys t r (i + 1)
    picking_less f = record { long = k.long; fits = k.fits; sofar = omega arith; short = omega (arith, k.short); so = k.so ∙ ap laid (sym (more ∙ rw (f, append-nil))) }

    pub picking_more : {u : K.Whole} → q (get_or ys i o) ≡ true → K.items u ≡ set (K.items r) (K.count r) (get_or (K.items t) i d) → K.count u ≡ K.count r + 1 → Picking K laid q ys t u (i + 1)
    picking_more f p n =
        let w : length (picked q ys (take i (listed K t))) < K.room = omega (arith, picked_length q ys (take i (listed K t)), length-take i (listed K t), within h) in
        record {
          long = k.long;
          fits = k.fits;
          sofar = omega arith;
          short = omega (arith, k.short);
          so = pushed m (get_or (K.items t) i d) k.so w (element_back h i d b) p n ∙ ap laid (sym (more ∙ rw f));
        }
