-- The slots of an array, scanned from the first to the last: the counted ones pass one test, and the rest another.
use Prim.Native.Nat.{ℕ, zero, suc, ◌-◌, ◌≤◌}
use native.Mathlib.Omega.{arith}
use mathlib.Core.Path.{◌≡◌, refl, sym, ap, ◌∙◌}
use mathlib.Core.Bool.{Bool, true, ◌&&◌, and_assoc, and_comm, and-true, and-false}
use mathlib.Core.List.{List, [], ◌∷◌, map}
use borrow.Author.Tests.{leb-true, leb-false, eq-eqb}
use borrow.Table.Steps.{cases}
use lib.Dec.{leb}
use lib.ListN.{length, take, drop, drop_of_length-le}
use Rattle.rules.specs.Words.{all}
use Rattle.rules.specs.Layout.{counted}
use Rattle.rules.specs.Blanks.{rest_blank, tidy_slots}
use Rattle.formed.proofs.Bools.{all_both}
use Rattle.formed.proofs.Counted.{too_many, few_enough, all_counted}

module _ {A : Type 0} (used unused : A → Bool) where
  -- the first n pass the one test, and the rest the other
  abbrev pub filled : ℕ → List A → Bool
  filled n [] = true
  filled zero (x ∷ l) = unused x && filled zero l
  filled (suc n) (x ∷ l) = used x && filled n l

  filled_none : (l : List A) → filled 0 l ≡ all unused l
  filled_none [] = refl
  filled_none (x ∷ l) = ap (λ (z : Bool). unused x && z) (filled_none l)

  filled_parts : (n : ℕ) (l : List A) → filled n l ≡ (all used (take n l) && all unused (drop n l))
  filled_parts zero l = filled_none l
  filled_parts (suc n) [] = refl
  filled_parts (suc n) (x ∷ l) = ap (λ (z : Bool). used x && z) (filled_parts n l) ∙ sym (and_assoc (used x) _ _)

  -- a scan of all slots: first is what was found before them, and ok what was found with those up to i
  pub slots_done : (room n i : ℕ) (items : List A) (first : Bool) {ok : Bool} → length items ≡ room → room ≤ i → (first && filled n items) ≡ (ok && filled (n - i) (drop i items)) → ok ≡ (first && tidy_slots room used unused items n)
  slots_done room n i items first {ok} e r h =
      let q : drop i items ≡ [] = drop_of_length-le items {i = i} (omega arith) in
      sym (h ∙ rw q (and-true ok))
      ∙ rw (filled_parts n items, eq-eqb (length items) room e) (ap (λ (z : Bool). first && z) (and_comm (all used (take n items)) (all unused (drop n items))))

all_true : {A : Type 0} (l : List A) → all (λ (x : A). true) l ≡ true
all_true [] = refl
all_true (x ∷ l) = all_true l

-- ---- tables

-- the counted slots are tidy and well formed, and no more than there is room for
pub filled_read : {A B : Type 0} (rd : A → B) (tidy : A → Bool) (formed : B → Bool) (blank : A → Bool) (b : A) (room n : ℕ) (items : List A) → length items ≡ room
    → (leb n room && tidy_slots room (λ (x : A). tidy x && formed (rd x)) blank items n)
    ≡ (tidy_slots room tidy blank items n && (leb (length (map rd (counted b items n))) room && all formed (map rd (counted b items n))))
filled_read {A} rd tidy formed blank b room n items e =
    cases (leb n room)
    (λ t. rw (t, all_both tidy (λ (y : A). formed (rd y)) (take n items), few_enough rd b items n room (leb-true n room t), all_counted rd b items n formed (omega (arith, e, leb-true n room t)))
    (sym (and_assoc (rest_blank room blank items n) (all tidy (take n items)) (all (λ (y : A). formed (rd y)) (take n items)))))
    (λ f. rw (f, too_many rd b items n room (leb-false n room f)) (sym (and-false (tidy_slots room tidy blank items n))))

-- a table whose records have nothing unused in them
pub all_tidy : {A : Type 0} (room : ℕ) (blank : A → Bool) (items : List A) (n : ℕ) → tidy_slots room (λ (x : A). true) blank items n ≡ rest_blank room blank items n
all_tidy room blank items n = rw (all_true (take n items)) (and-true (rest_blank room blank items n))
