-- The first slots, one by one.
use Prim.Native.Nat.{ℕ, zero, suc, ◌+◌, ◌-◌, ◌≤◌, ◌<◌}
use mathlib.Core.Path.{◌≡◌, refl, ap, ◌∙◌}
use mathlib.Core.List.{List, [], ◌∷◌}
use native.Mathlib.Nat.{zero-add, suc-add}
use native.Mathlib.Omega.{arith}
use lib.Dec.{eqb}
use lib.ListN.{length, get_or, take, drop, length-drop}
use lib.Seq.{drop-nil}
use borrow.Table.Steps.{cases}
use Rattle.std.specs.Cmp.Lexicographic.{pointwise}
use Rattle.rules.specs.Words.{same_bytes}
use Rattle.json_members.specs.Kept.{front}

pub front_length : (n : ℕ) (slots : List ℕ) → length (front n slots) ≡ n
unfolding front
front_length zero slots = refl
front_length (suc n) [] = ap suc (front_length n [])
front_length (suc n) (b ∷ slots) = ap suc (front_length n slots)

pub front_at : (n : ℕ) (slots : List ℕ) (i : ℕ) → i < n → get_or (front n slots) i 0 ≡ get_or slots i 0
unfolding front
front_at zero slots i h = absurd (omega arith)
front_at (suc n) [] zero h = refl
front_at (suc n) [] (suc i) h = front_at n [] i (omega arith)
front_at (suc n) (b ∷ slots) zero h = refl
front_at (suc n) (b ∷ slots) (suc i) h = front_at n slots i (omega arith)

pub front_take : (n m : ℕ) (slots : List ℕ) → n ≤ m → take n (front m slots) ≡ front n slots
unfolding front
front_take zero m slots h = refl
front_take (suc n) zero slots h = absurd (omega arith)
front_take (suc n) (suc m) [] h = ap (λ (l : List ℕ). 0 ∷ l) (front_take n m [] (omega arith))
front_take (suc n) (suc m) (b ∷ slots) h = ap (λ (l : List ℕ). b ∷ l) (front_take n m slots (omega arith))

pub front_drop : (k n : ℕ) (slots : List ℕ) → drop k (front (k + n) slots) ≡ front n (drop k slots)
unfolding front
front_drop zero n slots = rw (zero-add n)
front_drop (suc k) n [] = rw (suc-add k n) (front_drop k n [] ∙ rw (drop-nil {A = ℕ} k))
front_drop (suc k) n (b ∷ slots) = rw (suc-add k n) (front_drop k n slots)

-- where there are so many, they are the bytes themselves
pub front_whole : (n : ℕ) (slots : List ℕ) → n ≤ length slots → take n slots ≡ front n slots
unfolding front
front_whole zero slots h = refl
front_whole (suc n) [] h = absurd (omega arith)
front_whole (suc n) (b ∷ slots) h = ap (λ (l : List ℕ). b ∷ l) (front_whole n slots (omega arith))

pub front_part : (from n : ℕ) (slots : List ℕ) → from + n ≤ length slots → take (from + n - from) (drop from slots) ≡ front n (drop from slots)
front_part from n slots h =
    let e : from + n - from ≡ n = omega arith in
    ap (λ (m : ℕ). take m (drop from slots)) e ∙ front_whole n (drop from slots) (omega (arith, length-drop from slots))

-- they are equal to a word, or not
pub same_told : (xs ys : List ℕ) → pointwise eqb xs ys ≡ same_bytes xs ys
same_told [] [] = refl
same_told [] (y ∷ ys) = refl
same_told (x ∷ xs) [] = refl
same_told (x ∷ xs) (y ∷ ys) = cases (eqb x y) (λ t. rw t (same_told xs ys)) (λ f. rw f)
