-- Marks of the members that were seen, in a list: setting one, and taking some away.
use Prim.Native.Nat.{ℕ, zero, suc, ◌+◌, ◌≤◌, ◌<◌}
use mathlib.Core.Path.{◌≡◌, refl, ap, ◌∙◌}
use mathlib.Core.Bool.{Bool, true, false, cond}
use mathlib.Core.List.{List}
use native.Mathlib.Omega.{arith}
use borrow.Author.Tests.{eqb-true, eqb-false}
use borrow.Table.Steps.{cases}
use lib.Dec.{eqb}
use lib.ListN.{length, get_or, set, length-set}
use lib.Seq.{get_or-set_same, get_or-set_other}

abbrev pub is_marked : List ℕ → ℕ → Bool
is_marked marks m = eqb (get_or marks m 0) 1

pub set_marked : (marks : List ℕ) (x m : ℕ) → x < length marks → is_marked (set marks x 1) m ≡ cond (eqb m x) true (is_marked marks m)
set_marked marks x m h =
    cases (eqb m x)
    (λ t. rw (t, eqb-true m x t, get_or-set_same marks x 1 0 h))
    (λ f. rw (f, get_or-set_other marks x m 1 0 (eqb-false m x f)))

pub other_marked : (marks : List ℕ) (x v m : ℕ) → (m ≡ x → ⊥) → is_marked (set marks x v) m ≡ is_marked marks m
other_marked marks x v m n = rw (get_or-set_other marks x m v 0 n)

-- so many taken away, from one on
unfoldable pub cleared : ℕ → ℕ → List ℕ → List ℕ
cleared zero m marks = marks
cleared (suc n) m marks = cleared n (suc m) (set marks m 0)

pub length_cleared : (n m : ℕ) (marks : List ℕ) → length (cleared n m marks) ≡ length marks
unfolding cleared
length_cleared zero m marks = refl
length_cleared (suc n) m marks = length_cleared n (suc m) (set marks m 0) ∙ length-set marks m 0

-- those before and behind stay
pub kept_before : (n m : ℕ) (marks : List ℕ) (x : ℕ) → x < m → is_marked (cleared n m marks) x ≡ is_marked marks x
unfolding cleared
kept_before zero m marks x h = refl
kept_before (suc n) m marks x h = kept_before n (suc m) (set marks m 0) x (omega arith) ∙ other_marked marks m 0 x (λ e. omega arith)

pub now_cleared : (n m : ℕ) (marks : List ℕ) (x : ℕ) → m ≤ x → x < m + n → m + n ≤ length marks → is_marked (cleared n m marks) x ≡ false
unfolding cleared
now_cleared zero m marks x h k l = absurd (omega arith)
now_cleared (suc n) m marks x h k l =
    cases (eqb x m)
    (λ t. let e : x ≡ m = eqb-true x m t in
    kept_before n (suc m) (set marks m 0) x (omega arith) ∙ rw (e, get_or-set_same marks m 0 0 (omega arith)))
    (λ f. let d : x ≡ m → ⊥ = eqb-false x m f in
    now_cleared n (suc m) (set marks m 0) x (omega arith) (omega arith) (rw (length-set marks m 0) (omega arith)))
