-- The open brackets as bits of a number: the innermost is the lowest, 0 for a list and 1 for an object, and above them stands a 1.
use Prim.Native.Nat.{ℕ, zero, suc, ◌+◌, ◌*◌, ◌-◌, ◌/◌, ◌%◌, ◌≤◌, ◌<◌}
use mathlib.Core.Path.{◌≡◌, refl, sym, ap, ◌∙◌}
use mathlib.Core.Bool.{Bool, true, false, true≢false}
use mathlib.Core.List.{List, [], ◌∷◌}
use native.Mathlib.Nat.{add-zero, le_refl}
use native.Mathlib.Omega.{arith}
use borrow.Author.Tests.{eq-eqb, ne_eqb, lt-ltb, le-ltb, le-leb, lt-leb, leb-true, leb-false}
use borrow.Table.Steps.{cases}
use lib.Dec.{eqb, leb}
use lib.ListN.{length}
use Rattle.json_judge.specs.Frames.{Frame, Outside, Bracket, NoBracket, ListBracket, ObjectBracket, bracket_of}
use Rattle.json_judge.specs.Course.{is_outside as isNothing}
use Rattle.json_members.specs.Nesting.{full_kinds, is_full, is_outside, is_in_object, with_list, with_object}

abbrev pub bits_with : Bracket → ℕ → ℕ
bits_with NoBracket n = 1
bits_with ListBracket n = n * 2
bits_with ObjectBracket n = n * 2 + 1

abbrev pub bits : List Frame → ℕ
bits [] = 1
bits (f ∷ fs) = bits_with (bracket_of f) (bits fs)

-- around all there is the outside
pub data Nested : List Frame → Type 0 where
  outermost : Nested (Outside ∷ [])
  in_list : {f : Frame} {fs : List Frame} → bracket_of f ≡ ListBracket → Nested fs → Nested (f ∷ fs)
  in_object : {f : Frame} {fs : List Frame} → bracket_of f ≡ ObjectBracket → Nested fs → Nested (f ∷ fs)

-- ---- how large the number is

double : ℕ → ℕ
double zero = 1
double (suc n) = double n * 2

double_up : (n k : ℕ) → double n ≤ double (n + k)
unfolding double
double_up n zero = rw (add-zero n) (le_refl (double n))
double_up n (suc k) =
    let e : n + suc k ≡ suc (n + k) = omega arith in
    rw e (omega (arith, double_up n k))

double_mono : (n m : ℕ) → n ≤ m → double n ≤ double m
double_mono n m h =
    let e : n + (m - n) ≡ m = omega arith in
    rw e at (double_up n (m - n))

record Between (n k : ℕ) : Type 0 where
  least : double n ≤ k
  most : k < double (suc n)

between : {f : Frame} {fs : List Frame} → Nested (f ∷ fs) → Between (length fs) (bits (f ∷ fs))
unfolding double
between outermost = record { least = omega arith; most = omega arith }
between (in_list {fs = g ∷ gs} e n) = let b = between n in rw e (record { least = omega (arith, b.least); most = omega (arith, b.most) })
between (in_object {fs = g ∷ gs} e n) = let b = between n in rw e (record { least = omega (arith, b.least); most = omega (arith, b.most) })
between (in_list {f = f} {fs = []} e n) = elim n [ ]
between (in_object {f = f} {fs = []} e n) = elim n [ ]

bits_some : {fs : List Frame} → Nested fs → 1 ≤ bits fs
bits_some outermost = omega arith
bits_some (in_list e n) = rw e (omega (arith, bits_some n))
bits_some (in_object e n) = rw e (omega arith)

module _ {f : Frame} {fs : List Frame} (n : Nested (f ∷ fs)) where
  pub bits_full : is_full (bits (f ∷ fs)) ≡ leb 16 (length fs)
  unfolding double
  bits_full =
      cases (leb 16 (length fs))
      (λ t. rw t (le-leb full_kinds (bits (f ∷ fs)) (omega (arith, (between n).least, double_mono 16 (length fs) (leb-true 16 (length fs) t)))))
      (λ h. rw h (lt-leb full_kinds (bits (f ∷ fs)) (omega (arith, (between n).most, double_mono (suc (length fs)) 16 (leb-false 16 (length fs) h)))))

  pub bits_below : length fs < 16 → bits (f ∷ fs) < full_kinds
  unfolding double
  bits_below h = omega (arith, (between n).most, double_mono (suc (length fs)) 16 h)

-- ---- which bracket is the innermost

abbrev pub is_object_bracket : Bracket → Bool
is_object_bracket NoBracket = true
is_object_bracket ListBracket = false
is_object_bracket ObjectBracket = true

module _ (n : ℕ) (some : 1 ≤ n) where
  outside_by : (b : Bracket) → is_outside (bits_with b n) ≡ isNothing b
  outside_by NoBracket = refl
  outside_by ListBracket = le-ltb (n * 2) 2 (omega arith)
  outside_by ObjectBracket = le-ltb (n * 2 + 1) 2 (omega arith)

  in_object_by : (b : Bracket) → is_in_object (bits_with b n) ≡ is_object_bracket b
  in_object_by NoBracket = refl
  in_object_by ListBracket = ne_eqb (n * 2 % 2) 1 (λ e. omega arith)
  in_object_by ObjectBracket = eq-eqb ((n * 2 + 1) % 2) 1 (omega arith)

pub bits_outside : {f : Frame} {fs : List Frame} → Nested (f ∷ fs) → is_outside (bits (f ∷ fs)) ≡ isNothing (bracket_of f)
bits_outside outermost = refl
bits_outside {f} {fs} (in_list e n) = outside_by (bits fs) (bits_some n) (bracket_of f)
bits_outside {f} {fs} (in_object e n) = outside_by (bits fs) (bits_some n) (bracket_of f)

pub bits_in_object : {f : Frame} {fs : List Frame} → Nested (f ∷ fs) → is_in_object (bits (f ∷ fs)) ≡ is_object_bracket (bracket_of f)
bits_in_object outermost = refl
bits_in_object {f} {fs} (in_list e n) = in_object_by (bits fs) (bits_some n) (bracket_of f)
bits_in_object {f} {fs} (in_object e n) = in_object_by (bits fs) (bits_some n) (bracket_of f)

-- ---- one more, and one less

module _ (n : ℕ) where
  pub with_list_lem : n < full_kinds → with_list n ≡ bits_with ListBracket n
  with_list_lem h = let e : n % full_kinds ≡ n = omega arith in rw e

  pub with_object_lem : n < full_kinds → with_object n ≡ bits_with ObjectBracket n
  with_object_lem h = let e : n % full_kinds ≡ n = omega arith in rw e

  pub without : (b : Bracket) → isNothing b ≡ false → bits_with b n / 2 ≡ n
  without NoBracket e = absurd (true≢false e)
  without ListBracket e = omega arith
  without ObjectBracket e = omega arith
