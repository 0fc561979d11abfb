-- A number of a sign and a magnitude is among those of a shape where the rule says so.
use Prim.Native.Nat.{ℕ, zero, suc, ◌≤◌, ◌<◌, ◌^◌}
use mathlib.Core.Path.{◌≡◌, refl, sym, ◌∙◌}
use mathlib.Core.Bool.{Bool, true, false, cond, ◌&&◌, true≢false}
use native.Mathlib.Omega.{arith}
use borrow.Author.Tests.{leb-true, lt-leb, ltb-true, ltb-false}
use borrow.Table.Steps.{cases}
use lib.Dec.{eqb, leb, ltb, leb-zero, leb-suc-zero, leb-suc-suc}
use lib.IntN.{ℤ, pos, negsuc}
use lib.Signed.{le_z}
use Rattle.rules.proofs.Checks.{and_left, and_right}
use Rattle.json_rule.specs.Lexemes.{Lexeme, minus}
use Rattle.json_rule.specs.Values.{negative}
use Rattle.json_rule.specs.Records.{natural_of}
use Rattle.json_rule.specs.Shapes.{Shape, Anything, TextUpTo, OneOf, NumberIn, No, AUuid, ATransform, ListUpTo, ARecord}
use Rattle.json_rule.specs.Defects.{is_number_in}
use Rattle.json_machine.proofs.Numbers.{signed_by}
use Rattle.json_members.specs.Kept.{NumberKept}
use Rattle.json_members.specs.Widths.{below_of, no_width, width_of}

pub no_numbers : (shape : Shape) → (width_of shape).numbers ≡ false → width_of shape ≡ no_width
no_numbers Anything e = refl
no_numbers (TextUpTo room) e = refl
no_numbers (OneOf words) e = refl
no_numbers (NumberIn least most) e = absurd (true≢false e)
no_numbers No e = refl
no_numbers AUuid e = refl
no_numbers ATransform e = refl
no_numbers (ListUpTo room each) e = refl
no_numbers (ARecord kind) e = refl

-- ---- between bounds

-- bounds on either side of 0, both nearer than 2^64
abbrev pub are_fair : ℤ → ℤ → Bool
are_fair least most = le_z least (pos 0) && le_z (pos 0) most && (ltb (below_of least) (2 ^ 64) && ltb (natural_of most) (2 ^ 64))

-- the magnitude decides, by the sign
below_zero : (least most : ℤ) (v : ℕ) → le_z least (pos 0) ≡ true → le_z (pos 0) most ≡ true → le_z least (negative v) && le_z (negative v) most ≡ leb v (below_of least)
below_zero least most zero l m = rw (l, m, leb-zero (below_of least))
below_zero (pos a) (pos b) (suc n) l m = rw (leb-suc-zero n)
below_zero (pos a) (negsuc b) (suc n) l m = absurd (true≢false (sym m))
below_zero (negsuc a) (pos b) (suc n) l m = rw (leb-suc-suc n a) (cases (leb n a) (λ t. rw t) (λ f. rw f))
below_zero (negsuc a) (negsuc b) (suc n) l m = absurd (true≢false (sym m))

from_zero : (least most : ℤ) (v : ℕ) → le_z least (pos 0) ≡ true → le_z (pos 0) most ≡ true → le_z least (pos v) && le_z (pos v) most ≡ leb v (natural_of most)
from_zero (pos a) (pos b) v l m = let z : a ≡ 0 = omega (arith, leb-true a 0 l) in rw (z, leb-zero v)
from_zero (pos a) (negsuc b) v l m = absurd (true≢false (sym m))
from_zero (negsuc a) (pos b) v l m = refl
from_zero (negsuc a) (negsuc b) v l m = absurd (true≢false (sym m))

in_bounds : (least most : ℤ) (head v : ℕ) → le_z least (pos 0) ≡ true → le_z (pos 0) most ≡ true → le_z least (signed_by head v) && le_z (signed_by head v) most ≡ cond (eqb head minus) (leb v (below_of least)) (leb v (natural_of most))
in_bounds least most head v l m = cases (eqb head minus) (λ t. rw t (below_zero least most v l m)) (λ f. rw f (from_zero least most v l m))

module _ (least most : ℤ) (t : Lexeme) (fair : are_fair least most ≡ true) where
  below_fair : le_z least (pos 0) ≡ true
  below_fair = and_left _ _ (and_left (le_z least (pos 0) && le_z (pos 0) most) _ fair)

  from_fair : le_z (pos 0) most ≡ true
  from_fair = and_right (le_z least (pos 0)) _ (and_left (le_z least (pos 0) && le_z (pos 0) most) _ fair)

  near : (below_of least < 2 ^ 64) × (natural_of most < 2 ^ 64)
  near =
      let both = and_right (le_z least (pos 0) && le_z (pos 0) most) _ fair in
      (ltb-true (below_of least) (2 ^ 64) (and_left (ltb (below_of least) (2 ^ 64)) _ both), ltb-true (natural_of most) (2 ^ 64) (and_right (ltb (below_of least) (2 ^ 64)) _ both))

  -- one that is not kept whole fits nowhere
  too_large_lem : (v : ℕ) → 2 ^ 64 ≤ v → cond (eqb t.head minus) (leb v (below_of least)) (leb v (natural_of most)) ≡ false
  too_large_lem v h = rw (lt-leb v (below_of least) (omega (arith, near)), lt-leb v (natural_of most) (omega (arith, near))) (cases (eqb t.head minus) (λ e. rw e) (λ f. rw f))

  pub number_in_lem : (integer : Bool) (magnitude : ℕ) → NumberKept integer magnitude t → integer && cond (eqb t.head minus) (leb magnitude (below_of least)) (leb magnitude (natural_of most)) ≡ is_number_in least most t
  number_in_lem integer magnitude k =
      let told = in_bounds least most t.head k.value below_fair from_fair in
      cases k.is_whole
      (λ w. cases (ltb k.value (2 ^ 64))
      (λ s. let i : integer ≡ true = k.told ∙ rw (w, s) in rw (i, k.is i, k.number, w) (sym told))
      (λ s. let i : integer ≡ false = k.told ∙ rw (w, s) in rw (i, k.number, w) (sym (told ∙ too_large_lem k.value (ltb-false k.value (2 ^ 64) s)))))
      (λ w. let i : integer ≡ false = k.told ∙ rw w in rw (i, k.number, w))
