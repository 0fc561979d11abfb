-- The next number that is not taken, looked for from the front; the numbers on the way fit, and so does an id that is not above the largest.
use Prim.Native.Nat.{ℕ, zero, suc, ◌+◌, ◌-◌, ◌^◌, ◌≤◌, ◌<◌}
use mathlib.Core.Path.{◌≡◌, refl, sym, ap, subst, ◌∙◌}
use mathlib.Core.Bool.{true, false, cond}
use mathlib.Core.List.{List, [], ◌∷◌}
use native.Mathlib.Omega.{arith}
use borrow.Author.Tests.{ltb-false, lt-ltb}
use lib.Dec.{ltb}
use lib.IntN.{ℤ, pos, negsuc, suc_ℤ, ◌+ℤ◌, +ℤ-suc_ℤ, suc_ℤ-+ℤ}
use lib.ListN.{length, get_or}
use lib.Pow.{pow_pos}
use lib.Signed.{lt_z}
use mir.Syntax.{Width, w32, w64}
use mir.Val.{SFits, hbits}
use Rattle.rules.specs.Words.{larger, is_in, highest}
use Rattle.rules.specs.Capacities.{largest_field_id}
use Rattle.rules.specs.SpecUpdates.{free_from, next_free}
use Rattle.rules.proofs.Checks.{by_test}

-- ---- a number and some after it fit

abbrev top : ℤ
top = pos 9223372036854775807

below_top : (z : ℤ) (m : ℕ) → SFits w64 (z +ℤ pos (suc m)) → lt_z z top ≡ true
below_top (pos n) m f = lt-ltb n 9223372036854775807 (omega (arith, f.sfits))
below_top (negsuc n) m f = refl

pub after_fits : (z : ℤ) (m : ℕ) → SFits w64 (z +ℤ pos (suc m)) → SFits w64 (suc_ℤ z +ℤ pos m)
after_fits z m f = subst (SFits w64) (+ℤ-suc_ℤ z (pos m) ∙ sym (suc_ℤ-+ℤ z (pos m))) f

-- a field id and as many numbers after it as a spec has fields fit
pub room_left : (z : ℤ) (m : ℕ) → SFits w32 z → m ≤ 8 → SFits w64 (z +ℤ pos (suc m))
room_left (pos n) m f h = record { sfits = omega (arith, f.sfits) }
room_left (negsuc n) m f h =
    by_test (SFits w64) (ltb (suc m) (suc n))
    (λ t. record { sfits = omega (arith, f.sfits) })
    (λ e. record { sfits = omega (arith, f.sfits) })

-- what the search for the next key answers
pub goes_on_lem : (z : ℤ) (m : ℕ) {k : ℤ} → SFits w64 (z +ℤ pos (suc m)) → k ≡ cond (lt_z z top) (suc_ℤ z) z → k ≡ suc_ℤ z
goes_on_lem z m f e = e ∙ rw (below_top z m f)

-- ---- the search

module _ (taken : List ℤ) where
  free_here : (steps : ℕ) (n : ℤ) → is_in taken n ≡ false → free_from steps taken n ≡ n
  unfolding free_from
  free_here zero n e = refl
  free_here (suc steps) n e = rw e

  free_on : (steps : ℕ) (n : ℤ) → is_in taken n ≡ true → free_from (suc steps) taken n ≡ free_from steps taken (suc_ℤ n)
  unfolding free_from
  free_on steps n e = rw e

  free_end : (n : ℤ) → free_from 0 taken n ≡ n
  unfolding free_from
  free_end n = refl

-- from z on the first i numbers are taken, and k is the next
pub record Passed (taken : List ℤ) (z k : ℤ) (i : ℕ) : Type 0 where
  pub sofar : i ≤ length taken
  pub fits : SFits w64 (k +ℤ pos (length taken - i))
  pub same : free_from (length taken) taken z ≡ free_from (length taken - i) taken k

module _ {taken : List ℤ} where
  pub passed_none : (n : ℤ) {z : ℤ} → SFits w64 (n +ℤ pos (suc (length taken))) → z ≡ suc_ℤ n → Passed taken z z 0
  passed_none n {z} f e =
      let s : length taken - 0 ≡ length taken = omega arith in
      record { sofar = omega arith; fits = rw (s, e) (after_fits n (length taken) f); same = rw s }

  module _ {z k : ℤ} {i : ℕ} (p : Passed taken z k i) where
    pub passed_one : {x : ℤ} → i < length taken → is_in taken k ≡ true → x ≡ cond (lt_z k top) (suc_ℤ k) k → Passed taken z x (i + 1)
    passed_one {x} b t e =
        let m : ℕ = length taken - (i + 1) in
        let s : length taken - i ≡ suc m = omega arith in
        let f : SFits w64 (k +ℤ pos (suc m)) = subst (λ (j : ℕ). SFits w64 (k +ℤ pos j)) s p.fits in
        let y : x ≡ suc_ℤ k = goes_on_lem k m f e in
        record {
          sofar = omega arith;
          fits = subst (λ (y : ℤ). SFits w64 (y +ℤ pos m)) (sym y) (after_fits k m f);
          same = p.same ∙ ap (λ (j : ℕ). free_from j taken k) s ∙ free_on taken m k t ∙ ap (free_from m taken) (sym y);
        }

    module _ (n : ℤ) (e : z ≡ suc_ℤ n) where
      pub passed_free : is_in taken k ≡ false → k ≡ next_free taken n
      unfolding next_free
      passed_free f = sym (ap (free_from (length taken) taken) (sym e) ∙ p.same ∙ free_here taken (length taken - i) k f)

      pub passed_all : length taken ≤ i → k ≡ next_free taken n
      unfolding next_free
      passed_all b =
          let s : length taken - i ≡ 0 = omega arith in
          sym (ap (free_from (length taken) taken) (sym e) ∙ p.same ∙ ap (λ (j : ℕ). free_from j taken k) s ∙ free_end taken k)

-- ---- ids that fit

module _ (w : Width) where
  pub larger_fits : (a b : ℤ) → SFits w a → SFits w b → SFits w (larger a b)
  larger_fits a b f g = by_test (SFits w) (lt_z a b) (λ t. g) (λ e. f)

  pub highest_fits : (l : List ℤ) → ((k : ℕ) → SFits w (get_or l k (pos 0))) → SFits w (highest l)
  highest_fits [] f = record { sfits = pow_pos (hbits w) }
  highest_fits (x ∷ l) f = larger_fits x (highest l) (f 0) (highest_fits l (λ k. f (suc k)))

  -- the number is not below the least
  abbrev NotLow : ℤ → Type 0
  NotLow (pos n) = Unit {0}
  NotLow (negsuc n) = n < 2 ^ hbits w

  low_of : (z : ℤ) → SFits w z → NotLow z
  low_of (pos n) f = tt
  low_of (negsuc n) f = f.sfits

  low_next : (z : ℤ) → NotLow z → NotLow (suc_ℤ z)
  low_next (pos n) h = tt
  low_next (negsuc zero) h = tt
  low_next (negsuc (suc n)) h = omega arith

  low_free : (taken : List ℤ) (steps : ℕ) (n : ℤ) → NotLow n → NotLow (free_from steps taken n)
  unfolding free_from
  low_free taken zero n h = h
  low_free taken (suc steps) n h = by_test NotLow (is_in taken n) (λ t. low_free taken steps (suc_ℤ n) (low_next n h)) (λ e. h)

not_above : (z : ℤ) → NotLow w32 z → lt_z (pos largest_field_id) z ≡ false → SFits w32 z
not_above (pos n) h e = record { sfits = omega (arith, ltb-false largest_field_id n e) }
not_above (negsuc n) h e = record { sfits = h }

-- a fresh id that is not above the largest
pub fresh_fits : (taken : List ℤ) (n : ℤ) → SFits w32 n → lt_z (pos largest_field_id) (next_free taken n) ≡ false → SFits w32 (next_free taken n)
unfolding next_free
fresh_fits taken n f e = not_above (next_free taken n) (low_free w32 taken (length taken) (suc_ℤ n) (low_next w32 n (low_of w32 n f))) e
