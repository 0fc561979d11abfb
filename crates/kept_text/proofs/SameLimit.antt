-- What is kept of a limit's text has the text's limit: a zero after a first zero changes no number, and a text that fills the slots
-- without such zeros is no number, or one above every limit, whatever follows.
use Prim.Native.Nat.{ℕ, zero, suc, ◌+◌, ◌-◌, ◌*◌, ◌^◌, ◌≤◌}
use mathlib.Core.Path.{◌≡◌, refl, sym, ap, ◌∙◌}
use mathlib.Core.Bool.{Bool, true, false, ◌&&◌, true≢false}
use mathlib.Core.List.{List, [], ◌∷◌, ◌++◌, append_assoc, append-nil}
use native.Mathlib.Nat.{add-zero, pow-suc}
use native.Mathlib.Omega.{arith}
use borrow.Author.Tests.{eqb-true, eqb-false, leb-true, lt-leb, ltb-false}
use borrow.Table.Steps.{cases}
use lib.Dec.{eqb, leb, ltb}
use lib.ListN.{length, length-append}
use Rattle.rules.specs.Words.{all}
use Rattle.rules.specs.Capacities.{largest_unsigned}
use Rattle.rules.specs.Limit.{limit_of, is_digit, is_number, decimal, after_plus, default_limit}
use Rattle.kept_text.specs.LimitText.{is_zero, is_spare, keep_byte, keep_bytes}

-- ---- tests that fail or hold together

both : (a b : Bool) → a && b ≡ true → (a ≡ true) × (b ≡ true)
both true true e = (refl, refl)
both true false e = absurd (true≢false (sym e))
both false b e = absurd (true≢false (sym e))

turned : (a b : Bool) → a && b ≡ false → b && a ≡ false
turned true true e = e
turned true false e = refl
turned false true e = refl
turned false false e = refl

-- ---- a zero after a first zero

zero_dropped : (kept s : List ℕ) → is_zero kept ≡ true → limit_of (kept ++ s) ≡ limit_of (kept ++ (48 ∷ s))
unfolding limit_of
zero_dropped [] s e = absurd (true≢false (sym e))
zero_dropped (a ∷ []) s e = rw (eqb-true a 48 e)
zero_dropped (a ∷ (b ∷ [])) s e =
    let h = both (eqb a 43) (eqb b 48) e in
    rw (eqb-true a 43 h.0, eqb-true b 48 h.1)
zero_dropped (a ∷ (b ∷ (c ∷ bs))) s e = absurd (true≢false (sym e))

spare_dropped : (kept : List ℕ) (b : ℕ) (s : List ℕ) → is_spare kept b ≡ true → limit_of (kept ++ s) ≡ limit_of (kept ++ (b ∷ s))
unfolding is_spare
spare_dropped kept b s e =
    let h = both (eqb b 48) (is_zero kept) e in
    rw (eqb-true b 48 h.0) (zero_dropped kept s h.1)

-- ---- many digits

grows : (v : ℕ) (bs : List ℕ) → v ≤ decimal v bs
grows v [] = omega arith
grows v (b ∷ bs) = omega (arith, grows (v * 10 + (b - 48)) bs)

-- each digit is a power of ten more
reaches : (k j v : ℕ) (bs : List ℕ) → 10 ^ j ≤ v → k ≤ length bs → 10 ^ (j + k) ≤ decimal v bs
reaches zero j v bs h e = rw (add-zero j) (omega (arith, grows v bs))
reaches (suc k) j v [] h e = absurd (omega arith)
reaches (suc k) j v (b ∷ bs) h e =
    let on : j + suc k ≡ suc j + k = omega arith in
    rw on (reaches k (suc j) (v * 10 + (b - 48)) bs (rw pow-suc (omega arith)) (omega arith))

from_zero : (b : ℕ) → is_digit b ≡ true → 48 ≤ b
from_zero b e = leb-true 48 b (both (leb 48 b) (leb b 57) e).0

-- two digits that are not both zeros are worth at least 1
worth : (a b : ℕ) → is_digit a ≡ true → is_digit b ≡ true → eqb a 48 && eqb b 48 ≡ false → 1 ≤ (a - 48) * 10 + (b - 48)
worth a b da db e =
    cases (eqb a 48)
    (λ t. omega (arith, from_zero a da, from_zero b db, eqb-false b 48 (rw t at e)))
    (λ f. omega (arith, from_zero a da, from_zero b db, eqb-false a 48 f))

too_large_lem : (a b : ℕ) (t : List ℕ) → eqb a 48 && eqb b 48 ≡ false → 20 ≤ length t → is_number (a ∷ (b ∷ t)) ≡ false
too_large_lem a b t e h =
    cases (all is_digit (a ∷ (b ∷ t)))
    (λ d. let p = both (is_digit a) (is_digit b && all is_digit t) d in
    let q = both (is_digit b) (all is_digit t) p.1 in
    let v = (a - 48) * 10 + (b - 48) in
    let w : 0 * 10 + (a - 48) ≡ a - 48 = omega arith in
    rw (d, w, lt-leb (decimal v t) largest_unsigned (omega (arith, reaches 20 0 v t (worth a b p.0 q.0 e) h))))
    (λ n. rw n)

-- ---- what is kept never begins with two zeros, after a `+` or not

abbrev zeros : List ℕ → Bool
zeros [] = false
zeros (a ∷ []) = false
zeros (a ∷ (b ∷ bs)) = eqb a 48 && eqb b 48

abbrev Lean : List ℕ → Type 0
Lean kept = zeros (after_plus kept) ≡ false

no_number_lem : (ds s : List ℕ) → zeros ds ≡ false → 22 ≤ length ds → is_number (ds ++ s) ≡ false
no_number_lem [] s e h = absurd (omega arith)
no_number_lem (a ∷ []) s e h = absurd (omega arith)
no_number_lem (a ∷ (b ∷ bs)) s e h = too_large_lem a b (bs ++ s) e (simp length-append (omega arith))

full : (kept s : List ℕ) → Lean kept → 23 ≤ length kept → limit_of (kept ++ s) ≡ default_limit
unfolding limit_of
full [] s e h = absurd (omega arith)
full (a ∷ bs) s e h =
    cases (eqb a 43)
    (λ t. rw (t, no_number_lem bs s (rw t at e) (omega arith)))
    (λ f. rw (f, no_number_lem (a ∷ bs) s (rw f at e) (omega arith)))

lean_with : (kept : List ℕ) (b : ℕ) → Lean kept → is_spare kept b ≡ false → Lean (kept ++ (b ∷ []))
unfolding is_spare
lean_with [] b e n = cases (eqb b 43) (λ t. rw t) (λ f. rw f)
lean_with (a ∷ []) b e n = cases (eqb a 43) (λ t. rw t) (λ f. rw f (turned (eqb b 48) (eqb a 48) n))
lean_with (a ∷ (a' ∷ [])) b e n =
    cases (eqb a 43)
    (λ t. rw t (turned (eqb b 48) (eqb a' 48) (rw t at n)))
    (λ f. rw f (rw f at e))
lean_with (a ∷ (a' ∷ (a'' ∷ bs))) b e n = cases (eqb a 43) (λ t. rw t (rw t at e)) (λ f. rw f (rw f at e))

-- ---- one more byte

module _ (room : ℕ) (enough : 23 ≤ room) where
  lean_on : (kept : List ℕ) (b : ℕ) → Lean kept → Lean (keep_byte room kept b)
  unfolding keep_byte
  lean_on kept b e =
      cases (is_spare kept b) (λ t. rw t e)
      (λ f. cases (ltb (length kept) room) (λ l. rw (f, l) (lean_with kept b e f)) (λ l. rw (f, l) e))

  same_on : (kept : List ℕ) (b : ℕ) (s : List ℕ) → Lean kept → limit_of (keep_byte room kept b ++ s) ≡ limit_of (kept ++ (b ∷ s))
  unfolding keep_byte
  same_on kept b s e =
      cases (is_spare kept b)
      (λ t. rw t (spare_dropped kept b s t))
      (λ f. cases (ltb (length kept) room)
      (λ l. rw (f, l) (ap limit_of (append_assoc kept (b ∷ []) s)))
      (λ l. rw (f, l) (full kept s e (omega (arith, ltb-false (length kept) room l)) ∙ sym (full kept (b ∷ s) e (omega (arith, ltb-false (length kept) room l))))))

  same_from : (kept text : List ℕ) → Lean kept → limit_of (keep_bytes room kept text) ≡ limit_of (kept ++ text)
  same_from kept [] e = ap limit_of (sym (append-nil kept))
  same_from kept (b ∷ bs) e = same_from (keep_byte room kept b) bs (lean_on kept b e) ∙ same_on kept b bs e

  pub same_limit : (text : List ℕ) → limit_of (keep_bytes room [] text) ≡ limit_of text
  same_limit text = same_from [] text refl
