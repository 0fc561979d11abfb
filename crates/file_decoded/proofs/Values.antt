-- Numbers by the sign in the text and the magnitude in a cell, and what is no longer than its room.
use Prim.Native.Nat.{ℕ, zero, suc, ◌-◌, ◌≤◌, ◌<◌, ◌^◌}
use native.Mathlib.Omega.{arith}
use mathlib.Core.Path.{◌≡◌, refl, sym, ap, ◌∙◌}
use mathlib.Core.Bool.{Bool, true, false, ◌&&◌, true≢false, false≢true}
use mathlib.Core.List.{List, ◌∷◌}
use mathlib.Core.Option.{none, some}
use borrow.Table.Steps.{cases}
use borrow.Author.Tests.{leb-true, leb-false, le-leb, lt-ltb, ne_eqb, eqb-true}
use lib.Dec.{eqb, leb}
use lib.IntN.{ℤ, pos, negsuc}
use lib.ListN.{length}
use lib.Signed.{le_z}
use Rattle.rules.specs.Words.{all}
use Rattle.rules.specs.Capacities.{text_room}
use Rattle.rules.proofs.Checks.{and_left, and_right}
use Rattle.json_rule.specs.Lexemes.{Lexeme, minus, is_digit}
use Rattle.json_rule.specs.Values.{digits_value, negative, whole_number_of}
use Rattle.json_rule.specs.Records.{natural_of}
use Rattle.json_rule.specs.Defects.{is_uuid, is_transform}
use Rattle.json_members.proofs.Uuids.{uuid_length}
use Rattle.json_members.proofs.Transforms.{transform_short}
use Rattle.json_store.specs.Numbers.{signed_of, narrowed}
use Rattle.file_cells.specs.Filled.{magnitude, magnitude_of}

-- ---- numbers

-- the magnitude of a number
pub magnitude_is : (t : Lexeme) (z : ℤ) → whole_number_of t ≡ some z → magnitude z < 2 ^ 64 → magnitude_of t ≡ magnitude z
unfolding magnitude_of
magnitude_is t z e h = rw (magnitude_of, e, lt-ltb (magnitude z) (2 ^ 64) h)

-- behind a minus a number is not above 0
with_minus_lem : (t : Lexeme) (z : ℤ) → whole_number_of t ≡ some z → eqb t.head minus ≡ true → negative (digits_value 0 t.body) ≡ z
unfolding whole_number_of is_digit
with_minus_lem t z e m = go (all is_digit t.body) refl
  where
    head : is_digit t.head ≡ false
    head = ap is_digit (eqb-true t.head minus m)

    go : (b : Bool) → all is_digit t.body ≡ b → negative (digits_value 0 t.body) ≡ z
    go true a = let f : some (negative (digits_value 0 t.body)) ≡ some z = rw (m, a) at e in cc
    go false a = let f : none ≡ some z = rw (m, a, head) at e in cc

-- and without one not below
without_minus : (t : Lexeme) (z : ℤ) → whole_number_of t ≡ some z → eqb t.head minus ≡ false → pos (digits_value 0 (t.head ∷ t.body)) ≡ z
unfolding whole_number_of
without_minus t z e m = go (is_digit t.head && all is_digit t.body) refl
  where
    go : (b : Bool) → (is_digit t.head && all is_digit t.body) ≡ b → pos (digits_value 0 (t.head ∷ t.body)) ≡ z
    go true a = let f : some (pos (digits_value 0 (t.head ∷ t.body))) ≡ some z = rw (m, a) at e in cc
    go false a = let f : none ≡ some z = rw (m, a) at e in cc

-- of 64 bits
abbrev pub fits64 : ℤ → Bool
fits64 z = le_z (negsuc 9223372036854775807) z && le_z z (pos 9223372036854775807)

signed_below : (n : ℕ) → fits64 (negative n) ≡ true → signed_of true (magnitude (negative n)) ≡ negative n
unfolding signed_of
signed_below zero h = refl
signed_below (suc n) h =
    let b : n ≤ 9223372036854775807 = leb-true n 9223372036854775807 (and_left (leb n 9223372036854775807) true h) in
    let l : suc n - 1 ≡ n = omega arith in
    rw (ne_eqb (suc n) 0 (λ e. omega arith), le-leb (suc n) (2 ^ 63) (omega arith), l)

signed_above : (n : ℕ) → fits64 (pos n) ≡ true → signed_of false n ≡ pos n
unfolding signed_of
signed_above n h = let b : n ≤ 9223372036854775807 = leb-true n 9223372036854775807 (and_right true (leb n 9223372036854775807) h) in rw (lt-ltb n (2 ^ 63) (omega arith))

small : (z : ℤ) → fits64 z ≡ true → magnitude z < 2 ^ 64
small (pos n) h = let b : n ≤ 9223372036854775807 = leb-true n 9223372036854775807 (and_right true (leb n 9223372036854775807) h) in omega arith
small (negsuc n) h = let b : n ≤ 9223372036854775807 = leb-true n 9223372036854775807 (and_left (leb n 9223372036854775807) true h) in omega arith

-- a number of 64 bits by its sign and its magnitude
pub signed_number : (t : Lexeme) (z : ℤ) → whole_number_of t ≡ some z → fits64 z ≡ true → signed_of (eqb t.head minus) (magnitude_of t) ≡ z
signed_number t z e h =
    rw (magnitude_is t z e (small z h))
    (cases (eqb t.head minus)
    (λ m. let f : negative (digits_value 0 t.body) ≡ z = with_minus_lem t z e m in rw (m, ← f) (signed_below (digits_value 0 t.body) (ap fits64 f ∙ h)))
    (λ m. let f : pos (digits_value 0 (t.head ∷ t.body)) ≡ z = without_minus t z e m in rw (m, ← f) (signed_above (digits_value 0 (t.head ∷ t.body)) (ap fits64 f ∙ h))))

-- of 32 bits
pub narrow_number : (z : ℤ) → (le_z (negsuc 2147483647) z && le_z z (pos 2147483647)) ≡ true → (narrowed z ≡ z) × (fits64 z ≡ true)
unfolding narrowed
narrow_number (pos n) h = let b : n ≤ 2147483647 = leb-true n 2147483647 (and_right true (leb n 2147483647) h) in (rw h, le-leb n 9223372036854775807 (omega arith))
narrow_number (negsuc n) h =
    let b : n ≤ 2147483647 = leb-true n 2147483647 (and_left (leb n 2147483647) true h) in (rw h, rw (le-leb n 9223372036854775807 (omega arith)))

-- one that is not below 0
pub natural_number : (t : Lexeme) (z : ℤ) → whole_number_of t ≡ some z → (le_z (pos 0) z && le_z z (pos 18446744073709551615)) ≡ true → magnitude_of t ≡ natural_of z
natural_number t (pos n) e h =
    let b : n ≤ 18446744073709551615 = leb-true n 18446744073709551615 (and_right (leb 0 n) (leb n 18446744073709551615) h) in
    magnitude_is t (pos n) e (omega arith)
natural_number t (negsuc n) e h = absurd (false≢true h)

-- `null` is no number
pub null_is_none : (t : Lexeme) → eqb t.head 110 ≡ true → whole_number_of t ≡ none
unfolding whole_number_of is_digit
null_is_none t e =
    let h : t.head ≡ 110 = eqb-true t.head 110 e in
    let m : eqb t.head minus ≡ false = ap (λ (b : ℕ). eqb b minus) h in
    let d : is_digit t.head ≡ false = ap is_digit h in
    rw (m, d)

-- ---- texts

pub uuid_room : (bs : List ℕ) → is_uuid bs ≡ true → leb (length bs) text_room ≡ true
uuid_room bs e =
    cases (eqb (length bs) 36)
    (λ h. let l : length bs ≡ 36 = eqb-true (length bs) 36 h in le-leb (length bs) 96 (omega arith))
    (λ h. absurd (true≢false (sym e ∙ uuid_length bs (λ l. true≢false (sym (ap (λ (n : ℕ). eqb n 36) l) ∙ h)))))

pub transform_room : (bs : List ℕ) → is_transform bs ≡ true → leb (length bs) text_room ≡ true
transform_room bs e =
    cases (leb (length bs) 96)
    (λ h. h)
    (λ h. absurd (true≢false (sym e ∙ transform_short bs (let l : 96 < length bs = leb-false (length bs) 96 h in omega arith))))
