-- `bucket[N]`, byte by byte: brackets around digits.
use Prim.Native.Nat.{ℕ, suc, ◌+◌, ◌-◌, ◌*◌, ◌^◌, ◌≤◌, ◌<◌}
use mathlib.Core.Path.{◌≡◌, refl, sym, ap, subst, ◌∙◌}
use mathlib.Core.Bool.{Bool, true, false, not, ◌&&◌, ◌||◌, true≢false}
use mathlib.Core.List.{List, [], ◌∷◌, ◌++◌}
use native.Mathlib.Nat.{pow-le-pow_right}
use native.Mathlib.Omega.{arith}
use borrow.Author.Tests.{eqb-true, eqb-false, ne_eqb, leb-true, leb-false, le-leb, lt-leb}
use borrow.Table.Steps.{cases}
use lib.Dec.{eqb, leb}
use lib.ListN.{length, get_or, take, drop, take-append-drop, length-append, length-drop, drop_of_length-le}
use lib.Seq.{drop-cons, get_or-drop, take-append_seam, get_or-append_seam}
use Rattle.rules.specs.Words.{all, keep, same_bytes}
use Rattle.rules.proofs.Checks.{and_left, and_right}
use Rattle.json_rule.specs.Letters.{bytes}
use Rattle.json_rule.specs.Lexemes.{within, is_digit}
use Rattle.json_rule.specs.Values.{digits_value}
use Rattle.json_rule.specs.Defects.{bucket_start, bucket_digits, is_bucket}
use Rattle.json_machine.proofs.Bounds.{from_least}
use Rattle.json_members.specs.Kept.{front}
use Rattle.json_members.specs.Transforms.{most_buckets, between, is_bracketed}
use Rattle.json_members.proofs.Words.{same_is, same_self}
use Rattle.json_members.proofs.Fronts.{front_length, front_at, front_take, front_drop}

-- ---- digits

-- the last byte is no digit
abbrev bracketed : List ℕ → List ℕ
bracketed ds = bucket_start ++ ds ++ 93 ∷ []

digits_kept : (ds : List ℕ) → all is_digit ds ≡ true → keep is_digit (ds ++ 93 ∷ []) ≡ ds
unfolding is_digit
digits_kept [] e = refl
digits_kept (d ∷ ds) e = rw (and_left (is_digit d) (all is_digit ds) e) (ap (λ (l : List ℕ). d ∷ l) (digits_kept ds (and_right (is_digit d) (all is_digit ds) e)))

all_digits : (bs : List ℕ) → all is_digit (keep is_digit bs) ≡ true
all_digits [] = refl
all_digits (b ∷ bs) = cases (is_digit b) (λ t. rw (t, t) (all_digits bs)) (λ f. rw f (all_digits bs))

-- ---- more digits than ten

grows : (j v : ℕ) (ds : List ℕ) (k : ℕ) → j + length ds ≡ k → 10 ^ j ≤ v → 10 ^ k ≤ digits_value v ds
grows j v [] k e h = let is : j ≡ k = omega arith in rw is at h
grows j v (d ∷ ds) k e h = grows (suc j) (v * 10 + (d - 48)) ds k (omega arith) (omega arith)

many_digits : (ds : List ℕ) → all is_digit ds ≡ true → 11 ≤ length ds → (get_or ds 0 0 ≡ 48 → ⊥) → most_buckets < digits_value 0 ds
unfolding is_digit
many_digits [] a h n = absurd (omega arith)
many_digits (d ∷ ds) a h n =
    let least = from_least 48 57 d (and_left (within 48 57 d) (all is_digit ds) a) in
    omega (arith, grows 0 (0 * 10 + (d - 48)) ds (length ds) (omega arith) (omega arith), pow-le-pow_right {n = 10} (omega arith) {i = 10} {j = length ds} (omega arith))

-- ---- digits between brackets

bracketed_length : (ds : List ℕ) → length (bracketed ds) ≡ 8 + length ds
bracketed_length ds = omega (arith, length-append ds (93 ∷ []))

bracketed_between : (ds : List ℕ) → between (bracketed ds) ≡ ds
bracketed_between ds =
    let e : length (bracketed ds) - 8 ≡ length ds = omega (arith, bracketed_length ds) in
    ap (λ (n : ℕ). take n (ds ++ 93 ∷ [])) e ∙ take-append_seam ds (93 ∷ [])

bracketed_last : (ds : List ℕ) → get_or (bracketed ds) (length (bracketed ds) - 1) 0 ≡ 93
bracketed_last ds =
    let e : length (bracketed ds) - 1 ≡ length (bucket_start ++ ds) = omega (arith, bracketed_length ds) in
    ap (λ (n : ℕ). get_or (bracketed ds) n 0) e ∙ get_or-append_seam (bucket_start ++ ds) 93 [] 0

-- what is asked of a text in the end
abbrev pub is_told : List ℕ → Bool
is_told text = is_bracketed text && all is_digit (between text) && leb (digits_value 0 (between text)) most_buckets

passed : (a b c : Bool) → a && true && true && b && true && c ≡ a && b && c
passed true true c = refl
passed true false c = refl
passed false b c = refl

-- the same tests of one to ten digits; of none and of more both fail
module _ (d : ℕ) (ds : List ℕ) (a : all is_digit (d ∷ ds) ≡ true) where
  -- how the rule goes on behind the length
  abbrev ruled : Bool
  ruled = (eqb (suc (length ds)) 1 || not (same_bytes (take 1 (d ∷ ds)) (bytes "0"))) && leb (digits_value 0 (d ∷ ds)) most_buckets

  few : length ds ≤ 9 → leb (8 + suc (length ds)) 18 && (not (eqb d 48) || eqb (8 + suc (length ds)) 9) && leb (digits_value 0 (d ∷ ds)) most_buckets ≡ ruled
  few h =
      cases (eqb (length ds) 0)
      (λ z. let n = eqb-true (length ds) 0 z in rw n (cases (eqb d 48) (λ t. rw t) (λ f. rw f)))
      (λ z. let n = eqb-false (length ds) 0 z in
      rw (le-leb (8 + suc (length ds)) 18 (omega arith), ne_eqb (8 + suc (length ds)) 9 (λ e. n (omega arith)), ne_eqb (suc (length ds)) 1 (λ e. n (omega arith)))
      (cases (eqb d 48) (λ t. rw t) (λ f. rw f)))

  many : 9 < length ds → ruled ≡ false
  many h =
      rw (ne_eqb (suc (length ds)) 1 (λ e. omega arith))
      (cases (eqb d 48) (λ t. rw t) (λ f. rw (f, lt-leb (digits_value 0 (d ∷ ds)) most_buckets (many_digits (d ∷ ds) a (omega arith) (eqb-false d 48 f)))))

  rule_asks : is_bucket (bracketed (d ∷ ds)) ≡ ruled
  unfolding is_bucket
  rule_asks = rw (digits_kept (d ∷ ds) a, same_self (bracketed (d ∷ ds)), le-leb 1 (suc (length ds)) (omega arith))

  code_asks : is_told (bracketed (d ∷ ds)) ≡ leb (8 + suc (length ds)) 18 && (not (eqb d 48) || eqb (8 + suc (length ds)) 9) && leb (digits_value 0 (d ∷ ds)) most_buckets
  unfolding is_bracketed
  code_asks =
      rw (bracketed_between (d ∷ ds), a, bracketed_last (d ∷ ds), bracketed_length (d ∷ ds), le-leb 9 (8 + suc (length ds)) (omega arith))
      (passed (leb (8 + suc (length ds)) 18) (not (eqb d 48) || eqb (8 + suc (length ds)) 9) (leb (digits_value 0 (d ∷ ds)) most_buckets))

  told_alike : is_bucket (bracketed (d ∷ ds)) ≡ is_told (bracketed (d ∷ ds))
  told_alike =
      rule_asks
      ∙ cases (leb (length ds) 9)
      (λ t. sym (few (leb-true (length ds) 9 t)))
      (λ f. let h = leb-false (length ds) 9 f in many h ∙ rw (lt-leb (8 + suc (length ds)) 18 (omega arith)))
      ∙ sym code_asks

told_digits : (ds : List ℕ) → all is_digit ds ≡ true → is_bucket (bracketed ds) ≡ is_told (bracketed ds)
unfolding is_digit is_bucket is_bracketed
told_digits [] a = refl
told_digits (d ∷ ds) a = told_alike d ds a

-- ---- any text

-- the tests that passed
passed_five : (a b c d e : Bool) → a && b && c && d && e ≡ true → (a ≡ true) × (b ≡ true) × (c ≡ true) × (d ≡ true)
passed_five true true true true e h = (refl, refl, refl, refl)
passed_five true true true false e h = absurd (true≢false (sym h))
passed_five true true false d e h = absurd (true≢false (sym h))
passed_five true false c d e h = absurd (true≢false (sym h))
passed_five false b c d e h = absurd (true≢false (sym h))

module _ (text : List ℕ) (is : is_bracketed text ≡ true) where
  asked : (leb 9 (length text) ≡ true) × (leb (length text) 18 ≡ true) × (same_bytes (take 7 text) bucket_start ≡ true) × (eqb (get_or text (length text - 1) 0) 93 ≡ true)
  unfolding is_bracketed
  asked = passed_five (leb 9 (length text)) (leb (length text) 18) (same_bytes (take 7 text) bucket_start) (eqb (get_or text (length text - 1) 0) 93) (not (eqb (get_or text 7 0) 48) || eqb (length text) 9) is

  pub long : 9 ≤ length text
  long = leb-true 9 (length text) asked.0

  pub short : length text ≤ 18
  short = leb-true (length text) 18 asked.1

  starts : take 7 text ≡ bucket_start
  starts = same_is (take 7 text) bucket_start asked.2

  ends : get_or text (length text - 1) 0 ≡ 93
  ends = eqb-true (get_or text (length text - 1) 0) 93 asked.3

  rest_is : drop 7 text ≡ between text ++ 93 ∷ []
  rest_is =
      let rest = drop 7 text in
      let m = length text - 8 in
      let size = length-drop 7 text in
      let place : 7 + m ≡ length text - 1 = omega (arith, long) in
      let last : get_or rest m 0 ≡ 93 = get_or-drop 7 text m 0 ∙ ap (λ (n : ℕ). get_or text n 0) place ∙ ends in
      sym (take-append-drop m rest)
      ∙ ap (λ (l : List ℕ). take m rest ++ l) (drop-cons rest m 0 (omega (arith, long)) ∙ rw (last, drop_of_length-le rest {i = suc m} (omega (arith, long))))

  pub bracketed_is : text ≡ bracketed (between text)
  bracketed_is = sym (take-append-drop 7 text) ∙ ap (λ (l : List ℕ). l ++ drop 7 text) starts ∙ ap (λ (l : List ℕ). bucket_start ++ l) rest_is

digits_are : (text ds : List ℕ) → text ≡ bracketed ds → all is_digit ds ≡ true → bucket_digits text ≡ ds
digits_are text ds e a = ap bucket_digits e ∙ digits_kept ds a

not_told : (text : List ℕ) → same_bytes text (bracketed (bucket_digits text)) ≡ false → is_told text ≡ false
not_told text s =
    cases (is_bracketed text)
    (λ b. cases (all is_digit (between text))
    (λ a. let e = bracketed_is text b in
    absurd (true≢false (sym (same_self text) ∙ ap (same_bytes text) (e ∙ ap bracketed (sym (digits_are text (between text) e a))) ∙ s)))
    (λ a. rw (b, a)))
    (λ b. rw b)

pub bucket_told : (text : List ℕ) → is_bucket text ≡ is_told text
unfolding is_bucket
bucket_told text =
    cases (same_bytes text (bracketed (bucket_digits text)))
    (λ s. subst (λ (l : List ℕ). is_bucket l ≡ is_told l) (sym (same_is text (bracketed (bucket_digits text)) s)) (told_digits (bucket_digits text) (all_digits (drop 7 text))))
    (λ s. rw s (sym (not_told text s)))

-- all digits of the text are those between the brackets
pub digits_between : (text : List ℕ) → is_bracketed text ≡ true → all is_digit (between text) ≡ true → keep is_digit text ≡ between text
unfolding is_digit
digits_between text b a = ap (keep is_digit) (bracketed_is text b) ∙ digits_kept (between text) a

-- ---- what is kept of a text

module _ (len : ℕ) (kept : List ℕ) where
  -- the tests of a text, on what is kept of it
  pub bracketed_front : is_bracketed (front len kept) ≡ leb 9 len && leb len 18 && same_bytes (front 7 kept) bucket_start && eqb (get_or kept (len - 1) 0) 93 && (not (eqb (get_or kept 7 0) 48) || eqb len 9)
  unfolding is_bracketed
  bracketed_front =
      cases (leb 9 len)
      (λ t. let h = leb-true 9 len t in
      rw (front_length len kept, front_take 7 len kept (omega arith), front_at len kept (len - 1) (omega arith), front_at len kept 7 (omega arith)))
      (λ f. rw (front_length len kept, f))

  pub between_front : 9 ≤ len → between (front len kept) ≡ front (len - 8) (drop 7 kept)
  between_front h =
      let e : len ≡ 7 + (len - 7) = omega arith in
      ap (λ (n : ℕ). take (n - 8) (drop 7 (front len kept))) (front_length len kept)
      ∙ ap (λ (n : ℕ). take (len - 8) (drop 7 (front n kept))) e
      ∙ ap (take (len - 8)) (front_drop 7 (len - 7) kept)
      ∙ front_take (len - 8) (len - 7) (drop 7 kept) (omega arith)
