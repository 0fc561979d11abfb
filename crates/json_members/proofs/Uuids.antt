-- A uuid byte by byte: at each place a digit or a hyphen, as the groups of the rule say.
use Prim.Native.Nat.{ℕ, zero, suc, ◌+◌, ◌*◌, ◌%◌, ◌≤◌, ◌<◌}
use mathlib.Core.Path.{◌≡◌, refl, sym, ap, ◌∙◌}
use mathlib.Core.Bool.{Bool, true, false, not, ◌&&◌, true≢false}
use mathlib.Core.List.{List, [], ◌∷◌, ◌++◌}
use native.Mathlib.Omega.{arith}
use native.Mathlib.Numerals.{add-one}
use borrow.Author.Tests.{eqb-true, ne_eqb, leb-true, not-false}
use borrow.Table.Steps.{cases}
use lib.Dec.{eqb, leb, eqb-zero-suc, eqb-suc-zero, eqb-suc-suc}
use lib.ListN.{length, get_or, take, drop, replicate, drop_of_length-le, get_or-eq_default}
use lib.Seq.{drop-cons}
use Rattle.rules.specs.Words.{all, any, keep, is_empty, same_bytes}
use Rattle.rules.proofs.Checks.{and_left, and_right}
use Rattle.json_rule.specs.Lexemes.{is_digit, is_hex}
use Rattle.json_rule.specs.Values.{hex_value}
use Rattle.json_rule.specs.Records.{hex_bytes, uuid_of}
use Rattle.json_rule.specs.Defects.{hex_groups, is_uuid}
use Rattle.json_machine.specs.Digest.{hex_of}
use Rattle.json_machine.proofs.Escapes.{hex_is, hex_small}
use Rattle.json_members.specs.Kept.{front}
use Rattle.json_members.specs.Uuids.{hyphen, hyphens, is_right_at, place_of, uuid_byte}
use Rattle.json_members.proofs.Cases.{is_key, done, ◌&◌, all_below_lem, only_keys, by_keys}
use Rattle.json_members.proofs.Fronts.{front_at}

-- ---- the form of some groups of digits: true where a digit stands, false where a hyphen does

abbrev pub form_of : List ℕ → List Bool
form_of [] = []
form_of (n ∷ []) = replicate n true
form_of (n ∷ m ∷ ns) = replicate n true ++ false ∷ form_of (m ∷ ns)

abbrev pub fits : Bool → ℕ → Bool
fits true b = is_hex b
fits false b = eqb b hyphen

abbrev pub follows : List Bool → List ℕ → Bool
follows [] bs = is_empty bs
follows (p ∷ ps) [] = false
follows (p ∷ ps) (b ∷ bs) = fits p b && follows ps bs

-- the first digit's test stands in front of the others
before_length : (a b c : Bool) → a && (b && c) ≡ b && (a && c)
before_length true true c = refl
before_length true false c = refl
before_length false true c = refl
before_length false false c = refl

before_group : (a b c d e : Bool) → a && (b && c) && d && e ≡ b && (a && c && d && e)
before_group true true c d e = refl
before_group true false c d e = refl
before_group false true c d e = refl
before_group false false c d e = refl

last_group : (n : ℕ) (bs : List ℕ) → eqb (length bs) n && all is_hex bs ≡ follows (replicate n true) bs
last_group zero [] = refl
last_group zero (b ∷ bs) = rw (eqb-suc-zero (length bs))
last_group (suc n) [] = rw (eqb-zero-suc n)
last_group (suc n) (b ∷ bs) =
    rw (eqb-suc-suc (length bs) n) (before_length (eqb (length bs) n) (is_hex b) (all is_hex bs) ∙ ap (λ (t : Bool). is_hex b && t) (last_group n bs))

module _ (f : List Bool) (after : List ℕ → Bool) (same : (bs : List ℕ) → after bs ≡ follows f bs) where
  group : (n : ℕ) (bs : List ℕ) → eqb (length (take n bs)) n && all is_hex (take n bs) && same_bytes (take 1 (drop n bs)) (hyphen ∷ []) && after (drop (suc n) bs) ≡ follows (replicate n true ++ false ∷ f) bs
  group zero [] = refl
  group zero (b ∷ bs) = cases (eqb b hyphen) (λ t. rw t (same bs)) (λ t. rw t)
  group (suc n) [] = rw (eqb-zero-suc n)
  group (suc n) (b ∷ bs) =
      rw (eqb-suc-suc (length (take n bs)) n)
      (before_group (eqb (length (take n bs)) n) (is_hex b) (all is_hex (take n bs)) (same_bytes (take 1 (drop n bs)) (hyphen ∷ [])) (after (drop (suc n) bs))
      ∙ ap (λ (t : Bool). is_hex b && t) (group n bs))

groups_follow : (ns : List ℕ) (bs : List ℕ) → hex_groups ns bs ≡ follows (form_of ns) bs
groups_follow [] bs = refl
groups_follow (n ∷ []) bs = last_group n bs
groups_follow (n ∷ m ∷ ns) bs = group (form_of (m ∷ ns)) (hex_groups (m ∷ ns)) (groups_follow (m ∷ ns)) n bs

-- ---- the form of a uuid

abbrev pub form : List Bool
form = form_of (8 ∷ 4 ∷ 4 ∷ 4 ∷ 12 ∷ [])

pub uuid_follows : (bs : List ℕ) → is_uuid bs ≡ follows form bs
unfolding is_uuid
uuid_follows bs = groups_follow (8 ∷ 4 ∷ 4 ∷ 4 ∷ 12 ∷ []) bs

other_length : (ps : List Bool) (bs : List ℕ) → (length bs ≡ length ps → ⊥) → follows ps bs ≡ false
other_length [] [] n = absurd (n refl)
other_length [] (b ∷ bs) n = refl
other_length (p ∷ ps) [] n = refl
other_length (p ∷ ps) (b ∷ bs) n = cases (fits p b) (λ t. rw t (other_length ps bs (λ e. n (ap suc e)))) (λ f. rw f)

pub uuid_length : (bs : List ℕ) → (length bs ≡ 36 → ⊥) → is_uuid bs ≡ false
uuid_length bs n = uuid_follows bs ∙ other_length form bs n

-- ---- byte by byte

digit_at : (i : ℕ) → any (eqb i) hyphens ≡ false → get_or form i true ≡ true
digit_at i n =
    not-false (get_or form i true)
    (only_keys (λ k. not (get_or form k true)) 36 (hyphens ∷ []) refl (λ x h. ap not (get_or-eq_default form true h)) i (rw n))

right_fits : (i b : ℕ) → is_right_at i b ≡ fits (get_or form i true) b
unfolding is_right_at
right_fits i b = by_keys (λ k. is_right_at k b ≡ fits (get_or form k true) b) hyphens i (refl & refl & refl & refl & done) (λ n. rw (n, digit_at i n))

module _ (bs : List ℕ) (i : ℕ) (long : length bs ≡ 36) (h : i < 36) where
  pub follow_on : is_right_at i (get_or bs i 0) ≡ true → follows (drop i form) (drop i bs) ≡ follows (drop (i + 1) form) (drop (i + 1) bs)
  follow_on e = rw (drop-cons form i true h, drop-cons bs i 0 (omega arith), sym (right_fits i (get_or bs i 0)) ∙ e, add-one)

  pub follow_not : is_right_at i (get_or bs i 0) ≡ false → follows (drop i form) (drop i bs) ≡ false
  follow_not e = rw (drop-cons form i true h, drop-cons bs i 0 (omega arith), sym (right_fits i (get_or bs i 0)) ∙ e)

pub follow_end : (bs : List ℕ) (i : ℕ) → length bs ≡ 36 → 36 ≤ i → follows (drop i form) (drop i bs) ≡ true
follow_end bs i long h = rw (drop_of_length-le form {i = i} h, drop_of_length-le bs {i = i} (omega arith))

-- ---- the bytes of a uuid

-- what stands where the form has digits
abbrev picked : List Bool → List ℕ → List ℕ
picked [] bs = []
picked (p ∷ ps) [] = []
picked (true ∷ ps) (b ∷ bs) = b ∷ picked ps bs
picked (false ∷ ps) (b ∷ bs) = picked ps bs

no_digit : (b : ℕ) → eqb b hyphen ≡ true → is_hex b ≡ false
unfolding is_digit is_hex
no_digit b e = rw (eqb-true b hyphen e)

digits_picked : (ps : List Bool) (bs : List ℕ) → follows ps bs ≡ true → keep is_hex bs ≡ picked ps bs
digits_picked [] [] e = refl
digits_picked [] (b ∷ bs) e = absurd (true≢false (sym e))
digits_picked (p ∷ ps) [] e = absurd (true≢false (sym e))
digits_picked (true ∷ ps) (b ∷ bs) e = rw (and_left (is_hex b) (follows ps bs) e) (ap (λ (l : List ℕ). b ∷ l) (digits_picked ps bs (and_right (is_hex b) (follows ps bs) e)))
digits_picked (false ∷ ps) (b ∷ bs) e = rw (no_digit b (and_left (eqb b hyphen) (follows ps bs) e)) (digits_picked ps bs (and_right (eqb b hyphen) (follows ps bs) e))

-- the first slots, each by its number
abbrev spread : ℕ → ℕ → List ℕ → List ℕ
spread zero i slots = []
spread (suc n) i slots = get_or slots i 0 ∷ spread n (suc i) slots

spread_on : (n i b : ℕ) (slots : List ℕ) → spread n (suc i) (b ∷ slots) ≡ spread n i slots
spread_on zero i b slots = refl
spread_on (suc n) i b slots = ap (λ (l : List ℕ). get_or slots i 0 ∷ l) (spread_on n (suc i) b slots)

spread_none : (n i : ℕ) → spread n (suc i) [] ≡ spread n i []
spread_none zero i = refl
spread_none (suc n) i = ap (λ (l : List ℕ). 0 ∷ l) (spread_none n (suc i))

front_spread : (n : ℕ) (slots : List ℕ) → front n slots ≡ spread n 0 slots
unfolding front
front_spread zero slots = refl
front_spread (suc n) [] = ap (λ (l : List ℕ). 0 ∷ l) (front_spread n [] ∙ sym (spread_none n 0))
front_spread (suc n) (b ∷ slots) = ap (λ (l : List ℕ). b ∷ l) (front_spread n slots ∙ sym (spread_on n 0 b slots))

follows_at : (ps : List Bool) (bs : List ℕ) (i : ℕ) → follows ps bs ≡ true → get_or ps i false ≡ true → is_hex (get_or bs i 0) ≡ true
follows_at [] bs i e d = absurd (true≢false (sym d))
follows_at (p ∷ ps) [] i e d = absurd (true≢false (sym e))
follows_at (p ∷ ps) (b ∷ bs) zero e d = and_left (is_hex b) (follows ps bs) (rw d at e)
follows_at (p ∷ ps) (b ∷ bs) (suc i) e d = follows_at ps bs i (and_right (fits p b) (follows ps bs) e) d

-- where the digits of the sixteen bytes stand

abbrev sixteen : List ℕ
sixteen = 0 ∷ 1 ∷ 2 ∷ 3 ∷ 4 ∷ 5 ∷ 6 ∷ 7 ∷ 8 ∷ 9 ∷ 10 ∷ 11 ∷ 12 ∷ 13 ∷ 14 ∷ 15 ∷ []

pub place_small : (k : ℕ) → k < 16 → place_of k ≤ 34
unfolding place_of
place_small k h = leb-true (place_of k) 34 (all_below_lem 16 (λ x. leb (place_of x) 34) refl k h)

digits_there : (k : ℕ) → k < 16 → get_or form (place_of k) false && get_or form (place_of k + 1) false ≡ true
unfolding place_of
digits_there k h = all_below_lem 16 (λ x. get_or form (place_of x) false && get_or form (place_of x + 1) false) refl k h

digits_value_lem : (a b : ℕ) → is_hex a ≡ true → is_hex b ≡ true → hex_of a % 16 * 16 + hex_of b % 16 ≡ hex_value a * 16 + hex_value b
digits_value_lem a b e f = omega (arith, hex_is a e, hex_small a e, hex_is b f, hex_small b f)

module _ (slots : List ℕ) (is : is_uuid (front 36 slots) ≡ true) where
  bytes_picked : uuid_of (front 36 slots) ≡ hex_bytes (picked form (spread 36 0 slots))
  bytes_picked =
      ap hex_bytes (digits_picked form (front 36 slots) (sym (uuid_follows (front 36 slots)) ∙ is))
      ∙ ap (λ (l : List ℕ). hex_bytes (picked form l)) (front_spread 36 slots)

  -- each has two digits
  abbrev Digits : ℕ → Type 0
  Digits k = hex_value (get_or slots (place_of k) 0) * 16 + hex_value (get_or slots (place_of k + 1) 0) ≡ get_or (hex_bytes (picked form (spread 36 0 slots))) k 0

  two_digits : (k : ℕ) → k < 16 → Digits k
  unfolding place_of
  two_digits k h =
      by_keys Digits sixteen k
      (refl & refl & refl & refl & refl & refl & refl & refl & refl & refl & refl & refl & refl & refl & refl & refl & done)
      (λ n. absurd (true≢false (sym (all_below_lem 16 (λ x. any (eqb x) sixteen) refl k h) ∙ n)))

  is_digit_lem : (i : ℕ) → i < 36 → get_or form i false ≡ true → is_hex (get_or slots i 0) ≡ true
  is_digit_lem i h e = sym (ap is_hex (front_at 36 slots i h)) ∙ follows_at form (front 36 slots) i (sym (uuid_follows (front 36 slots)) ∙ is) e

  pub uuid_byte_lem : (k : ℕ) → k < 16 → uuid_byte slots k ≡ get_or (uuid_of (front 36 slots)) k 0
  unfolding uuid_byte
  uuid_byte_lem k h =
      let p = place_small k h in
      let two = digits_there k h in
      digits_value_lem (get_or slots (place_of k) 0) (get_or slots (place_of k + 1) 0) (is_digit_lem (place_of k) (omega arith) (and_left (get_or form (place_of k) false) _ two)) (is_digit_lem (place_of k + 1) (omega arith) (and_right (get_or form (place_of k) false) _ two))
      ∙ two_digits k h
      ∙ ap (λ (l : List ℕ). get_or l k 0) (sym bytes_picked)

  pub uuid_long : length (uuid_of (front 36 slots)) ≡ 16
  uuid_long = ap length bytes_picked

-- ---- one place

hex_test : (b : ℕ) → not (eqb (hex_of b) 16) ≡ is_hex b
unfolding hex_of
hex_test b = cases (is_hex b) (λ t. rw (t, ne_eqb (hex_value b) 16 (λ e. omega (arith, hex_small b t)))) (λ f. rw f)

pub digit_right : (i b : ℕ) → is_key (hyphens ∷ []) i ≡ false → not (eqb (hex_of b) 16) ≡ is_right_at i b
unfolding is_right_at
digit_right i b n = cases (any (eqb i) hyphens) (λ t. absurd (true≢false (rw t at n))) (λ f. rw f (hex_test b))
