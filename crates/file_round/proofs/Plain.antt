-- Texts of a form of their own, which need no escapes: uuids and transforms of partition fields.
use Prim.Native.Nat.{ℕ, zero, suc, ◌+◌, ◌/◌, ◌%◌, ◌≤◌, ◌<◌}
use native.Mathlib.Omega.{arith}
use mathlib.Core.Path.{◌≡◌, refl, ◌∙◌, sym, ap}
use mathlib.Core.Bool.{Bool, true, false, cond, not, ◌&&◌, false≢true}
use mathlib.Core.List.{List, [], ◌∷◌, ◌++◌, append_assoc}
use lib.Dec.{eqb, leb, ltb}
use lib.IntN.{ℤ, pos, negsuc}
use lib.ListN.{length, take, drop}
use lib.Signed.{le_z}
use borrow.Author.Tests.{eqb-true, ltb-true, ltb-false, leb-true, le-leb, le-ltb, ne_eqb, not-true}
use Rattle.rules.specs.Words.{all, keep, eq_z}
use Rattle.rules.specs.Partitions.{identity, year, month, day}
use Rattle.rules.specs.WellFormed.{transform_formed}
use Rattle.rules.proofs.Checks.{by_test, by_either, both, and_left, and_right, or_right}
use Rattle.rules.proofs.Orders.{names_told_lem}
use Rattle.rules.proofs.Tables.{all_append, all_drop}
use Rattle.json_rule.specs.Letters.{bytes}
use Rattle.json_rule.specs.Lexemes.{within, is_digit, is_hex}
use Rattle.json_rule.specs.Values.{digits_value}
use Rattle.json_rule.specs.Records.{hex_bytes, uuid_of, transform_of, buckets_of}
use Rattle.json_rule.specs.Defects.{is_uuid, is_transform, is_bucket}
use Rattle.file_rule.specs.Written.{hex_digit, escaped_byte, escaped_bytes, quoted, digits_in, number_text}
use Rattle.file_rule.specs.Files.{hex_byte, uuid_from, uuid_text, transform_text}
use Rattle.file_rule.specs.Export.{is_utf8}
use Rattle.file_round.proofs.Numbers.{Digits, digits, digits_written, digits_read, all_digits}
use Rattle.file_round.proofs.Texts.{is_hex_lem, hex_back}

-- ---- bytes that stand for themselves

-- printable ASCII without quotation mark and backslash
abbrev pub is_plain : ℕ → Bool
is_plain b = within 32 127 b && not (eqb b 34) && not (eqb b 92)

plain_byte : (b : ℕ) → is_plain b ≡ true → escaped_byte b ≡ b ∷ []
unfolding escaped_byte
plain_byte b h =
    let w : within 32 127 b ≡ true = and_left (within 32 127 b) (not (eqb b 34)) (and_left (within 32 127 b && not (eqb b 34)) (not (eqb b 92)) h) in
    let k : 32 ≤ b = leb-true 32 b (and_left (leb 32 b) (leb b 127) w) in
    rw (not-true (eqb b 34) (and_right (within 32 127 b) (not (eqb b 34)) (and_left (within 32 127 b && not (eqb b 34)) (not (eqb b 92)) h)), not-true (eqb b 92) (and_right (within 32 127 b && not (eqb b 34)) (not (eqb b 92)) h), ne_eqb b 8 (λ e. omega arith), ne_eqb b 12 (λ e. omega arith), ne_eqb b 10 (λ e. omega arith), ne_eqb b 13 (λ e. omega arith), ne_eqb b 9 (λ e. omega arith), le-ltb b 32 k)

plain_bytes : (s : List ℕ) → all is_plain s ≡ true → escaped_bytes s ≡ s
plain_bytes [] h = refl
plain_bytes (b ∷ s) h =
    ap (λ l. l ++ escaped_bytes s) (plain_byte b (and_left (is_plain b) (all is_plain s) h)) ∙ ap (λ l. b ∷ l) (plain_bytes s (and_right (is_plain b) (all is_plain s) h))

plain_quoted : (s : List ℕ) → all is_plain s ≡ true → 34 ∷ s ++ (34 ∷ []) ≡ quoted s
unfolding quoted
plain_quoted s h = ap (λ l. 34 ∷ l ++ (34 ∷ [])) (sym (plain_bytes s h))

plain_utf8 : (s : List ℕ) → all is_plain s ≡ true → is_utf8 s ≡ true
unfolding is_utf8
plain_utf8 [] h = refl
plain_utf8 (b ∷ s) h =
    let w : within 32 127 b ≡ true = and_left (within 32 127 b) (not (eqb b 34)) (and_left (within 32 127 b && not (eqb b 34)) (not (eqb b 92)) (and_left (is_plain b) (all is_plain s) h)) in
    rw (le-leb 0 b (omega arith), and_right (leb 32 b) (leb b 127) w) (plain_utf8 s (and_right (is_plain b) (all is_plain s) h))

-- ---- uuids

-- two digits for each byte
abbrev pairs : List ℕ → List ℕ
pairs [] = []
pairs (b ∷ bs) = hex_digit (b / 16) ∷ hex_digit (b % 16) ∷ pairs bs

hex_plain : (n : ℕ) → n < 16 → is_plain (hex_digit n) ≡ true
hex_plain n h =
    by_test (λ b. is_plain b ≡ true) (ltb n 10)
    (λ p. let k : n < 10 = ltb-true n 10 p in rw (le-leb 32 (48 + n) (omega arith), le-leb (48 + n) 127 (omega arith), ne_eqb (48 + n) 34 (λ e. omega arith), ne_eqb (48 + n) 92 (λ e. omega arith)))
    (λ p. let k : 10 ≤ n = ltb-false n 10 p in rw (le-leb 32 (87 + n) (omega arith), le-leb (87 + n) 127 (omega arith), ne_eqb (87 + n) 34 (λ e. omega arith), ne_eqb (87 + n) 92 (λ e. omega arith)))

-- a byte of eight bits
abbrev pub is_byte : ℕ → Bool
is_byte b = ltb b 256

abbrev pub dash : ℕ → List ℕ
dash i = cond (eqb i 4) (45 ∷ []) (cond (eqb i 6) (45 ∷ []) (cond (eqb i 8) (45 ∷ []) (cond (eqb i 10) (45 ∷ []) [])))

-- a hyphen, or nothing
by_dash : (P : List ℕ → Type 0) → P [] → P (45 ∷ []) → (i : ℕ) → P (dash i)
by_dash P n d i = by_test P (eqb i 4) (λ _. d) (λ _. by_test P (eqb i 6) (λ _. d) (λ _. by_test P (eqb i 8) (λ _. d) (λ _. by_test P (eqb i 10) (λ _. d) (λ _. n))))

halves : (b : ℕ) → is_byte b ≡ true → (b / 16 < 16) × (b % 16 < 16)
halves b h = let k : b < 256 = ltb-true b 256 h in (omega arith, omega arith)

uuid_plain : (i : ℕ) (bs : List ℕ) → all is_byte bs ≡ true → all is_plain (uuid_from i bs) ≡ true
uuid_plain i [] h = refl
uuid_plain i (b ∷ bs) h =
    let k = halves b (and_left (is_byte b) (all is_byte bs) h) in
    all_append is_plain (dash i ++ hex_byte b) (uuid_from (1 + i) bs)
    (all_append is_plain (dash i) (hex_byte b) (by_dash (λ l. all is_plain l ≡ true) refl refl i) (both (hex_plain (b / 16) k.0) (both (hex_plain (b % 16) k.1) refl)))
    (uuid_plain (1 + i) bs (and_right (is_byte b) (all is_byte bs) h))

digits_kept : (b : ℕ) (l : List ℕ) → is_byte b ≡ true → keep is_hex (hex_byte b ++ l) ≡ hex_byte b ++ keep is_hex l
digits_kept b l h = let k = halves b h in rw (is_hex_lem (b / 16) k.0, is_hex_lem (b % 16) k.1)

byte_back : (b : ℕ) (l : List ℕ) → is_byte b ≡ true → hex_bytes (hex_byte b ++ l) ≡ b ∷ hex_bytes l
byte_back b l h = let k = halves b h in ap (λ x. x ∷ hex_bytes l) (rw (hex_back (b / 16) k.0, hex_back (b % 16) k.1) (omega arith))

dash_dropped : (i : ℕ) (l : List ℕ) → keep is_hex (dash i ++ l) ≡ keep is_hex l
unfolding is_hex is_digit
dash_dropped i l = by_dash (λ d. keep is_hex (d ++ l) ≡ keep is_hex l) refl refl i

-- two digits a byte
pub uuid_back : (i : ℕ) (bs : List ℕ) → all is_byte bs ≡ true → uuid_of (uuid_from i bs) ≡ bs
uuid_back i [] h = refl
uuid_back i (b ∷ bs) h =
    let k : is_byte b ≡ true = and_left (is_byte b) (all is_byte bs) h in
    ap uuid_of (append_assoc (dash i) (hex_byte b) (uuid_from (1 + i) bs))
    ∙ ap hex_bytes (dash_dropped i (hex_byte b ++ uuid_from (1 + i) bs) ∙ digits_kept b (uuid_from (1 + i) bs) k)
    ∙ byte_back b (keep is_hex (uuid_from (1 + i) bs)) k
    ∙ ap (λ l. b ∷ l) (uuid_back (1 + i) bs (and_right (is_byte b) (all is_byte bs) h))

pub uuid_text_lem : (bs : List ℕ) → all is_byte bs ≡ true → uuid_text bs ≡ quoted (uuid_from 0 bs)
unfolding uuid_text
uuid_text_lem bs h = plain_quoted (uuid_from 0 bs) (uuid_plain 0 bs h)

pub uuid_utf8 : (bs : List ℕ) → all is_byte bs ≡ true → is_utf8 (uuid_from 0 bs) ≡ true
uuid_utf8 bs h = plain_utf8 (uuid_from 0 bs) (uuid_plain 0 bs h)

-- the digits of a group
all_hex : (bs l : List ℕ) → all is_byte bs ≡ true → all is_hex l ≡ true → all is_hex (pairs bs ++ l) ≡ true
all_hex [] l h k = k
all_hex (b ∷ bs) l h k =
    let m = halves b (and_left (is_byte b) (all is_byte bs) h) in
    both (is_hex_lem (b / 16) m.0) (both (is_hex_lem (b % 16) m.1) (all_hex bs l (and_right (is_byte b) (all is_byte bs) h) k))

all_take : (n : ℕ) (bs : List ℕ) → all is_byte bs ≡ true → all is_byte (take n bs) ≡ true
all_take zero bs h = refl
all_take (suc n) [] h = refl
all_take (suc n) (b ∷ bs) h = both (and_left (is_byte b) (all is_byte bs) h) (all_take n bs (and_right (is_byte b) (all is_byte bs) h))

-- a group of so many bytes, behind so many
group : (at n : ℕ) (bs : List ℕ) → all is_byte bs ≡ true → all is_hex (pairs (take n (drop at bs)) ++ []) ≡ true
group at n bs h = all_hex (take n (drop at bs)) [] (all_take n (drop at bs) (all_drop is_byte at bs h)) refl

-- sixteen bytes are written as a uuid
pub uuid_formed : (bs : List ℕ) → length bs ≡ 16 → all is_byte bs ≡ true → is_uuid (uuid_from 0 bs) ≡ true
unfolding is_uuid
uuid_formed [] n h = absurd (omega arith)
uuid_formed (b₀ ∷ []) n h = absurd (omega arith)
uuid_formed (b₀ ∷ b₁ ∷ []) n h = absurd (omega arith)
uuid_formed (b₀ ∷ b₁ ∷ b₂ ∷ []) n h = absurd (omega arith)
uuid_formed (b₀ ∷ b₁ ∷ b₂ ∷ b₃ ∷ []) n h = absurd (omega arith)
uuid_formed (b₀ ∷ b₁ ∷ b₂ ∷ b₃ ∷ b₄ ∷ []) n h = absurd (omega arith)
uuid_formed (b₀ ∷ b₁ ∷ b₂ ∷ b₃ ∷ b₄ ∷ b₅ ∷ []) n h = absurd (omega arith)
uuid_formed (b₀ ∷ b₁ ∷ b₂ ∷ b₃ ∷ b₄ ∷ b₅ ∷ b₆ ∷ []) n h = absurd (omega arith)
uuid_formed (b₀ ∷ b₁ ∷ b₂ ∷ b₃ ∷ b₄ ∷ b₅ ∷ b₆ ∷ b₇ ∷ []) n h = absurd (omega arith)
uuid_formed (b₀ ∷ b₁ ∷ b₂ ∷ b₃ ∷ b₄ ∷ b₅ ∷ b₆ ∷ b₇ ∷ b₈ ∷ []) n h = absurd (omega arith)
uuid_formed (b₀ ∷ b₁ ∷ b₂ ∷ b₃ ∷ b₄ ∷ b₅ ∷ b₆ ∷ b₇ ∷ b₈ ∷ b₉ ∷ []) n h = absurd (omega arith)
uuid_formed (b₀ ∷ b₁ ∷ b₂ ∷ b₃ ∷ b₄ ∷ b₅ ∷ b₆ ∷ b₇ ∷ b₈ ∷ b₉ ∷ b₁₀ ∷ []) n h = absurd (omega arith)
uuid_formed (b₀ ∷ b₁ ∷ b₂ ∷ b₃ ∷ b₄ ∷ b₅ ∷ b₆ ∷ b₇ ∷ b₈ ∷ b₉ ∷ b₁₀ ∷ b₁₁ ∷ []) n h = absurd (omega arith)
uuid_formed (b₀ ∷ b₁ ∷ b₂ ∷ b₃ ∷ b₄ ∷ b₅ ∷ b₆ ∷ b₇ ∷ b₈ ∷ b₉ ∷ b₁₀ ∷ b₁₁ ∷ b₁₂ ∷ []) n h = absurd (omega arith)
uuid_formed (b₀ ∷ b₁ ∷ b₂ ∷ b₃ ∷ b₄ ∷ b₅ ∷ b₆ ∷ b₇ ∷ b₈ ∷ b₉ ∷ b₁₀ ∷ b₁₁ ∷ b₁₂ ∷ b₁₃ ∷ []) n h = absurd (omega arith)
uuid_formed (b₀ ∷ b₁ ∷ b₂ ∷ b₃ ∷ b₄ ∷ b₅ ∷ b₆ ∷ b₇ ∷ b₈ ∷ b₉ ∷ b₁₀ ∷ b₁₁ ∷ b₁₂ ∷ b₁₃ ∷ b₁₄ ∷ []) n h = absurd (omega arith)
uuid_formed (b₀ ∷ b₁ ∷ b₂ ∷ b₃ ∷ b₄ ∷ b₅ ∷ b₆ ∷ b₇ ∷ b₈ ∷ b₉ ∷ b₁₀ ∷ b₁₁ ∷ b₁₂ ∷ b₁₃ ∷ b₁₄ ∷ b₁₅ ∷ []) n h =
    both (both (both refl (group 0 4 bs h)) refl)
    (both (both (both refl (group 4 2 bs h)) refl)
    (both (both (both refl (group 6 2 bs h)) refl)
    (both (both (both refl (group 8 2 bs h)) refl)
    (both refl (group 10 6 bs h)))))
  where
    bs : List ℕ
    bs = b₀ ∷ b₁ ∷ b₂ ∷ b₃ ∷ b₄ ∷ b₅ ∷ b₆ ∷ b₇ ∷ b₈ ∷ b₉ ∷ b₁₀ ∷ b₁₁ ∷ b₁₂ ∷ b₁₃ ∷ b₁₄ ∷ b₁₅ ∷ []
uuid_formed (b₀ ∷ b₁ ∷ b₂ ∷ b₃ ∷ b₄ ∷ b₅ ∷ b₆ ∷ b₇ ∷ b₈ ∷ b₉ ∷ b₁₀ ∷ b₁₁ ∷ b₁₂ ∷ b₁₃ ∷ b₁₄ ∷ b₁₅ ∷ b₁₆ ∷ bs) n h = absurd (omega arith)

-- ---- transforms

abbrev pub transform_word : ℕ → ℤ → List ℕ
transform_word t n =
    cond (eqb t identity) (bytes "identity")
    (cond (eqb t year) (bytes "year")
    (cond (eqb t month) (bytes "month")
    (cond (eqb t day) (bytes "day")
    (bytes "bucket[" ++ number_text n ++ bytes "]"))))

-- what is written is read back
pub record Written (t : ℕ) (n : ℤ) (word : List ℕ) : Type 0 where
  pub written : transform_text t n ≡ quoted word
  pub is_text : is_utf8 word ≡ true
  pub formed : is_transform word ≡ true
  pub kind : transform_of word ≡ t
  pub buckets : buckets_of word ≡ n

-- the transforms that are held
pub data Held : ℕ → ℤ → Type 0 where
  an_identity : Held 1 (pos 0)
  a_year : Held 2 (pos 0)
  a_month : Held 3 (pos 0)
  a_day : Held 4 (pos 0)
  a_bucket : (n : ℕ) → 0 < n → Held 5 (pos n)

plain_held : (t : ℕ) (n : ℤ) → (leb 1 t && leb t 4 && eq_z n (pos 0)) ≡ true → Held t n
plain_held t (negsuc n) h = absurd (false≢true (and_right (leb 1 t && leb t 4) false h))
plain_held t (pos n) h = rw (eqb-true n 0 (and_right (leb 1 t && leb t 4) (eqb n 0) h)) (go t (and_left (leb 1 t && leb t 4) (eqb n 0) h))
  where
    go : (t : ℕ) → (leb 1 t && leb t 4) ≡ true → Held t (pos 0)
    go zero k = absurd (false≢true k)
    go (suc zero) k = an_identity
    go (suc (suc zero)) k = a_year
    go (suc (suc (suc zero))) k = a_month
    go (suc (suc (suc (suc zero)))) k = a_day
    go (suc (suc (suc (suc (suc t))))) k = absurd (let e : suc (suc (suc (suc (suc t)))) ≤ 4 = leb-true (suc (suc (suc (suc (suc t))))) 4 (and_right (leb 1 (suc (suc (suc (suc (suc t)))))) (leb (suc (suc (suc (suc (suc t))))) 4) k) in omega arith)

bucket_held : (t : ℕ) (n : ℤ) → (eqb t 5 && le_z (pos 1) n) ≡ true → Held t n
bucket_held t (negsuc n) h = absurd (false≢true (and_right (eqb t 5) false h))
bucket_held t (pos n) h = rw (eqb-true t 5 (and_left (eqb t 5) (leb 1 n) h)) (a_bucket n (leb-true 1 n (and_right (eqb t 5) (leb 1 n) h)))

pub held : (t : ℕ) (n : ℤ) → transform_formed t n ≡ true → Held t n
held t n h = by_either (leb 1 t && leb t 4 && eq_z n (pos 0)) (eqb t 5 && le_z (pos 1) n) (plain_held t n) (bucket_held t n) h

-- the digits of a bucket
digit_plain : (b : ℕ) → is_digit b ≡ true → is_plain b ≡ true
unfolding is_digit
digit_plain b h =
    let k : 48 ≤ b = leb-true 48 b (and_left (leb 48 b) (leb b 57) h) in
    let l : b ≤ 57 = leb-true b 57 (and_right (leb 48 b) (leb b 57) h) in
    rw (le-leb 32 b (omega arith), le-leb b 127 (omega arith), ne_eqb b 34 (λ e. omega arith), ne_eqb b 92 (λ e. omega arith))

digits_plain : (s : List ℕ) → all is_digit s ≡ true → all is_plain s ≡ true
digits_plain [] h = refl
digits_plain (b ∷ s) h = both (digit_plain b (and_left (is_digit b) (all is_digit s) h)) (digits_plain s (and_right (is_digit b) (all is_digit s) h))

kept : (s : List ℕ) → all is_digit s ≡ true → keep is_digit (s ++ (93 ∷ [])) ≡ s
unfolding is_digit
kept [] h = refl
kept (b ∷ s) h = rw (and_left (is_digit b) (all is_digit s) h) (ap (λ l. b ∷ l) (kept s (and_right (is_digit b) (all is_digit s) h)))

bucket_formed : {s : List ℕ} → Digits s → digits_value 0 s ≤ 2147483647 → is_bucket (bytes "bucket[" ++ s ++ bytes "]") ≡ true
unfolding is_bucket
bucket_formed (digits b bs x y z) h =
    rw (kept (b ∷ bs) (both x z))
    (both (both (both (names_told_lem.itself (bytes "bucket[" ++ (b ∷ bs) ++ bytes "]")) (le-leb 1 (suc (length bs)) (omega arith))) (or_right (eqb (suc (length bs)) 1) (rw y))) (le-leb (digits_value 0 (b ∷ bs)) 2147483647 h))

bucket_word : (n : ℕ) → 0 < n → n ≤ 2147483647 → Written 5 (pos n) (transform_word 5 (pos n))
unfolding number_text is_transform transform_text is_digit
bucket_word n p h =
    record {
      written = ap (λ l. 34 ∷ 98 ∷ 117 ∷ 99 ∷ 107 ∷ 101 ∷ 116 ∷ 91 ∷ l) (sym (append_assoc s (93 ∷ []) (34 ∷ []))) ∙ plain_quoted (transform_word 5 (pos n)) plain;
      is_text = plain_utf8 (transform_word 5 (pos n)) plain;
      formed = bucket_formed d (rw (digits_read n (omega arith)) h);
      kind = refl;
      buckets = ap (λ l. pos (digits_value 0 l)) (kept s (all_digits d)) ∙ ap pos (digits_read n (omega arith));
    }
  where
    s : List ℕ
    s = digits_in 20 n

    d : Digits s
    d = digits_written n p (omega arith)

    plain : all is_plain (transform_word 5 (pos n)) ≡ true
    plain = all_append is_plain (bytes "bucket[" ++ s) (bytes "]") (all_append is_plain (bytes "bucket[") s refl (digits_plain s (all_digits d))) refl

held_word : {t : ℕ} {n : ℤ} → Held t n → le_z n (pos 2147483647) ≡ true → Written t n (transform_word t n)
unfolding transform_text quoted escaped_byte is_utf8 is_transform is_digit
held_word an_identity h = record { written = refl; is_text = refl; formed = refl; kind = refl; buckets = refl }
held_word a_year h = record { written = refl; is_text = refl; formed = refl; kind = refl; buckets = refl }
held_word a_month h = record { written = refl; is_text = refl; formed = refl; kind = refl; buckets = refl }
held_word a_day h = record { written = refl; is_text = refl; formed = refl; kind = refl; buckets = refl }
held_word (a_bucket n p) h = bucket_word n p (leb-true n 2147483647 h)

pub transform_written : (t : ℕ) (n : ℤ) → transform_formed t n ≡ true → le_z n (pos 2147483647) ≡ true → Written t n (transform_word t n)
transform_written t n h k = held_word (held t n h) k
