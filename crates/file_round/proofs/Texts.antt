-- Texts as they are written: a text of UTF-8 between quotation marks is one lexeme, and read back it is that text.
use Prim.Native.Nat.{ℕ, zero, suc, ◌+◌, ◌*◌, ◌/◌, ◌%◌, ◌≤◌, ◌<◌}
use native.Mathlib.Omega.{arith}
use mathlib.Core.Path.{◌≡◌, refl, ◌∙◌, sym, ap}
use mathlib.Core.Bool.{Bool, true, false, cond, ◌&&◌, ◌||◌, false≢true}
use mathlib.Core.List.{List, [], ◌∷◌, ◌++◌, append_assoc}
use mathlib.Core.Option.{some}
use lib.Dec.{eqb, leb, ltb}
use lib.ListN.{length, length-append}
use borrow.Author.Tests.{eqb-true, ltb-true, ltb-false, leb-true, leb-false, le-leb, lt-leb, lt-ltb, le-ltb, ne_eqb}
use Rattle.rules.proofs.Checks.{by_test, and_left, and_right}
use Rattle.json_rule.specs.Lexemes.{within, is_space, is_digit, is_hex, is_short, Part, Ends, further, Lead, lead_of, is_lead, string, tail, part_of}
use Rattle.json_rule.specs.Values.{Unit, Code, hex_value, units, encoded, before, utf8, text_of}
use Rattle.json_rule.specs.Tree.{is_scalar}
use Rattle.file_rule.specs.Written.{hex_digit, escaped_byte, escaped_bytes, quoted}
use Rattle.file_rule.specs.Export.{is_utf8, goes_on}
use Rattle.file_round.proofs.Documents.{Token, Good, OneLexeme, lexeme_of}

-- ---- hexadecimal digits

pub is_hex_lem : (n : ℕ) → n < 16 → is_hex (hex_digit n) ≡ true
unfolding is_hex is_digit
is_hex_lem n h =
    by_test (λ b. ((leb 48 b && leb b 57) || (leb 65 b && leb b 70) || (leb 97 b && leb b 102)) ≡ true) (ltb n 10)
    (λ p. let k : n < 10 = ltb-true n 10 p in rw (le-leb 48 (48 + n) (omega arith), le-leb (48 + n) 57 (omega arith)))
    (λ p. let k : 10 ≤ n = ltb-false n 10 p in rw (le-leb 48 (87 + n) (omega arith), lt-leb (87 + n) 57 (omega arith), le-leb 65 (87 + n) (omega arith), lt-leb (87 + n) 70 (omega arith), le-leb 97 (87 + n) (omega arith), le-leb (87 + n) 102 (omega arith)))

pub hex_back : (n : ℕ) → n < 16 → hex_value (hex_digit n) ≡ n
hex_back n h =
    by_test (λ b. hex_value b ≡ n) (ltb n 10)
    (λ p. let k : n < 10 = ltb-true n 10 p in rw (le-leb (48 + n) 57 (omega arith)) (omega arith))
    (λ p. let k : 10 ≤ n = ltb-false n 10 p in rw (lt-leb (87 + n) 57 (omega arith), lt-leb (87 + n) 70 (omega arith)) (omega arith))

-- ---- one byte

-- as many bytes further
abbrev beyond : List ℕ → Part → Part
beyond [] p = p
beyond (b ∷ bs) p = further (beyond bs p)

-- what holds of the bytes that a byte is written as, by the ways in which it can be
pub by_escape : (P : ℕ → List ℕ → Type 0) → P 34 (92 ∷ 34 ∷ []) → P 92 (92 ∷ 92 ∷ []) → P 8 (92 ∷ 98 ∷ []) → P 12 (92 ∷ 102 ∷ []) → P 10 (92 ∷ 110 ∷ []) → P 13 (92 ∷ 114 ∷ []) → P 9 (92 ∷ 116 ∷ [])
    → ((b : ℕ) → b < 32 → P b (92 ∷ 117 ∷ 48 ∷ 48 ∷ hex_digit (b / 16) ∷ hex_digit (b % 16) ∷ []))
    → ((b : ℕ) → 32 ≤ b → eqb b 34 ≡ false → eqb b 92 ≡ false → P b (b ∷ [])) → (b : ℕ) → P b (escaped_byte b)
unfolding escaped_byte
by_escape P a₁ a₂ a₃ a₄ a₅ a₆ a₇ a₈ a₉ b =
    by_test (P b) (eqb b 34) (λ p. rw (eqb-true b 34 p) a₁)
    (λ q. by_test (P b) (eqb b 92) (λ p. rw (eqb-true b 92 p) a₂)
    (λ r. by_test (P b) (eqb b 8) (λ p. rw (eqb-true b 8 p) a₃)
    (λ _. by_test (P b) (eqb b 12) (λ p. rw (eqb-true b 12 p) a₄)
    (λ _. by_test (P b) (eqb b 10) (λ p. rw (eqb-true b 10 p) a₅)
    (λ _. by_test (P b) (eqb b 13) (λ p. rw (eqb-true b 13 p) a₆)
    (λ _. by_test (P b) (eqb b 9) (λ p. rw (eqb-true b 9 p) a₇)
    (λ _. by_test (P b) (ltb b 32) (λ p. a₈ b (ltb-true b 32 p)) (λ p. a₉ b (ltb-false b 32 p) q r))))))))

-- a byte of ASCII is a character by itself
byte_string : (xs : List ℕ) (b : ℕ) → b ≤ 127 → string (escaped_byte b ++ xs) ≡ beyond (escaped_byte b) (string xs)
unfolding string is_short is_hex is_digit
byte_string xs b =
    by_escape (λ c l. c ≤ 127 → string (l ++ xs) ≡ beyond l (string xs)) (λ h. refl) (λ h. refl) (λ h. refl) (λ h. refl) (λ h. refl) (λ h. refl) (λ h. refl)
    (λ c k h. rw (is_hex_lem (c / 16) (omega arith), is_hex_lem (c % 16) (omega arith)))
    (λ c k p q h. rw (p, q, le-leb 32 c k, le-leb c 127 h)) b

code_read : (us : List Unit) (e c : ℕ) → e ≡ c → c < 32 → encoded (Code e ∷ us) ≡ before (c ∷ []) (encoded us)
unfolding encoded utf8
code_read us e c q h = rw (q, lt-leb 55296 c (omega arith), lt-leb 56320 c (omega arith), lt-ltb c 128 (omega arith))

-- it is read back as that byte
byte_read : (xs : List ℕ) (b : ℕ) → encoded (units (escaped_byte b ++ xs)) ≡ before (b ∷ []) (encoded (units xs))
unfolding units encoded
byte_read xs b =
    by_escape (λ c l. encoded (units (l ++ xs)) ≡ before (c ∷ []) (encoded (units xs))) refl refl refl refl refl refl refl
    (λ c k. code_read (units xs) ((0 + hex_value (hex_digit (c / 16))) * 16 + hex_value (hex_digit (c % 16))) c (rw (hex_back (c / 16) (omega arith), hex_back (c % 16) (omega arith)) (omega arith)) k)
    (λ c k p q. rw (p, q)) b

-- ---- characters

-- the bytes behind the first of a character are no ASCII
lead_high : (b c : ℕ) → within (lead_of b).least (lead_of b).most c ≡ true → 128 ≤ c
unfolding lead_of
lead_high b c =
    by_test P (within 194 223 b) (λ _ h. above 128 191 (omega arith) h)
    (λ _. by_test P (eqb b 224) (λ _ h. above 160 191 (omega arith) h)
    (λ _. by_test P (eqb b 237) (λ _ h. above 128 159 (omega arith) h)
    (λ _. by_test P (within 225 239 b) (λ _ h. above 128 191 (omega arith) h)
    (λ _. by_test P (eqb b 240) (λ _ h. above 144 191 (omega arith) h)
    (λ _. by_test P (within 241 243 b) (λ _ h. above 128 191 (omega arith) h)
    (λ _. by_test P (eqb b 244) (λ _ h. above 128 143 (omega arith) h)
    (λ _ h. absurd (let u : 1 ≤ c = leb-true 1 c (and_left (leb 1 c) (leb c 0) h) in let v : c ≤ 0 = leb-true c 0 (and_right (leb 1 c) (leb c 0) h) in omega arith))))))))
  where
    P : Lead → Type 0
    P l = within l.least l.most c ≡ true → 128 ≤ c

    above : (low high : ℕ) → 128 ≤ low → within low high c ≡ true → 128 ≤ c
    above low high k h = let u : low ≤ c = leb-true low c (and_left (leb low c) (leb c high) h) in omega arith

-- a byte that is no ASCII is written as it is
high_byte : (b : ℕ) → 128 ≤ b → escaped_byte b ≡ b ∷ []
unfolding escaped_byte
high_byte b h =
    rw (ne_eqb b 34 (λ e. omega arith), ne_eqb b 92 (λ e. omega arith), ne_eqb b 8 (λ e. omega arith), ne_eqb b 12 (λ e. omega arith), ne_eqb b 10 (λ e. omega arith), ne_eqb b 13 (λ e. omega arith), ne_eqb b 9 (λ e. omega arith), le-ltb b 32 (omega arith))

lead_string : (b : ℕ) (xs : List ℕ) → 128 ≤ b → is_lead b ≡ true → string (b ∷ xs) ≡ further (tail (lead_of b).more (lead_of b).least (lead_of b).most xs)
unfolding string
lead_string b xs h l = rw (ne_eqb b 34 (λ e. omega arith), ne_eqb b 92 (λ e. omega arith), le-leb 32 b (omega arith), lt-leb b 127 (omega arith), l)

beyond_ends : (bs : List ℕ) (n : ℕ) → beyond bs (Ends n) ≡ Ends (length bs + n)
beyond_ends [] n = ap Ends (omega arith)
beyond_ends (b ∷ bs) n = ap further (beyond_ends bs n) ∙ ap Ends (omega arith)

-- up to the closing quotation mark
abbrev closed : List ℕ → List ℕ → List ℕ
closed bs rest = escaped_bytes bs ++ (34 ∷ rest)

abbrev ends : List ℕ → Part
ends bs = Ends (length (escaped_bytes bs) + 1)

byte_ends : (b : ℕ) (bs : List ℕ) → beyond (escaped_byte b) (ends bs) ≡ ends (b ∷ bs)
byte_ends b bs = beyond_ends (escaped_byte b) (length (escaped_bytes bs) + 1) ∙ ap Ends (omega (arith, length-append (escaped_byte b) (escaped_bytes bs)))

-- what begins with a byte that is no ASCII
high_ends : (f : List ℕ → Part) (b : ℕ) (bs rest : List ℕ) → 128 ≤ b → f (b ∷ closed bs rest) ≡ further (ends bs) → f (closed (b ∷ bs) rest) ≡ ends (b ∷ bs)
high_ends f b bs rest h e =
    ap f (append_assoc (escaped_byte b) (escaped_bytes bs) (34 ∷ rest) ∙ ap (λ l. l ++ closed bs rest) (high_byte b h))
    ∙ e ∙ ap (λ l. beyond l (ends bs)) (sym (high_byte b h)) ∙ byte_ends b bs

abbrev TextEnds : List ℕ → List ℕ → Type 0
TextEnds bs rest = is_utf8 bs ≡ true → string (closed bs rest) ≡ ends bs

abbrev CharacterEnds : List ℕ → List ℕ → Type 0
CharacterEnds bs rest = (more least most : ℕ) → ((c : ℕ) → within least most c ≡ true → 128 ≤ c) → goes_on more least most bs ≡ true → tail more least most (closed bs rest) ≡ ends bs

next_text : (b : ℕ) (bs rest : List ℕ) → TextEnds bs rest → CharacterEnds bs rest → TextEnds (b ∷ bs) rest
unfolding is_utf8
next_text b bs rest t c = go (within 0 127 b) refl
  where
    go : (q : Bool) → within 0 127 b ≡ q → cond q (is_utf8 bs) (is_lead b && goes_on (lead_of b).more (lead_of b).least (lead_of b).most bs) ≡ true → string (closed (b ∷ bs) rest) ≡ ends (b ∷ bs)
    go true e h =
        ap string (append_assoc (escaped_byte b) (escaped_bytes bs) (34 ∷ rest))
        ∙ byte_string (closed bs rest) b (leb-true b 127 (and_right (leb 0 b) (leb b 127) e))
        ∙ ap (λ p. beyond (escaped_byte b) p) (t h)
        ∙ byte_ends b bs
    go false e h =
        let high : 127 < b = leb-false b 127 (rw (le-leb 0 b (omega arith)) at e) in
        let l : is_lead b ≡ true = and_left (is_lead b) (goes_on (lead_of b).more (lead_of b).least (lead_of b).most bs) h in
        let g : goes_on (lead_of b).more (lead_of b).least (lead_of b).most bs ≡ true = and_right (is_lead b) (goes_on (lead_of b).more (lead_of b).least (lead_of b).most bs) h in
        high_ends string b bs rest high (lead_string b (closed bs rest) high l ∙ ap further (c (lead_of b).more (lead_of b).least (lead_of b).most (lead_high b) g))

above_ascii : (c : ℕ) → within 128 191 c ≡ true → 128 ≤ c
above_ascii c h = leb-true 128 c (and_left (leb 128 c) (leb c 191) h)

next_character : (b : ℕ) (bs rest : List ℕ) → TextEnds bs rest → CharacterEnds bs rest → CharacterEnds (b ∷ bs) rest
unfolding is_utf8 string
next_character b bs rest t c zero least most k h =
    let w : within least most b ≡ true = and_left (within least most b) (is_utf8 bs) h in
    high_ends (tail 0 least most) b bs rest (k b w) (rw w (ap further (t (and_right (within least most b) (is_utf8 bs) h))))
next_character b bs rest t c (suc more) least most k h =
    let w : within least most b ≡ true = and_left (within least most b) (goes_on more 128 191 bs) h in
    high_ends (tail (suc more) least most) b bs rest (k b w) (rw w (ap further (c more 128 191 above_ascii (and_right (within least most b) (goes_on more 128 191 bs) h))))

mutual
  unfolding is_utf8 string

  text_ends : (bs rest : List ℕ) → TextEnds bs rest
  text_ends [] rest h = refl
  text_ends (b ∷ bs) rest h = next_text b bs rest (λ u. text_ends bs rest u) (λ m l n k u. character_ends bs rest m l n k u) h

  character_ends : (bs rest : List ℕ) → CharacterEnds bs rest
  character_ends [] rest more least most k h = absurd (false≢true h)
  character_ends (b ∷ bs) rest more least most k h = next_character b bs rest (λ u. text_ends bs rest u) (λ m l n k u. character_ends bs rest m l n k u) more least most k h

-- ---- texts

text_part : (bs rest : List ℕ) → is_utf8 bs ≡ true → part_of 34 ((escaped_bytes bs ++ (34 ∷ [])) ++ rest) ≡ Ends (length (escaped_bytes bs ++ (34 ∷ [])))
unfolding part_of
text_part bs rest h = ap string (append_assoc (escaped_bytes bs) (34 ∷ []) rest) ∙ text_ends bs rest h ∙ ap Ends (sym (length-append (escaped_bytes bs) (34 ∷ [])))

pub text_lexeme : (bs : List ℕ) → is_utf8 bs ≡ true → OneLexeme (quoted bs)
unfolding quoted is_space
text_lexeme bs h = record { begins = refl; no_space = refl; ends = λ rest e. text_part bs rest h }

pub text_token_lem : (bs : List ℕ) → is_utf8 bs ≡ true → Good 0 (Token (quoted bs))
unfolding quoted is_scalar
text_token_lem bs h = (text_lexeme bs h, refl, refl, refl)

bytes_read : (bs : List ℕ) → encoded (units (escaped_bytes bs ++ (34 ∷ []))) ≡ some bs
unfolding units encoded
bytes_read [] = refl
bytes_read (b ∷ bs) =
    ap (λ l. encoded (units l)) (append_assoc (escaped_byte b) (escaped_bytes bs) (34 ∷ []))
    ∙ byte_read (escaped_bytes bs ++ (34 ∷ [])) b
    ∙ ap (λ o. before (b ∷ []) o) (bytes_read bs)

pub text_read_lem : (place : ℕ) (bs : List ℕ) → text_of (lexeme_of place (quoted bs)) ≡ some bs
unfolding quoted text_of
text_read_lem place bs = bytes_read bs
