-- A lexeme byte by byte: in each mode a byte leads on to another mode, closes the lexeme, or does neither, and then the lexeme has ended before it or breaks
-- there, as it would at the end of the text. So what belongs to a lexeme hangs on no byte behind the one that decides (`run_alike`), and what is broken off can
-- be completed (`run_completes`).
use Prim.Native.Nat.{ℕ, zero, suc, ◌+◌, ◌≤◌, ◌<◌}
use native.Mathlib.Nat.{zero-add}
use native.Mathlib.Omega.{arith}
use mathlib.Core.Path.{◌≡◌, refl, ◌∙◌, sym, ap}
use mathlib.Core.Bool.{Bool, true, false, cond, ◌&&◌, ◌||◌, false≢true, true≢false}
use mathlib.Core.List.{List, [], ◌∷◌, ◌++◌}
use lib.Dec.{eqb, leb}
use lib.ListN.{length, take}
use borrow.Author.Tests.{leb-true, leb-false, le-leb, eqb-false, eq-eqb}
use Rattle.rules.proofs.Checks.{by_test, both, and_left, and_right}
use Rattle.json_rule.specs.Letters.{bytes}
use Rattle.json_rule.specs.Lexemes.{within, quote, backslash, minus, zero_digit, is_digit, is_hex, is_short, Part, Ends, Breaks, further, Lead, lead_of, is_lead, string, escape, hex, tail, power_digits, power, signed_power, exponent, fraction_digits, after_point, fraction, whole_digits, after_minus, letters, part_of}
use Rattle.json_rule.proofs.Walk.{by_tests}

-- ---- modes

pub data Mode : Type 0 where
  InText InEscape : Mode
  -- so many digits more behind the next
  InHex : ℕ → Mode
  -- so many bytes more behind the next, and its bounds
  InCharacter : ℕ → ℕ → ℕ → Mode
  BehindMinus BehindZero InWhole BehindPoint InFraction BehindE BehindSign InPower : Mode
  -- the letters that are left
  InWord : List ℕ → Mode

pub data Move : Type 0 where
  Onto : Mode → Move
  Closes Neither : Move

-- the lexeme may end before a byte that does not continue it
abbrev pub may_end : Mode → Bool
may_end InText = false
may_end InEscape = false
may_end (InHex k) = false
may_end (InCharacter k low high) = false
may_end BehindMinus = false
may_end BehindZero = true
may_end InWhole = true
may_end BehindPoint = false
may_end InFraction = true
may_end BehindE = false
may_end BehindSign = false
may_end InPower = true
may_end (InWord []) = true
may_end (InWord (l ∷ ls)) = false

-- one digit less, or the text again
abbrev after_hex : ℕ → Mode
after_hex zero = InText
after_hex (suc k) = InHex k

abbrev after_byte : ℕ → Mode
after_byte zero = InText
after_byte (suc k) = InCharacter k 128 191

abbrev if_e : ℕ → Move
if_e b = cond (eqb b 101 || eqb b 69) (Onto BehindE) Neither

abbrev if_point : ℕ → Move
if_point b = cond (eqb b 46) (Onto BehindPoint) (if_e b)

abbrev if_digit : ℕ → Mode → Move → Move
if_digit b mode otherwise = cond (is_digit b) (Onto mode) otherwise

abbrev pub step : Mode → ℕ → Move
step InText b =
    cond (eqb b quote) Closes
    (cond (eqb b backslash) (Onto InEscape)
    (cond (within 32 127 b) (Onto InText)
    (cond (is_lead b) (Onto (InCharacter (lead_of b).more (lead_of b).least (lead_of b).most))
    Neither)))
step InEscape b = cond (is_short b) (Onto InText) (cond (eqb b 117) (Onto (InHex 3)) Neither)
step (InHex k) b = cond (is_hex b) (Onto (after_hex k)) Neither
step (InCharacter k low high) b = cond (within low high b) (Onto (after_byte k)) Neither
step BehindMinus b = cond (eqb b zero_digit) (Onto BehindZero) (if_digit b InWhole Neither)
step BehindZero b = if_point b
step InWhole b = if_digit b InWhole (if_point b)
step BehindPoint b = if_digit b InFraction Neither
step InFraction b = if_digit b InFraction (if_e b)
step BehindE b = cond (eqb b 43 || eqb b minus) (Onto BehindSign) (if_digit b InPower Neither)
step BehindSign b = if_digit b InPower Neither
step InPower b = if_digit b InPower Neither
step (InWord []) b = Neither
step (InWord (l ∷ ls)) b = cond (eqb b l) (Onto (InWord ls)) Neither

-- the mode behind a lexeme's first byte
abbrev pub mode_of : ℕ → Mode
mode_of b =
    cond (eqb b quote) InText
    (cond (eqb b minus) BehindMinus
    (cond (eqb b zero_digit) BehindZero
    (cond (is_digit b) InWhole
    (cond (eqb b 116) (InWord (bytes "rue"))
    (cond (eqb b 102) (InWord (bytes "alse"))
    (cond (eqb b 110) (InWord (bytes "ull"))
    (InWord [])))))))

-- what belongs to it where no byte continues it
abbrev pub ending : Mode → Part
ending mode = cond (may_end mode) (Ends 0) (Breaks 0)

abbrev pub moved : (Mode → Part) → Mode → Move → Part
moved others mode (Onto next) = further (others next)
moved others mode Closes = Ends 1
moved others mode Neither = ending mode

abbrev pub run : Mode → List ℕ → Part
run mode [] = ending mode
run mode (b ∷ bs) = moved (λ next. run next bs) mode (step mode b)

-- ---- the rule by modes

-- a mode's move says the same as the rule's part
abbrev Says : List ℕ → Mode → Part → Move → Type 0
Says bs mode p u = p ≡ moved (λ next. run next bs) mode u

mutual
  unfolding string

  string_run : (bs : List ℕ) → string bs ≡ run InText bs
  string_run [] = refl
  string_run (b ∷ bs) =
      by_tests P (eqb b quote) refl
      (by_tests P (eqb b backslash) (ap further (escape_run bs))
      (by_tests P (within 32 127 b) (ap further (string_run bs))
      (by_tests P (is_lead b) (ap further (tail_run bs (lead_of b).more (lead_of b).least (lead_of b).most)) refl)))
    where
      P : Part → Move → Type 0
      P = Says bs InText

  escape_run : (bs : List ℕ) → escape bs ≡ run InEscape bs
  escape_run [] = refl
  escape_run (b ∷ bs) = by_tests (Says bs InEscape) (is_short b) (ap further (string_run bs)) (by_tests (Says bs InEscape) (eqb b 117) (ap further (hex_run bs 3)) refl)

  hex_run : (bs : List ℕ) (k : ℕ) → hex k bs ≡ run (InHex k) bs
  hex_run [] k = refl
  hex_run (b ∷ bs) zero = by_tests (Says bs (InHex 0)) (is_hex b) (ap further (string_run bs)) refl
  hex_run (b ∷ bs) (suc k) = by_tests (Says bs (InHex (suc k))) (is_hex b) (ap further (hex_run bs k)) refl

  tail_run : (bs : List ℕ) (k low high : ℕ) → tail k low high bs ≡ run (InCharacter k low high) bs
  tail_run [] k low high = refl
  tail_run (b ∷ bs) zero low high = by_tests (Says bs (InCharacter 0 low high)) (within low high b) (ap further (string_run bs)) refl
  tail_run (b ∷ bs) (suc k) low high = by_tests (Says bs (InCharacter (suc k) low high)) (within low high b) (ap further (tail_run bs k 128 191)) refl

power_digits_run : (bs : List ℕ) → power_digits bs ≡ run InPower bs
unfolding power_digits
power_digits_run [] = refl
power_digits_run (b ∷ bs) = by_tests (Says bs InPower) (is_digit b) (ap further (power_digits_run bs)) refl

power_run : (bs : List ℕ) → power bs ≡ run BehindSign bs
unfolding power
power_run [] = refl
power_run (b ∷ bs) = by_tests (Says bs BehindSign) (is_digit b) (ap further (power_digits_run bs)) refl

signed_power_run : (bs : List ℕ) → signed_power bs ≡ run BehindE bs
unfolding signed_power power
signed_power_run [] = refl
signed_power_run (b ∷ bs) =
    by_tests (Says bs BehindE) (eqb b 43 || eqb b minus) (ap further (power_run bs)) (by_tests (Says bs BehindE) (is_digit b) (ap further (power_digits_run bs)) refl)

-- in a mode in which the number may end
exponent_says : (mode : Mode) → may_end mode ≡ true → (b : ℕ) (bs : List ℕ) → Says bs mode (exponent (b ∷ bs)) (if_e b)
unfolding exponent
exponent_says mode e b bs = by_tests (Says bs mode) (eqb b 101 || eqb b 69) (ap further (signed_power_run bs)) (rw e)

fraction_digits_run : (bs : List ℕ) → fraction_digits bs ≡ run InFraction bs
unfolding fraction_digits
fraction_digits_run [] = refl
fraction_digits_run (b ∷ bs) = by_tests (Says bs InFraction) (is_digit b) (ap further (fraction_digits_run bs)) (exponent_says InFraction refl b bs)

after_point_run : (bs : List ℕ) → after_point bs ≡ run BehindPoint bs
unfolding after_point
after_point_run [] = refl
after_point_run (b ∷ bs) = by_tests (Says bs BehindPoint) (is_digit b) (ap further (fraction_digits_run bs)) refl

fraction_says : (mode : Mode) → may_end mode ≡ true → (b : ℕ) (bs : List ℕ) → Says bs mode (fraction (b ∷ bs)) (if_point b)
unfolding fraction
fraction_says mode e b bs = by_tests (Says bs mode) (eqb b 46) (ap further (after_point_run bs)) (exponent_says mode e b bs)

fraction_run : (bs : List ℕ) → fraction bs ≡ run BehindZero bs
unfolding fraction
fraction_run [] = refl
fraction_run (b ∷ bs) = fraction_says BehindZero refl b bs

whole_run : (bs : List ℕ) → whole_digits bs ≡ run InWhole bs
unfolding whole_digits
whole_run [] = refl
whole_run (b ∷ bs) = by_tests (Says bs InWhole) (is_digit b) (ap further (whole_run bs)) (fraction_says InWhole refl b bs)

minus_run : (bs : List ℕ) → after_minus bs ≡ run BehindMinus bs
unfolding after_minus
minus_run [] = refl
minus_run (b ∷ bs) =
    by_tests (Says bs BehindMinus) (eqb b zero_digit) (ap further (fraction_run bs)) (by_tests (Says bs BehindMinus) (is_digit b) (ap further (whole_run bs)) refl)

letters_run : (bs ls : List ℕ) → letters ls bs ≡ run (InWord ls) bs
unfolding letters
letters_run [] [] = refl
letters_run [] (l ∷ ls) = refl
letters_run (b ∷ bs) [] = refl
letters_run (b ∷ bs) (l ∷ ls) = by_tests (Says bs (InWord (l ∷ ls))) (eqb b l) (ap further (letters_run bs ls)) refl

alone_run : (bs : List ℕ) → Ends 0 ≡ run (InWord []) bs
alone_run [] = refl
alone_run (b ∷ bs) = refl

pub part_run : (b : ℕ) (bs : List ℕ) → part_of b bs ≡ run (mode_of b) bs
unfolding part_of
part_run b bs =
    by_tests P (eqb b quote) (string_run bs)
    (by_tests P (eqb b minus) (minus_run bs)
    (by_tests P (eqb b zero_digit) (fraction_run bs)
    (by_tests P (is_digit b) (whole_run bs)
    (by_tests P (eqb b 116) (letters_run bs (bytes "rue"))
    (by_tests P (eqb b 102) (letters_run bs (bytes "alse"))
    (by_tests P (eqb b 110) (letters_run bs (bytes "ull"))
    (alone_run bs)))))))
  where
    P : Part → Mode → Type 0
    P p mode = p ≡ run mode bs

-- ---- what the bytes up to a place decide

abbrev pub reach : Part → ℕ
reach (Ends n) = n
reach (Breaks n) = n

-- the same, or one that goes at least so far
pub data Alike (n : ℕ) : Part → Part → Type 0 where
  same : (p : Part) → Alike n p p
  past : {p r : Part} → n ≤ reach p → Alike n p r

alike_further : {n : ℕ} {p r : Part} → Alike n p r → Alike (suc n) (further p) (further r)
alike_further (same p) = same (further p)
alike_further {n} (past {p = p} h) = past (go p h)
  where
    go : (p : Part) → n ≤ reach p → suc n ≤ reach (further p)
    go (Ends m) h = omega arith
    go (Breaks m) h = omega arith

-- bytes that are shared, and what follows them in one text and in another
pub run_alike : (mode : Mode) (q r s : List ℕ) → Alike (length q) (run mode (q ++ r)) (run mode (q ++ s))
run_alike mode [] r s = let h : 0 ≤ reach (run mode r) = omega arith in past h
run_alike mode (b ∷ q) r s = go (step mode b) (λ next. run_alike next q r s)
  where
    go : (u : Move) → ((next : Mode) → Alike (length q) (run next (q ++ r)) (run next (q ++ s)))
        → Alike (suc (length q)) (moved (λ next. run next (q ++ r)) mode u) (moved (λ next. run next (q ++ s)) mode u)
    go (Onto next) h = alike_further (h next)
    go Closes h = same (Ends 1)
    go Neither h = same (ending mode)

-- ---- what ends before bytes that close

-- `"`, `]`, `}` and `:` continue no number
pub data ClosingByte : ℕ → Type 0 where
  a_quote : ClosingByte 34
  a_bracket : ClosingByte 93
  a_brace : ClosingByte 125
  a_colon : ClosingByte 58

-- the text ends, or goes on with one of these
pub data Closing : List ℕ → Type 0 where
  nothing : Closing []
  begins : {c : ℕ} {bs : List ℕ} → ClosingByte c → Closing (c ∷ bs)

by_closing : (u : ℕ → Move) → u 34 ≡ Neither → u 93 ≡ Neither → u 125 ≡ Neither → u 58 ≡ Neither → {c : ℕ} → ClosingByte c → u c ≡ Neither
by_closing u p q r s a_quote = p
by_closing u p q r s a_bracket = q
by_closing u p q r s a_brace = r
by_closing u p q r s a_colon = s

neither : (mode : Mode) → may_end mode ≡ true → {c : ℕ} → ClosingByte c → step mode c ≡ Neither
unfolding is_digit
neither InText e = absurd (false≢true e)
neither InEscape e = absurd (false≢true e)
neither (InHex k) e = absurd (false≢true e)
neither (InCharacter k low high) e = absurd (false≢true e)
neither BehindMinus e = absurd (false≢true e)
neither BehindZero e = by_closing (step BehindZero) refl refl refl refl
neither InWhole e = by_closing (step InWhole) refl refl refl refl
neither BehindPoint e = absurd (false≢true e)
neither InFraction e = by_closing (step InFraction) refl refl refl refl
neither BehindE e = absurd (false≢true e)
neither BehindSign e = absurd (false≢true e)
neither InPower e = by_closing (step InPower) refl refl refl refl
neither (InWord []) e = by_closing (step (InWord [])) refl refl refl refl
neither (InWord (l ∷ ls)) e = absurd (false≢true e)

run_closing : (mode : Mode) → may_end mode ≡ true → {bs : List ℕ} → Closing bs → run mode bs ≡ Ends 0
run_closing mode e nothing = rw e
run_closing mode e (begins {c = c} {bs = bs} h) = rw (neither mode e h, e)

-- ---- ends

abbrev pub is_end : Part → Bool
is_end (Ends n) = true
is_end (Breaks n) = false

-- one byte less
ends_further : (p : Part) (n : ℕ) → further p ≡ Ends (suc n) → p ≡ Ends n
ends_further (Ends m) n e = let k : suc m ≡ suc n = ap reach e in ap Ends (omega arith)
ends_further (Breaks m) n e = absurd (false≢true (ap is_end e))

breaks_further : (p : Part) (n : ℕ) → further p ≡ Breaks n → (m : ℕ) × (n ≡ suc m) × (p ≡ Breaks m)
breaks_further (Ends m) n e = absurd (true≢false (ap is_end e))
breaks_further (Breaks m) n e = (m, sym (ap reach e), refl)

ending_fits : (may : Bool) (n : ℕ) → reach (cond may (Ends 0) (Breaks 0)) ≤ n
ending_fits true n = omega arith
ending_fits false n = omega arith

further_fits : (p : Part) {n : ℕ} → reach p ≤ n → reach (further p) ≤ suc n
further_fits (Ends m) h = omega arith
further_fits (Breaks m) h = omega arith

-- what has ended before the first byte may end
ending_may : (may : Bool) → cond may (Ends 0) (Breaks 0) ≡ Ends 0 → may ≡ true
ending_may true e = refl
ending_may false e = absurd (false≢true (ap is_end e))

ends_at_once : (mode : Mode) (bs : List ℕ) → run mode bs ≡ Ends 0 → may_end mode ≡ true
ends_at_once mode [] e = ending_may (may_end mode) e
ends_at_once mode (b ∷ bs) e = go (step mode b) e
  where
    later : (p : Part) → further p ≡ Ends 0 → may_end mode ≡ true
    later (Ends m) e = absurd (let k : suc m ≡ 0 = ap reach e in omega arith)
    later (Breaks m) e = absurd (false≢true (ap is_end e))

    go : (u : Move) → moved (λ next. run next bs) mode u ≡ Ends 0 → may_end mode ≡ true
    go (Onto next) e = later (run next bs) e
    go Closes e = absurd (let k : 1 ≡ 0 = ap reach e in omega arith)
    go Neither e = ending_may (may_end mode) e

-- a lexeme that ends somewhere ends there too where the text goes on with what closes
pub ends_closing : (mode : Mode) (q r s : List ℕ) → run mode (q ++ r) ≡ Ends (length q) → Closing s → run mode (q ++ s) ≡ Ends (length q)
ends_closing mode [] r s e c = run_closing mode (ends_at_once mode r e) c
ends_closing mode (b ∷ q) r s e c = go (step mode b) e (λ next f. ends_closing next q r s f c)
  where
    go : (u : Move) → moved (λ next. run next (q ++ r)) mode u ≡ Ends (suc (length q)) → ((next : Mode) → run next (q ++ r) ≡ Ends (length q) → run next (q ++ s) ≡ Ends (length q))
        → moved (λ next. run next (q ++ s)) mode u ≡ Ends (suc (length q))
    go (Onto next) e h = ap further (h next (ends_further (run next (q ++ r)) (length q) e))
    go Closes e h = e
    go Neither e h = e

-- no lexeme is longer than the text
pub run_fits : (mode : Mode) (bs : List ℕ) → reach (run mode bs) ≤ length bs
run_fits mode [] = ending_fits (may_end mode) 0
run_fits mode (b ∷ bs) = go (step mode b) (λ next. run_fits next bs)
  where
    go : (u : Move) → ((next : Mode) → reach (run next bs) ≤ length bs) → reach (moved (λ next. run next bs) mode u) ≤ suc (length bs)
    go (Onto next) h = further_fits (run next bs) (h next)
    go Closes h = omega arith
    go Neither h = ending_fits (may_end mode) (suc (length bs))

-- ---- completing a lexeme

-- between the bounds there is a byte
abbrev pub Sensible : Mode → Type 0
Sensible InText = Unit {0}
Sensible InEscape = Unit {0}
Sensible (InHex k) = Unit {0}
Sensible (InCharacter k low high) = low ≤ high
Sensible BehindMinus = Unit {0}
Sensible BehindZero = Unit {0}
Sensible InWhole = Unit {0}
Sensible BehindPoint = Unit {0}
Sensible InFraction = Unit {0}
Sensible BehindE = Unit {0}
Sensible BehindSign = Unit {0}
Sensible InPower = Unit {0}
Sensible (InWord ls) = Unit {0}

abbrev SensibleMove : Move → Type 0
SensibleMove (Onto next) = Sensible next
SensibleMove Closes = Unit {0}
SensibleMove Neither = Unit {0}

-- a byte that is not between bounds, and not below them
beyond : (low high b : ℕ) → within low high b ≡ false → low ≤ b → high < b
beyond low high b e l = leb-false b high (sym (ap (λ c. c && leb b high) (le-leb low b l)) ∙ e)

lead_bounds : (b : ℕ) → is_lead b ≡ true → (lead_of b).least ≤ (lead_of b).most
unfolding is_lead lead_of
lead_bounds b h =
    let low : 194 ≤ b = leb-true 194 b (and_left (leb 194 b) (leb b 244) h) in
    let high : b ≤ 244 = leb-true b 244 (and_right (leb 194 b) (leb b 244) h) in
    by_test P (within 194 223 b) (λ _. omega arith)
    (λ e. let p : 223 < b = beyond 194 223 b e low in
    by_test P (eqb b 224) (λ _. omega arith)
    (λ f. by_test P (eqb b 237) (λ _. omega arith)
    (λ _. by_test P (within 225 239 b) (λ _. omega arith)
    (λ g. by_test P (eqb b 240) (λ _. omega arith)
    (λ i. by_test P (within 241 243 b) (λ _. omega arith)
    (λ j. by_test P (eqb b 244) (λ _. omega arith)
    (λ k. absurd (
    let q : 239 < b = beyond 225 239 b g (omega (arith, eqb-false b 224 f)) in
    let r : 243 < b = beyond 241 243 b j (omega (arith, eqb-false b 240 i)) in
    omega (arith, eqb-false b 244 k)))))))))
  where
    P : Lead → Type 0
    P l = l.least ≤ l.most

after_hex_sensible : (k : ℕ) → Sensible (after_hex k)
after_hex_sensible zero = tt
after_hex_sensible (suc k) = tt

after_byte_sensible : (k : ℕ) → Sensible (after_byte k)
after_byte_sensible zero = tt
after_byte_sensible (suc k) = omega arith

if_e_sensible : (b : ℕ) → SensibleMove (if_e b)
if_e_sensible b = by_test SensibleMove (eqb b 101 || eqb b 69) (λ _. tt) (λ _. tt)

if_point_sensible : (b : ℕ) → SensibleMove (if_point b)
if_point_sensible b = by_test SensibleMove (eqb b 46) (λ _. tt) (λ _. if_e_sensible b)

step_sensible : (mode : Mode) (b : ℕ) → SensibleMove (step mode b)
step_sensible InText b =
    by_test SensibleMove (eqb b quote) (λ _. tt)
    (λ _. by_test SensibleMove (eqb b backslash) (λ _. tt)
    (λ _. by_test SensibleMove (within 32 127 b) (λ _. tt)
    (λ _. by_test SensibleMove (is_lead b) (lead_bounds b) (λ _. tt))))
step_sensible InEscape b = by_test SensibleMove (is_short b) (λ _. tt) (λ _. by_test SensibleMove (eqb b 117) (λ _. tt) (λ _. tt))
step_sensible (InHex k) b = by_test SensibleMove (is_hex b) (λ _. after_hex_sensible k) (λ _. tt)
step_sensible (InCharacter k low high) b = by_test SensibleMove (within low high b) (λ _. after_byte_sensible k) (λ _. tt)
step_sensible BehindMinus b = by_test SensibleMove (eqb b zero_digit) (λ _. tt) (λ _. by_test SensibleMove (is_digit b) (λ _. tt) (λ _. tt))
step_sensible BehindZero b = if_point_sensible b
step_sensible InWhole b = by_test SensibleMove (is_digit b) (λ _. tt) (λ _. if_point_sensible b)
step_sensible BehindPoint b = by_test SensibleMove (is_digit b) (λ _. tt) (λ _. tt)
step_sensible InFraction b = by_test SensibleMove (is_digit b) (λ _. tt) (λ _. if_e_sensible b)
step_sensible BehindE b = by_test SensibleMove (eqb b 43 || eqb b minus) (λ _. tt) (λ _. by_test SensibleMove (is_digit b) (λ _. tt) (λ _. tt))
step_sensible BehindSign b = by_test SensibleMove (is_digit b) (λ _. tt) (λ _. tt)
step_sensible InPower b = by_test SensibleMove (is_digit b) (λ _. tt) (λ _. tt)
step_sensible (InWord []) b = tt
step_sensible (InWord (l ∷ ls)) b = by_test SensibleMove (eqb b l) (λ _. tt) (λ _. tt)

pub first_sensible : (b : ℕ) → Sensible (mode_of b)
first_sensible b =
    by_test Sensible (eqb b quote) (λ _. tt)
    (λ _. by_test Sensible (eqb b minus) (λ _. tt)
    (λ _. by_test Sensible (eqb b zero_digit) (λ _. tt)
    (λ _. by_test Sensible (is_digit b) (λ _. tt)
    (λ _. by_test Sensible (eqb b 116) (λ _. tt)
    (λ _. by_test Sensible (eqb b 102) (λ _. tt)
    (λ _. by_test Sensible (eqb b 110) (λ _. tt)
    (λ _. tt)))))))

-- what completes a lexeme: its letters, a digit, or the bytes that a text wants and its last quotation mark
abbrev whole_bytes : ℕ → List ℕ
whole_bytes zero = 34 ∷ []
whole_bytes (suc k) = 128 ∷ whole_bytes k

abbrev whole_hex : ℕ → List ℕ
whole_hex zero = 48 ∷ 34 ∷ []
whole_hex (suc k) = 48 ∷ whole_hex k

abbrev completion : Mode → List ℕ
completion InText = 34 ∷ []
completion InEscape = 110 ∷ 34 ∷ []
completion (InHex k) = whole_hex k
completion (InCharacter k low high) = low ∷ whole_bytes k
completion BehindMinus = 48 ∷ []
completion BehindZero = []
completion InWhole = []
completion BehindPoint = 48 ∷ []
completion InFraction = []
completion BehindE = 48 ∷ []
completion BehindSign = 48 ∷ []
completion InPower = []
completion (InWord ls) = ls

hex_completed : (k : ℕ) (s : List ℕ) → run (InHex k) (whole_hex k ++ s) ≡ Ends (length (whole_hex k))
unfolding is_digit is_hex
hex_completed zero s = refl
hex_completed (suc k) s = ap further (hex_completed k s)

bytes_completed : (k : ℕ) (s : List ℕ) → run (after_byte k) (whole_bytes k ++ s) ≡ Ends (length (whole_bytes k))
bytes_completed zero s = refl
bytes_completed (suc k) s = ap further (bytes_completed k s)

word_completed : (ls s : List ℕ) → run (InWord ls) (ls ++ s) ≡ Ends (length ls)
word_completed [] [] = refl
word_completed [] (b ∷ s) = refl
word_completed (l ∷ ls) s = rw (eq-eqb l l refl) (ap further (word_completed ls s))

completed : (mode : Mode) → Sensible mode → (s : List ℕ) → Closing s → run mode (completion mode ++ s) ≡ Ends (length (completion mode))
unfolding is_digit is_short
completed InText v s c = refl
completed InEscape v s c = refl
completed (InHex k) v s c = hex_completed k s
completed (InCharacter k low high) v s c = rw (both (le-leb low low (omega arith)) (le-leb low high v)) (ap further (bytes_completed k s))
completed BehindMinus v s c = ap further (run_closing BehindZero refl c)
completed BehindZero v s c = run_closing BehindZero refl c
completed InWhole v s c = run_closing InWhole refl c
completed BehindPoint v s c = ap further (run_closing InFraction refl c)
completed InFraction v s c = run_closing InFraction refl c
completed BehindE v s c = ap further (run_closing InPower refl c)
completed BehindSign v s c = ap further (run_closing InPower refl c)
completed InPower v s c = run_closing InPower refl c
completed (InWord ls) v s c = word_completed ls s

-- where nothing belongs to it yet
ending_breaks : (may : Bool) (n : ℕ) → cond may (Ends 0) (Breaks 0) ≡ Breaks n → n ≡ 0
ending_breaks true n e = absurd (true≢false (ap is_end e))
ending_breaks false n e = sym (ap reach e)

-- the bytes up to the one at which a lexeme breaks can be completed, so many of them
abbrev pub Completes : Mode → List ℕ → ℕ → Type 0
Completes mode bs n = (c : List ℕ) × ((s : List ℕ) → Closing s → run mode (take n bs ++ (c ++ s)) ≡ Ends (n + length c))

completes_none : (mode : Mode) → Sensible mode → (bs : List ℕ) (n : ℕ) → n ≡ 0 → Completes mode bs n
completes_none mode v bs n e = (completion mode, λ s c. rw (e, zero-add) (completed mode v s c))

pub run_completes : (mode : Mode) → Sensible mode → (bs : List ℕ) (n : ℕ) → run mode bs ≡ Breaks n → Completes mode bs n
run_completes mode v [] n e = completes_none mode v [] n (ending_breaks (may_end mode) n e)
run_completes mode v (b ∷ bs) n e = go (step mode b) refl (step_sensible mode b) e (λ next w m f. run_completes next w bs m f)
  where
    onto : (next : Mode) (m : ℕ) → n ≡ suc m → step mode b ≡ Onto next → Completes next bs m → Completes mode (b ∷ bs) n
    onto next m p q r = (r.0, λ s c. rw (p, q, r.1 s c) (ap Ends (omega arith)))

    go : (u : Move) → step mode b ≡ u → SensibleMove u → moved (λ next. run next bs) mode u ≡ Breaks n
        → ((next : Mode) → Sensible next → (m : ℕ) → run next bs ≡ Breaks m → Completes next bs m) → Completes mode (b ∷ bs) n
    go (Onto next) q w e h =
        let p = breaks_further (run next bs) n e in onto next p.0 p.1 q (h next w p.0 p.2)
    go Closes q w e h = absurd (true≢false (ap is_end e))
    go Neither q w e h = completes_none mode v (b ∷ bs) n (ending_breaks (may_end mode) n e)
