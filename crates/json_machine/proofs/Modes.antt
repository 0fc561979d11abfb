-- A reader that goes from mode to mode follows the rule: what the rule reads in a mode is what a byte does there, and then what it reads in the mode behind it.
use Prim.Native.Nat.{ℕ, zero, suc, ◌≤◌}
use mathlib.Core.Path.{◌≡◌, refl, sym, ap, ◌∙◌}
use mathlib.Core.Bool.{Bool, true, false, cond, ◌&&◌, ◌||◌}
use mathlib.Core.List.{List, [], ◌∷◌}
use native.Mathlib.Omega.{arith}
use borrow.Author.Tests.{eqb-true, eqb-false}
use borrow.Table.Steps.{cases}
use lib.Dec.{eqb, leb}
use lib.ListN.{length, get_or, take}
use lib.Seq.{length-take-le}
use Rattle.json_rule.specs.Letters.{bytes}
use Rattle.json_rule.specs.Lexemes.{within, quote, backslash, minus, zero_digit, is_space, is_digit, is_hex, is_short, is_lead, lead_of, Part, Ends, Breaks, further, string, escape, hex, tail, power_digits, power, signed_power, exponent, fraction_digits, after_point, fraction, whole_digits, after_minus, letters, part_of}
use Rattle.json_machine.specs.Modes.{between_mode, text_mode, escape_mode, one_hex_mode, two_hex_mode, three_hex_mode, four_hex_mode, one_more_mode, two_more_mode, three_more_mode, after_e0_mode, after_ed_mode, after_f0_mode, after_f4_mode, minus_mode, zero_mode, digits_mode, point_mode, fraction_mode, exponent_mode, sign_mode, power_mode, rue_mode, ue_mode, e_mode, alse_mode, lse_mode, se_mode, ull_mode, ll_mode, l_mode, stopped_mode, whole, broken, ended, begun, in_wide, in_text, in_escape, in_minus, in_zero, in_digits, in_fraction, in_exponent, after_text, after_number, after_word, after_mode, may_end}
use Rattle.json_machine.proofs.Each.{Each, done, ◌&◌, each_at}
use Rattle.json_machine.proofs.Bounds.{both, either_left, inside, from_least, to_most, past}

-- ---- what the rule reads in a mode

-- from the mode between lexemes on, in which it reads nothing, in the order of their numbers
abbrev pub parts : List (List ℕ → Part)
parts =
    (λ bs. Ends 0)
    ∷ string
    ∷ escape
    ∷ hex 0
    ∷ hex 1
    ∷ hex 2
    ∷ hex 3
    ∷ tail 0 128 191
    ∷ tail 1 128 191
    ∷ tail 2 128 191
    ∷ tail 1 160 191
    ∷ tail 1 128 159
    ∷ tail 2 144 191
    ∷ tail 2 128 143
    ∷ after_minus
    ∷ fraction
    ∷ whole_digits
    ∷ after_point
    ∷ fraction_digits
    ∷ signed_power
    ∷ power
    ∷ power_digits
    ∷ letters (bytes "rue")
    ∷ letters (bytes "ue")
    ∷ letters (bytes "e")
    ∷ letters (bytes "alse")
    ∷ letters (bytes "lse")
    ∷ letters (bytes "se")
    ∷ letters (bytes "ull")
    ∷ letters (bytes "ll")
    ∷ letters (bytes "l")
    ∷ []

unfoldable pub from_mode : ℕ → List ℕ → Part
from_mode m bs = get_or parts m (λ (rest : List ℕ). Breaks 0) bs

-- what it reads where a byte led to k and these follow it
unfoldable pub stepped : ℕ → List ℕ → Part
stepped k bs = cond (eqb k whole) (Ends 1) (cond (eqb k broken) (Breaks 0) (cond (eqb k ended) (Ends 0) (further (from_mode k bs))))

-- a mode within a lexeme
abbrev pub is_mode : ℕ → Bool
is_mode m = within 1 30 m

-- the modes of texts, of numbers and of literal names
abbrev pub kind_of : ℕ → ℕ
kind_of m = cond (leb m after_f4_mode) 0 (cond (leb m power_mode) 1 2)

pub text_kind : (m : ℕ) → kind_of m ≡ 0 → leb m after_f4_mode ≡ true
text_kind m e =
    cases (leb m after_f4_mode) (λ t. t)
    (λ n. cases (leb m power_mode) (λ t. absurd (omega (arith, (rw (n, t) at e)))) (λ f. absurd (omega (arith, (rw (n, f) at e)))))

-- where a byte may lead from m: the kind of the lexeme stays, and a number is told to have ended only where it may end
unfoldable pub is_next : ℕ → ℕ → Bool
is_next m k = (is_mode k && eqb (kind_of k) (kind_of m)) || (eqb k whole || (eqb k broken || (eqb k ended && may_end m)))

-- the rule reads this behind m, where the next byte led to k and these follow it
pub record Goes (m : ℕ) (bs : List ℕ) (x : Part) (k : ℕ) : Type 0 where
  pub read : x ≡ stepped k bs
  pub next : is_next m k ≡ true

-- the rule follows the mode over a byte and at the end of the text
pub record Follows (m : ℕ) : Type 0 where
  pub over : (b : ℕ) (bs : List ℕ) → Goes m bs (from_mode m (b ∷ bs)) (after_mode m b)
  pub last : from_mode m [] ≡ cond (may_end m) (Ends 0) (Breaks 0)

-- ---- one byte

here : {m : ℕ} {bs : List ℕ} (k : ℕ) → is_next m k ≡ true → Goes m bs (stepped k bs) k
here k h = record { read = refl; next = h }

either : {m : ℕ} {bs : List ℕ} {x y : Part} {k l : ℕ} (t : Bool) → Goes m bs x k → Goes m bs y l → Goes m bs (cond t x y) (cond t k l)
either true p q = p
either false p q = q

-- ---- the first byte of a character of several

module _ (b : ℕ) where
  -- a byte between bounds is one, if both bounds are
  leads : (least most : ℕ) → 194 ≤ least → most ≤ 244 → within least most b ≡ true → is_lead b ≡ true
  unfolding is_lead
  leads least most h g e =
      inside 194 244 b (omega (arith, from_least least most b e)) (omega (arith, to_most least most b e))

  leads_at : (k : ℕ) → is_lead k ≡ true → eqb b k ≡ true → is_lead b ≡ true
  leads_at k h e = rw (eqb-true b k e) h

  -- none lies beside those that are told apart
  no_other : is_lead b ≡ true → within 194 223 b ≡ false → eqb b 224 ≡ false → within 225 239 b ≡ false → eqb b 240 ≡ false → within 241 243 b ≡ false → eqb b 244 ≡ false → ⊥
  unfolding is_lead
  no_other e n1 n2 n3 n4 n5 n6 =
      let h1 = past 194 223 b n1 (from_least 194 244 b e) in
      let h3 = past 225 239 b n3 (omega (arith, eqb-false b 224 n2)) in
      let h5 = past 241 243 b n5 (omega (arith, eqb-false b 240 n4)) in
      omega (arith, eqb-false b 244 n6, to_most 194 244 b e)

  wide : (bs : List ℕ) → Goes text_mode bs (cond (is_lead b) (further (tail (lead_of b).more (lead_of b).least (lead_of b).most bs)) (Breaks 0)) (in_wide b)
  unfolding from_mode stepped is_next is_lead lead_of in_wide
  wide bs =
      cases (within 194 223 b) (λ t. rw (t, leads 194 223 (omega arith) (omega arith) t) (here one_more_mode refl))
      (λ n1. cases (eqb b 224) (λ t. rw (n1, t, leads_at 224 refl t) (here after_e0_mode refl))
      (λ n2. cases (eqb b 237) (λ t. rw (n1, n2, t, leads_at 237 refl t) (here after_ed_mode refl))
      (λ n3. cases (within 225 239 b) (λ t. rw (n1, n2, n3, t, leads 225 239 (omega arith) (omega arith) t) (here two_more_mode refl))
      (λ n4. cases (eqb b 240) (λ t. rw (n1, n2, n3, n4, t, leads_at 240 refl t) (here after_f0_mode refl))
      (λ n5. cases (within 241 243 b) (λ t. rw (n1, n2, n3, n4, n5, t, leads 241 243 (omega arith) (omega arith) t) (here three_more_mode refl))
      (λ n6. cases (eqb b 244) (λ t. rw (n1, n2, n3, n4, n5, n6, t, leads_at 244 refl t) (here after_f4_mode refl))
      (λ n7. cases (is_lead b)
      (λ t. absurd (no_other t n1 n2 n4 n5 n6 n7))
      (λ n8. rw (n1, n2, n3, n4, n5, n6, n7, n8) (here broken refl)))))))))

-- ---- every mode

follows : {m : ℕ} → ((b : ℕ) (bs : List ℕ) → Goes m bs (from_mode m (b ∷ bs)) (after_mode m b)) → from_mode m [] ≡ cond (may_end m) (Ends 0) (Breaks 0) → Follows m
follows p e = record { over = p; last = e }

modes : Each Follows stopped_mode text_mode
unfolding from_mode stepped is_next may_end string after_mode after_text in_text in_escape after_number in_minus in_zero in_digits in_fraction in_exponent after_word power_digits power signed_power exponent fraction_digits after_point fraction whole_digits after_minus letters
modes =
    follows (λ b bs. either (eqb b quote) (here whole refl) (either (eqb b backslash) (here escape_mode refl) (either (within 32 127 b) (here text_mode refl) (wide b bs)))) refl
    & follows (λ b bs. either (is_short b) (here text_mode refl) (either (eqb b 117) (here four_hex_mode refl) (here broken refl))) refl
    & follows (λ b bs. either (is_hex b) (here text_mode refl) (here broken refl)) refl
    & follows (λ b bs. either (is_hex b) (here one_hex_mode refl) (here broken refl)) refl
    & follows (λ b bs. either (is_hex b) (here two_hex_mode refl) (here broken refl)) refl
    & follows (λ b bs. either (is_hex b) (here three_hex_mode refl) (here broken refl)) refl
    & follows (λ b bs. either (within 128 191 b) (here text_mode refl) (here broken refl)) refl
    & follows (λ b bs. either (within 128 191 b) (here one_more_mode refl) (here broken refl)) refl
    & follows (λ b bs. either (within 128 191 b) (here two_more_mode refl) (here broken refl)) refl
    & follows (λ b bs. either (within 160 191 b) (here one_more_mode refl) (here broken refl)) refl
    & follows (λ b bs. either (within 128 159 b) (here one_more_mode refl) (here broken refl)) refl
    & follows (λ b bs. either (within 144 191 b) (here two_more_mode refl) (here broken refl)) refl
    & follows (λ b bs. either (within 128 143 b) (here two_more_mode refl) (here broken refl)) refl
    & follows (λ b bs. either (eqb b zero_digit) (here zero_mode refl) (either (is_digit b) (here digits_mode refl) (here broken refl))) refl
    & follows (λ b bs. either (eqb b 46) (here point_mode refl) (either (eqb b 101 || eqb b 69) (here exponent_mode refl) (here ended refl))) refl
    & follows (λ b bs. either (is_digit b) (here digits_mode refl) (either (eqb b 46) (here point_mode refl) (either (eqb b 101 || eqb b 69) (here exponent_mode refl) (here ended refl)))) refl
    & follows (λ b bs. either (is_digit b) (here fraction_mode refl) (here broken refl)) refl
    & follows (λ b bs. either (is_digit b) (here fraction_mode refl) (either (eqb b 101 || eqb b 69) (here exponent_mode refl) (here ended refl))) refl
    & follows (λ b bs. either (eqb b 43 || eqb b minus) (here sign_mode refl) (either (is_digit b) (here power_mode refl) (here broken refl))) refl
    & follows (λ b bs. either (is_digit b) (here power_mode refl) (here broken refl)) refl
    & follows (λ b bs. either (is_digit b) (here power_mode refl) (here ended refl)) refl
    & follows (λ b bs. either (eqb b 114) (here ue_mode refl) (here broken refl)) refl
    & follows (λ b bs. either (eqb b 117) (here e_mode refl) (here broken refl)) refl
    & follows (λ b bs. either (eqb b 101) (here whole refl) (here broken refl)) refl
    & follows (λ b bs. either (eqb b 97) (here lse_mode refl) (here broken refl)) refl
    & follows (λ b bs. either (eqb b 108) (here se_mode refl) (here broken refl)) refl
    & follows (λ b bs. either (eqb b 115) (here e_mode refl) (here broken refl)) refl
    & follows (λ b bs. either (eqb b 117) (here ll_mode refl) (here broken refl)) refl
    & follows (λ b bs. either (eqb b 108) (here l_mode refl) (here broken refl)) refl
    & follows (λ b bs. either (eqb b 108) (here whole refl) (here broken refl)) refl
    & done

follows_at : (m : ℕ) → is_mode m ≡ true → Follows m
follows_at m e = each_at modes m (from_least 1 30 m e) (omega (arith, to_most 1 30 m e))

-- what the rule reads in a mode is what the byte does there, and then what it reads in the mode behind it
pub mode_step : (m b : ℕ) (bs : List ℕ) → is_mode m ≡ true → Goes m bs (from_mode m (b ∷ bs)) (after_mode m b)
mode_step m b bs e = (follows_at m e).over b bs

-- at the end of the text
pub mode_end : (m : ℕ) → is_mode m ≡ true → from_mode m [] ≡ cond (may_end m) (Ends 0) (Breaks 0)
mode_end m e = (follows_at m e).last

-- ---- the first byte

-- the rule reads this of the lexeme that a byte begins, which led to k, where these follow it
pub record Begins (bs : List ℕ) (x : Part) (k : ℕ) : Type 0 where
  pub read : x ≡ cond (eqb k whole) (Ends 0) (from_mode k bs)
  pub next : is_mode k || eqb k whole ≡ true

start : {bs : List ℕ} (k : ℕ) → is_mode k || eqb k whole ≡ true → Begins bs (cond (eqb k whole) (Ends 0) (from_mode k bs)) k
start k h = record { read = refl; next = h }

either_start : {bs : List ℕ} {x y : Part} {k l : ℕ} (t : Bool) → Begins bs x k → Begins bs y l → Begins bs (cond t x y) (cond t k l)
either_start true p q = p
either_start false p q = q

pub first_step : (b : ℕ) (bs : List ℕ) → is_space b ≡ false → Begins bs (part_of b bs) (begun b)
unfolding from_mode part_of begun
first_step b bs e =
    rw e
    (either_start (eqb b quote) (start text_mode refl)
    (either_start (eqb b minus) (start minus_mode refl)
    (either_start (eqb b zero_digit) (start zero_mode refl)
    (either_start (is_digit b) (start digits_mode refl)
    (either_start (eqb b 116) (start rue_mode refl)
    (either_start (eqb b 102) (start alse_mode refl)
    (either_start (eqb b 110) (start ull_mode refl)
    (start whole refl))))))))

pub first_space : (b : ℕ) → is_space b ≡ true → begun b ≡ between_mode
unfolding begun
first_space b e = rw e

-- ---- whole lexemes

further_ends : (x : Part) (n : ℕ) → further x ≡ Ends (suc n) → x ≡ Ends n
further_ends (Ends k) n e = let h : suc k ≡ suc n = cc in let g : k ≡ n = omega arith in ap Ends g
further_ends (Breaks k) n e = let z : ◌≡◌ {A = ℕ} 0 1 = cc in absurd (omega arith)

further_ends_not : (x : Part) → further x ≡ Ends 0 → ⊥
further_ends_not (Ends k) e = let h : suc k ≡ 0 = cc in omega arith
further_ends_not (Breaks k) e = let z : ◌≡◌ {A = ℕ} 0 1 = cc in omega arith

zero_not : {n : ℕ} → suc n ≡ 0 → ⊥
zero_not e = omega arith

pub breaks_not : (n k : ℕ) → Breaks n ≡ Ends k → ⊥
breaks_not n k e = let z : ◌≡◌ {A = ℕ} 0 1 = cc in omega arith

pub ends_same : (n k : ℕ) → Ends n ≡ Ends k → n ≡ k
ends_same n k e = cc

-- a byte that neither ends nor breaks the lexeme leads to a mode of its kind
pub record Stays (m k : ℕ) : Type 0 where
  pub mode : is_mode k ≡ true
  pub kind : kind_of k ≡ kind_of m

stays : (m k : ℕ) → is_next m k ≡ true → eqb k whole ≡ false → eqb k broken ≡ false → eqb k ended ≡ false → Stays m k
unfolding is_next
stays m k e n1 n2 n3 =
    let p = both (is_mode k) (eqb (kind_of k) (kind_of m)) (either_left (is_mode k && eqb (kind_of k) (kind_of m)) (rw (n1, n2, n3) at e)) in
    record { mode = p.0; kind = eqb-true (kind_of k) (kind_of m) p.1 }

-- a byte of a whole lexeme ends it, or leads to a mode in which the rest is whole
pub data Onward (m k : ℕ) (bs : List ℕ) : Type 0 where
  Last : k ≡ whole → length bs ≡ 0 → Onward m k bs
  More : Stays m k → from_mode k bs ≡ Ends (length bs) → Onward m k bs

onward_to : (m k : ℕ) (bs : List ℕ) → is_next m k ≡ true → stepped k bs ≡ Ends (suc (length bs)) → Onward m k bs
unfolding stepped
onward_to m k bs h e =
    cases (eqb k whole) (λ t. let g = ends_same 1 (suc (length bs)) (rw t at e) in Last (eqb-true k whole t) (omega arith))
    (λ n1. cases (eqb k broken) (λ t. absurd (breaks_not 0 (suc (length bs)) (rw (n1, t) at e)))
    (λ n2. cases (eqb k ended) (λ t. let g = ends_same 0 (suc (length bs)) (rw (n1, n2, t) at e) in absurd (omega arith))
    (λ n3. More (stays m k h n1 n2 n3) (further_ends (from_mode k bs) (length bs) (rw (n1, n2, n3) at e)))))

pub onward : (m b : ℕ) (bs : List ℕ) → is_mode m ≡ true → from_mode m (b ∷ bs) ≡ Ends (length (b ∷ bs)) → Onward m (after_mode m b) bs
onward m b bs h e = let g = mode_step m b bs h in onward_to m (after_mode m b) bs g.next (sym g.read ∙ e)

-- what a whole lexeme is does not depend on what follows it
pub record Taken (m : ℕ) (bs : List ℕ) (n : ℕ) : Type 0 where
  pub within_bytes : n ≤ length bs
  pub alone : from_mode m (take n bs) ≡ Ends n

taken_none : (m : ℕ) (bs : List ℕ) → is_mode m ≡ true → may_end m ≡ true → Taken m bs 0
taken_none m bs h e = record { within_bytes = omega arith; alone = mode_end m h ∙ rw e }

-- one byte more, which led to k
module _ (m b : ℕ) (bs : List ℕ) (k : ℕ) (h : is_mode m ≡ true) (over : (cs : List ℕ) → Goes m cs (from_mode m (b ∷ cs)) k) where
  taken_ended : stepped k bs ≡ Ends 0 → Taken m (b ∷ bs) 0
  unfolding stepped is_next
  taken_ended e =
      cases (eqb k whole) (λ t. absurd (zero_not (ends_same 1 0 (rw t at e))))
      (λ n1. cases (eqb k broken) (λ t. absurd (breaks_not 0 0 (rw (n1, t) at e)))
      (λ n2. cases (eqb k ended) (λ t. taken_none m (b ∷ bs) h (rw (eqb-true k ended t) at (over bs).next))
      (λ n3. absurd (further_ends_not (from_mode k bs) (rw (n1, n2, n3) at e)))))

  taken_more : (n : ℕ) → stepped k bs ≡ Ends (suc n) → (is_mode k ≡ true → from_mode k bs ≡ Ends n → Taken k bs n) → Taken m (b ∷ bs) (suc n)
  unfolding stepped
  taken_more n e more =
      cases (eqb k whole)
      (λ t. let z : n ≡ 0 = omega (arith, ends_same 1 (suc n) (rw t at e)) in record { within_bytes = omega arith; alone = rw z ((over []).read ∙ rw t) })
      (λ n1. cases (eqb k broken) (λ t. absurd (breaks_not 0 (suc n) (rw (n1, t) at e)))
      (λ n2. cases (eqb k ended) (λ t. absurd (zero_not (sym (ends_same 0 (suc n) (rw (n1, n2, t) at e)))))
      (λ n3. let g = more (stays m k (over bs).next n1 n2 n3).mode (further_ends (from_mode k bs) n (rw (n1, n2, n3) at e)) in
      record { within_bytes = omega (arith, g.within_bytes); alone = (over (take n bs)).read ∙ rw (n1, n2, n3, g.alone) })))

pub taken : (m : ℕ) (bs : List ℕ) (n : ℕ) → is_mode m ≡ true → from_mode m bs ≡ Ends n → Taken m bs n
taken m [] n h e =
    cases (may_end m)
    (λ t. rw (← (ends_same 0 n (sym (mode_end m h ∙ rw t) ∙ e))) (taken_none m [] h t))
    (λ f. absurd (breaks_not 0 n (sym (mode_end m h ∙ rw f) ∙ e)))
taken m (b ∷ bs) zero h e = taken_ended m b bs (after_mode m b) h (λ cs. mode_step m b cs h) (sym (mode_step m b bs h).read ∙ e)
taken m (b ∷ bs) (suc n) h e =
    taken_more m b bs (after_mode m b) h (λ cs. mode_step m b cs h) n (sym (mode_step m b bs h).read ∙ e) (λ g p. taken (after_mode m b) bs n g p)

-- the bytes of a whole lexeme by themselves are that lexeme
pub record Whole (b : ℕ) (bs : List ℕ) (n : ℕ) : Type 0 where
  pub within_bytes : n ≤ length bs
  pub alone : part_of b (take n bs) ≡ Ends (length (take n bs))

module _ (b : ℕ) (bs : List ℕ) (n : ℕ) (s : is_space b ≡ false) (e : part_of b bs ≡ Ends n) where
  whole_one : eqb (begun b) whole ≡ true → Whole b bs n
  whole_one w =
      let z : 0 ≡ n = ends_same 0 n (rw w at (sym (first_step b bs s).read ∙ e)) in
      rw (← z) (record { within_bytes = omega arith; alone = (first_step b [] s).read ∙ rw w })

  whole_more : eqb (begun b) whole ≡ false → Whole b bs n
  whole_more w =
      let m = either_left (is_mode (begun b)) (rw w at (first_step b bs s).next) in
      let g = taken (begun b) bs n m (rw w at (sym (first_step b bs s).read ∙ e)) in
      record {
        within_bytes = g.within_bytes;
        alone = rw (length-take-le n bs g.within_bytes) ((first_step b (take n bs) s).read ∙ rw w g.alone);
      }

  pub part_taken : Whole b bs n
  part_taken = cases (eqb (begun b) whole) whole_one whole_more
