-- What a reader has of a whole lexeme behind its last byte: its first byte and the place of that, and what is kept of a text and of a number.
use Prim.Native.Nat.{ℕ, suc, ◌^◌}
use mathlib.Core.Path.{◌≡◌, refl, sym, ap, ◌∙◌}
use mathlib.Core.Bool.{Bool, true, false, cond, ◌&&◌, ◌||◌, true≢false}
use mathlib.Core.List.{List, [], ◌∷◌}
use native.Mathlib.Omega.{arith}
use borrow.Author.Tests.{eqb-true, ne_eqb, ltb-true}
use borrow.Table.Steps.{cases}
use lib.Dec.{eqb, leb, ltb}
use lib.ListN.{length}
use Rattle.json_rule.specs.Lexemes.{Lexeme, quote, minus, zero_digit, is_space, is_digit, Ends, string, part_of}
use Rattle.json_rule.specs.Values.{text_of}
use Rattle.json_machine.specs.declared.Lexer.{Lexer}
use Rattle.json_machine.specs.Modes.{between_mode, text_mode, after_f4_mode, power_mode, whole, begun, after_mode, mode_over, is_integer}
use Rattle.json_machine.specs.Digest.{kept_room, held, held_after, held_over, blank_number, number_with, is_before_point, number_after, number_over, blank_text}
use Rattle.json_machine.specs.Lexing.{in_mode, with_text, with_number, beginning, Reading, reading, text_read, with_next, read_byte, read_over, is_whole_number}
use Rattle.json_machine.proofs.Bounds.{both, either_left, from_least}
use Rattle.json_machine.proofs.Modes.{from_mode, is_mode, kind_of, text_kind, Stays, Onward, Last, More, onward, ends_same, first_step}
use Rattle.json_machine.proofs.Texts.{TextKept, none_left, text_kept}
use Rattle.json_machine.proofs.Numbers.{NumberKept, number_kept}

-- ---- one byte, by the kind of the lexeme

module _ (m : ℕ) (i : is_mode m ≡ true) where
  not_between : eqb m between_mode ≡ false
  not_between = ne_eqb m between_mode (λ z. omega (arith, from_least 1 30 m i))

  module _ (b place : ℕ) (l : Lexer) (slots : List ℕ) where
    text_byte : leb m after_f4_mode ≡ true → read_byte b place (reading (in_mode m l) slots) ≡ text_read (held_after m b (held l.text slots)) (in_mode (after_mode m b) l)
    unfolding with_next
    text_byte h = rw (not_between, h)

    number_byte : leb m after_f4_mode ≡ false → read_byte b place (reading (in_mode m l) slots) ≡ reading (with_number (number_after m b l.number) (in_mode (after_mode m b) l)) slots
    unfolding with_next
    number_byte h = cases (is_before_point m) (λ t. rw (not_between, h, t)) (λ f. rw (not_between, h, f))

-- ---- the bytes behind the first

module _ (m b : ℕ) (l : Lexer) (slots bs : List ℕ) (place : ℕ) (i : is_mode m ≡ true) (k : kind_of m ≡ 0) where
  text_on : Onward m (after_mode m b) bs → (Stays m (after_mode m b) → from_mode (after_mode m b) bs ≡ Ends (length bs) → (c : Lexer) (after : List ℕ) → read_over (suc place) (reading (in_mode (after_mode m b) c) after) bs ≡ text_read (held_over (after_mode m b) (held c.text after) bs) (in_mode (mode_over (after_mode m b) bs) c)) → read_over (suc place) (read_byte b place (reading (in_mode m l) slots)) bs ≡ text_read (held_over (after_mode m b) (held_after m b (held l.text slots)) bs) (in_mode (mode_over (after_mode m b) bs) l)
  unfolding mode_over held_over read_over
  text_on (Last w n) rest = rw (none_left bs n) (text_byte m i b place l slots (text_kind m k))
  text_on (More s e) rest =
      let h = held_after m b (held l.text slots) in
      rw (text_byte m i b place l slots (text_kind m k)) (rest s e (with_text h.text l) h.slots)

text_read_lem : (m : ℕ) (l : Lexer) (slots bs : List ℕ) (place : ℕ) → is_mode m ≡ true → kind_of m ≡ 0 → from_mode m bs ≡ Ends (length bs) → read_over place (reading (in_mode m l) slots) bs ≡ text_read (held_over m (held l.text slots) bs) (in_mode (mode_over m bs) l)
unfolding mode_over held_over read_over
text_read_lem m l slots [] place i k e = refl
text_read_lem m l slots (b ∷ bs) place i k e =
    text_on m b l slots bs place i k (onward m b bs i e) (λ s f c after. text_read_lem (after_mode m b) c after bs (suc place) s.mode (s.kind ∙ k) f)

-- a number, or a literal name
other_kind : (m k : ℕ) → leb m after_f4_mode ≡ false → kind_of k ≡ kind_of m → leb k after_f4_mode ≡ false
other_kind m k n e =
    cases (leb k after_f4_mode)
    (λ t. cases (leb m power_mode) (λ y. absurd (omega (arith, (rw (t, n, y) at e)))) (λ f. absurd (omega (arith, (rw (t, n, f) at e)))))
    (λ f. f)

module _ (m b : ℕ) (l : Lexer) (slots bs : List ℕ) (place : ℕ) (i : is_mode m ≡ true) (k : leb m after_f4_mode ≡ false) where
  other_on : Onward m (after_mode m b) bs → (Stays m (after_mode m b) → from_mode (after_mode m b) bs ≡ Ends (length bs) → (c : Lexer) → read_over (suc place) (reading (in_mode (after_mode m b) c) slots) bs ≡ reading (with_number (number_over (after_mode m b) c.number bs) (in_mode (mode_over (after_mode m b) bs) c)) slots) → read_over (suc place) (read_byte b place (reading (in_mode m l) slots)) bs ≡ reading (with_number (number_over (after_mode m b) (number_after m b l.number) bs) (in_mode (mode_over (after_mode m b) bs) l)) slots
  unfolding mode_over number_over read_over
  other_on (Last w n) rest = rw (none_left bs n) (number_byte m i b place l slots k)
  other_on (More s e) rest = rw (number_byte m i b place l slots k) (rest s e (with_number (number_after m b l.number) l))

other_read : (m : ℕ) (l : Lexer) (slots bs : List ℕ) (place : ℕ) → is_mode m ≡ true → leb m after_f4_mode ≡ false → from_mode m bs ≡ Ends (length bs) → read_over place (reading (in_mode m l) slots) bs ≡ reading (with_number (number_over m l.number bs) (in_mode (mode_over m bs) l)) slots
unfolding mode_over number_over read_over
other_read m l slots [] place i k e = refl
other_read m l slots (b ∷ bs) place i k e =
    other_on m b l slots bs place i k (onward m b bs i e) (λ s f c. other_read (after_mode m b) c slots bs (suc place) s.mode (other_kind m (after_mode m b) k s.kind) f)

-- ---- from the first byte on

-- what is read of a whole lexeme, from between lexemes on
abbrev pub lexeme_read : Lexeme → Reading → Reading
lexeme_read t r = read_over t.first r (t.head ∷ t.body)

-- of a text what is kept of it, and of a number, where reading began between lexemes
pub record Lexed (t : Lexeme) (r : Reading) : Type 0 where
  pub head : r.lexer.head ≡ t.head
  pub first : r.lexer.first ≡ t.first
  pub text : eqb t.head quote ≡ true → TextKept (text_of t) (held r.lexer.text r.slots)
  pub number : eqb t.head minus || is_digit t.head ≡ true → NumberKept t r.lexer.mode r.lexer.number

first_byte : (b place : ℕ) (l : Lexer) (slots : List ℕ) → l.mode ≡ between_mode → read_byte b place (reading l slots) ≡ reading (in_mode (begun b) (beginning b place)) slots
unfolding after_mode with_next
first_byte b place l slots e = rw e

-- of the lexemes only a text begins in a mode of a text
record Other (k : ℕ) : Type 0 where
  no_text : leb k after_f4_mode ≡ false

either_other : {k l : ℕ} (t : Bool) → Other k → Other l → Other (cond t k l)
either_other true p q = p
either_other false p q = q

begun_other : (b : ℕ) → is_space b ≡ false → eqb b quote ≡ false → Other (begun b)
unfolding begun
begun_other b s q =
    rw (s, q)
    (either_other (eqb b minus) (record { no_text = refl })
    (either_other (eqb b zero_digit) (record { no_text = refl })
    (either_other (is_digit b) (record { no_text = refl })
    (either_other (eqb b 116) (record { no_text = refl })
    (either_other (eqb b 102) (record { no_text = refl })
    (either_other (eqb b 110) (record { no_text = refl })
    (record { no_text = refl })))))))

begun_text : (b : ℕ) → is_space b ≡ false → eqb b quote ≡ true → begun b ≡ text_mode
unfolding begun
begun_text b s q = rw (s, q)

quote_no_number : (b : ℕ) → eqb b quote ≡ true → eqb b minus || is_digit b ≡ true → ⊥
unfolding is_digit
quote_no_number b q e = true≢false (sym (rw (eqb-true b quote q) at e))

module _ (t : Lexeme) (l : Lexer) (slots : List ℕ) (z : l.mode ≡ between_mode) (s : is_space t.head ≡ false) (e : part_of t.head t.body ≡ Ends (length t.body)) where
  start : Lexer
  start = beginning t.head t.first

  from_start : lexeme_read t (reading l slots) ≡ read_over (suc t.first) (reading (in_mode (begun t.head) start) slots) t.body
  unfolding read_over start
  from_start = ap (λ (r : Reading). read_over (suc t.first) r t.body) (first_byte t.head t.first l slots z)

  string_read : eqb t.head quote ≡ true → string t.body ≡ Ends (length t.body)
  unfolding part_of
  string_read q = rw q at e

  read_text_lem : eqb t.head quote ≡ true → lexeme_read t (reading l slots) ≡ text_read (held_over text_mode (held blank_text slots) t.body) (in_mode (mode_over text_mode t.body) start)
  unfolding from_mode start
  read_text_lem q = from_start ∙ rw (begun_text t.head s q) (text_read_lem text_mode start slots t.body (suc t.first) refl refl (string_read q))

  read_one : eqb (begun t.head) whole ≡ true → length t.body ≡ 0
  read_one w = sym (ends_same 0 (length t.body) (rw w at (sym (first_step t.head t.body s).read ∙ e)))

  read_other : eqb t.head quote ≡ false → lexeme_read t (reading l slots) ≡ reading (with_number (number_over (begun t.head) (number_with blank_number t.head) t.body) (in_mode (mode_over (begun t.head) t.body) start)) slots
  unfolding mode_over number_over read_over start
  read_other q =
      let k = begun t.head in
      let f = first_step t.head t.body s in
      from_start
      ∙ cases (eqb k whole)
      (λ w. rw (none_left t.body (read_one w)))
      (λ n. other_read k start slots t.body (suc t.first) (either_left (is_mode k) (rw n at f.next)) (begun_other t.head s q).no_text (rw n at (sym f.read ∙ e)))

  -- a reader that was between lexemes has this of a whole one behind its last byte
  pub lexed : length slots ≡ kept_room → Lexed t (lexeme_read t (reading l slots))
  unfolding start
  lexed h =
      cases (eqb t.head quote)
      (λ q. rw (read_text_lem q)
      (record {
        head = refl;
        first = refl;
        text = λ y. text_kept t slots q (string_read q) h;
        number = λ n. absurd (quote_no_number t.head q n);
      }))
      (λ q. rw (read_other q)
      (record {
        head = refl;
        first = refl;
        text = λ y. absurd (true≢false (sym y ∙ q));
        number = λ n. number_kept t n e;
      }))

-- ---- whole numbers below 2^64

or_false : (b : Bool) → cond b false false ≡ false
or_false true = refl
or_false false = refl

module _ (t : Lexeme) (l : Lexer) (k : NumberKept t l.mode l.number) where
  pub whole_told : is_whole_number l ≡ is_integer l.mode && ltb k.value (2 ^ 64)
  unfolding is_whole_number
  whole_told =
      cases (is_integer l.mode)
      (λ i. cases (ltb k.value (2 ^ 64)) (λ y. rw ((k.tells i).over, i, y)) (λ n. rw ((k.tells i).over, i, n)))
      (λ i. rw i (or_false (ltb 0 l.number.over)))

  pub magnitude_told : is_whole_number l ≡ true → l.number.magnitude ≡ k.value
  magnitude_told e =
      let p = both (is_integer l.mode) (ltb k.value (2 ^ 64)) (sym whole_told ∙ e) in
      (k.tells p.0).magnitude (ltb-true k.value (2 ^ 64) p.1)
