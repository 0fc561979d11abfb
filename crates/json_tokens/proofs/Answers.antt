-- What is answered of the next lexeme is what the rule reads there: no lexeme, a text, a number or a literal name, or a byte by itself.
use Prim.Native.Nat.{ℕ, suc, ◌+◌, ◌≤◌, ◌<◌}
use mathlib.Core.Path.{◌≡◌, refl, sym, ap, ap₂, subst, ◌∙◌}
use mathlib.Core.Bool.{Bool, true, false, ◌&&◌, ◌||◌, true≢false}
use mathlib.Core.List.{List, [], ◌∷◌}
use native.Mathlib.Numerals.{add-one}
use native.Mathlib.Omega.{arith}
use borrow.Author.Tests.{eqb-true, eq-eqb, ne_eqb}
use borrow.Table.Steps.{cases}
use lib.Dec.{eqb}
use lib.ListN.{length, get_or, take, drop, length-drop}
use Rattle.json_rule.specs.Lexemes.{Lexeme, quote, minus, zero_digit, is_space, is_digit, Part, Ends, Breaks, string, part_of}
use Rattle.json_rule.specs.Values.{text_of}
use Rattle.json_rule.specs.Tree.{is_scalar}
use Rattle.json_machine.specs.declared.Number.{Number}
use Rattle.json_machine.specs.Modes.{text_mode, whole, begun, after_mode, mode_over, is_integer}
use Rattle.json_machine.specs.Digest.{blank_text, Held, held, held_after, held_over, blank_number, number_with, number_after, number_over}
use Rattle.json_machine.proofs.Bounds.{either_left}
use Rattle.json_machine.proofs.Modes.{from_mode, is_mode, first_step, part_taken, breaks_not}
use Rattle.json_machine.proofs.Texts.{text_kept}
use Rattle.json_machine.proofs.Numbers.{number_kept}
use Rattle.json_members.specs.Kept.{TextKept, NumberKept, LexemeKept}
use Rattle.json_members.proofs.Digest.{text_digest, number_digest}
use Rattle.json_tokens.specs.declared.token.Token.{Token}
use Rattle.json_tokens.specs.Outcomes.{space_run, Outcome, Answer, answer, plain_token, text_answer, text_from, bare_token, bare_from}
use Rattle.json_tokens.specs.Tokens.{lexemes_at, TokenAt}
use Rattle.json_tokens.proofs.Lexemes.{spaces_skipped, begins_so, none_left, whole_lexeme, broken_lexeme, whole_here, broken_here}
use Rattle.json_tokens.proofs.Outcomes.{Reads, Reaches, Stops, reads}

-- ---- what breaks off is a text, a number or a literal name

zero_digit_lem : (b : ℕ) → is_digit b ≡ false → eqb b zero_digit ≡ false
unfolding is_digit
zero_digit_lem b d = cases (eqb b zero_digit) (λ t. absurd (true≢false (rw (eqb-true b zero_digit t) at d))) (λ f. f)

breaks_scalar : (t : Lexeme) (bs : List ℕ) (n : ℕ) → part_of t.head bs ≡ Breaks n → is_scalar t ≡ true
unfolding part_of is_scalar
breaks_scalar t bs n e =
    let b = t.head in
    cases (eqb b quote) (λ y. rw y)
    (λ q. cases (eqb b minus) (λ y. rw (q, y))
    (λ m. cases (is_digit b) (λ y. rw (q, m, y))
    (λ d. cases (eqb b 116) (λ y. rw (q, m, d, y))
    (λ r. cases (eqb b 102) (λ y. rw (q, m, d, r, y))
    (λ f. cases (eqb b 110) (λ y. rw (q, m, d, r, f, y))
    (λ u. absurd (breaks_not n 0 (sym (rw (q, m, zero_digit_lem b d, d, r, f, u) at e)))))))))

-- ---- what is kept, byte by byte

none_held : (m : ℕ) (h : Held) → held_over m h [] ≡ h
unfolding held_over
none_held m h = refl

more_held : (m : ℕ) (h : Held) (b : ℕ) (bs : List ℕ) → held_over m h (b ∷ bs) ≡ held_over (after_mode m b) (held_after m b h) bs
unfolding held_over
more_held m h b bs = refl

none_counted : (m : ℕ) (n : Number) → number_over m n [] ≡ n
unfolding number_over
none_counted m n = refl

more_counted : (m : ℕ) (n : Number) (b : ℕ) (bs : List ℕ) → number_over m n (b ∷ bs) ≡ number_over (after_mode m b) (number_after m b n) bs
unfolding number_over
more_counted m n b bs = refl

-- the rule against an outcome, of a text and of anything else
abbrev ReadsText : ℕ → List ℕ → List ℕ → Outcome Held → Part → Type 0
ReadsText place slots bs o p = Reads held_after held_over none_held more_held place text_mode (held blank_text slots) bs o p

abbrev ReadsBare : ℕ → ℕ → List ℕ → Outcome Number → Part → Type 0
ReadsBare place head bs o p = Reads number_after number_over none_counted more_counted place (begun head) (number_with blank_number head) bs o p

-- ---- the next lexeme

module _ (bs : List ℕ) (from first : ℕ) (e : first ≡ from + space_run (drop from bs)) (slots : List ℕ) (long : length slots ≡ 97) where
  from_first : lexemes_at bs from ≡ lexemes_at bs first
  from_first = spaces_skipped bs from ∙ ap (lexemes_at bs) (sym e)

  -- There is none.
  pub answers_none : (r : Token) → length bs ≤ first → r.state ≡ 0 → TokenAt bs from r slots
  answers_none r h s =
      record {
        known = omega arith;
        at_end = λ _. from_first ∙ none_left bs first h;
        whole = λ z. absurd (omega arith);
        broken = λ z. absurd (omega arith);
        long = long;
      }

  module _ (h : first < length bs) where
    abbrev byte : ℕ
    byte = get_or bs first 0

    abbrev rest : List ℕ
    rest = drop (suc first) bs

    no_space : is_space byte ≡ false
    no_space = rw e (begins_so bs from (rw e at h))

    -- one that is whole
    answers_whole : (r : Token) (n : ℕ) → part_of byte rest ≡ Ends n → r.state ≡ 1 → r.head ≡ byte → r.first ≡ first → r.after ≡ suc first + n → LexemeKept slots r.len r.integer r.magnitude (whole_lexeme byte (take n rest) first) → TokenAt bs from r slots
    answers_whole r n p s b f a k =
        let t = whole_lexeme byte (take n rest) first in
        let w = (part_taken byte rest n no_space p).within_bytes in
        let l = length-drop (suc first) bs in
        record {
          known = omega arith;
          at_end = λ z. absurd (omega arith);
          whole =
              λ _. record {
                lexeme = t;
                is = from_first ∙ whole_here bs first h no_space n p ∙ ap (λ (i : ℕ). t ∷ lexemes_at bs i) (sym a);
                is_whole = refl;
                head = b;
                first = f;
                kept = k;
                later = omega arith;
                beyond = omega arith;
                fits = omega arith;
              };
          broken = λ z. absurd (omega arith);
          long = long;
        }

    -- one that breaks off
    answers_broken : (r : Token) (n : ℕ) → part_of byte rest ≡ Breaks n → r.state ≡ 2 → r.head ≡ byte → r.first ≡ first → r.stop ≡ suc first + n → TokenAt bs from r slots
    answers_broken r n p s b f a =
        let t = broken_lexeme byte first (suc first + n) in
        record {
          known = omega arith;
          at_end = λ z. absurd (omega arith);
          whole = λ z. absurd (omega arith);
          broken =
              λ _. record {
                lexeme = t;
                is = from_first ∙ broken_here bs first h no_space n p;
                is_broken = refl;
                is_scalar = breaks_scalar t rest n p;
                head = b;
                first = f;
                stop = a;
                later = omega arith;
              };
          long = long;
        }

    -- ---- a number or a literal name

    module _ (q : byte ≡ quote → ⊥) where
      -- what is kept of a whole one
      bare_kept : (n : ℕ) (o : Outcome Number) → part_of byte rest ≡ Ends n → o.mode ≡ mode_over (begun byte) (take n rest) → o.held ≡ number_over (begun byte) (number_with blank_number byte) (take n rest) → LexemeKept slots 0 (is_integer o.mode && eqb o.held.over 0) o.held.magnitude (whole_lexeme byte (take n rest) first)
      bare_kept n o p m x =
          let t = whole_lexeme byte (take n rest) first in
          record {
            text = λ y. absurd (q (eqb-true byte quote y));
            number = λ y. number_digest t o.mode o.held (rw (m, x) (number_kept t y (part_taken byte rest n no_space p).alone));
          }

      bare_by : (o : Outcome Number) (p : Part) → part_of byte rest ≡ p → ReadsBare (suc first) byte rest o p → TokenAt bs from (bare_token byte first o) slots
      bare_by o _ p (Reaches n s i m x) = answers_whole (bare_token byte first o) n p s refl refl i (bare_kept n o p m x)
      bare_by o _ p (Stops n s i) = answers_broken (bare_token byte first o) n p s refl refl i

      -- It is answered as the rule reads it.
      pub answers_bare : (r : Token) (k : ℕ) → k ≡ begun byte → (k ≡ whole → ⊥) → r ≡ bare_token byte first (bare_from bs (first + 1) k byte) → TokenAt bs from r slots
      answers_bare r k z w a =
          let o = bare_from bs (suc first) (begun byte) byte in
          let f = rw z at (ne_eqb k whole w) in
          let g = first_step byte rest no_space in
          let i = either_left (is_mode (begun byte)) (rw f at g.next) in
          let y = subst (λ (p : Part). ReadsBare (suc first) byte rest o p) (sym (g.read ∙ rw f)) (reads number_after number_over none_counted more_counted (suc first) (begun byte) (number_with blank_number byte) rest i) in
          subst (λ (x : Token). TokenAt bs from x slots)
          (sym (a ∙ ap₂ (λ (j m : ℕ). bare_token byte first (bare_from bs j m byte)) (add-one first) z))
          (bare_by o (part_of byte rest) refl y)

      -- ---- a byte that is a lexeme by itself

      number_not : {integer : Bool} {magnitude : ℕ} {t : Lexeme} → integer ≡ false → NumberKept integer magnitude t → NumberKept false 0 t
      number_not e k = record { is_whole = k.is_whole; value = k.value; number = k.number; told = sym e ∙ k.told; is = λ y. absurd (true≢false (sym y)) }

      pub answers_single : (r : Token) (k : ℕ) → k ≡ begun byte → k ≡ whole → r ≡ plain_token 1 byte first (first + 1) → TokenAt bs from r slots
      unfolding mode_over number_over is_integer
      answers_single r k v x a =
          let w : begun byte ≡ whole = sym v ∙ x in
          let t = whole_lexeme byte [] first in
          let p : part_of byte rest ≡ Ends 0 = (first_step byte rest no_space).read ∙ rw w in
          let z : (plain_token 1 byte first (first + 1)).after ≡ suc first + 0 = omega arith in
          subst (λ (x : Token). TokenAt bs from x slots) (sym a)
          (answers_whole (plain_token 1 byte first (first + 1)) 0 p refl refl refl z
          (record {
            text = λ y. absurd (q (eqb-true byte quote y));
            number = λ y. number_not (rw w) (number_digest t (begun byte) (number_with blank_number byte) (number_kept t y ((first_step byte [] no_space).read ∙ rw w)));
          }))

    -- ---- a text

    module _ (q : byte ≡ quote) (before : List ℕ) (room : length before ≡ 97) where
      text_alone : (n : ℕ) → part_of byte rest ≡ Ends n → string (take n rest) ≡ Ends (length (take n rest))
      unfolding part_of
      text_alone n p = rw (eq-eqb byte quote q) at (part_taken byte rest n no_space p).alone

      no_number_lem : eqb byte minus || is_digit byte ≡ true → ⊥
      unfolding is_digit
      no_number_lem y = true≢false (sym (rw q at y))

      module _ (o : Outcome Held) (r : Token) (a : answer r slots ≡ text_answer first o) where
        -- what is kept of a whole one
        kept_so : (n : ℕ) → part_of byte rest ≡ Ends n → o.held ≡ held_over text_mode (held blank_text before) (take n rest) → LexemeKept slots r.len r.integer r.magnitude (whole_lexeme byte (take n rest) first)
        kept_so n p x =
            let t = whole_lexeme byte (take n rest) first in
            record {
              text = λ y. subst (λ (z : Answer). TextKept z.slots z.token.len (text_of t)) (sym a) (text_digest (text_of t) o.held (rw x (text_kept t before y (text_alone n p) room)));
              number = λ y. absurd (no_number_lem y);
            }

        text_by_lem : (p : Part) → part_of byte rest ≡ p → ReadsText (suc first) before rest o p → TokenAt bs from r slots
        text_by_lem _ p (Reaches n s i m x) =
            answers_whole r n p (ap (λ (z : Answer). z.token.state) a ∙ s) (ap (λ (z : Answer). z.token.head) a ∙ sym q) (ap (λ (z : Answer). z.token.first) a) (ap (λ (z : Answer). z.token.after) a ∙ i) (kept_so n p x)
        text_by_lem _ p (Stops n s i) =
            answers_broken r n p (ap (λ (z : Answer). z.token.state) a ∙ s) (ap (λ (z : Answer). z.token.head) a ∙ sym q) (ap (λ (z : Answer). z.token.first) a) (ap (λ (z : Answer). z.token.stop) a ∙ i)

      text_part : part_of byte rest ≡ from_mode text_mode rest
      unfolding part_of from_mode
      text_part = rw (eq-eqb byte quote q)

      -- It is answered as the rule reads it.
      pub answers_text : (r : Token) → answer r slots ≡ text_answer first (text_from bs (first + 1) before) → TokenAt bs from r slots
      answers_text r a =
          let o = text_from bs (suc first) before in
          text_by_lem o r (a ∙ ap (λ (j : ℕ). text_answer first (text_from bs j before)) (add-one first)) (part_of byte rest) refl
          (subst (λ (p : Part). ReadsText (suc first) before rest o p) (sym text_part) (reads held_after held_over none_held more_held (suc first) text_mode (held blank_text before) rest refl))
