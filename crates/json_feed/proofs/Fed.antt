-- What takes the lexemes of a text, fed byte by byte, takes those that the rule reads.
use Prim.Native.Nat.{ℕ, zero, suc, ◌+◌, ◌≤◌, ◌<◌}
use mathlib.Core.Path.{◌≡◌, refl, sym, subst, ◌∙◌}
use mathlib.Core.Bool.{Bool, true, false, cond, ◌&&◌, true≢false}
use mathlib.Core.List.{List, [], ◌∷◌}
use native.Mathlib.Nat.{mod-eq_of_lt}
use native.Mathlib.Omega.{arith}
use borrow.Author.Tests.{eqb-true, eqb-false, ltb-true, lt-ltb}
use borrow.Table.Steps.{cases}
use lib.Dec.{eqb, ltb}
use lib.ListN.{length, take, drop, length-drop}
use Rattle.rules.specs.Words.{all}
use Rattle.rules.proofs.Tables.{all_drop}
use Rattle.json_rule.specs.Lexemes.{Lexeme, quote, minus, zero_digit, is_space, is_digit, Part, Ends, Breaks, part_of, lexemes, followed}
use Rattle.json_rule.specs.Values.{text_of}
use Rattle.json_rule.specs.Tree.{is_scalar}
use Rattle.json_machine.specs.Modes.{between_mode, whole, begun, after_mode, is_integer}
use Rattle.json_machine.specs.Digest.{kept_room, held}
use Rattle.json_machine.specs.Lexing.{in_mode, Reading, reading, beginning, with_next, head_of, is_whole_number, read_byte, read_over}
use Rattle.json_machine.proofs.Bounds.{both, either_left}
use Rattle.json_machine.proofs.Long.{next_long}
use Rattle.json_machine.proofs.Modes.{from_mode, is_mode, first_step, first_space, part_taken, breaks_not, ends_same}
use Rattle.json_machine.proofs.Lexed.{Lexed, lexed, lexeme_read}
use Rattle.json_members.specs.Kept.{LexemeKept}
use Rattle.json_members.proofs.Digest.{text_digest, number_digest}
use Rattle.json_feed.specs.Feeding.{Sink, Fed, fed, mode_in, takes_all, whole_fed, fed_all, last_fed}
use Rattle.json_feed.proofs.Steps.{fed_mode, final, last_between, final_step, over_long}
use Rattle.json_feed.proofs.Within.{not_broken, not_ended, before_whole, Closed, closed_whole, closed_on, closed, broken_off}

-- what is told of a whole lexeme
pub record Told (r : Reading) (t : Lexeme) : Type 0 where
  pub head : head_of r.lexer ≡ t.head
  pub first : r.lexer.first ≡ t.first
  pub long : length r.slots ≡ kept_room
  pub kept : LexemeKept r.slots r.lexer.text.len (is_whole_number r.lexer) r.lexer.number.magnitude t

-- ---- from what is read of a lexeme to what is told of it

-- an integer that fits
whole_number : (x : Bool) (over : ℕ) → cond (ltb 0 over) false x ≡ x && eqb over 0
whole_number true over = cases (eqb over 0) (λ e. rw (eqb-true over 0 e)) (λ n. rw (n, lt-ltb 0 over (omega (arith, eqb-false over 0 n))))
whole_number false over = cases (ltb 0 over) (λ t. rw t) (λ f. rw f)

told : (t : Lexeme) (q : Reading) (m : ℕ) → t.head < 256 → is_integer m ≡ is_integer q.lexer.mode → length q.slots ≡ kept_room → Lexed t q → Told (reading (in_mode m q.lexer) q.slots) t
unfolding is_whole_number
told t q m b i l k =
    record {
      head = rw k.head (mod-eq_of_lt b);
      first = k.first;
      long = l;
      kept =
          record {
            text = λ e. text_digest (text_of t) (held q.lexer.text q.slots) (k.text e);
            number = λ e. rw (i, whole_number (is_integer q.lexer.mode) q.lexer.number.over) (number_digest t q.lexer.mode q.lexer.number (k.number e));
          };
    }

-- ---- the first byte of a lexeme

-- a zero is a digit
no_zero : (b : ℕ) → is_digit b ≡ false → eqb b zero_digit ≡ false
unfolding is_digit
no_zero b d = cases (eqb b zero_digit) (λ t. absurd (true≢false (rw (eqb-true b zero_digit t) at d))) (λ f. f)

-- a byte that leads to a mode begins a text, a number or a literal name
begins_scalar : (t : Lexeme) → is_space t.head ≡ false → eqb (begun t.head) whole ≡ false → is_scalar t ≡ true
unfolding begun is_scalar
begins_scalar t n e =
    let b = t.head in
    cases (eqb b quote) (λ y. rw y)
    (λ q. cases (eqb b minus) (λ y. rw (q, y))
    (λ m. cases (is_digit b) (λ y. rw (q, m, y))
    (λ d. cases (eqb b 116) (λ y. rw (q, m, d, y))
    (λ r. cases (eqb b 102) (λ y. rw (q, m, d, r, y))
    (λ f. cases (eqb b 110) (λ y. rw (q, m, d, r, f, y))
    (λ u. absurd (true≢false (rw (n, q, m, no_zero b d, d, r, f, u) at e))))))))

between_begun : (m b : ℕ) → m ≡ between_mode → after_mode m b ≡ begun b
unfolding after_mode
between_begun m b e = rw e

between_next : (b place : ℕ) (r : Reading) → r.lexer.mode ≡ between_mode → with_next b place r ≡ reading (beginning b place) r.slots
unfolding with_next
between_next b place r e = rw e

module _ {X : Type 0} (s : Sink X) (len place : ℕ) (z : Fed X) (b : ℕ) (bs : List ℕ) (m : mode_in z ≡ between_mode) where
  space_first : is_space b ≡ true → final s len place z (b ∷ bs) ≡ final s len (suc place) (fed (read_byte b place z.reading) z.sink) bs
  space_first e =
      let k : after_mode (mode_in z) b ≡ between_mode = between_begun (mode_in z) b m ∙ first_space b e in
      final_step s len place b z (fed (read_byte b place z.reading) z.sink) bs (fed_mode s b place z (rw k) (rw k) (rw k))

  module _ (n : ℕ) (e : is_space b ≡ false) where
    first_mode : eqb (begun b) whole ≡ false → is_mode (after_mode (mode_in z) b) ≡ true
    first_mode w = rw (between_begun (mode_in z) b m) (either_left (is_mode (begun b)) (rw w at (first_step b bs e).next))

    first_read : eqb (begun b) whole ≡ false → part_of b bs ≡ from_mode (after_mode (mode_in z) b) bs
    first_read w = rw (between_begun (mode_in z) b m) ((first_step b bs e).read ∙ rw w)

    closed_first : part_of b bs ≡ Ends n → Closed s len place z (b ∷ bs) (suc n) (read_over place z.reading (b ∷ take n bs))
    unfolding read_over
    closed_first p =
        let k = between_begun (mode_in z) b m in
        cases (eqb (begun b) whole)
        (λ w. rw (← (ends_same 0 n (sym ((first_step b bs e).read ∙ rw w) ∙ p))) (closed_whole s len place z b bs (k ∙ eqb-true (begun b) whole w)))
        (λ w. let i = first_mode w in
        closed_on s len place z b bs i n (read_over (suc place) (read_byte b place z.reading) (take n bs))
        (closed s len (suc place) (fed (read_byte b place z.reading) z.sink) bs n i (sym (first_read w) ∙ p)))

    breaks_begun : part_of b bs ≡ Breaks n → eqb (begun b) whole ≡ false
    breaks_begun p = cases (eqb (begun b) whole) (λ w. absurd (breaks_not n 0 (sym p ∙ (first_step b bs e).read ∙ rw w))) (λ f. f)

    broken_first : part_of b bs ≡ Breaks n → len ≡ place + length (b ∷ bs) → b < 256 → final s len place z (b ∷ bs) ≡ s.on_broken b place (suc place + n) z.sink
    broken_first p l h =
        let w = breaks_begun p in
        let i = first_mode w in
        let k = after_mode (mode_in z) b in
        final_step s len place b z (fed (read_byte b place z.reading) z.sink) bs (fed_mode s b place z (not_broken k i) (not_ended k i) (before_whole k i))
        ∙ broken_off s len (suc place) (fed (read_byte b place z.reading) z.sink) bs n (omega arith) i (sym (first_read w) ∙ p)
        ∙ rw (between_next b place z.reading m, mod-eq_of_lt h)

-- ---- all of a text

-- a byte of a text
abbrev pub is_octet : ℕ → Bool
is_octet b = ltb b 256

module _ {X A : Type 0} (s : Sink X) (takes : A → Lexeme → A) (R : X → A → Type 0)
    (whole-ok : (x : X) (a : A) (r : Reading) (t : Lexeme) → R x a → t.whole ≡ true → Told r t → R (s.on_whole r x) (takes a t))
    (broken-ok : (x : X) (a : A) (t : Lexeme) → R x a → t.whole ≡ false → is_scalar t ≡ true → R (s.on_broken t.head t.first t.stop x) (takes a t)) where
  -- what is read from between lexemes on, in so many steps
  Reads : ℕ → Type 0
  Reads steps = (len place : ℕ) (z : Fed X) (a : A) (bs : List ℕ) → length bs ≤ steps → len ≡ place + length bs → all is_octet bs ≡ true → mode_in z ≡ between_mode → length z.reading.slots ≡ kept_room → R z.sink a → R (final s len place z bs) (takes_all takes a (lexemes steps place bs))

  -- a lexeme, and what is behind it
  reads_lexeme : (steps : ℕ) → Reads steps → (len place : ℕ) (z : Fed X) (a : A) (b : ℕ) (bs : List ℕ) → length bs ≤ steps → len ≡ place + length (b ∷ bs) → b < 256 → all is_octet bs ≡ true → mode_in z ≡ between_mode → length z.reading.slots ≡ kept_room → R z.sink a → is_space b ≡ false → (p : Part) → part_of b bs ≡ p → R (final s len place z (b ∷ bs)) (takes_all takes a (followed b bs place (λ next rest. lexemes steps next rest) p))
  unfolding Reads
  reads_lexeme steps rest len place z a b bs h l o os m k r e (Ends n) p =
      let t : Lexeme = record { head = b; body = take n bs; first = place; whole = true; stop = 0 } in
      let c = closed_first s len place z b bs m n e p in
      let w = part_taken b bs n e p in
      let q = lexeme_read t z.reading in
      let y = reading (in_mode c.mode q.lexer) q.slots in
      let long = over_long place z.reading (b ∷ take n bs) ∙ k in
      let g : place + suc n ≡ suc place + n = omega arith in
      subst (λ (x : X). R x (takes_all takes (takes a t) (lexemes steps (suc place + n) (drop n bs)))) (sym (c.goes ∙ rw g))
      (rest len (suc place + n) (whole_fed s y z.sink) (takes a t) (drop n bs) (simp length-drop (omega arith)) (simp length-drop (omega (arith, w.within_bytes))) (all_drop is_octet n bs os) refl long
      (whole-ok z.sink a y t r refl (told t q c.mode o c.integer long (lexed t z.reading.lexer z.reading.slots m e w.alone k))))
  reads_lexeme steps rest len place z a b bs h l o os m k r e (Breaks n) p =
      let t : Lexeme = record { head = b; body = []; first = place; whole = false; stop = suc place + n } in
      subst (λ (x : X). R x (takes a t)) (sym (broken_first s len place z b bs m n e p l o)) (broken-ok z.sink a t r refl (begins_scalar t e (breaks_begun s len place z b bs m n e p)))

  reads : (steps : ℕ) → Reads steps
  unfolding Reads lexemes fed_all
  reads zero len place z a [] h l o m k r = subst (λ (x : X). R x a) (sym (last_between s len z m)) r
  reads zero len place z a (b ∷ bs) h l o m k r = absurd (omega arith)
  reads (suc steps) len place z a [] h l o m k r = subst (λ (x : X). R x a) (sym (last_between s len z m)) r
  reads (suc steps) len place z a (b ∷ bs) h l o m k r =
      let os = both (is_octet b) (all is_octet bs) o in
      cases (is_space b)
      (λ t. rw t
      (subst (λ (x : X). R x (takes_all takes a (lexemes steps (suc place) bs))) (sym (space_first s len place z b bs m t))
      (reads steps len (suc place) (fed (read_byte b place z.reading) z.sink) a bs (omega arith) (omega arith) os.1 (between_begun (mode_in z) b m ∙ first_space b t) (next_long b place z.reading ∙ k) r)))
      (λ f. rw f (reads_lexeme steps (reads steps) len place z a b bs (omega arith) l (ltb-true b 256 os.0) os.1 m k r f (part_of b bs) refl))

  -- From between lexemes on, at the end of the text: what took the lexemes, in relation to what the rule's lexemes lead to.
  pub feeds : (r : Reading) (x : X) (a : A) (bs : List ℕ) → all is_octet bs ≡ true → r.lexer.mode ≡ between_mode → length r.slots ≡ kept_room → R x a → R (last_fed s (length bs) (fed_all s 0 (fed r x) bs)).sink (takes_all takes a (lexemes (length bs) 0 bs))
  unfolding Reads
  feeds r x a bs o m k h = reads (length bs) (length bs) 0 (fed r x) a bs (omega arith) (omega arith) o m k h
