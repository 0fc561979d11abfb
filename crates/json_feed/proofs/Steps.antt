-- What a byte does to a reader, by where it leads; bytes after others; there are as many slots behind them as before.
use Prim.Native.Nat.{ℕ, suc, ◌+◌}
use mathlib.Core.Path.{◌≡◌, refl, sym, ap, ◌∙◌}
use mathlib.Core.Bool.{true, false, true≢false}
use mathlib.Core.List.{List, [], ◌∷◌, ◌++◌}
use native.Mathlib.Nat.{add-zero}
use native.Mathlib.Omega.{arith}
use borrow.Author.Tests.{eqb-true}
use borrow.Table.Steps.{cases}
use lib.Dec.{eqb, leb, ltb}
use lib.ListN.{length}
use Rattle.json_rule.specs.Lexemes.{is_space}
use Rattle.json_machine.specs.Modes.{between_mode, after_f4_mode, stopped_mode, whole, broken, ended, begun, after_word, after_mode, may_end}
use Rattle.json_machine.specs.Digest.{is_before_point}
use Rattle.json_machine.specs.Lexing.{in_mode, Reading, reading, with_next, head_of, read_byte, read_over}
use Rattle.json_machine.proofs.Modes.{first_step, first_space}
use Rattle.json_machine.proofs.Long.{next_long}
use Rattle.json_feed.specs.Feeding.{Sink, Fed, fed, mode_in, whole_fed, broken_fed, fed_once, fed_byte, fed_all, last_fed}

-- ---- between lexemes

-- no byte ends a number there
pub begun_not_ended : (b : ℕ) → eqb (begun b) ended ≡ false
begun_not_ended b =
    cases (is_space b)
    (λ t. rw (first_space b t))
    (λ f. cases (eqb (begun b) ended) (λ t. absurd (true≢false (sym (rw (eqb-true (begun b) ended t) at (first_step b [] f).next)))) (λ n. n))

between_begun : (m b : ℕ) → m ≡ between_mode → after_mode m b ≡ begun b
unfolding after_mode
between_begun m b e = rw e

-- ---- one byte

module _ {X : Type 0} (s : Sink X) (b place : ℕ) (z : Fed X) where
  pub fed_whole : after_mode (mode_in z) b ≡ whole → fed_byte s b place z ≡ whole_fed s (with_next b place z.reading) z.sink
  unfolding fed_byte fed_once
  fed_whole e = rw e

  pub fed_broken : after_mode (mode_in z) b ≡ broken → fed_byte s b place z ≡ broken_fed s place z
  unfolding fed_byte fed_once
  fed_broken e = rw e

  pub fed_ended : after_mode (mode_in z) b ≡ ended → fed_byte s b place z ≡ fed_byte s b place (whole_fed s z.reading z.sink)
  unfolding fed_byte after_mode
  fed_ended e = rw (e, begun_not_ended b)

  pub fed_mode : eqb (after_mode (mode_in z) b) broken ≡ false → eqb (after_mode (mode_in z) b) ended ≡ false → ltb (after_mode (mode_in z) b) whole ≡ true → fed_byte s b place z ≡ fed (read_byte b place z.reading) z.sink
  unfolding fed_byte fed_once
  fed_mode e f g = rw (e, f, g)

-- ---- what a byte leaves as it is

module _ (b place : ℕ) (r : Reading) where
  -- the mode is still the one before the byte
  pub next_mode : (with_next b place r).lexer.mode ≡ r.lexer.mode
  unfolding with_next
  next_mode =
      let m = r.lexer.mode in
      cases (eqb m between_mode) (λ t. rw t (sym (eqb-true m between_mode t)))
      (λ n. cases (leb m after_f4_mode) (λ t. rw (n, t))
      (λ f. cases (is_before_point m) (λ t. rw (n, f, t)) (λ g. rw (n, f, g))))

  pub next_same : reading (in_mode r.lexer.mode (with_next b place r).lexer) (with_next b place r).slots ≡ with_next b place r
  next_same = ap (λ (m : ℕ). reading (in_mode m (with_next b place r).lexer) (with_next b place r).slots) (sym next_mode)

  -- within a lexeme its first byte stays
  pub next_head : eqb r.lexer.mode between_mode ≡ false → (with_next b place r).lexer.head ≡ r.lexer.head
  unfolding with_next
  next_head n =
      let m = r.lexer.mode in
      cases (leb m after_f4_mode) (λ t. rw (n, t))
      (λ f. cases (is_before_point m) (λ t. rw (n, f, t)) (λ g. rw (n, f, g)))

  pub next_first : eqb r.lexer.mode between_mode ≡ false → (with_next b place r).lexer.first ≡ r.lexer.first
  unfolding with_next
  next_first n =
      let m = r.lexer.mode in
      cases (leb m after_f4_mode) (λ t. rw (n, t))
      (λ f. cases (is_before_point m) (λ t. rw (n, f, t)) (λ g. rw (n, f, g)))

-- ---- bytes

-- what took the lexemes of all of a text of this length, from a place of it on
abbrev pub final : {X : Type 0} → Sink X → ℕ → ℕ → Fed X → List ℕ → X
final s len place z bs = (last_fed s len (fed_all s place z bs)).sink

module _ {X : Type 0} (s : Sink X) where
  once_long : (b place : ℕ) (z : Fed X) → length (fed_once s b place z).reading.slots ≡ length z.reading.slots
  unfolding fed_once
  once_long b place z =
      let k = after_mode (mode_in z) b in
      cases (eqb k broken) (λ t. rw t)
      (λ n. cases (ltb k whole) (λ t. rw (n, t) (next_long b place z.reading)) (λ f. rw (n, f) (next_long b place z.reading)))

  byte_long : (b place : ℕ) (z : Fed X) → length (fed_byte s b place z).reading.slots ≡ length z.reading.slots
  unfolding fed_byte
  byte_long b place z =
      cases (eqb (after_mode (mode_in z) b) ended) (λ t. rw t (once_long b place (whole_fed s z.reading z.sink))) (λ f. rw f (once_long b place z))

  -- there are as many slots behind the bytes as before
  pub fed_long : (place : ℕ) (z : Fed X) (bs : List ℕ) → length (fed_all s place z bs).reading.slots ≡ length z.reading.slots
  unfolding fed_all
  fed_long place z [] = refl
  fed_long place z (b ∷ bs) = fed_long (suc place) (fed_byte s b place z) bs ∙ byte_long b place z

  pub fed_append : (place : ℕ) (z : Fed X) (cs bs : List ℕ) → fed_all s place z (cs ++ bs) ≡ fed_all s (place + length cs) (fed_all s place z cs) bs
  unfolding fed_all
  fed_append place z [] bs = rw (add-zero place)
  fed_append place z (c ∷ cs) bs =
      let h : suc place + length cs ≡ place + length (c ∷ cs) = omega arith in
      fed_append (suc place) (fed_byte s c place z) cs bs ∙ ap (λ (n : ℕ). fed_all s n (fed_all s (suc place) (fed_byte s c place z) cs) bs) h

  -- behind a broken lexeme no byte changes anything
  stopped_stays : (m b : ℕ) → m ≡ stopped_mode → after_mode m b ≡ stopped_mode
  unfolding after_mode after_word
  stopped_stays m b e = rw e

  pub last_between : (len : ℕ) (z : Fed X) → mode_in z ≡ between_mode → (last_fed s len z).sink ≡ z.sink
  unfolding last_fed may_end
  last_between len z e = rw e

  pub last_whole : (len : ℕ) (z : Fed X) → may_end (mode_in z) ≡ true → (last_fed s len z).sink ≡ s.on_whole z.reading z.sink
  unfolding last_fed
  last_whole len z e = rw e

  pub last_broken : (len : ℕ) (z : Fed X) → may_end (mode_in z) ≡ false → eqb (mode_in z) between_mode ≡ false → eqb (mode_in z) stopped_mode ≡ false → (last_fed s len z).sink ≡ s.on_broken (head_of z.reading.lexer) z.reading.lexer.first len z.sink
  unfolding last_fed
  last_broken len z e f g = rw (e, f, g)

  last_stopped : (len : ℕ) (z : Fed X) → mode_in z ≡ stopped_mode → (last_fed s len z).sink ≡ z.sink
  unfolding last_fed may_end
  last_stopped len z e = rw e

  pub final_step : (len place b : ℕ) (z y : Fed X) (bs : List ℕ) → fed_byte s b place z ≡ y → final s len place z (b ∷ bs) ≡ final s len (suc place) y bs
  unfolding fed_all
  final_step len place b z y bs e = ap (λ (x : Fed X). (last_fed s len (fed_all s (suc place) x bs)).sink) e

  pub final_stopped : (len place : ℕ) (z : Fed X) (bs : List ℕ) → mode_in z ≡ stopped_mode → final s len place z bs ≡ z.sink
  unfolding fed_all
  final_stopped len place z [] e = last_stopped len z e
  final_stopped len place z (b ∷ bs) e =
      let k = stopped_stays (mode_in z) b e in
      final_step len place b z (fed (read_byte b place z.reading) z.sink) bs (fed_mode s b place z (rw k) (rw k) (rw k))
      ∙ final_stopped len (suc place) (fed (read_byte b place z.reading) z.sink) bs k

pub over_long : (place : ℕ) (r : Reading) (bs : List ℕ) → length (read_over place r bs).slots ≡ length r.slots
unfolding read_over
over_long place r [] = refl
over_long place r (b ∷ bs) = over_long (suc place) (read_byte b place r) bs ∙ next_long b place r
