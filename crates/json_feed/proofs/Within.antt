-- The bytes of one lexeme from a mode on: what a reader does with them is what the rule reads of them.
use Prim.Native.Nat.{ℕ, suc, ◌+◌}
use mathlib.Core.Path.{◌≡◌, refl, sym, ap, ◌∙◌}
use mathlib.Core.Bool.{Bool, true, false, cond, ◌&&◌, ◌||◌, true≢false}
use mathlib.Core.List.{List, [], ◌∷◌}
use native.Mathlib.Nat.{add-zero}
use native.Mathlib.Numerals.{add-one}
use native.Mathlib.Omega.{arith}
use borrow.Author.Tests.{eqb-true, ne_eqb, lt-ltb}
use borrow.Table.Steps.{cases}
use lib.Dec.{eqb, ltb}
use lib.ListN.{length, take, drop}
use Rattle.json_rule.specs.Lexemes.{is_digit, Part, Ends, Breaks, further}
use Rattle.json_machine.specs.Modes.{between_mode, zero_mode, digits_mode, stopped_mode, whole, broken, ended, in_zero, in_digits, after_number, after_mode, may_end, is_integer}
use Rattle.json_machine.specs.Lexing.{in_mode, Reading, reading, with_next, head_of, read_byte, read_over}
use Rattle.json_machine.proofs.Bounds.{both, either_left, from_least, to_most}
use Rattle.json_machine.proofs.Modes.{from_mode, stepped, is_mode, kind_of, is_next, mode_step, mode_end, breaks_not, ends_same}
use Rattle.json_feed.specs.Feeding.{Sink, Fed, fed, mode_in, whole_fed, broken_fed, fed_byte, fed_all}
use Rattle.json_feed.proofs.Steps.{fed_whole, fed_broken, fed_ended, fed_mode, next_same, next_head, next_first, final, last_between, last_whole, last_broken, final_step, final_stopped}

-- ---- where a byte leads

-- on in the lexeme, to its end, to where it breaks, or behind the end of a number
data Leads (m k : ℕ) (bs : List ℕ) (x : Part) : Type 0 where
  On : is_mode k ≡ true → x ≡ further (from_mode k bs) → Leads m k bs x
  Closes : k ≡ whole → x ≡ Ends 1 → Leads m k bs x
  BreaksOff : k ≡ broken → x ≡ Breaks 0 → Leads m k bs x
  Ended : k ≡ ended → may_end m ≡ true → x ≡ Ends 0 → Leads m k bs x

leads_to : (m k : ℕ) (bs : List ℕ) (x : Part) → is_next m k ≡ true → x ≡ stepped k bs → Leads m k bs x
unfolding is_next stepped
leads_to m k bs x h e =
    cases (eqb k whole) (λ t. Closes (eqb-true k whole t) (e ∙ rw t))
    (λ n1. cases (eqb k broken) (λ t. BreaksOff (eqb-true k broken t) (e ∙ rw (n1, t)))
    (λ n2. cases (eqb k ended)
    (λ t. let z = eqb-true k ended t in Ended z (rw z at h) (e ∙ rw (n1, n2, t)))
    (λ n3. On (both (is_mode k) (eqb (kind_of k) (kind_of m)) (either_left (is_mode k && eqb (kind_of k) (kind_of m)) (rw (n1, n2, n3) at h))).0 (e ∙ rw (n1, n2, n3)))))

leads : (m b : ℕ) (bs : List ℕ) → is_mode m ≡ true → Leads m (after_mode m b) bs (from_mode m (b ∷ bs))
leads m b bs i = let g = mode_step m b bs i in leads_to m (after_mode m b) bs (from_mode m (b ∷ bs)) g.next g.read

-- what the rule reads behind a byte that led on
further_ends : (x : Part) (n : ℕ) → further x ≡ Ends n → (k : ℕ) × (x ≡ Ends k) × (n ≡ suc k)
further_ends (Ends k) n e = (k, refl, sym (ends_same (suc k) n e))
further_ends (Breaks k) n e = absurd (breaks_not (suc k) n e)

further_breaks : (x : Part) (n : ℕ) → further x ≡ Breaks n → (k : ℕ) × (x ≡ Breaks k) × (n ≡ suc k)
further_breaks (Ends k) n e = absurd (breaks_not n (suc k) (sym e))
further_breaks (Breaks k) n e = (k, refl, cc)

breaks_same : (n k : ℕ) → Breaks n ≡ Breaks k → n ≡ k
breaks_same n k e = cc

-- a mode within a lexeme
module _ (m : ℕ) (i : is_mode m ≡ true) where
  pub not_between : eqb m between_mode ≡ false
  not_between = ne_eqb m between_mode (λ z. omega (arith, from_least 1 30 m i))

  not_stopped : eqb m stopped_mode ≡ false
  not_stopped = ne_eqb m stopped_mode (λ z. omega (arith, to_most 1 30 m i))

  pub not_broken : eqb m broken ≡ false
  not_broken = ne_eqb m broken (λ z. omega (arith, to_most 1 30 m i))

  pub not_ended : eqb m ended ≡ false
  not_ended = ne_eqb m ended (λ z. omega (arith, to_most 1 30 m i))

  pub before_whole : ltb m whole ≡ true
  before_whole = lt-ltb m whole (omega (arith, to_most 1 30 m i))

-- no byte makes an integer whole: the one behind it shows that it ended
record Unclosed (k : ℕ) : Type 0 where
  unclosed : eqb k whole ≡ false

either_unclosed : {k l : ℕ} (t : Bool) → Unclosed k → Unclosed l → Unclosed (cond t k l)
either_unclosed true p q = p
either_unclosed false p q = q

zero_unclosed : (b : ℕ) → Unclosed (in_zero b)
unfolding in_zero
zero_unclosed b = either_unclosed (eqb b 46) (record { unclosed = refl }) (either_unclosed (eqb b 101 || eqb b 69) (record { unclosed = refl }) (record { unclosed = refl }))

digits_unclosed : (b : ℕ) → Unclosed (in_digits b)
unfolding in_digits
digits_unclosed b = either_unclosed (is_digit b) (record { unclosed = refl }) (zero_unclosed b)

not_integer : (m b : ℕ) → after_mode m b ≡ whole → is_integer m ≡ false
unfolding after_mode after_number is_integer
not_integer m b e =
    cases (eqb m zero_mode)
    (λ t. absurd (true≢false (rw (rw (eqb-true m zero_mode t) at e) at (zero_unclosed b).unclosed)))
    (λ n. cases (eqb m digits_mode)
    (λ t. absurd (true≢false (rw (rw (eqb-true m digits_mode t) at e) at (digits_unclosed b).unclosed)))
    (λ f. rw (n, f)))

-- ---- a lexeme that is whole

module _ {X : Type 0} (s : Sink X) where
  -- behind its bytes, of which there are n, what took it goes on between lexemes. The mode in which it was taken tells of a number what its last mode tells.
  pub record Closed (len place : ℕ) (z : Fed X) (bs : List ℕ) (n : ℕ) (q : Reading) : Type 0 where
    pub mode : ℕ
    pub integer : is_integer mode ≡ is_integer q.lexer.mode
    pub goes : final s len place z bs ≡ final s len (place + n) (whole_fed s (reading (in_mode mode q.lexer) q.slots) z.sink) (drop n bs)

  module _ (len place : ℕ) (z : Fed X) where
    closed_last : may_end (mode_in z) ≡ true → Closed len place z [] 0 z.reading
    unfolding fed_all
    closed_last e = record { mode = mode_in z; integer = refl; goes = last_whole s len z e ∙ sym (last_between s len (whole_fed s z.reading z.sink) refl) }

    module _ (b : ℕ) (bs : List ℕ) where
      pub closed_whole : after_mode (mode_in z) b ≡ whole → Closed len place z (b ∷ bs) 1 (read_byte b place z.reading)
      unfolding is_integer
      closed_whole e =
          record {
            mode = mode_in z;
            integer = not_integer (mode_in z) b e ∙ sym (rw e);
            goes =
                final_step s len place b z (whole_fed s (with_next b place z.reading) z.sink) bs (fed_whole s b place z e)
                ∙ rw (next_same b place z.reading, add-one place);
          }

      closed_ended : after_mode (mode_in z) b ≡ ended → Closed len place z (b ∷ bs) 0 z.reading
      unfolding fed_all
      closed_ended e =
          record {
            mode = mode_in z;
            integer = refl;
            goes = rw (add-zero place) (final_step s len place b z (fed_byte s b place (whole_fed s z.reading z.sink)) bs (fed_ended s b place z e));
          }

      pub closed_on : is_mode (after_mode (mode_in z) b) ≡ true → (n : ℕ) (q : Reading) → Closed len (suc place) (fed (read_byte b place z.reading) z.sink) bs n q → Closed len place z (b ∷ bs) (suc n) q
      closed_on i n q c =
          let k = after_mode (mode_in z) b in
          let h : suc place + n ≡ place + suc n = omega arith in
          record {
            mode = c.mode;
            integer = c.integer;
            goes =
                final_step s len place b z (fed (read_byte b place z.reading) z.sink) bs (fed_mode s b place z (not_broken k i) (not_ended k i) (before_whole k i))
                ∙ rw h at c.goes;
          }

  module _ (len place : ℕ) (z : Fed X) (b : ℕ) (bs : List ℕ) (n : ℕ) (e : from_mode (mode_in z) (b ∷ bs) ≡ Ends n) where
    closed_by : Leads (mode_in z) (after_mode (mode_in z) b) bs (from_mode (mode_in z) (b ∷ bs)) → (is_mode (after_mode (mode_in z) b) ≡ true → (k : ℕ) → from_mode (after_mode (mode_in z) b) bs ≡ Ends k → Closed len (suc place) (fed (read_byte b place z.reading) z.sink) bs k (read_over (suc place) (read_byte b place z.reading) (take k bs))) → Closed len place z (b ∷ bs) n (read_over place z.reading (take n (b ∷ bs)))
    unfolding read_over
    closed_by (On i x) rest =
        let g = further_ends (from_mode (after_mode (mode_in z) b) bs) n (sym x ∙ e) in
        rw g.2 (closed_on len place z b bs i g.0 (read_over (suc place) (read_byte b place z.reading) (take g.0 bs)) (rest i g.0 g.1))
    closed_by (Closes w x) rest = rw (← (ends_same 1 n (sym x ∙ e))) (closed_whole len place z b bs w)
    closed_by (BreaksOff w x) rest = absurd (breaks_not 0 n (sym x ∙ e))
    closed_by (Ended w y x) rest = rw (← (ends_same 0 n (sym x ∙ e))) (closed_ended len place z b bs w)

  -- where the rule reads a whole lexeme from a mode on
  pub closed : (len place : ℕ) (z : Fed X) (bs : List ℕ) (n : ℕ) → is_mode (mode_in z) ≡ true → from_mode (mode_in z) bs ≡ Ends n → Closed len place z bs n (read_over place z.reading (take n bs))
  unfolding read_over
  closed len place z [] n i e =
      cases (may_end (mode_in z))
      (λ t. rw (← (ends_same 0 n (sym (mode_end (mode_in z) i ∙ rw t) ∙ e))) (closed_last len place z t))
      (λ f. absurd (breaks_not 0 n (sym (mode_end (mode_in z) i ∙ rw f) ∙ e)))
  closed len place z (b ∷ bs) n i e =
      closed_by len place z b bs n e (leads (mode_in z) b bs i) (λ j k f. closed len (suc place) (fed (read_byte b place z.reading) z.sink) bs k j f)

  -- ---- a lexeme that is broken

  module _ (len place : ℕ) (z : Fed X) (b : ℕ) (bs : List ℕ) (n : ℕ) (i : is_mode (mode_in z) ≡ true) (e : from_mode (mode_in z) (b ∷ bs) ≡ Breaks n) where
    broken_by : Leads (mode_in z) (after_mode (mode_in z) b) bs (from_mode (mode_in z) (b ∷ bs)) → (is_mode (after_mode (mode_in z) b) ≡ true → (k : ℕ) → from_mode (after_mode (mode_in z) b) bs ≡ Breaks k → final s len (suc place) (fed (read_byte b place z.reading) z.sink) bs ≡ s.on_broken (head_of (read_byte b place z.reading).lexer) (read_byte b place z.reading).lexer.first (suc place + k) z.sink) → final s len place z (b ∷ bs) ≡ s.on_broken (head_of z.reading.lexer) z.reading.lexer.first (place + n) z.sink
    broken_by (On j x) rest =
        let k = after_mode (mode_in z) b in
        let g = further_breaks (from_mode k bs) n (sym x ∙ e) in
        let h : suc place + g.0 ≡ place + n = omega (arith, g.2) in
        final_step s len place b z (fed (read_byte b place z.reading) z.sink) bs (fed_mode s b place z (not_broken k j) (not_ended k j) (before_whole k j))
        ∙ rest j g.0 g.1
        ∙ rw (next_head b place z.reading (not_between (mode_in z) i), next_first b place z.reading (not_between (mode_in z) i), h)
    broken_by (Closes w x) rest = absurd (breaks_not n 1 (sym e ∙ x))
    broken_by (BreaksOff w x) rest =
        let h : place ≡ place + n = omega (arith, breaks_same 0 n (sym x ∙ e)) in
        final_step s len place b z (broken_fed s place z) bs (fed_broken s b place z w)
        ∙ final_stopped s len (suc place) (broken_fed s place z) bs refl
        ∙ ap (λ (p : ℕ). s.on_broken (head_of z.reading.lexer) z.reading.lexer.first p z.sink) h
    broken_by (Ended w y x) rest = absurd (breaks_not n 0 (sym e ∙ x))

  broken_end : (len place : ℕ) (z : Fed X) (n : ℕ) → len ≡ place + 0 → is_mode (mode_in z) ≡ true → from_mode (mode_in z) [] ≡ Breaks n → final s len place z [] ≡ s.on_broken (head_of z.reading.lexer) z.reading.lexer.first (place + n) z.sink
  unfolding fed_all
  broken_end len place z n l i e =
      cases (may_end (mode_in z))
      (λ t. absurd (breaks_not n 0 (sym e ∙ mode_end (mode_in z) i ∙ rw t)))
      (λ f. let h : len ≡ place + n = omega (arith, breaks_same 0 n (sym (mode_end (mode_in z) i ∙ rw f) ∙ e)) in
      last_broken s len z f (not_between (mode_in z) i) (not_stopped (mode_in z) i)
      ∙ ap (λ (p : ℕ). s.on_broken (head_of z.reading.lexer) z.reading.lexer.first p z.sink) h)

  -- where the rule reads a broken lexeme from a mode on, it is told so at the place of the byte that breaks it, or of the end
  pub broken_off : (len place : ℕ) (z : Fed X) (bs : List ℕ) (n : ℕ) → len ≡ place + length bs → is_mode (mode_in z) ≡ true → from_mode (mode_in z) bs ≡ Breaks n → final s len place z bs ≡ s.on_broken (head_of z.reading.lexer) z.reading.lexer.first (place + n) z.sink
  broken_off len place z [] n l i e = broken_end len place z n l i e
  broken_off len place z (b ∷ bs) n l i e =
      broken_by len place z b bs n i e (leads (mode_in z) b bs i)
      (λ j k f. broken_off len (suc place) (fed (read_byte b place z.reading) z.sink) bs k (omega arith) j f)
