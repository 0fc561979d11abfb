-- What is kept of a number is the magnitude of its digits, where it has neither fraction nor exponent; and whether it has is told by the mode in which it ends.
use Prim.Native.Nat.{ℕ, ◌+◌, ◌-◌, ◌*◌, ◌^◌, ◌<◌}
use mathlib.Core.Path.{◌≡◌, refl, sym, ◌∙◌}
use mathlib.Core.Bool.{Bool, true, false, cond, ◌&&◌, ◌||◌, true≢false}
use mathlib.Core.List.{List, [], ◌∷◌}
use mathlib.Core.Option.{none, some}
use native.Mathlib.Omega.{arith}
use borrow.Author.Tests.{eqb-true, eq-eqb, ltb-true, ltb-false, lt-ltb, le-ltb, ne_eqb}
use borrow.Table.Steps.{cases}
use lib.Dec.{eqb, ltb}
use lib.IntN.{ℤ, pos}
use lib.ListN.{length}
use Rattle.rules.specs.Words.{all}
use Rattle.json_rule.specs.Lexemes.{Lexeme, within, minus, zero_digit, is_space, is_digit, Ends, part_of}
use Rattle.json_rule.specs.Values.{digits_value, negative, whole_number_of}
use Rattle.json_machine.specs.declared.Number.{Number}
use Rattle.json_machine.specs.Modes.{minus_mode, zero_mode, digits_mode, point_mode, power_mode, rue_mode, whole, broken, ended, begun, in_minus, in_zero, in_digits, in_fraction, in_exponent, after_number, after_mode, mode_over, may_end, is_integer}
use Rattle.json_machine.specs.Digest.{blank_number, with_digit, number_with, is_before_point, number_after, number_over}
use Rattle.json_machine.proofs.Bounds.{both, either_left, inside, from_least, to_most}
use Rattle.json_machine.proofs.Each.{Each, done, ◌&◌, each_at}
use Rattle.json_machine.proofs.Modes.{from_mode, mode_end, breaks_not, Onward, Last, More, onward}

-- ---- digits

-- the number that is kept tells a magnitude: all of it below 2^64, and else that it is not below
pub record Tells (n : Number) (v : ℕ) : Type 0 where
  pub over : n.over ≡ cond (ltb v (2 ^ 64)) 0 1
  pub magnitude : v < 2 ^ 64 → n.magnitude ≡ v

module _ (n : Number) (v d : ℕ) (t : Tells n v) where
  digit_fits : ltb v (2 ^ 64) ≡ true → Tells (with_digit n d) (v * 10 + d)
  unfolding with_digit
  digit_fits e =
      let is = t.magnitude (ltb-true v (2 ^ 64) e) in
      let zero : n.over ≡ 0 = t.over ∙ rw e in
      cases (ltb (v * 10 + d) (2 ^ 64))
      (λ f. rw (zero, is, f) (record { over = rw f; magnitude = λ h. refl }))
      (λ f. rw (zero, is, f) (record { over = rw f; magnitude = λ h. absurd (omega (arith, ltb-false (v * 10 + d) (2 ^ 64) f)) }))

  digit_over : ltb v (2 ^ 64) ≡ false → Tells (with_digit n d) (v * 10 + d)
  unfolding with_digit
  digit_over e =
      let one : n.over ≡ 1 = t.over ∙ rw e in
      let h = ltb-false v (2 ^ 64) e in
      rw (lt-ltb 0 n.over (omega arith)) (record { over = one ∙ rw (le-ltb (v * 10 + d) (2 ^ 64) (omega arith)); magnitude = λ g. absurd (omega arith) })

  digit_tells : Tells (with_digit n d) (v * 10 + d)
  digit_tells = cases (ltb v (2 ^ 64)) digit_fits digit_over

with_tells : (n : Number) (v b : ℕ) → is_digit b ≡ true → Tells n v → Tells (number_with n b) (v * 10 + (b - 48))
unfolding number_with
with_tells n v b e t = rw e (digit_tells n v (b - 48) t)

-- ---- where the bytes of a number lead

-- to modes of which p holds, unless the number ends or breaks there
record Leads (p : ℕ → Bool) (k : ℕ) : Type 0 where
  leads : p k || (eqb k broken || eqb k ended) ≡ true

either_leads : {p : ℕ → Bool} {k l : ℕ} (t : Bool) → Leads p k → Leads p l → Leads p (cond t k l)
either_leads true q r = q
either_leads false q r = r

-- in a whole number they do not
on_to : (p : ℕ → Bool) (m k : ℕ) (bs : List ℕ) → p whole ≡ false → Onward m k bs → Leads p k → (p k ≡ true) × (from_mode k bs ≡ Ends (length bs))
on_to p m k bs n (Last w l) q = absurd (true≢false (sym (either_left (p whole) (rw w at q.leads)) ∙ n))
on_to p m k bs n (More s e) q =
    let h = to_most 1 30 k s.mode in
    (either_left (p k) (rw (ne_eqb k broken (λ z. omega arith), ne_eqb k ended (λ z. omega arith)) at q.leads), e)

-- behind the point or the `e`
abbrev is_past : ℕ → Bool
is_past m = within point_mode power_mode m

past : Each (λ (m : ℕ). (b : ℕ) → Leads is_past (after_mode m b)) rue_mode point_mode
unfolding after_mode after_number in_fraction in_exponent
past =
    (λ b. either_leads (is_digit b) (record { leads = refl }) (record { leads = refl }))
    & (λ b. either_leads (is_digit b) (record { leads = refl }) (either_leads (eqb b 101 || eqb b 69) (record { leads = refl }) (record { leads = refl })))
    & (λ b. either_leads (eqb b 43 || eqb b minus) (record { leads = refl }) (either_leads (is_digit b) (record { leads = refl }) (record { leads = refl })))
    & (λ b. either_leads (is_digit b) (record { leads = refl }) (record { leads = refl }))
    & (λ b. either_leads (is_digit b) (record { leads = refl }) (record { leads = refl }))
    & done

-- before them, where a digit counts
abbrev is_before : ℕ → Bool
is_before m = within minus_mode digits_mode m

abbrev is_counted : ℕ → ℕ → Bool
is_counted m k = is_before k && is_before_point m

record Before (m : ℕ) : Type 0 where
  digit : (b : ℕ) → is_digit b ≡ true → Leads (is_counted m) (after_mode m b)
  other : (b : ℕ) → is_digit b ≡ false → Leads is_past (after_mode m b)

zero_other : (b : ℕ) → Leads is_past (in_zero b)
unfolding in_zero
zero_other b = either_leads (eqb b 46) (record { leads = refl }) (either_leads (eqb b 101 || eqb b 69) (record { leads = refl }) (record { leads = refl }))

zero_digit_lem : (b : ℕ) → is_digit b ≡ true → in_zero b ≡ ended
unfolding is_digit in_zero
zero_digit_lem b e =
    let h = from_least 48 57 b e in
    let g = to_most 48 57 b e in
    rw (ne_eqb b 46 (λ z. omega arith), ne_eqb b 101 (λ z. omega arith), ne_eqb b 69 (λ z. omega arith))

minus_other : (b : ℕ) → is_digit b ≡ false → eqb b zero_digit ≡ false
unfolding is_digit
minus_other b e = ne_eqb b zero_digit (λ z. true≢false (rw z at e))

before_minus : Before minus_mode
unfolding after_mode after_number in_minus is_before_point
before_minus =
    record {
      digit = λ b e. rw e (either_leads (eqb b zero_digit) (record { leads = refl }) (record { leads = refl }));
      other = λ b e. rw (minus_other b e, e) (record { leads = refl });
    }

before_zero : Before zero_mode
unfolding after_mode after_number
before_zero = record { digit = λ b e. rw (zero_digit_lem b e) (record { leads = refl }); other = λ b e. zero_other b }

before_digits : Before digits_mode
unfolding after_mode after_number in_digits is_before_point
before_digits = record { digit = λ b e. rw e (record { leads = refl }); other = λ b e. rw e (zero_other b) }

befores : Each Before point_mode minus_mode
befores = before_minus & before_zero & before_digits & done

-- ---- all bytes

past_over : (m : ℕ) (bs : List ℕ) → is_past m ≡ true → from_mode m bs ≡ Ends (length bs) → is_integer (mode_over m bs) ≡ false
unfolding is_integer mode_over
past_over m [] i e = let h = from_least point_mode power_mode m i in rw (ne_eqb m 15 (λ z. omega arith), ne_eqb m 16 (λ z. omega arith))
past_over m (b ∷ bs) i e =
    let h = from_least point_mode power_mode m i in
    let g = to_most point_mode power_mode m i in
    let r = on_to is_past m (after_mode m b) bs refl (onward m b bs (inside 1 30 m (omega arith) (omega arith)) e) (each_at past m h (omega arith) b) in
    past_over (after_mode m b) bs r.0 r.1

record Whole (m : ℕ) (n : Number) (v : ℕ) (bs : List ℕ) : Type 0 where
  integer : is_integer (mode_over m bs) ≡ all is_digit bs
  tells : all is_digit bs ≡ true → Tells (number_over m n bs) (digits_value v bs)

-- a number that ends before its point and its exponent ends behind a digit
ends_integer : (m : ℕ) → is_before m ≡ true → may_end m ≡ true → is_integer m ≡ true
unfolding may_end is_integer
ends_integer m i e =
    cases (eqb m zero_mode) (λ t. rw t)
    (λ n. cases (eqb m digits_mode) (λ t. rw (n, t))
    (λ f. absurd (true≢false (sym (rw (n, f, ne_eqb m 18 (λ z. omega (arith, to_most 14 16 m i)), ne_eqb m 21 (λ z. omega (arith, to_most 14 16 m i))) at e)))))

number_over_lem : (m : ℕ) (n : Number) (v : ℕ) (bs : List ℕ) → is_before m ≡ true → from_mode m bs ≡ Ends (length bs) → Tells n v → Whole m n v bs
unfolding mode_over number_over
number_over_lem m n v [] i e t =
    let h = from_least 14 16 m i in
    let g = to_most 14 16 m i in
    let at_end_lem = mode_end m (inside 1 30 m (omega arith) (omega arith)) in
    record {
      integer = cases (may_end m) (λ y. ends_integer m i y) (λ f. absurd (breaks_not 0 0 (sym (at_end_lem ∙ rw f) ∙ e)));
      tells = λ d. t;
    }
number_over_lem m n v (b ∷ bs) i e t =
    let h = from_least 14 16 m i in
    let g = to_most 14 16 m i in
    let on = onward m b bs (inside 1 30 m (omega arith) (omega arith)) e in
    let to = each_at befores m h (omega arith) in
    cases (is_digit b)
    (λ d. let r = on_to (is_counted m) m (after_mode m b) bs refl on (to.digit b d) in
    let c = both (is_before (after_mode m b)) (is_before_point m) r.0 in
    let w = number_over_lem (after_mode m b) (number_after m b n) (v * 10 + (b - 48)) bs c.0 r.1 (rw c.1 (with_tells n v b d t)) in
    record { integer = rw d w.integer; tells = λ a. w.tells (rw d at a) })
    (λ f. let r = on_to is_past m (after_mode m b) bs refl on (to.other b f) in
    record { integer = rw f (past_over (after_mode m b) bs r.0 r.1); tells = λ a. absurd (true≢false (sym (rw f at a))) })

-- ---- a whole number

-- with the sign that the first byte tells
abbrev pub signed_by : ℕ → ℕ → ℤ
signed_by head v = cond (eqb head minus) (negative v) (pos v)

-- where it has neither fraction nor exponent, which its last mode tells, it is that magnitude with its sign
pub record NumberKept (t : Lexeme) (m : ℕ) (n : Number) : Type 0 where
  pub value : ℕ
  pub number : whole_number_of t ≡ cond (is_integer m) (some (signed_by t.head value)) none
  pub tells : is_integer m ≡ true → Tells n value

blank_tells : Tells blank_number 0
blank_tells = record { over = refl; magnitude = λ h. refl }

-- a digit begins a number, in one mode or the other
record BegunBy (b : ℕ) (bs : List ℕ) (m : ℕ) : Type 0 where
  mode : begun b ≡ m
  rule : part_of b bs ≡ from_mode m bs

module _ (b : ℕ) (bs : List ℕ) (d : is_digit b ≡ true) where
  not_other : (k : ℕ) → k < 48 → eqb b k ≡ false
  unfolding is_digit
  not_other k h = ne_eqb b k (λ z. omega (arith, from_least 48 57 b d))

  begun_zero : eqb b zero_digit ≡ true → BegunBy b bs zero_mode
  unfolding is_space part_of begun from_mode
  begun_zero z =
      record {
        mode = rw (not_other 32 (omega arith), not_other 9 (omega arith), not_other 10 (omega arith), not_other 13 (omega arith), not_other 34 (omega arith), not_other 45 (omega arith), z);
        rule = rw (not_other 34 (omega arith), not_other 45 (omega arith), z);
      }

  begun_digits : eqb b zero_digit ≡ false → BegunBy b bs digits_mode
  unfolding is_space part_of begun from_mode
  begun_digits n =
      record {
        mode = rw (not_other 32 (omega arith), not_other 9 (omega arith), not_other 10 (omega arith), not_other 13 (omega arith), not_other 34 (omega arith), not_other 45 (omega arith), n, d);
        rule = rw (not_other 34 (omega arith), not_other 45 (omega arith), n, d);
      }

begun_minus : (b : ℕ) (bs : List ℕ) → b ≡ minus → BegunBy b bs minus_mode
unfolding is_space part_of begun from_mode
begun_minus b bs e = rw e (record { mode = refl; rule = refl })

minus_no_digit : (b : ℕ) → b ≡ minus → is_digit b ≡ false
unfolding is_digit
minus_no_digit b e = rw e

-- ---- from the first byte on

module _ (t : Lexeme) (m : ℕ) (by : BegunBy t.head t.body m) (i : is_before m ≡ true) (e : part_of t.head t.body ≡ Ends (length t.body)) where
  over_number_lem : (v : ℕ) → Tells (number_with blank_number t.head) v → Whole (begun t.head) (number_with blank_number t.head) v t.body
  over_number_lem v k = rw by.mode (number_over_lem m (number_with blank_number t.head) v t.body i (sym by.rule ∙ e) k)

  minus_kept : t.head ≡ minus → NumberKept t (mode_over (begun t.head) t.body) (number_over (begun t.head) (number_with blank_number t.head) t.body)
  unfolding whole_number_of number_with
  minus_kept h =
      let w = over_number_lem 0 (rw (minus_no_digit t.head h) blank_tells) in
      record {
        value = digits_value 0 t.body;
        number =
            cases (all is_digit t.body)
            (λ a. rw (w.integer, eq-eqb t.head minus h, a))
            (λ a. rw (w.integer, eq-eqb t.head minus h, a, minus_no_digit t.head h));
        tells = λ a. w.tells (sym w.integer ∙ a);
      }

  digit_kept : is_digit t.head ≡ true → NumberKept t (mode_over (begun t.head) t.body) (number_over (begun t.head) (number_with blank_number t.head) t.body)
  unfolding whole_number_of
  digit_kept d =
      let w = over_number_lem (0 * 10 + (t.head - 48)) (with_tells blank_number 0 t.head d blank_tells) in
      let no = not_other t.head t.body d minus (omega arith) in
      record {
        value = digits_value 0 (t.head ∷ t.body);
        number = cases (all is_digit t.body) (λ a. rw (w.integer, no, d, a)) (λ a. rw (w.integer, no, d, a));
        tells = λ a. w.tells (sym w.integer ∙ a);
      }

-- the bytes of a whole number, from the mode that the first of them begins
pub number_kept : (t : Lexeme) → eqb t.head minus || is_digit t.head ≡ true → part_of t.head t.body ≡ Ends (length t.body) → NumberKept t (mode_over (begun t.head) t.body) (number_over (begun t.head) (number_with blank_number t.head) t.body)
number_kept t s e =
    cases (eqb t.head minus)
    (λ h. let is = eqb-true t.head minus h in minus_kept t minus_mode (begun_minus t.head t.body is) refl e is)
    (λ n. let d : is_digit t.head ≡ true = rw n at s in
    cases (eqb t.head zero_digit)
    (λ z. digit_kept t zero_mode (begun_zero t.head t.body d z) refl e d)
    (λ z. digit_kept t digits_mode (begun_digits t.head t.body d z) refl e d))
