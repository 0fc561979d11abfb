-- One turn of a loop over the bytes of a lexeme, and over spaces: what is left to read from the place behind it is what was left before.
use Prim.Native.Nat.{ℕ, zero, suc, ◌+◌, ◌≤◌, ◌<◌}
use mathlib.Core.Path.{◌≡◌, sym, ap, ap₂, ◌∙◌}
use mathlib.Core.Bool.{true, false, ◌&&◌, true≢false}
use mathlib.Core.List.{List, [], ◌∷◌}
use native.Mathlib.Nat.{add-zero, zero-add}
use native.Mathlib.Numerals.{add-one}
use native.Mathlib.Omega.{arith}
use borrow.Author.Tests.{eqb-true, ne_eqb, leb-true}
use borrow.Table.Steps.{cases}
use lib.Dec.{eqb}
use lib.ListN.{length, get_or, take, drop, length-drop, drop_of_length-le}
use lib.Seq.{slice, take-nil, drop-cons, drop-drop, length-take-le}
use Rattle.rules.specs.Words.{all}
use Rattle.json_machine.specs.Modes.{text_mode, after_f4_mode, whole, broken, ended, after_mode, may_end}
use Rattle.json_machine.specs.declared.Text.{Text}
use Rattle.json_machine.specs.Digest.{Held, held, keeping, settled_held, held_after, held_over, is_plain, plain_run}
use Rattle.json_machine.proofs.Bounds.{both, either_left}
use Rattle.json_machine.proofs.Modes.{is_mode, kind_of, text_kind, is_next, mode_step}
use Rattle.json_machine.proofs.Plain.{plain_mode, plain_over, plain_run_all, plain_run_within}
use Rattle.json_tokens.specs.declared.token.Token.{Token}
use Rattle.json_tokens.specs.Outcomes.{whole_state, broken_state, at_end, Outcome, outcome_of, outcome, answer, text_token, text_answer}

-- ---- a byte of a lexeme

module _ {X : Type 0} (adds : ℕ → ℕ → X → X) (bs : List ℕ) (place i m : ℕ) (x : X) where
  -- what is left to read, where the byte at `i` stands at a place
  abbrev pub ahead : Outcome X
  ahead = outcome adds place m x (drop i bs)

  pub at_last : length bs ≤ i → ahead ≡ outcome_of (at_end m) place m x
  unfolding outcome
  at_last h = rw (drop_of_length-le bs h)

  module _ (h : i < length bs) (next : ℕ) (n : next ≡ after_mode m (get_or bs i 0)) where
    pub step_broken : next ≡ broken → ahead ≡ outcome_of broken_state place m x
    unfolding outcome
    step_broken e = rw (drop-cons bs i 0 h, sym n ∙ e)

    pub step_ended : next ≡ ended → ahead ≡ outcome_of whole_state place m x
    unfolding outcome
    step_ended e = rw (drop-cons bs i 0 h, sym n ∙ e)

    module _ (y : X) (a : y ≡ adds m (get_or bs i 0) x) where
      pub step_whole : next ≡ whole → ahead ≡ outcome_of whole_state (place + 1) next y
      unfolding outcome
      step_whole e = rw (drop-cons bs i 0 h, ← n, e, a, add-one)

      pub step_on : (next ≡ whole → ⊥) → (next ≡ broken → ⊥) → (next ≡ ended → ⊥) → ahead ≡ outcome adds (place + 1) next y (drop (i + 1) bs)
      unfolding outcome
      step_on nw nb ne = rw (drop-cons bs i 0 h, ← n, ne_eqb next whole nw, ne_eqb next broken nb, ne_eqb next ended ne, a, add-one place, add-one i)

-- ---- a text

-- a mode in which a text goes on
pub record InText (m : ℕ) : Type 0 where
  pub mode : is_mode m ≡ true
  pub kind : kind_of m ≡ 0

module _ (m : ℕ) (t : InText m) where
  -- the end of the bytes breaks it off
  pub text_goes_on : may_end m ≡ false
  unfolding may_end
  text_goes_on =
      let h = leb-true m after_f4_mode (text_kind m t.kind) in
      rw (ne_eqb m 15 (λ z. omega arith), ne_eqb m 16 (λ z. omega arith), ne_eqb m 18 (λ z. omega arith), ne_eqb m 21 (λ z. omega arith))

  module _ (b next : ℕ) (n : next ≡ after_mode m b) where
    led : is_next m next ≡ true
    led = rw n (mode_step m b [] t.mode).next

    -- it is no number, which a byte shows to have ended
    pub text_not_ended : next ≡ ended → ⊥
    unfolding is_next
    text_not_ended e = true≢false (sym (rw e at led) ∙ text_goes_on)

    pub text_next : (next ≡ whole → ⊥) → (next ≡ broken → ⊥) → InText next
    unfolding is_next
    text_next nw nb =
        let f : eqb next ended ≡ false = ne_eqb next ended text_not_ended in
        let p = both (is_mode next) (eqb (kind_of next) (kind_of m)) (either_left (is_mode next && eqb (kind_of next) (kind_of m)) (rw (ne_eqb next whole nw, ne_eqb next broken nb, f) at led)) in
        record { mode = p.0; kind = eqb-true (kind_of next) (kind_of m) p.1 ∙ t.kind }

module _ (x : Held) (b : ℕ) (bs : List ℕ) (t : is_plain b ≡ true) where
  plain_first : (place : ℕ) → outcome held_after place text_mode x (b ∷ bs) ≡ outcome held_after (suc place) text_mode (held_after text_mode b x) bs
  unfolding outcome
  plain_first place = rw (plain_mode b t)

  plain_held : held_over text_mode x (b ∷ bs) ≡ held_over text_mode (held_after text_mode b x) bs
  unfolding held_over
  plain_held = ap (λ (m : ℕ). held_over m (held_after text_mode b x) bs) (plain_mode b t)

-- the plain bytes in front
plain_ahead : (place : ℕ) (x : Held) (bs : List ℕ) → outcome held_after place text_mode x bs ≡ outcome held_after (place + plain_run bs) text_mode (held_over text_mode x (take (plain_run bs) bs)) (drop (plain_run bs) bs)
unfolding held_over
plain_ahead place x [] = rw (add-zero place)
plain_ahead place x (b ∷ bs) =
    let n = plain_run bs in
    let h : suc place + n ≡ place + suc n = omega arith in
    cases (is_plain b)
    (λ t. rw t
    (plain_first x b bs t place
    ∙ plain_ahead (suc place) (held_after text_mode b x) bs
    ∙ ap₂ (λ (i : ℕ) (y : Held). outcome held_after i text_mode y (drop n bs)) h (sym (plain_held x b (take n bs) t))))
    (λ f. rw (f, add-zero place))

plain_kept : (x : Held) (bs : List ℕ) → 0 < length bs → all is_plain bs ≡ true → held_over text_mode x bs ≡ keeping bs (settled_held x)
plain_kept x [] h e = absurd (omega arith)
plain_kept x (b ∷ bs) h e = plain_over b bs x e

-- so many elements from a place on
slice_take : (from n : ℕ) (l : List ℕ) → slice from (from + n) l ≡ take n (drop from l)
slice_take zero n l = rw (zero-add n)
slice_take (suc from) n [] = rw (take-nil {A = ℕ} n, take-nil {A = ℕ} (suc from + n))
slice_take (suc from) n (x ∷ l) = let h : suc from + n ≡ suc (from + n) = omega arith in rw h (slice_take from n l)

module _ (bs : List ℕ) (i end : ℕ) (e : end ≡ i + plain_run (drop i bs)) where
  pub plain_within : i < length bs → end ≤ length bs
  plain_within h = omega (arith, plain_run_within (drop i bs), length-drop i bs)

  -- they are kept in one go
  pub step_plain : (m : ℕ) (x y : Held) → m ≡ text_mode → i < end → y ≡ keeping (slice i end bs) (settled_held x) → outcome held_after i m x (drop i bs) ≡ outcome held_after end m y (drop end bs)
  step_plain m x y t h k =
      let rest = drop i bs in
      let n = plain_run rest in
      let l = length-take-le n rest (plain_run_within rest) in
      let g : slice i end bs ≡ take n rest = ap (λ (j : ℕ). slice i j bs) e ∙ slice_take i n bs in
      let z : held_over text_mode x (take n rest) ≡ y = plain_kept x (take n rest) (omega (arith, l)) (plain_run_all rest) ∙ sym (rw g at k) in
      rw t (plain_ahead i x rest ∙ rw (z, drop-drop n i bs, ← e))

-- ---- a byte of a text, by what is answered

module _ (o : Outcome Held) (first : ℕ) (bs : List ℕ) (i m : ℕ) (t : Text) (slots : List ℕ) (inv : (o ≡ outcome held_after i m (held t slots) (drop i bs)) × InText m) where
  answered : (r : Token) (state place k : ℕ) (y : Text) (after : List ℕ) → outcome held_after i m (held t slots) (drop i bs) ≡ outcome_of state place k (held y after) → r ≡ text_token state first place y.len → answer r after ≡ text_answer first o
  answered r state place k y after e a = ap (λ (x : Token). answer x after) a ∙ ap (text_answer first) (sym (inv.0 ∙ e))

  pub text_last : (r : Token) → length bs ≤ i → r ≡ text_token broken_state first i t.len → answer r slots ≡ text_answer first o
  text_last r h a = answered r broken_state i m t slots (at_last held_after bs i i m (held t slots) h ∙ rw (text_goes_on m inv.1)) a

  module _ (h : i < length bs) (next : ℕ) (n : next ≡ after_mode m (get_or bs i 0)) where
    pub text_broken : (r : Token) → next ≡ broken → r ≡ text_token broken_state first i t.len → answer r slots ≡ text_answer first o
    text_broken r e a = answered r broken_state i m t slots (step_broken held_after bs i i m (held t slots) h next n e) a

    module _ (y : Text) (after : List ℕ) (k : held y after ≡ held_after m (get_or bs i 0) (held t slots)) where
      pub text_whole : (r : Token) → next ≡ whole → r ≡ text_token whole_state first (i + 1) y.len → answer r after ≡ text_answer first o
      text_whole r e a = answered r whole_state (i + 1) next y after (step_whole held_after bs i i m (held t slots) h next n (held y after) k e) a

      pub text_on : (next ≡ whole → ⊥) → (next ≡ broken → ⊥) → (o ≡ outcome held_after (i + 1) next (held y after) (drop (i + 1) bs)) × InText next
      text_on nw nb =
          let x = inv.1 in
          (inv.0 ∙ step_on held_after bs i i m (held t slots) h next n (held y after) k nw nb (text_not_ended m x (get_or bs i 0) next n), text_next m x (get_or bs i 0) next n nw nb)
