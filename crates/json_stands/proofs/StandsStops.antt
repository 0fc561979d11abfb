-- A lexeme that breaks off, and the end of the text.
use Prim.Native.Nat.{ℕ}
use mathlib.Core.Path.{◌≡◌, refl, ap, ◌∙◌}
use mathlib.Core.Bool.{Bool, true, false, cond, true≢false}
use mathlib.Core.List.{List, [], ◌∷◌}
use mathlib.Core.Option.{Option}
use native.Mathlib.Omega.{arith}
use borrow.Table.Steps.{cases}
use lib.Dec.{eqb}
use Rattle.json_rule.specs.Lexemes.{Lexeme, quote, is_digit}
use Rattle.json_rule.specs.Tree.{Defect, not_json, is_scalar}
use Rattle.json_judge.specs.Frames.{Wanted, Frame, Bracket, NoBracket, ListBracket, ObjectBracket, bracket_of, wanted_after, named}
use Rattle.json_judge.specs.Course.{Next, AColon, Step, NameStands, Stops, to, stop, on_whole, on_value, on_name, on_next, closes, is_end_of, comma_before, behind_comma, step, at_end, is_outside as isNothing}
use Rattle.json_judge.specs.Judging.{Judge, take, finished, heard_all}
use Rattle.json_members.specs.Slots.{number_in, place_in}
use Rattle.json_members.specs.Nesting.{may_begin, is_outside}
use Rattle.json_members.specs.Refusing.{stopping}
use Rattle.json_members.specs.Model.{is_scalar as scalarHead, taking_broken, taking_end}
use Rattle.json_stands.proofs.Laid.{Held, State, state, laid}
use Rattle.json_stands.proofs.Refused.{RefusalIs}
use Rattle.json_stands.proofs.Bits.{bits_outside}
use Rattle.json_stands.proofs.Stands.{wanted_at, NextIs, a_value, first_item, a_name, first_name, a_colon, after_value, stopped, Stands, StandsFor}
use Rattle.json_stands.proofs.Nested.{nested}
use Rattle.json_stands.proofs.StandsValues.{no_scalar}
use Rattle.json_stands.proofs.Reach.{Reaches, by_flag, stops}

not_zero : not_json ≡ 0 → ⊥
not_zero e = omega arith

-- a test that fails
otherwise : {A : Type 0} (b : Bool) (x y : A) → b ≡ false → cond b x y ≡ y
otherwise true x y e = absurd (true≢false e)
otherwise false x y e = refl

-- ---- a lexeme that breaks off

module _ (t : Lexeme) (i : is_scalar t ≡ true) (b : t.whole ≡ false) where
  -- it closes nothing
  no_end : (bracket : Bracket) → is_end_of bracket t ≡ false
  unfolding scalarHead is_digit
  no_end NoBracket = refl
  no_end ListBracket = no_scalar t 93 refl i
  no_end ObjectBracket = no_scalar t 125 refl i

  no_close : {e v w : ℕ} {f : Frame} {next : Next} → NextIs e v w f next → closes next f t ≡ false
  no_close (a_value x) = refl
  no_close (first_item d x) = no_end ListBracket
  no_close (a_name d) = refl
  no_close (first_name d) = no_end ObjectBracket
  no_close (a_colon x) = refl
  no_close (after_value {f = f}) = no_end (bracket_of f)
  no_close stopped = refl

  module _ (f : Frame) (around : List Frame) where
    -- where a value may begin
    value_breaks : (w : Wanted) → on_value w f around t ≡ stop f around t.stop not_json
    unfolding on_value scalarHead is_digit
    value_breaks w = rw (no_scalar t 91 refl i, no_scalar t 123 refl i, i) (otherwise t.whole (on_whole w f around t) (stop f around t.stop not_json) b)

    name_breaks : on_name f around t ≡ cond (eqb t.head quote) (stop f around t.stop not_json) (stop f around t.first not_json)
    unfolding on_name
    name_breaks =
        ap (λ (s : Step). cond (eqb t.head quote) s (stop f around t.first not_json))
        (otherwise t.whole (to (AColon (wanted_after f t)) (named f t) around (NameStands f t ∷ [])) (stop f around t.stop not_json) b)

    -- no comma
    comma_breaks : (bracket : Bracket) → comma_before (behind_comma bracket f) f around t ≡ stop f around t.first not_json
    unfolding scalarHead is_digit
    comma_breaks NoBracket = refl
    comma_breaks ListBracket = rw (no_scalar t 44 refl i)
    comma_breaks ObjectBracket = rw (no_scalar t 44 refl i)

  module _ (k q n p : ℕ) (h : Held) {f : Frame} {around : List Frame} {r : Option Defect} where
    breaks_by : {e v w : ℕ} {next : Next} → NextIs e v w f next → Stands next f around r (state e k w v q n p h) → Reaches r (on_next next f around t) (taking_broken t.head t.first t.stop (laid (state e k w v q n p h)))
    unfolding taking_broken may_begin scalarHead is_digit
    breaks_by (a_value {v} {w} x) st = rw (value_breaks f around (wanted_at v)) (stops (state 0 k w v q n p h) st not_json t.stop not_zero)
    breaks_by (first_item {v} {w} d x) st = rw (value_breaks f around (wanted_at v)) (stops (state 1 k w v q n p h) st not_json t.stop not_zero)
    breaks_by (a_name {v} {w} d) st =
        rw (name_breaks f around) (by_flag (eqb t.head quote) (λ _. stops (state 2 k w v q n p h) st not_json t.stop not_zero) (λ _. stops (state 2 k w v q n p h) st not_json t.first not_zero))
    breaks_by (first_name {v} {w} d) st =
        rw (name_breaks f around) (by_flag (eqb t.head quote) (λ _. stops (state 3 k w v q n p h) st not_json t.stop not_zero) (λ _. stops (state 3 k w v q n p h) st not_json t.first not_zero))
    breaks_by (a_colon {v} {w} x) st = rw (no_scalar t 58 refl i) (stops (state 4 k w v q n p h) st not_json t.first not_zero)
    breaks_by (after_value {v} {w}) st = rw (comma_breaks f around (bracket_of f)) (stops (state 5 k w v q n p h) st not_json t.first not_zero)
    breaks_by (stopped {v} {w}) st = record { reached = record { by = state 6 k w v q n p h; laid_so = refl; stands = st } }

  -- where it may begin reading stops where it breaks, else where it begins
  pub broken_stands : {j : Judge} {slots : List ℕ} → StandsFor j slots → StandsFor (take j t) (taking_broken t.head t.first t.stop slots)
  unfolding step
  broken_stands {j} x =
      let s = x.by in
      rw (x.laid_so, no_close x.stands.nexts) (breaks_by s.kinds s.passed s.number s.place s.held x.stands.nexts x.stands).reached

-- ---- the end of the text

-- the refusal in the slots
abbrev pub Refuses : List ℕ → Option Defect → Type 0
Refuses slots r = RefusalIs (number_in slots) (place_in slots) r

reached_refuses : {r : Option Defect} {st : Step} {slots : List ℕ} → Reaches r st slots → Refuses slots (heard_all st.happened r)
reached_refuses x = rw x.reached.laid_so x.reached.stands.refusal

module _ (len k q n p : ℕ) (h : Held) {f : Frame} {around : List Frame} {r : Option Defect} where
  -- reading stops
  end_stops : {next : Next} (s : State) → Stands next f around r s → Refuses (stopping not_json len (laid s)) (heard_all (Stops (record { place = len; number = not_json }) ∷ []) r)
  end_stops s st = reached_refuses (stops s st not_json len not_zero)

  ends_by_lem : {e v w : ℕ} {next : Next} → NextIs e v w f next → Stands next f around r (state e k w v q n p h)
      → Refuses (taking_end len (laid (state e k w v q n p h))) (heard_all (at_end len (record { next = next; within = f; around = around })) r)
  unfolding taking_end at_end
  ends_by_lem (a_value {v} {w} x) st = end_stops (state 0 k w v q n p h) st
  ends_by_lem (first_item {v} {w} d x) st = end_stops (state 1 k w v q n p h) st
  ends_by_lem (a_name {v} {w} d) st = end_stops (state 2 k w v q n p h) st
  ends_by_lem (first_name {v} {w} d) st = end_stops (state 3 k w v q n p h) st
  ends_by_lem (a_colon {v} {w} x) st = end_stops (state 4 k w v q n p h) st
  ends_by_lem (after_value {v} {w}) st =
      let o : is_outside k ≡ isNothing (bracket_of f) = ap is_outside st.frames.bit ∙ bits_outside (nested st.frames.passing st.frames.opened) in
      rw o
      (cases (isNothing (bracket_of f))
      (λ t. rw t st.refusal)
      (λ t. rw t (end_stops (state 5 k w v q n p h) st)))
  ends_by_lem (stopped {v} {w}) st = st.refusal

-- what is answered when all lexemes were taken
pub end_refuses : (len : ℕ) {j : Judge} {slots : List ℕ} → StandsFor j slots → Refuses (taking_end len slots) (finished len j)
end_refuses len {j} x =
    let s = x.by in
    rw x.laid_so (ends_by_lem len s.kinds s.passed s.number s.place s.held x.stands.nexts x.stands)
