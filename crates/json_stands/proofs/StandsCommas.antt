-- A colon behind a name, and a comma behind a value.
use Prim.Native.Nat.{ℕ, suc}
use native.Mathlib.Nat.{suc-ne-zero}
use mathlib.Core.Path.{◌≡◌, refl, sym, ap, ◌∙◌}
use mathlib.Core.Bool.{Bool, true, false, cond}
use mathlib.Core.List.{List, [], ◌∷◌}
use mathlib.Core.Logic.{◌⊎◌, inl, inr, ⊎_elim}
use mathlib.Core.Option.{Option}
use native.Mathlib.Omega.{arith}
use borrow.Author.Tests.{eq-eqb, ne_eqb}
use borrow.Table.Steps.{cases}
use lib.Dec.{eqb}
use Rattle.json_rule.specs.Lexemes.{Lexeme}
use Rattle.json_rule.specs.Tree.{Defect, not_json}
use Rattle.json_judge.specs.Frames.{Wanted, anything, Frame, Bracket, NoBracket, ListBracket, ObjectBracket, bracket_of, each, PassedList}
use Rattle.json_judge.specs.Course.{AValue, AName, AfterValue, AColon, to, stop, Step, on_colon, on_comma, comma_before, behind_comma, is_outside as isNothing}
use Rattle.json_members.specs.Nesting.{is_outside, is_in_object}
use Rattle.json_members.specs.Refusing.{stopping}
use Rattle.json_members.specs.Spots.{item_at}
use Rattle.json_members.specs.Model.{on_colon as colonIn, on_next, on_comma as commaIn}
use Rattle.json_stands.proofs.Laid.{Held, State, state, laid}
use Rattle.json_stands.proofs.Bits.{is_object_bracket, bits_outside, bits_in_object}
use Rattle.json_stands.proofs.Refused.{RefusalIs}
use Rattle.json_stands.proofs.Open.{Open, Passed, here, list, object}
use Rattle.json_stands.proofs.Nested.{nested}
use Rattle.json_stands.proofs.Stands.{wanted_at, Waits, anything as anyWaits, NextIs, a_value, a_name, Frames, Stands, StandsFor}
use Rattle.json_stands.proofs.Items.{item, wanted_any, object_no_list}
use Rattle.json_stands.proofs.Reach.{Reaches, by_flag, stops}

not_zero : not_json ≡ 0 → ⊥
not_zero e = omega arith

-- a value that is wanted by another name
pub a_value_lem : {v w : ℕ} {f : Frame} {wanted : Wanted} → wanted_at v ≡ wanted → Waits v w → NextIs 0 v w f (AValue wanted)
a_value_lem {v} {w} {f} e x = rw e at (a_value {v = v} {w = w} {f = f} x)

-- in what is passed over anything is wanted
pub none_wanted : {q v : ℕ} → (suc q ≡ 0) ⊎ (v ≡ 0) → v ≡ 0
none_wanted {q} (inl e) = absurd (suc-ne-zero q e)
none_wanted (inr e) = e

-- behind a comma in a list: an element
next_item_lem : (e k v n p : ℕ) {w q : ℕ} {h : Held} {f : Frame} {around js : List Frame} {r : Option Defect} → Passed q (f ∷ around) js → Open h w js → bracket_of f ≡ ListBracket → is_in_object k ≡ false
    → Frames f around k w v q h → RefusalIs n p r → Reaches r (to (AValue (each f)) f around []) (on_next (laid (state e k w v q n p h)))
unfolding on_next
next_item_lem e k v n p {w} {h = h} {f = f} here o b x fr rf =
    let i = item o b in
    record {
      reached =
          record {
            by = state 0 k w (item_at w) 0 n p h;
            laid_so = rw x;
            stands = record { nexts = a_value_lem i.wanted i.waits; frames = record { judged = fr.judged; passing = fr.passing; opened = fr.opened; sized = fr.sized; bit = fr.bit; depth = fr.depth; idle = inl refl }; refusal = rf };
          };
    }
next_item_lem e k v n p {w} {h = h} (list {q = q} y) o b x fr rf =
    record {
      reached =
          record {
            by = state 0 k w v (suc q) n p h;
            laid_so = rw (x, ne_eqb (suc q) 0 (suc-ne-zero q));
            stands = record { nexts = rw (none_wanted fr.idle) (a_value_lem wanted_any anyWaits); frames = fr; refusal = rf };
          };
    }
next_item_lem e k v n p (object y) o b x fr rf = absurd (object_no_list b)

-- behind one in an object: a name
next_name : (s : State) {f : Frame} {around : List Frame} {r : Option Defect} → bracket_of f ≡ ObjectBracket → is_in_object s.kinds ≡ true → Stands AfterValue f around r s → Reaches r (to AName f around []) (on_next (laid s))
unfolding on_next
next_name s b x st =
    record {
      reached =
          record {
            by = state 2 s.kinds s.within s.wanted s.passed s.number s.place s.held;
            laid_so = rw x;
            stands = record { nexts = a_name b; frames = st.frames; refusal = st.refusal };
          };
    }

module _ {f : Frame} {around : List Frame} {r : Option Defect} (t : Lexeme) (s : State) where
  pub colon_reaches : {v : ℕ} → s.wanted ≡ v → Waits v s.within → Stands (AColon (wanted_at v)) f around r s → Reaches r (on_colon (wanted_at v) f around t) (colonIn t.head t.first (laid s))
  unfolding colonIn
  colon_reaches {v} e x st =
      by_flag (eqb t.head 58)
      (λ _. record {
        reached =
            record {
              by = state 0 s.kinds s.within s.wanted s.passed s.number s.place s.held;
              laid_so = refl;
              stands = record { nexts = rw e (a_value x); frames = st.frames; refusal = st.refusal };
            };
      })
      (λ _. stops s st not_json t.first not_zero)

  -- by the innermost bracket
  module _ (st : Stands AfterValue f around r s) where
    pub outside_is : (b : Bracket) → bracket_of f ≡ b → is_outside s.kinds ≡ isNothing b
    outside_is b e = ap is_outside st.frames.bit ∙ (bits_outside (nested st.frames.passing st.frames.opened) ∙ ap isNothing e)

    pub object_is : (b : Bracket) → bracket_of f ≡ b → is_in_object s.kinds ≡ is_object_bracket b
    object_is b e = ap is_in_object st.frames.bit ∙ (bits_in_object (nested st.frames.passing st.frames.opened) ∙ ap is_object_bracket e)

    comma_stops : Reaches r (stop f around t.first not_json) (stopping not_json t.first (laid s))
    comma_stops = stops s st not_json t.first not_zero

    either_stops : (b : Bool) → Reaches r (stop f around t.first not_json) (cond b (stopping not_json t.first (laid s)) (stopping not_json t.first (laid s)))
    either_stops true = comma_stops
    either_stops false = comma_stops

    comma_by : (b : Bracket) → bracket_of f ≡ b → Reaches r (comma_before (behind_comma b f) f around t) (commaIn t.head t.first (laid s))
    unfolding commaIn
    comma_by NoBracket e = rw (outside_is NoBracket e) (either_stops (eqb t.head 44))
    comma_by ListBracket e =
        rw (outside_is ListBracket e)
        (by_flag (eqb t.head 44)
        (λ _. next_item_lem s.expect s.kinds s.wanted s.number s.place st.frames.passing st.frames.opened e (object_is ListBracket e) st.frames st.refusal)
        (λ _. comma_stops))
    comma_by ObjectBracket e = rw (outside_is ObjectBracket e) (by_flag (eqb t.head 44) (λ _. next_name s e (object_is ObjectBracket e) st) (λ _. comma_stops))

    pub comma_reaches : Reaches r (on_comma f around t) (commaIn t.head t.first (laid s))
    comma_reaches = comma_by (bracket_of f) refl
