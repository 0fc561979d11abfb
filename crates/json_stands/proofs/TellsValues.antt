-- What a value does where nothing is refused: a list or an object begins, or a text, a number or a word stands there.
use Prim.Native.Nat.{ℕ, ◌<◌}
use mathlib.Core.Path.{◌≡◌, refl, sym, ap, ◌∙◌}
use mathlib.Core.Bool.{Bool, true, false, cond, true≢false}
use mathlib.Core.List.{List, [], ◌∷◌}
use mathlib.Core.Logic.{inl, inr}
use mathlib.Core.Option.{Option, none}
use native.Mathlib.Omega.{arith}
use borrow.Author.Tests.{ne_eqb, leb-false}
use borrow.Table.Steps.{cases}
use lib.Dec.{eqb, leb}
use lib.ListN.{length}
use Rattle.rules.specs.Words.{is_some}
use Rattle.json_rule.specs.Lexemes.{Lexeme, is_digit}
use Rattle.json_rule.specs.Values.{text_of}
use Rattle.json_rule.specs.Tree.{Defect, not_json, over_capacity, is_scalar}
use Rattle.json_rule.specs.Shapes.{Shape}
use Rattle.json_rule.specs.Defects.{refused_at, listing_of, kind_of, scalar_defects}
use Rattle.json_judge.specs.Refusal.{refusing as withDefects}
use Rattle.json_judge.specs.Frames.{Wanted, Frame, ListBracket, ObjectBracket, bracket_of, stands, list_said, object_said, counted, count_said, action_said_by, known_said}
use Rattle.json_judge.specs.Course.{Next, Step, ListBegins, ObjectBegins, ScalarStands, stop, on_value, on_whole, on_list, on_object, unless_full}
use Rattle.json_judge.specs.Judging.{heard_all}
use Rattle.json_members.specs.Kept.{LexemeKept}
use Rattle.json_members.specs.Nesting.{is_full}
use Rattle.json_members.specs.Spots.{shape_at}
use Rattle.json_members.specs.Faults.{fault_of}
use Rattle.json_members.specs.Opening.{counting}
use Rattle.json_members.specs.Refusing.{stopping}
use Rattle.json_members.specs.Model.{After, after, Told, told, is_scalar as scalarHead, on_bracket, on_bare, on_list as listIn, on_object as objectIn, on_scalar as scalarIn, on_value as valueIn}
use Rattle.json_members.proofs.Faults.{fault_told}
use Rattle.json_stands.proofs.Marked.{cleared}
use Rattle.json_stands.proofs.Members.{first_member, member_count}
use Rattle.json_stands.proofs.Laid.{Held, State, Sized, laid, changed}
use Rattle.json_stands.proofs.Refused.{RefusalIs}
use Rattle.json_stands.proofs.Open.{Open, nothing, updates, update, ids, part, fields, field, snapshot_ids, schema_ids, spec_ids, schema_fields, order_fields, spec_fields}
use Rattle.json_stands.proofs.Stands.{wanted_at, Waits, NextIs, a_value, first_item, a_name, first_name, a_colon, after_value, stopped, Frames, Stands}
use Rattle.json_stands.proofs.Items.{object_no_list}
use Rattle.json_stands.proofs.Waiting.{some_spot, none_passed}
use Rattle.json_stands.proofs.StandsBrackets.{said_passed, object_said_passed}
use Rattle.json_stands.proofs.Acting.{acted}
use Rattle.json_stands.proofs.StandsScalars.{ScalarIs, passed_over, known, unknown, right, wrong, behind, scalar_does, waits_parent, in_update_lem}
use Rattle.json_stands.proofs.StandsValues.{when, scalar_head, no_scalar, full_is}
use Rattle.json_stands.proofs.Holds.{counted_held_lem}
use Rattle.json_stands.proofs.Begins.{held_then, in_judged_list, in_passed_list, in_judged_object, in_passed_object, JudgedList, PassedList, JudgedObject, PassedObject, judged_list, passed_list, judged_object, passed_object}
use Rattle.json_stands.proofs.Took.{ValueMay, list, object, list_passed, object_passed, scalar_any, action, scalar}
use Rattle.json_stands.proofs.Quiet.{quiet, unless_true, anything_wanted, elements_more, kept_then, list_kept, object_kept}
use Rattle.json_stands.proofs.Tells.{Tells, Clean, no_stop, open_judged}

-- ---- a list or an object

module _ (t : Lexeme) {f : Frame} {around : List Frame} {r : Option Defect} (s : State) (may : ValueMay s) (fr : Frames f around s.kinds s.within s.wanted s.passed s.held) (rf : RefusalIs s.number s.place r) (x : Waits s.wanted s.within) (room : length around < 16) where
  abbrev wanted : Wanted
  wanted = wanted_at s.wanted

  abbrev at : ℕ
  at = stands wanted f t.first

  tells_judged_list : JudgedList f around r s t.first → Tells s t f around (on_list wanted f around t.first) (after (listIn t.first (counting (laid s))) 0)
  tells_judged_list y =
      let k = list_kept y.begun in
      let h = kept_then s in
      record {
        to = in_judged_list y.number y.place y.held s;
        done = 0;
        happened = ListBegins wanted f t.first ∷ [];
        taken = ap (λ (l : List ℕ). after l 0) y.laid_so;
        happens = refl;
        sized = y.stands.frames.sized;
        took = list may (record { in_place = record { none_passed = y.none_passed; parent = y.there.parent }; is_list = y.is_list; begun = y.begun; kept = record { marks = k.marks ∙ h.marks; kind = k.kind ∙ h.kind }; items = k.items });
      }

  tells_passed_list : list_said wanted f t.first ≡ [] → PassedList f around r s t.first → Tells s t f around (on_list wanted f around t.first) (after (listIn t.first (counting (laid s))) 0)
  tells_passed_list c y =
      record {
        to = in_passed_list y.number y.place (held_then s) s;
        done = 0;
        happened = ListBegins wanted f t.first ∷ [];
        taken = ap (λ (l : List ℕ). after l 0) y.laid_so;
        happens = refl;
        sized = y.stands.frames.sized;
        took = list_passed may (anything_wanted at x (sym (said_passed wanted f t.first y.no_list) ∙ c)) (kept_then s);
      }

  tells_list : Clean (on_list wanted f around t.first) r → Tells s t f around (on_list wanted f around t.first) (after (listIn t.first (counting (laid s))) 0)
  tells_list c =
      cases (is_some (listing_of (shape_at s.wanted)))
      (λ e. tells_judged_list (judged_list s t.first fr rf x room e))
      (λ e. tells_passed_list (quiet (list_said wanted f t.first) (withDefects (count_said f) r) c).nothing_said (passed_list s t.first fr rf x room e))

  tells_judged_object : count_said f ≡ [] → JudgedObject f around r s t.first → Tells s t f around (on_object wanted f around t.first) (after (objectIn t.first (counting (laid s))) 0)
  tells_judged_object c y =
      let k = object_kept y.begun in
      let h = kept_then s in
      record {
        to = in_judged_object y.number y.place y.held s;
        done = 0;
        happened = ObjectBegins wanted f t.first ∷ [];
        taken = ap (λ (l : List ℕ). after l 0) y.laid_so;
        happens = refl;
        sized = y.stands.frames.sized;
        took =
            object may
            (record {
              kind = k.is;
              in_place = record { none_passed = y.none_passed; parent = y.there.parent };
              is_object = k.is_object;
              begun = y.begun;
              marks = k.marks ∙ ap (cleared (member_count k.is) (first_member k.is)) h.marks;
              same_kind = λ n. k.kind n ∙ h.kind;
              elements = λ i. let e = elements_more s y.none_passed y.opened c i in record { room = e.room; more = k.counts s.within ∙ e.more };
            });
      }

  tells_passed_object : object_said wanted f t.first ≡ [] → PassedObject f around r s t.first → Tells s t f around (on_object wanted f around t.first) (after (objectIn t.first (counting (laid s))) 0)
  tells_passed_object c y =
      record {
        to = in_passed_object y.number y.place (held_then s) s;
        done = 0;
        happened = ObjectBegins wanted f t.first ∷ [];
        taken = ap (λ (l : List ℕ). after l 0) y.laid_so;
        happens = refl;
        sized = y.stands.frames.sized;
        took = object_passed may (anything_wanted at x (sym (object_said_passed wanted f t.first y.no_object) ∙ c)) (kept_then s);
      }

  tells_object : Clean (on_object wanted f around t.first) r → Tells s t f around (on_object wanted f around t.first) (after (objectIn t.first (counting (laid s))) 0)
  tells_object c =
      let q = quiet (object_said wanted f t.first) (withDefects (count_said f) r) c in
      cases (is_some (kind_of (shape_at s.wanted)))
      (λ e. tells_judged_object (quiet (count_said f) r q.before).nothing_said (judged_object s t.first fr rf x room e))
      (λ e. tells_passed_object q.nothing_said (passed_object s t.first fr rf x room e))

-- ---- a text, a number or a word

-- what is wrong is said
wrong_said : (shape : Shape) (place : ℕ) (t : Lexeme) → (fault_of shape t ≡ 0 → ⊥) → scalar_defects shape place t ≡ [] → ⊥
wrong_said shape place t n e =
    let d : refused_at place (fault_of shape t) ≡ [] = rw (fault_told shape place t, ne_eqb (fault_of shape t) 0 n) at e in
    true≢false (sym (unless_true false place (fault_of shape t) d))

first_bracket : {e v w : ℕ} {f : Frame} {next : Next} → NextIs e v w f next → e ≡ 1 → bracket_of f ≡ ListBracket
first_bracket (a_value x) e = absurd (omega arith)
first_bracket (first_item b x) e = b
first_bracket (a_name b) e = absurd (omega arith)
first_bracket (first_name b) e = absurd (omega arith)
first_bracket (a_colon x) e = absurd (omega arith)
first_bracket after_value e = absurd (omega arith)
first_bracket stopped e = absurd (omega arith)

update_bracket : {h : Held} {w : ℕ} {f : Frame} {fs : List Frame} → Open h w (f ∷ fs) → w ≡ 2 → bracket_of f ≡ ObjectBracket
update_bracket nothing e = absurd (omega arith)
update_bracket updates e = absurd (omega arith)
update_bracket (update u) e = refl
update_bracket (ids snapshot_ids u) e = absurd (omega arith)
update_bracket (ids schema_ids u) e = absurd (omega arith)
update_bracket (ids spec_ids u) e = absurd (omega arith)
update_bracket (part p m u) e = refl
update_bracket (fields schema_fields m u) e = absurd (omega arith)
update_bracket (fields order_fields m u) e = absurd (omega arith)
update_bracket (fields spec_fields m u) e = absurd (omega arith)
update_bracket (field x a m u) e = refl

module _ (t : Lexeme) {next : Next} {f : Frame} {around : List Frame} {r : Option Defect} (s : State) (may : ValueMay s) (st : Stands next f around r s) (x : Waits s.wanted s.within) where
  -- the action stands behind its name
  action_expects : s.passed ≡ 0 → s.within ≡ 2 → ValueMay s → s.expect ≡ 0
  action_expects e w (inl z) = z
  action_expects e w (inr o) =
      let b = update_bracket (open_judged e st.frames.passing st.frames.opened) w in
      absurd (object_no_list (sym b ∙ first_bracket st.nexts o))

  -- it stands in what is judged
  spot_judged : (s.wanted ≡ 0 → ⊥) → s.passed ≡ 0
  spot_judged n = none_passed n st.frames.idle

  -- what it is
  module _ (n p : ℕ) {a : After} {st' : Step} (c : count_said f ≡ []) (d : scalar_defects (shape_at s.wanted) (stands (wanted_at s.wanted) f t.first) t ≡ []) (h : st'.happened ≡ ScalarStands (wanted_at s.wanted) f t ∷ []) where
    by_what : {g : Held} {done : ℕ} → ScalarIs s.wanted t (held_then s) g done → Sized g.marks g.places → a ≡ after (laid (changed n p g (behind s))) done → Tells s t f around st' a
    by_what (passed_over e) z k =
        record {
          to = changed n p (held_then s) (behind s);
          done = 0;
          happened = ScalarStands (wanted_at s.wanted) f t ∷ [];
          taken = k;
          happens = h;
          sized = z;
          took = scalar_any may e (kept_then s);
        }
    by_what (known {kind} {a = b} e l i) z k =
        let w = in_update_lem x e in
        let q = spot_judged (λ n. let m : ◌≡◌ {A = ℕ} 3 0 = sym e ∙ n in omega arith) in
        record {
          to = changed n p (acted kind (held_then s)) (behind s);
          done = 0;
          happened = ScalarStands (wanted_at s.wanted) f t ∷ [];
          taken = k;
          happens = h;
          sized = z;
          took = action (record { action = b; none_passed = q; wanted = e; object = w; expects = action_expects q w may; listed = l; is_kind = i }) (kept_then s);
        }
    by_what (unknown e l w) z k = absurd (wrong_said (shape_at s.wanted) (stands (wanted_at s.wanted) f t.first) t w d)
    by_what (right j e) z k =
        let n0 = some_spot s.wanted j.something in
        let q = spot_judged n0 in
        record {
          to = changed n p (held_then s) (behind s);
          done = s.wanted;
          happened = ScalarStands (wanted_at s.wanted) f t ∷ [];
          taken = k;
          happens = h;
          sized = z;
          took =
              scalar may
              (record {
                in_place = record { none_passed = q; parent = waits_parent x (ne_eqb s.wanted 0 n0) };
                judged = j;
                right = e;
                kept = kept_then s;
                elements = elements_more s q (open_judged q st.frames.passing st.frames.opened) c;
              });
        }
    by_what (wrong j w) z k = absurd (wrong_said (shape_at s.wanted) (stands (wanted_at s.wanted) f t.first) t w d)

  module _ (whole : t.whole ≡ true) {kept : List ℕ} {len : ℕ} {integer : Bool} {magnitude : ℕ} (kp : LexemeKept kept len integer magnitude t) where
    abbrev what_is_told : Told
    what_is_told = told kept t.head t.first len integer magnitude

    tells_scalar : (st' : Step) → st'.happened ≡ ScalarStands (wanted_at s.wanted) f t ∷ [] → Clean st' r → Tells s t f around st' (scalarIn what_is_told (laid s))
    tells_scalar st' h c =
        let y = scalar_does s t st.frames st.refusal x kp in
        let w = wanted_at s.wanted in
        let ds = scalar_defects (shape_at s.wanted) (stands w f t.first) t in
        let c' : heard_all (ScalarStands w f t ∷ []) r ≡ none = rw h at c in
        let q = quiet (known_said (action_said_by (eqb s.wanted 3) (text_of t)) (counted f)) (withDefects ds (withDefects (count_said f) r)) c' in
        let q' = quiet ds (withDefects (count_said f) r) q.before in
        let i : ScalarIs s.wanted t (held_then s) y.held (scalarIn what_is_told (laid s)).done = rw (counted_held_lem (behind s) st.frames.sized y.element) at y.how in
        by_what y.number y.place (quiet (count_said f) r q'.before).nothing_said q'.nothing_said h i y.frames.sized (ap (λ (l : List ℕ). after l (scalarIn what_is_told (laid s)).done) y.laid_so)

    -- sixteen are open
    tells_bracket : (st' : Step) (l : List ℕ) → (length around < 16 → Clean st' r → Tells s t f around st' (after l 0)) → Clean (unless_full f around t.first st') r
        → Tells s t f around (unless_full f around t.first st') (after (cond (is_full s.kinds) (stopping over_capacity t.first (laid s)) l) 0)
    tells_bracket st' l y c =
        rw (full_is s t st x)
        (cases (leb 16 (length around))
        (λ e. no_stop f around t.first over_capacity r (rw e at c))
        (λ e. rw e (y (leb-false 16 (length around) e) (rw e at c))))

    value_happens : is_scalar t ≡ true → (on_value (wanted_at s.wanted) f around t).happened ≡ ScalarStands (wanted_at s.wanted) f t ∷ []
    unfolding on_value scalarHead is_digit
    value_happens i =
        rw (no_scalar t 91 refl i, no_scalar t 123 refl i, i)
        (ap (λ (y : Step). y.happened) (when t.whole (on_whole (wanted_at s.wanted) f around t) (stop f around t.stop not_json) whole))

    pub tells_value : Clean (on_value (wanted_at s.wanted) f around t) r → Tells s t f around (on_value (wanted_at s.wanted) f around t) (valueIn what_is_told (laid s))
    unfolding on_value valueIn on_bare on_bracket
    tells_value c =
        let w = wanted_at s.wanted in
        cases (is_scalar t)
        (λ i. rw (scalar_head t ∙ i) (tells_scalar (on_value w f around t) (value_happens i) c))
        (λ i. cases (eqb t.head 91)
        (λ a. rw (scalar_head t ∙ i, a) (tells_bracket (on_list w f around t.first) (listIn t.first (counting (laid s))) (λ room d. tells_list t s may st.frames st.refusal x room d) (rw a at c)))
        (λ a. cases (eqb t.head 123)
        (λ b. rw (scalar_head t ∙ i, a, b) (tells_bracket (on_object w f around t.first) (objectIn t.first (counting (laid s))) (λ room d. tells_object t s may st.frames st.refusal x room d) (rw (a, b) at c)))
        (λ b. no_stop f around t.first not_json r (rw (a, b, i) at c))))
