-- What a lexeme does where nothing is refused: a colon, a comma, a name, an end.
use Prim.Native.Nat.{ℕ, suc}
use mathlib.Core.Path.{◌≡◌, refl, sym, ap, ◌∙◌}
use mathlib.Core.Bool.{Bool, true, false, cond, not, true≢false}
use mathlib.Core.List.{List, [], ◌∷◌}
use mathlib.Core.Logic.{◌⊎◌, inl, inr}
use mathlib.Core.Option.{Option, none, some}
use native.Mathlib.Omega.{arith}
use borrow.Author.Tests.{eqb-true, eqb-false}
use borrow.Table.Steps.{cases}
use lib.Dec.{eqb}
use lib.ListN.{length}
use Rattle.rules.specs.Words.{is_some}
use Rattle.json_rule.specs.Lexemes.{Lexeme, quote}
use Rattle.json_rule.specs.Tree.{Defect, not_json}
use Rattle.json_rule.specs.Shapes.{Row}
use Rattle.json_rule.specs.Defects.{not_published, listing_of}
use Rattle.json_judge.specs.Frames.{Seen, Wanted, OpenObject, Frame, Outside, InList, InObject, PassedList, PassedObject, Bracket, NoBracket, ListBracket, ObjectBracket, bracket_of, wanted_after, row_in, seeing, named, row_said, name_said, lacking}
use Rattle.json_judge.specs.Course.{Next, AfterValue, Stopped, AColon, Step, Happening, NameStands, FrameEnds, to, stop, on_colon, comma_before, behind_comma, on_comma, on_name, on_end, closes, is_outside as isNothing}
use Rattle.json_judge.specs.Judging.{heard_all}
use Rattle.json_judge.proofs.Least.{never_none}
use Rattle.json_members.specs.Kept.{LexemeKept}
use Rattle.json_members.specs.Nesting.{is_in_object}
use Rattle.json_members.specs.Spots.{row_at, shape_at, item_at}
use Rattle.json_members.specs.Opening.{first_in}
use Rattle.json_members.specs.Marks.{lacks_in}
use Rattle.json_members.specs.Model.{After, after, on_colon as colonIn, on_next, on_comma as commaIn, on_name as nameIn, on_close}
use Rattle.json_stands.proofs.Laid.{Held, State, Sized, laid}
use Rattle.json_stands.proofs.Bits.{Nested, outermost, in_list, in_object}
use Rattle.json_stands.proofs.Open.{update_open, part_open, field_open, Open, nothing, updates, update, ids, part, fields, field, snapshot_ids, schema_ids, spec_ids, schema_fields, order_fields, spec_fields, Passed}
use Rattle.json_stands.proofs.Stands.{NextIs, a_value, first_item, a_name, first_name, a_colon, after_value, stopped, Stands}
use Rattle.json_stands.proofs.Nested.{nested, closes_some}
use Rattle.json_stands.proofs.Items.{object_no_list, outside_no_list}
use Rattle.json_stands.proofs.Waiting.{judged_here}
use Rattle.json_stands.proofs.StandsCommas.{outside_is, object_is}
use Rattle.json_stands.proofs.StandsValues.{when}
use Rattle.json_stands.proofs.StandsNames.{Names, known, other, behind_known, behind_other, names}
use Rattle.json_stands.proofs.StandsEnds.{Ends, judged, passed, left, skipped, ends}
use Rattle.json_stands.proofs.Lacks.{lacks_open}
use Rattle.json_stands.proofs.Took.{NextItem, NameMay, moved, Took, stays, colon, comma_name, comma_item, name, name_passed, closes as closing, closes_passed}
use Rattle.json_stands.proofs.Quiet.{quiet, unless_true}

-- the slots and the spot are those behind a lexeme, and so is what happens
pub record Tells (s : State) (t : Lexeme) (f : Frame) (around : List Frame) (st : Step) (a : After) : Type 0 where
  pub to : State
  pub done : ℕ
  pub happened : List Happening
  pub taken : a ≡ after (laid to) done
  pub happens : st.happened ≡ happened
  pub sized : Sized to.held.marks to.held.places
  pub took : Took s t f around to done happened

-- nothing is refused behind a step
abbrev pub Clean : Step → Option Defect → Type 0
Clean st r = heard_all st.happened r ≡ none

-- what stops is refused
pub no_stop : {P : Type 0} (f : Frame) (around : List Frame) (place number : ℕ) (r : Option Defect) → Clean (stop f around place number) r → P
no_stop f around place number r c = absurd (never_none r (record { place = place; number = number }) c)

module _ (t : Lexeme) (f : Frame) (around : List Frame) (r : Option Defect) (s : State) (z : Sized s.held.marks s.held.places) where
  pub tells_stopped : s.expect ≡ 6 → Tells s t f around (record { course = record { next = Stopped; within = f; around = around }; happened = [] }) (after (laid s) 0)
  tells_stopped e = record { to = s; done = 0; happened = []; taken = refl; happens = refl; sized = z; took = stays e }

  pub tells_colon : (w : Wanted) → s.expect ≡ 4 → Clean (on_colon w f around t) r → Tells s t f around (on_colon w f around t) (after (colonIn t.head t.first (laid s)) 0)
  unfolding colonIn
  tells_colon w e c =
      cases (eqb t.head 58)
      (λ h. rw h (record { to = moved 0 s.wanted s; done = 0; happened = []; taken = refl; happens = refl; sized = z; took = colon e }))
      (λ h. no_stop f around t.first not_json r (rw h at c))

-- ---- a comma

list_open : {h : Held} {w : ℕ} {f : Frame} {fs : List Frame} → Open h w (f ∷ fs) → bracket_of f ≡ ListBracket → is_some (listing_of (shape_at w)) ≡ true
unfolding row_at
list_open nothing b = absurd (outside_no_list b)
list_open updates b = refl
list_open (update u) b = absurd (object_no_list b)
list_open (ids snapshot_ids u) b = refl
list_open (ids schema_ids u) b = refl
list_open (ids spec_ids u) b = refl
list_open (part p m u) b = absurd (object_no_list b)
list_open (fields schema_fields m u) b = refl
list_open (fields order_fields m u) b = refl
list_open (fields spec_fields m u) b = refl
list_open (field x a m u) b = absurd (object_no_list b)

-- where nothing is passed over the innermost is judged
pub open_judged : {q w : ℕ} {h : Held} {fs js : List Frame} → q ≡ 0 → Passed q fs js → Open h w js → Open h w fs
open_judged e y o = rw (judged_here {v = 1} (λ n. omega arith) (inl e) y) at o

none_wanted_there : {q v : ℕ} → (q ≡ 0 → ⊥) → (q ≡ 0) ⊎ (v ≡ 0) → v ≡ 0
none_wanted_there n (inl e) = absurd (n e)
none_wanted_there n (inr e) = e

module _ (t : Lexeme) {f : Frame} {around : List Frame} {r : Option Defect} (s : State) (st : Stands AfterValue f around r s) (x : s.expect ≡ 5) where
  item_next : bracket_of f ≡ ListBracket → (b : Bool) → eqb s.passed 0 ≡ b → NextItem s (cond b (item_at s.within) s.wanted)
  item_next l true e =
      let i = eqb-true s.passed 0 e in
      record { judged = λ _. (refl, list_open (open_judged i st.frames.passing st.frames.opened) l); passed = λ n. absurd (n i) }
  item_next l false e =
      let n = eqb-false s.passed 0 e in
      record { judged = λ i. absurd (n i); passed = λ _. none_wanted_there n st.frames.idle }

  tells_item : bracket_of f ≡ ListBracket → (st' : Step) → st'.happened ≡ [] → is_in_object s.kinds ≡ false → Tells s t f around st' (after (on_next (laid s)) 0)
  unfolding on_next
  tells_item l st' h i =
      cases (eqb s.passed 0)
      (λ e. rw (i, e) (record { to = moved 0 (item_at s.within) s; done = 0; happened = []; taken = refl; happens = h; sized = st.frames.sized; took = comma_item x l (item_next l true e) }))
      (λ e. rw (i, e) (record { to = moved 0 s.wanted s; done = 0; happened = []; taken = refl; happens = h; sized = st.frames.sized; took = comma_item x l (item_next l false e) }))

  tells_name_next : bracket_of f ≡ ObjectBracket → (st' : Step) → st'.happened ≡ [] → is_in_object s.kinds ≡ true → Tells s t f around st' (after (on_next (laid s)) 0)
  unfolding on_next
  tells_name_next l st' h i = rw i (record { to = moved 2 s.wanted s; done = 0; happened = []; taken = refl; happens = h; sized = st.frames.sized; took = comma_name x l })

  comma_by : (b : Bracket) → bracket_of f ≡ b → Clean (comma_before (behind_comma b f) f around t) r → Tells s t f around (comma_before (behind_comma b f) f around t) (after (commaIn t.head t.first (laid s)) 0)
  unfolding commaIn
  comma_by NoBracket e c = no_stop f around t.first not_json r c
  comma_by ListBracket e c =
      cases (eqb t.head 44)
      (λ h. rw (h, outside_is t s st ListBracket e) (tells_item e _ refl (object_is t s st ListBracket e)))
      (λ h. no_stop f around t.first not_json r (rw h at c))
  comma_by ObjectBracket e c =
      cases (eqb t.head 44)
      (λ h. rw (h, outside_is t s st ObjectBracket e) (tells_name_next e _ refl (object_is t s st ObjectBracket e)))
      (λ h. no_stop f around t.first not_json r (rw h at c))

  pub tells_comma : Clean (on_comma f around t) r → Tells s t f around (on_comma f around t) (after (commaIn t.head t.first (laid s)) 0)
  tells_comma c = comma_by (bracket_of f) refl c

-- ---- a name

seen_of : Frame → List Seen
seen_of Outside = []
seen_of (InList l) = []
seen_of (InObject o) = o.seen
seen_of PassedList = []
seen_of PassedObject = []

-- a name that is none of the members, or one again, is refused
no_other : (o : OpenObject) (t : Lexeme) (x : Option Row) → InObject (seeing t x o) ≡ InObject o → row_said x o.action t ≡ [] → ⊥
unfolding seen_of
no_other o t none e c = true≢false (sym (unless_true false t.first not_published c))
no_other o t (some row) e c =
    let n : suc (length o.seen) ≡ length o.seen = ap (λ (f : Frame). length (seen_of f)) e in
    omega arith

other_refused : {h : Held} {w : ℕ} {f : Frame} {fs : List Frame} (t : Lexeme) → Open h w (f ∷ fs) → bracket_of f ≡ ObjectBracket → named f t ≡ f → name_said f t ≡ [] → ⊥
other_refused t nothing b e c = true≢false (ap isNothing b)
other_refused t updates b e c = object_no_list (sym b)
other_refused {h} t (update {us} u) b e c = no_other (update_open h us) t (row_in (update_open h us) t) e c
other_refused t (ids i u) b e c = object_no_list (sym b)
other_refused {h} t (part {kind = kind} {ps = ps} x m u) b e c = no_other (part_open h kind ps) t (row_in (part_open h kind ps) t) e c
other_refused t (fields x m u) b e c = object_no_list (sym b)
other_refused {h} t (field {each = each} {kind = kind} {fs = fs} x a m u) b e c = no_other (field_open h each kind fs) t (row_in (field_open h each kind fs) t) e c

module _ (t : Lexeme) {next : Next} {f : Frame} {around : List Frame} {r : Option Defect} (s : State) (st : Stands next f around r s) (b : bracket_of f ≡ ObjectBracket) {kept : List ℕ} {len : ℕ} {integer : Bool} {magnitude : ℕ} (kp : LexemeKept kept len integer magnitude t) (may : NameMay s) where
  abbrev behind_name : List ℕ
  behind_name = nameIn kept t.head t.first len (laid s)

  name_happens : eqb t.head quote ≡ true → t.whole ≡ true → (on_name f around t).happened ≡ NameStands f t ∷ []
  unfolding on_name
  name_happens q w = rw q (ap (λ (x : Step). x.happened) (when t.whole (to (AColon (wanted_after f t)) (named f t) around (NameStands f t ∷ [])) (stop f around t.stop not_json) w))

  by_name : eqb t.head quote ≡ true → t.whole ≡ true → name_said f t ≡ [] → Names f around t r s behind_name → Tells s t f around (on_name f around t) (after behind_name 0)
  by_name q w c (known y) =
      record {
        to = behind_known y.member t.first y.number y.place s;
        done = 0;
        happened = NameStands f t ∷ [];
        taken = ap (λ (l : List ℕ). after l 0) y.laid_so;
        happens = name_happens q w;
        sized = y.stands.frames.sized;
        took = name may (record { kind = y.kind; none_passed = y.none_passed; object = y.spot; is_member = y.is_member; text = y.text; unseen = y.unseen });
      }
  by_name q w c (other y) =
      record {
        to = behind_other y.number y.place s;
        done = 0;
        happened = NameStands f t ∷ [];
        taken = ap (λ (l : List ℕ). after l 0) y.laid_so;
        happens = name_happens q w;
        sized = y.stands.frames.sized;
        took = name_passed may (λ e. other_refused t (open_judged e st.frames.passing st.frames.opened) b y.same c);
      }

  pub tells_name : t.whole ≡ true → Clean (on_name f around t) r → Tells s t f around (on_name f around t) (after behind_name 0)
  unfolding on_name
  tells_name w c =
      cases (eqb t.head quote)
      (λ q. let d : heard_all (NameStands f t ∷ []) r ≡ none = rw (name_happens q w) at c in
      by_name q w (quiet (name_said f t) r d).nothing_said (names t s st b kp q))
      (λ q. no_stop f around t.first not_json r (rw q at c))

-- ---- an end

end_happens : {f : Frame} {around : List Frame} → Nested (f ∷ around) → isNothing (bracket_of f) ≡ false → (on_end f around).happened ≡ FrameEnds f ∷ []
end_happens outermost b = absurd (true≢false b)
end_happens (in_list {fs = g ∷ gs} e n) b = refl
end_happens (in_object {fs = g ∷ gs} e n) b = refl
end_happens {f = f} {around = []} (in_list e n) b = elim n [ ]
end_happens {f = f} {around = []} (in_object e n) b = elim n [ ]

end_may : {e v w : ℕ} {f : Frame} {next : Next} (t : Lexeme) → NextIs e v w f next → closes next f t ≡ true → (e ≡ 1) ⊎ ((e ≡ 3) ⊎ (e ≡ 5))
end_may t (a_value x) c = absurd (true≢false (sym c))
end_may t (first_item b x) c = inl refl
end_may t (a_name b) c = absurd (true≢false (sym c))
end_may t (first_name b) c = inr (inl refl)
end_may t (a_colon x) c = absurd (true≢false (sym c))
end_may t after_value c = inr (inr refl)
end_may t stopped c = absurd (true≢false (sym c))

module _ (t : Lexeme) {next : Next} {f : Frame} {around : List Frame} {r : Option Defect} (s : State) (st : Stands next f around r s) (cl : closes next f t ≡ true) where
  ends_so : (on_end f around).happened ≡ FrameEnds f ∷ []
  ends_so = end_happens (nested st.frames.passing st.frames.opened) (closes_some t st.nexts cl)

  lacks_none : Open s.held s.within (f ∷ around) → lacking f ≡ [] → lacks_in s.within (laid s) ≡ false
  lacks_none o c =
      let l = lacks_open s st.frames.sized o in
      l.told ∙ ap not (unless_true l.has_them (first_in (laid s) s.within) not_published (sym l.said ∙ c))

  by_end : lacking f ≡ [] → Ends f around r s → Tells s t f around (on_end f around) (on_close (laid s))
  by_end c (judged y) =
      record {
        to = left y.number y.place s;
        done = s.within;
        happened = FrameEnds f ∷ [];
        taken = y.closed_so;
        happens = ends_so;
        sized = st.frames.sized;
        took = closing (end_may t st.nexts cl) (record { none_passed = y.none_passed; opened = y.opened; lacks = lacks_none y.opened c });
      }
  by_end c (passed y) =
      record {
        to = skipped s;
        done = 0;
        happened = FrameEnds f ∷ [];
        taken = y.closed_so;
        happens = ends_so;
        sized = st.frames.sized;
        took = closes_passed (end_may t st.nexts cl) y.some_passed;
      }

  pub tells_end : Clean (on_end f around) r → Tells s t f around (on_end f around) (on_close (laid s))
  tells_end c =
      let d : heard_all (FrameEnds f ∷ []) r ≡ none = rw ends_so at c in
      by_end (quiet (lacking f) r d).nothing_said (ends t s st cl)
