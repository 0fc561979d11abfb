-- Where nothing is refused nothing is said against a value, and a list has room for it.
use Prim.Native.Nat.{ℕ, suc}
use mathlib.Core.Path.{◌≡◌, refl, sym, ap, ◌∙◌}
use mathlib.Core.Bool.{Bool, true, false, not, true≢false}
use mathlib.Core.List.{List, [], ◌∷◌}
use mathlib.Core.Option.{Option, none, some}
use native.Mathlib.Omega.{arith}
use borrow.Author.Tests.{eqb-true, eq-eqb, ltb-true}
use borrow.Table.Steps.{cases}
use lib.Dec.{eqb, ltb}
use lib.ListN.{length}
use Rattle.rules.specs.Words.{is_some}
use Rattle.json_rule.specs.Lexemes.{Lexeme}
use Rattle.json_rule.specs.Values.{text_of}
use Rattle.json_rule.specs.Tree.{Defect, over_capacity}
use Rattle.json_rule.specs.Shapes.{Kind}
use Rattle.json_rule.specs.Defects.{unless, least, listing_of, kind_of, is_anything, misplaced, scalar_defects}
use Rattle.json_judge.specs.Refusal.{sooner, refusing as withDefects}
use Rattle.json_judge.specs.Frames.{Frame, stands, list_said, object_said, counted, count_said, name_said, action_said_by, known_said, lacking}
use Rattle.json_judge.specs.Course.{Happening, ListBegins, ObjectBegins, ScalarStands, NameStands, FrameEnds, Stops, step, at_end}
use Rattle.json_judge.specs.Judging.{Judge, heard, heard_all, take, outcome}
use Rattle.json_judge.proofs.Least.{never_none, least_none}
use Rattle.json_members.specs.Spots.{row_at, shape_at, room_in}
use Rattle.json_stands.proofs.Laid.{Held, State}
use Rattle.json_stands.proofs.Members.{first_member, member_count}
use Rattle.json_stands.proofs.Marked.{cleared}
use Rattle.json_stands.proofs.Open.{Open, nothing, updates, update, ids, part, fields, field, snapshot_ids, schema_ids, spec_ids, snapshot, schema, order, spec, schema_fields, order_fields, spec_fields}
use Rattle.json_stands.proofs.Stands.{Waits}
use Rattle.json_stands.proofs.Waiting.{any_is}
use Rattle.json_stands.proofs.Holds.{count_in, one_more, counted_keeps}
use Rattle.json_stands.proofs.Begun.{ListBegun, the_updates, some_ids, some_fields, ObjectBegun, an_update, a_part, a_field}
use Rattle.json_stands.proofs.Begins.{held_then}
use Rattle.json_stands.proofs.Took.{Elements, Kept}

-- ---- nothing is said

pub record Quiet (ds : List Defect) (r : Option Defect) : Type 0 where
  pub before : r ≡ none
  pub nothing_said : ds ≡ []

pub quiet : (ds : List Defect) (r : Option Defect) → withDefects ds r ≡ none → Quiet ds r
quiet ds r e = by_least (least ds) refl e
  where
    by_least : (o : Option Defect) → least ds ≡ o → sooner r o ≡ none → Quiet ds r
    by_least none l q = record { before = q; nothing_said = least_none ds l }
    by_least (some d) l q = absurd (never_none r d q)

some_not_none : {d : Defect} {ds : List Defect} → ◌≡◌ {A = List Defect} (d ∷ ds) [] → ⊥
some_not_none e = let n : suc _ ≡ 0 = ap length e in omega arith

pub unless_true : (b : Bool) (place number : ℕ) → unless b place number ≡ [] → b ≡ true
unless_true true place number e = refl
unless_true false place number e = absurd (some_not_none e)

-- what is passed over may be anything
pub anything_wanted : {v w : ℕ} (place : ℕ) → Waits v w → misplaced (shape_at v) place ≡ [] → v ≡ 0
anything_wanted {v} place x e = eqb-true v 0 (any_is x ∙ unless_true (is_anything (shape_at v)) place 28 e)

-- ---- elements

not_not : (b : Bool) → not (not b) ≡ b
not_not true = refl
not_not false = refl

has_room : (n room place : ℕ) → unless (not (not (ltb n room))) place over_capacity ≡ [] → ltb n room ≡ true
has_room n room place e = sym (not_not (ltb n room)) ∙ unless_true (not (not (ltb n room))) place over_capacity e

-- the innermost list has room for one more
room_left : {h : Held} {w : ℕ} {f : Frame} {fs : List Frame} → Open h w (f ∷ fs) → count_said f ≡ [] → is_some (listing_of (shape_at w)) ≡ true → ltb (count_in w h) (room_in (listing_of (shape_at w))) ≡ true
unfolding row_at
room_left nothing e i = absurd (true≢false (sym i))
room_left {h} updates e i = has_room h.updates _ h.list e
room_left (update u) e i = absurd (true≢false (sym i))
room_left {h} (ids snapshot_ids u) e i = has_room h.items _ h.part e
room_left {h} (ids schema_ids u) e i = has_room h.items _ h.part e
room_left {h} (ids spec_ids u) e i = has_room h.items _ h.part e
room_left (part snapshot m u) e i = absurd (true≢false (sym i))
room_left (part schema m u) e i = absurd (true≢false (sym i))
room_left (part order m u) e i = absurd (true≢false (sym i))
room_left (part spec m u) e i = absurd (true≢false (sym i))
room_left {h} (fields schema_fields m u) e i = has_room h.items _ h.fields e
room_left {h} (fields order_fields m u) e i = has_room h.items _ h.fields e
room_left {h} (fields spec_fields m u) e i = has_room h.items _ h.fields e
room_left (field schema_fields a m u) e i = absurd (true≢false (sym i))
room_left (field order_fields a m u) e i = absurd (true≢false (sym i))
room_left (field spec_fields a m u) e i = absurd (true≢false (sym i))

count_more : (w : ℕ) (h : Held) → count_in w (one_more w h) ≡ suc (count_in w h)
count_more w h = cases (eqb w 1) (λ t. rw t) (λ f. rw f)

pub elements_more : (s : State) {f : Frame} {around : List Frame} → s.passed ≡ 0 → Open s.held s.within (f ∷ around) → count_said f ≡ [] → is_some (listing_of (shape_at s.within)) ≡ true
    → Elements s.within s.held (held_then s)
elements_more s e o c i =
    let w = s.within in
    let b = room_left o c i in
    record {
      room = ltb-true (count_in w s.held) (room_in (listing_of (shape_at w))) b;
      more = rw (eq-eqb s.passed 0 e, i, b) (count_more w s.held);
    }

pub kept_then : (s : State) → Kept s (held_then s)
kept_then s =
    record {
      marks = counted_keeps (λ (g : Held). g.marks ≡ s.held.marks) s.within s.passed s.held refl refl refl;
      kind = counted_keeps (λ (g : Held). g.kind ≡ s.held.kind) s.within s.passed s.held refl refl refl;
    }

-- ---- what begins

pub record ListKept (v : ℕ) (h g : Held) : Type 0 where
  pub marks : g.marks ≡ h.marks
  pub kind : g.kind ≡ h.kind
  pub items : (v ≡ 1 → ⊥) → g.items ≡ 0

pub list_kept : {first v : ℕ} {h g : Held} → ListBegun first h v g → ListKept v h g
list_kept the_updates = record { marks = refl; kind = refl; items = λ n. absurd (n refl) }
list_kept (some_ids i) = record { marks = refl; kind = refl; items = λ n. refl }
list_kept (some_fields i) = record { marks = refl; kind = refl; items = λ n. refl }

pub record ObjectKept (v : ℕ) (h g : Held) : Type 0 where
  pub is : Kind
  pub is_object : kind_of (shape_at v) ≡ some is
  pub marks : g.marks ≡ cleared (member_count is) (first_member is) h.marks
  pub kind : (v ≡ 2 → ⊥) → g.kind ≡ h.kind
  pub counts : (w : ℕ) → count_in w g ≡ count_in w h

pub object_kept : {first v : ℕ} {h g : Held} → ObjectBegun first h v g → ObjectKept v h g
unfolding row_at
object_kept an_update = record { is = _; is_object = refl; marks = refl; kind = λ n. absurd (n refl); counts = λ w. refl }
object_kept (a_part snapshot) = record { is = _; is_object = refl; marks = refl; kind = λ n. refl; counts = λ w. refl }
object_kept (a_part schema) = record { is = _; is_object = refl; marks = refl; kind = λ n. refl; counts = λ w. refl }
object_kept (a_part order) = record { is = _; is_object = refl; marks = refl; kind = λ n. refl; counts = λ w. refl }
object_kept (a_part spec) = record { is = _; is_object = refl; marks = refl; kind = λ n. refl; counts = λ w. refl }
object_kept (a_field schema_fields) = record { is = _; is_object = refl; marks = refl; kind = λ n. refl; counts = λ w. refl }
object_kept (a_field order_fields) = record { is = _; is_object = refl; marks = refl; kind = λ n. refl; counts = λ w. refl }
object_kept (a_field spec_fields) = record { is = _; is_object = refl; marks = refl; kind = λ n. refl; counts = λ w. refl }

-- ---- before it

pub heard_quiet : (h : Happening) (r : Option Defect) → heard h r ≡ none → r ≡ none
heard_quiet (ListBegins w f place) r e = (quiet (count_said f) r (quiet (list_said w f place) (withDefects (count_said f) r) e).before).before
heard_quiet (ObjectBegins w f place) r e = (quiet (count_said f) r (quiet (object_said w f place) (withDefects (count_said f) r) e).before).before
heard_quiet (ScalarStands w f t) r e =
    let ds = scalar_defects w.shape (stands w f t.first) t in
    (quiet (count_said f) r (quiet ds (withDefects (count_said f) r) (quiet (known_said (action_said_by w.is_action (text_of t)) (counted f)) (withDefects ds (withDefects (count_said f) r)) e).before).before).before
heard_quiet (NameStands f t) r e = (quiet (name_said f t) r e).before
heard_quiet (FrameEnds f) r e = (quiet (lacking f) r e).before
heard_quiet (Stops d) r e = absurd (never_none r d e)

pub all_quiet : (hs : List Happening) (r : Option Defect) → heard_all hs r ≡ none → r ≡ none
all_quiet [] r e = e
all_quiet (h ∷ hs) r e = heard_quiet h r (all_quiet hs (heard h r) e)

-- where all lexemes are taken and nothing is refused, nothing was refused before
pub outcome_quiet : (len : ℕ) (j : Judge) (ts : List Lexeme) → outcome len j ts ≡ none → j.refusal ≡ none
outcome_quiet len j [] e = all_quiet (at_end len j.course) j.refusal e
outcome_quiet len j (t ∷ ts) e = all_quiet (step j.course t).happened j.refusal (outcome_quiet len (take j t) ts e)
