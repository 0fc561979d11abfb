-- An open object by its members, and with one more that was seen.
use Prim.Native.Nat.{ℕ, ◌%◌, ◌≤◌, ◌<◌}
use mathlib.Core.Path.{◌≡◌, refl, ap, ◌∙◌}
use mathlib.Core.Bool.{true, false, cond, not}
use mathlib.Core.List.{List, [], ◌∷◌}
use mathlib.Core.Option.{Option, none, some}
use native.Mathlib.Omega.{arith}
use borrow.Author.Tests.{eqb-true, eqb-false, lt-ltb, le-leb, lt-leb}
use borrow.Table.Steps.{cases}
use lib.Dec.{eqb, leb}
use lib.ListN.{get_or, set, length-set}
use lib.Seq.{get_or-set_same, get_or-set_other}
use Rattle.rules.specs.Words.{all, is_some}
use Rattle.json_rule.specs.Lexemes.{Lexeme}
use Rattle.json_rule.specs.Values.{text_of}
use Rattle.json_rule.specs.Members.{is_one_of}
use Rattle.json_rule.specs.Shapes.{Kind, AnUpdate, Action}
use Rattle.json_rule.specs.Defects.{not_published, unless}
use Rattle.json_judge.specs.Frames.{Seen, names_in, OpenObject, Frame, Outside, InList, InObject, foreign_by}
use Rattle.json_members.specs.Words.{number_of}
use Rattle.json_members.specs.Spots.{row_at, name_at, spots_of, member_named}
use Rattle.json_members.specs.Rows.{action_at, span_of, is_foreign_at}
use Rattle.json_members.specs.declared.row.Row.{Row}
use Rattle.json_members.proofs.Names.{all_at}
use Rattle.json_members.proofs.Actions.{foreign_told, none_foreign}
use Rattle.json_stands.proofs.Marked.{is_marked, set_marked, other_marked}
use Rattle.json_stands.proofs.Laid.{Held, Sized, seen_held}
use Rattle.json_stands.proofs.Members.{is_member, MarksSay, first_member, members_end, from_first, before_end, names_apart, say_more, say_others}
use Rattle.json_stands.proofs.Open.{place_of, also, UpdateSays, updates_open, update_open, part_open, fields_open, field_open, Open, update, part, field, Part, snapshot, schema, order, spec, Fields, schema_fields, order_fields, spec_fields}
use Rattle.json_stands.proofs.Spans.{no_span}
use Rattle.json_stands.proofs.Named.{object_of}

past_update : (r : Row) (m : ℕ) → 24 ≤ m → is_foreign_at r m ≡ false
unfolding is_foreign_at
past_update r m h = rw (lt-ltb 3 m (omega arith), lt-leb m 23 (omega arith))

-- of an update
update_more : {marks places : List ℕ} {us : List Seen} (m p : ℕ) → Sized marks places → is_member AnUpdate m ≡ true → is_one_of (names_in us) (name_at m) ≡ false → UpdateSays marks places us
    → UpdateSays (set marks m 1) (cond (leb m 23) (set places m p) places) (record { name = name_at m; place = p } ∷ us)
update_more {marks} {places} {us} m p z g new u =
    let below : m < 24 = before_end AnUpdate m g in
    rw (le-leb m 23 (omega arith))
    (record {
      says = say_more marks AnUpdate us m p z.marks_all g u.says;
      stands = λ x e. rw (names_apart AnUpdate x m e g, set_marked marks m x (rw z.marks_all (omega arith))) (stands_by x e below);
      once = also m g new u.once;
    })
  where
    stands_by : (x : ℕ) → is_member AnUpdate x ≡ true → m < 24
        → cond (eqb x m) (some p) (place_of (name_at x) us) ≡ cond (cond (eqb x m) true (is_marked marks x)) (some (get_or (set places m p) x 0)) none
    stands_by x e below =
        cases (eqb x m)
        (λ t. rw (t, eqb-true x m t, get_or-set_same places m p 0 (rw z.places_all below)))
        (λ f. rw (f, get_or-set_other places m x p 0 (eqb-false x m f)) (u.stands x e))

-- of another object
update_others : {marks places : List ℕ} {us : List Seen} (m p : ℕ) → 24 ≤ m → UpdateSays marks places us → UpdateSays (set marks m 1) (cond (leb m 23) (set places m p) places) us
update_others {marks} {places} {us} m p h u =
    rw (lt-leb m 23 (omega arith))
    (record {
      says = say_others marks AnUpdate us u.says m 1 h;
      stands = λ x e. rw (other_marked marks m 1 x (λ d. omega (arith, before_end AnUpdate x e))) (u.stands x e);
      once = u.once;
    })

pub seen_size : (h : Held) (m p : ℕ) → Sized h.marks h.places → Sized (seen_held m p h).marks (seen_held m p h).places
seen_size h m p z =
    record {
      marks_all = length-set h.marks m 1 ∙ z.marks_all;
      places_all = cases (leb m 23) (λ t. rw t (length-set h.places m p ∙ z.places_all)) (λ f. rw f z.places_all);
    }

-- with one more
abbrev pub seen_also : ℕ → ℕ → OpenObject → OpenObject
seen_also m p o = record { kind = o.kind; place = o.place; schema = o.schema; seen = record { name = name_at m; place = p } ∷ o.seen; action = o.action }

-- ---- an open object by its members

pub record Opened (h : Held) (w : ℕ) (o : OpenObject) (fs : List Frame) : Type 0 where
  pub spot : w ≡ object_of o.kind
  pub says : MarksSay h.marks o.kind o.seen
  -- a member of another row
  pub foreign : (m : ℕ) (t : Lexeme) → is_member o.kind m ≡ true → text_of t ≡ some (name_at m) → foreign_by o.action t ≡ unless (not (is_foreign_at (span_of (h.kind % 256)) m)) t.first not_published
  -- with one more that was seen
  pub more : (m p : ℕ) → is_member o.kind m ≡ true → is_one_of (names_in o.seen) (name_at m) ≡ false → Open (seen_held m p h) w (InObject (seen_also m p o) ∷ fs)

-- each name of an update is its own
own_names_lem : all (λ m. eqb (member_named 2 (name_at m)) m) (spots_of AnUpdate) ≡ true
unfolding row_at member_named number_of
own_names_lem = refl

-- the action of its kind
foreign_by_lem : (kind m : ℕ) (t : Lexeme) → is_member AnUpdate m ≡ true → text_of t ≡ some (name_at m) → (o : Option Action) → action_at kind ≡ o → foreign_by o t ≡ unless (not (is_foreign_at (span_of kind) m)) t.first not_published
unfolding span_of
foreign_by_lem kind m t g e none a = rw (no_span kind (ap is_some a), none_foreign m)
foreign_by_lem kind m t g e (some a) b =
    let own = eqb-true (member_named 2 (name_at m)) m (all_at (λ x. eqb (member_named 2 (name_at x)) x) (spots_of AnUpdate) m own_names_lem g) in
    rw (e, foreign_told kind a b (name_at m), own)

module _ (h : Held) (z : Sized h.marks h.places) {us : List Seen} (u : UpdateSays h.marks h.places us) where
  pub open_update : Opened h 2 (update_open h us) (InList (updates_open h) ∷ Outside ∷ [])
  open_update =
      record {
        spot = refl;
        says = u.says;
        foreign = λ m t g e. foreign_by_lem (h.kind % 256) m t g e (action_at (h.kind % 256)) refl;
        more = λ m p g n. update (update_more m p z g n u);
      }

  -- the members of other objects stand in no row
  foreign_none : (kind m : ℕ) (t : Lexeme) → 24 ≤ m → foreign_by none t ≡ unless (not (is_foreign_at (span_of kind) m)) t.first not_published
  foreign_none kind m t b = rw (past_update (span_of kind) m b)

  module _ {w : ℕ} {kind : Kind} {ps : List Seen} (x : Part w kind) (says : MarksSay h.marks kind ps) where
    open_part_at : w ≡ object_of kind → 24 ≤ first_member kind → Opened h w (part_open h kind ps) (InObject (update_open h us) ∷ InList (updates_open h) ∷ Outside ∷ [])
    open_part_at e b =
        record {
          spot = e;
          says = says;
          foreign = λ m t g _. foreign_none (h.kind % 256) m t (omega (arith, from_first kind m g));
          more = λ m p g n. part x (say_more h.marks kind ps m p z.marks_all g says) (update_others m p (omega (arith, from_first kind m g)) u);
        }

  pub open_part : {w : ℕ} {kind : Kind} {ps : List Seen} → Part w kind → MarksSay h.marks kind ps → Opened h w (part_open h kind ps) (InObject (update_open h us) ∷ InList (updates_open h) ∷ Outside ∷ [])
  open_part snapshot m = open_part_at snapshot m refl (omega arith)
  open_part schema m = open_part_at schema m refl (omega arith)
  open_part order m = open_part_at order m refl (omega arith)
  open_part spec m = open_part_at spec m refl (omega arith)

  module _ {w room x : ℕ} {each kind : Kind} {fs ps : List Seen} (i : Fields w room x each kind) (a : MarksSay h.marks each fs) (m : MarksSay h.marks kind ps) where
    open_field_at : x ≡ object_of each → members_end kind ≤ first_member each → 24 ≤ first_member each
        → Opened h x (field_open h each kind fs) (InList (fields_open h room each kind) ∷ InObject (part_open h kind ps) ∷ InObject (update_open h us) ∷ InList (updates_open h) ∷ Outside ∷ [])
    open_field_at e b c =
        record {
          spot = e;
          says = a;
          foreign = λ y t g _. foreign_none (h.kind % 256) y t (omega (arith, from_first each y g));
          more = λ y p g n.
              field i (say_more h.marks each fs y p z.marks_all g a) (say_others h.marks kind ps m y 1 (omega (arith, from_first each y g))) (update_others y p (omega (arith, from_first each y g)) u);
        }

  pub open_field : {w room x : ℕ} {each kind : Kind} {fs ps : List Seen} → Fields w room x each kind → MarksSay h.marks each fs → MarksSay h.marks kind ps
      → Opened h x (field_open h each kind fs) (InList (fields_open h room each kind) ∷ InObject (part_open h kind ps) ∷ InObject (update_open h us) ∷ InList (updates_open h) ∷ Outside ∷ [])
  open_field schema_fields a m = open_field_at schema_fields a m refl (omega arith) (omega arith)
  open_field order_fields a m = open_field_at order_fields a m refl (omega arith) (omega arith)
  open_field spec_fields a m = open_field_at spec_fields a m refl (omega arith) (omega arith)
