-- A name in an object that is judged: its value is awaited.
use Prim.Native.Nat.{ℕ}
use mathlib.Core.Path.{◌≡◌, refl, sym, ap, ◌∙◌}
use mathlib.Core.Bool.{true, false, true≢false}
use mathlib.Core.List.{List, ◌∷◌}
use mathlib.Core.Option.{Option, none, some}
use native.Mathlib.Omega.{arith}
use borrow.Author.Tests.{eq-eqb}
use lib.ListN.{length, set}
use Rattle.rules.specs.Words.{is_some}
use Rattle.json_rule.specs.Lexemes.{Lexeme}
use Rattle.json_rule.specs.Values.{text_of}
use Rattle.json_rule.specs.Shapes.{Kind, AnUpdate, Shape}
use Rattle.json_rule.specs.Defects.{kind_of}
use Rattle.json_judge.specs.Sending.{Holding, naming}
use Rattle.json_members.specs.Spots.{row_at, shape_at, name_at, value_at, item_at}
use Rattle.json_stands.proofs.Marked.{is_marked, set_marked, other_marked}
use Rattle.json_stands.proofs.Members.{is_member}
use Rattle.json_stands.proofs.Open.{Ids, snapshot_ids, schema_ids, spec_ids, Part, snapshot, schema, order, spec, Fields, schema_fields, order_fields, spec_fields}
use Rattle.json_gather.proofs.Owners.{Hand, Agree, off}
use Rattle.json_gather.proofs.Claims.{room_at}
use Rattle.json_gather.proofs.Keeping.{list_held_kept}
use Rattle.json_gather.proofs.Footprints.{member_below}
use Rattle.json_gather.proofs.Holds.{Holds, members, awaits, awaits_kept, naming_held}
use Rattle.json_gather.proofs.Values.{mine}
use Rattle.json_gather.proofs.Inside.{kept_beside, kept_update, kept_part, in_part_lem, in_field_lem, field_there}
use Rattle.json_gather.proofs.Gathers.{Gathers, nothing, updates, update, ids, part, fields, field}

abbrev pub with_marks : List ℕ → Hand → Hand
with_marks marks a = record { kind = a.kind; marks = marks; numbers = a.numbers; texts = a.texts }

abbrev pub seen_hand : ℕ → Hand → Hand
seen_hand m a = with_marks (set a.marks m 1) a

mark_agrees : (m : ℕ) (a : Hand) → Agree (off (mine m)) a (seen_hand m a)
mark_agrees m a =
    record {
      kind = λ e. refl;
      marks = λ x e. other_marked a.marks m 1 x (λ q. true≢false (sym e ∙ (ap (off (mine m)) q ∙ itself)));
      magnitude = λ i e. refl;
      negative = λ i e. refl;
      texts = λ o e. refl;
    }
  where
    itself : off (mine m) m ≡ false
    itself = rw (eq-eqb m m refl)

-- the kind of what is open
no_object : {kind : Kind} → ◌≡◌ {A = Option Kind} none (some kind) → ⊥
no_object e = true≢false (sym (ap is_some e))

pub part_kind : {w : ℕ} {kind other : Kind} → Part w kind → kind_of (shape_at w) ≡ some other → other ≡ kind
unfolding row_at
part_kind snapshot e = cc
part_kind schema e = cc
part_kind order e = cc
part_kind spec e = cc

pub field_kind : {w room x : ℕ} {each kind other : Kind} → Fields w room x each kind → kind_of (shape_at x) ≡ some other → other ≡ each
unfolding row_at
field_kind schema_fields e = cc
field_kind order_fields e = cc
field_kind spec_fields e = cc

pub update_kind : {other : Kind} → kind_of (shape_at 2) ≡ some other → other ≡ AnUpdate
unfolding row_at
update_kind e = cc

pub outside_no_object : {other : Kind} → kind_of (shape_at 0) ≡ some other → ⊥
unfolding row_at
outside_no_object e = no_object e

pub updates_no_object : {other : Kind} → kind_of (shape_at 1) ≡ some other → ⊥
unfolding row_at
updates_no_object e = no_object e

pub ids_no_object : {w : ℕ} {each : Shape} {other : Kind} → Ids w each → kind_of (shape_at w) ≡ some other → ⊥
unfolding row_at
ids_no_object snapshot_ids e = no_object e
ids_no_object schema_ids e = no_object e
ids_no_object spec_ids e = no_object e

pub fields_no_object : {w room x : ℕ} {each kind other : Kind} → Fields w room x each kind → kind_of (shape_at w) ≡ some other → ⊥
unfolding row_at
fields_no_object schema_fields e = no_object e
fields_no_object order_fields e = no_object e
fields_no_object spec_fields e = no_object e

pub field_room : {w room x : ℕ} {each kind : Kind} → Fields w room x each kind → room_at w ≡ room
unfolding row_at
field_room schema_fields = refl
field_room order_fields = refl
field_room spec_fields = refl

module _ (a : Hand) (items wanted : ℕ) (t : Lexeme) (m : ℕ) (kind : Kind) (i : is_member kind m ≡ true) (e : text_of t ≡ some (name_at m)) (new : is_marked a.marks m ≡ false) (long : length a.marks ≡ 64) where
  now : is_marked (seen_hand m a).marks m ≡ true
  now =
      let h = member_below kind m i in
      set_marked a.marks m m (rw long (omega arith)) ∙ rw (eq-eqb m m refl)

  -- in the innermost object
  module _ {other : Kind} (same : kind ≡ other) where
    is_member_lem : is_member other m ≡ true
    is_member_lem = rw same at i

    named : {h : Holding} {hs : List Holding} → Holds other a false wanted h → (more : List Holding → Type 0) → ((h' : Holding) → Holds other (seen_hand m a) true (value_at m) h' → more (h' ∷ hs)) → more (naming t (h ∷ hs))
    named (members {hs = held} x) more k = k _ (awaits refl (naming_held is_member_lem e new now (kept_beside other m is_member_lem (mark_agrees m a)) x))

  pub name_step : {w : ℕ} {js : List Holding} → kind_of (shape_at w) ≡ some kind → Gathers a items false false wanted w js → Gathers (seen_hand m a) items true true (value_at m) w (naming t js)
  name_step k (nothing g) = absurd (outside_no_object k)
  name_step k (updates g) = absurd (updates_no_object k)
  name_step k (update h) = named (update_kind k) h (λ js. Gathers (seen_hand m a) items true true (value_at m) 2 js) (λ h' x. update x)
  name_step k (ids t o u) = absurd (ids_no_object t k)
  name_step {w} k (part p h u) =
      let s = part_kind p k in
      let n = in_part_lem p m (is_member_lem s) in
      let g = mark_agrees m a in
      named s h (λ js. Gathers (seen_hand m a) items true true (value_at m) w js) (λ h' x. part p x (awaits_kept AnUpdate (kept_update w m n.top g) (g.marks w n.other) u))
  name_step k (fields f p o n u) = absurd (fields_no_object f k)
  name_step {w} k (field {w = list} {v = v} f p h c few l n u) =
      let s = field_kind f k in
      let d = in_field_lem f p m (is_member_lem s) in
      let g = mark_agrees m a in
      let item : off (mine m) (item_at list) ≡ true = rw (field_there f p).item d.item in
      let few' = few in
      named s h (λ js. Gathers (seen_hand m a) items true true (value_at m) w js)
      (λ h' x. field f p x c few (list_held_kept (off (mine m)) g item (rw (field_room f) (omega arith)) l) (awaits_kept _ (kept_part p list m d.mid g) (g.marks list d.other) n) (awaits_kept AnUpdate (kept_update v m d.top.top g) (g.marks v d.top.other) u))
