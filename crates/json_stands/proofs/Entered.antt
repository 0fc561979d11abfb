-- A list or an object that is wanted begins.
use Prim.Native.Nat.{ℕ, ◌≤◌}
use mathlib.Core.Path.{◌≡◌, refl, sym, ap, ◌∙◌}
use mathlib.Core.Bool.{true, false, cond, true≢false}
use mathlib.Core.List.{List, [], ◌∷◌}
use mathlib.Core.Option.{Option, none, some}
use native.Mathlib.Omega.{arith}
use lib.ListN.{length, get_or, set}
use Rattle.rules.specs.Words.{is_some}
use Rattle.json_rule.specs.Shapes.{Kind, AnUpdate, ASnapshot, ASchema, AField, AnOrder, ASortField, ASpec, APartitionField}
use Rattle.json_rule.specs.Defects.{listing_of, kind_of}
use Rattle.json_judge.specs.Frames.{Seen, Frame, ListBracket, ObjectBracket, bracket_of, opened_list, opened_object}
use Rattle.json_members.specs.Slots.{wanting, of_kind, clearing}
use Rattle.json_members.specs.Spots.{row_at, shape_at, item_at}
use Rattle.json_members.specs.Rows.{action_at}
use Rattle.json_members.specs.Opening.{slot_of, count_slot, entering, entering_list}
use Rattle.json_members.specs.Marks.{opening}
use Rattle.json_members.proofs.Cases.{done, ◌&◌, by_keys}
use Rattle.json_members.proofs.Tables.{list_arms, only_spots}
use Rattle.json_stands.proofs.Marked.{is_marked, cleared, length_cleared, kept_before, now_cleared}
use Rattle.json_stands.proofs.Laid.{Held, hold, State, state, Sized, laid, clear_laid}
use Rattle.json_stands.proofs.Members.{is_member, MarksSay, first_member, member_count, members_end, from_first, before_end, say_none, say_cleared}
use Rattle.json_stands.proofs.Open.{place_of, never, UpdateSays, Open, nothing, updates, update, ids, part, fields, field, snapshot_ids, schema_ids, spec_ids, snapshot, schema, order, spec, schema_fields, order_fields, spec_fields}
use Rattle.json_stands.proofs.Stands.{wanted_at, parent_of}

-- ---- lists

-- what is held when one begins at a place: the list, a list of ids, a list of fields
abbrev pub list_begun : ℕ → Held → Held
list_begun first h = hold h.kind first h.update h.part h.fields h.field 0 h.items h.spare h.marks h.places

abbrev pub ids_begun : ℕ → Held → Held
ids_begun first h = hold h.kind h.list h.update first h.fields h.field h.updates 0 h.spare h.marks h.places

abbrev pub fields_begun : ℕ → Held → Held
fields_begun first h = hold h.kind h.list h.update h.part first h.field h.updates 0 h.spare h.marks h.places

-- a list at a spot, behind its bracket
pub record EntersList (v first : ℕ) (h : Held) (f : Frame) (fs : List Frame) : Type 0 where
  pub held : Held
  pub laid_so : (e k w q n p : ℕ) → wanting (item_at v) (entering_list first (laid (state e k w v q n p h))) ≡ laid (state e k v (item_at v) q n p held)
  pub opens : Open held v (opened_list (wanted_at v) f first ∷ f ∷ fs)
  pub list : bracket_of (opened_list (wanted_at v) f first) ≡ ListBracket
  pub sized : Sized h.marks h.places → Sized held.marks held.places

enter_updates : (first : ℕ) {h : Held} {f : Frame} {fs : List Frame} → Open h 0 (f ∷ fs) → EntersList 1 first h f fs
unfolding row_at item_at entering slot_of count_slot
enter_updates first {h} nothing = record { held = list_begun first h; laid_so = λ e k w q n p. refl; opens = updates; list = refl; sized = λ z. z }
enter_updates first {h = h} (ids {each = each} {us = us} x7 _) = elim x7 [ ]
enter_updates first {h = h} (part {kind = kind} {ps = ps} {us = us} x11 _ _) = elim x11 [ ]
enter_updates first {h = h} (fields {room = room} {each = each} {kind = kind} {ps = ps} {us = us} x16 _ _) = elim x16 [ ]
enter_updates first {h = h} (field {w = w} {room = room} {each = each} {kind = kind} {fs = fs} {ps = ps} {us = us} x17 _ _ _) = elim x17 [ ]

enter_snapshot_ids : (first : ℕ) {h : Held} {f : Frame} {fs : List Frame} → Open h 2 (f ∷ fs) → EntersList 8 first h f fs
unfolding row_at item_at entering slot_of count_slot
enter_snapshot_ids first {h} (update u) = record { held = ids_begun first h; laid_so = λ e k w q n p. refl; opens = ids snapshot_ids u; list = refl; sized = λ z. z }
enter_snapshot_ids first {h = h} (ids {each = each} {us = us} x7 _) = elim x7 [ ]
enter_snapshot_ids first {h = h} (part {kind = kind} {ps = ps} {us = us} x11 _ _) = elim x11 [ ]
enter_snapshot_ids first {h = h} (fields {room = room} {each = each} {kind = kind} {ps = ps} {us = us} x16 _ _) = elim x16 [ ]
enter_snapshot_ids first {h = h} (field {w = w} {room = room} {each = each} {kind = kind} {fs = fs} {ps = ps} {us = us} x17 _ _ _) = elim x17 [ ]

enter_schema_ids : (first : ℕ) {h : Held} {f : Frame} {fs : List Frame} → Open h 2 (f ∷ fs) → EntersList 18 first h f fs
unfolding row_at item_at entering slot_of count_slot
enter_schema_ids first {h} (update u) = record { held = ids_begun first h; laid_so = λ e k w q n p. refl; opens = ids schema_ids u; list = refl; sized = λ z. z }
enter_schema_ids first {h = h} (ids {each = each} {us = us} x7 _) = elim x7 [ ]
enter_schema_ids first {h = h} (part {kind = kind} {ps = ps} {us = us} x11 _ _) = elim x11 [ ]
enter_schema_ids first {h = h} (fields {room = room} {each = each} {kind = kind} {ps = ps} {us = us} x16 _ _) = elim x16 [ ]
enter_schema_ids first {h = h} (field {w = w} {room = room} {each = each} {kind = kind} {fs = fs} {ps = ps} {us = us} x17 _ _ _) = elim x17 [ ]

enter_spec_ids : (first : ℕ) {h : Held} {f : Frame} {fs : List Frame} → Open h 2 (f ∷ fs) → EntersList 23 first h f fs
unfolding row_at item_at entering slot_of count_slot
enter_spec_ids first {h} (update u) = record { held = ids_begun first h; laid_so = λ e k w q n p. refl; opens = ids spec_ids u; list = refl; sized = λ z. z }
enter_spec_ids first {h = h} (ids {each = each} {us = us} x7 _) = elim x7 [ ]
enter_spec_ids first {h = h} (part {kind = kind} {ps = ps} {us = us} x11 _ _) = elim x11 [ ]
enter_spec_ids first {h = h} (fields {room = room} {each = each} {kind = kind} {ps = ps} {us = us} x16 _ _) = elim x16 [ ]
enter_spec_ids first {h = h} (field {w = w} {room = room} {each = each} {kind = kind} {fs = fs} {ps = ps} {us = us} x17 _ _ _) = elim x17 [ ]

enter_schema_fields : (first : ℕ) {h : Held} {f : Frame} {fs : List Frame} → Open h 15 (f ∷ fs) → EntersList 38 first h f fs
unfolding row_at item_at entering slot_of count_slot
enter_schema_fields first {h} (part schema m u) = record { held = fields_begun first h; laid_so = λ e k w q n p. refl; opens = fields schema_fields m u; list = refl; sized = λ z. z }
enter_schema_fields first {h = h} (ids {each = each} {us = us} x7 _) = elim x7 [ ]
enter_schema_fields first {h = h} (fields {room = room} {each = each} {kind = kind} {ps = ps} {us = us} x15 _ _) = elim x15 [ ]
enter_schema_fields first {h = h} (field {w = w} {room = room} {each = each} {kind = kind} {fs = fs} {ps = ps} {us = us} x16 _ _ _) = elim x16 [ ]

enter_order_fields : (first : ℕ) {h : Held} {f : Frame} {fs : List Frame} → Open h 19 (f ∷ fs) → EntersList 45 first h f fs
unfolding row_at item_at entering slot_of count_slot
enter_order_fields first {h} (part order m u) = record { held = fields_begun first h; laid_so = λ e k w q n p. refl; opens = fields order_fields m u; list = refl; sized = λ z. z }
enter_order_fields first {h = h} (ids {each = each} {us = us} x7 _) = elim x7 [ ]
enter_order_fields first {h = h} (fields {room = room} {each = each} {kind = kind} {ps = ps} {us = us} x15 _ _) = elim x15 [ ]
enter_order_fields first {h = h} (field {w = w} {room = room} {each = each} {kind = kind} {fs = fs} {ps = ps} {us = us} x16 _ _ _) = elim x16 [ ]

enter_spec_fields : (first : ℕ) {h : Held} {f : Frame} {fs : List Frame} → Open h 21 (f ∷ fs) → EntersList 52 first h f fs
unfolding row_at item_at entering slot_of count_slot
enter_spec_fields first {h} (part spec m u) = record { held = fields_begun first h; laid_so = λ e k w q n p. refl; opens = fields spec_fields m u; list = refl; sized = λ z. z }
enter_spec_fields first {h = h} (ids {each = each} {us = us} x7 _) = elim x7 [ ]
enter_spec_fields first {h = h} (fields {room = room} {each = each} {kind = kind} {ps = ps} {us = us} x15 _ _) = elim x15 [ ]
enter_spec_fields first {h = h} (field {w = w} {room = room} {each = each} {kind = kind} {fs = fs} {ps = ps} {us = us} x16 _ _ _) = elim x16 [ ]

pub enter_list : (v first : ℕ) {h : Held} {f : Frame} {fs : List Frame} → is_some (listing_of (shape_at v)) ≡ true → Open h (parent_of v) (f ∷ fs) → EntersList v first h f fs
unfolding parent_of row_at
enter_list v first {h} {f} {fs} =
    by_keys (λ x. is_some (listing_of (shape_at x)) ≡ true → Open h (parent_of x) (f ∷ fs) → EntersList x first h f fs) (1 ∷ 8 ∷ 18 ∷ 23 ∷ 38 ∷ 45 ∷ 52 ∷ []) v
    ((λ _ o. enter_updates first o)
    & (λ _ o. enter_snapshot_ids first o)
    & (λ _ o. enter_schema_ids first o)
    & (λ _ o. enter_spec_ids first o)
    & (λ _ o. enter_schema_fields first o)
    & (λ _ o. enter_order_fields first o)
    & (λ _ o. enter_spec_fields first o)
    & done)
    (λ n is _. absurd (true≢false (sym is ∙ only_spots (λ x. is_some (listing_of x)) list_arms v refl refl (rw n))))

-- ---- objects

-- the members of an update stand before all others
update_cleared : {marks places : List ℕ} {us : List Seen} (n from : ℕ) → 24 ≤ from → UpdateSays marks places us → UpdateSays (cleared n from marks) places us
update_cleared {marks} {places} {us} n from h u =
    record {
      says = say_cleared marks AnUpdate us u.says n from h;
      stands = λ m e. rw (kept_before n from marks m (omega (arith, before_end AnUpdate m e))) (u.stands m e);
      once = u.once;
    }

-- an update of which nothing was seen
update_begun_lem : (marks places : List ℕ) → length marks ≡ 64 → UpdateSays (cleared 21 3 marks) places []
update_begun_lem marks places z =
    record {
      says = say_none marks AnUpdate z;
      stands = λ m e. rw (now_cleared 21 3 marks m (from_first AnUpdate m e) (before_end AnUpdate m e) (rw z (omega arith)));
      once = never;
    }

abbrev pub update_begun : ℕ → Held → Held
update_begun first h = hold 0 h.list first h.part h.fields h.field h.updates h.items h.spare (cleared 21 3 h.marks) h.places

abbrev pub part_begun : Kind → ℕ → Held → Held
part_begun kind first h = hold h.kind h.list h.update first h.fields h.field h.updates h.items h.spare (cleared (member_count kind) (first_member kind) h.marks) h.places

abbrev pub field_begun : Kind → ℕ → Held → Held
field_begun kind first h = hold h.kind h.list h.update h.part h.fields first h.updates h.items h.spare (cleared (member_count kind) (first_member kind) h.marks) h.places

pub record EntersObject (v first : ℕ) (h : Held) (f : Frame) (fs : List Frame) : Type 0 where
  pub held : Held
  pub laid_so : (e k w q n p : ℕ) → entering first (opening v (laid (state e k w v q n p h))) ≡ laid (state e k v v q n p held)
  pub opens : Open held v (opened_object (wanted_at v) f first ∷ f ∷ fs)
  pub object : bracket_of (opened_object (wanted_at v) f first) ≡ ObjectBracket
  pub sized : Sized held.marks held.places

cleared_size : {marks places : List ℕ} (kind : Kind) → Sized marks places → Sized (cleared (member_count kind) (first_member kind) marks) places
cleared_size {marks} kind z = record { marks_all = length_cleared (member_count kind) (first_member kind) marks ∙ z.marks_all; places_all = z.places_all }

module _ (first : ℕ) where
  enter_update : {h : Held} {f : Frame} {fs : List Frame} → Sized h.marks h.places → Open h 1 (f ∷ fs) → EntersObject 2 first h f fs
  unfolding row_at entering slot_of opening action_at
  enter_update {h} z updates =
      record {
        held = update_begun first h;
        laid_so = λ e k w q n p. ap (λ (l : List ℕ). entering first (of_kind 0 l)) (clear_laid 21 3 (state e k w 2 q n p h) z (omega arith));
        opens = update (update_begun_lem h.marks h.places z.marks_all);
        object = refl;
        sized = cleared_size AnUpdate z;
      }
  enter_update {h = h} z (ids {each = each} {us = us} x8 _) = elim x8 [ ]
  enter_update {h = h} z (part {kind = kind} {ps = ps} {us = us} x12 _ _) = elim x12 [ ]
  enter_update {h = h} z (fields {room = room} {each = each} {kind = kind} {ps = ps} {us = us} x17 _ _) = elim x17 [ ]
  enter_update {h = h} z (field {w = w} {room = room} {each = each} {kind = kind} {fs = fs} {ps = ps} {us = us} x18 _ _ _) = elim x18 [ ]

  enter_snapshot : {h : Held} {f : Frame} {fs : List Frame} → Sized h.marks h.places → Open h 2 (f ∷ fs) → EntersObject 7 first h f fs
  unfolding row_at entering slot_of opening
  enter_snapshot {h} z (update u) =
      record {
        held = part_begun ASnapshot first h;
        laid_so = λ e k w q n p. ap (entering first) (clear_laid (member_count ASnapshot) (first_member ASnapshot) (state e k w 7 q n p h) z (omega arith));
        opens = part snapshot (say_none h.marks ASnapshot z.marks_all) (update_cleared (member_count ASnapshot) (first_member ASnapshot) (omega arith) u);
        object = refl;
        sized = cleared_size ASnapshot z;
      }
  enter_snapshot {h = h} z (ids {each = each} {us = us} x8 _) = elim x8 [ ]
  enter_snapshot {h = h} z (part {kind = kind} {ps = ps} {us = us} x12 _ _) = elim x12 [ ]
  enter_snapshot {h = h} z (fields {room = room} {each = each} {kind = kind} {ps = ps} {us = us} x17 _ _) = elim x17 [ ]
  enter_snapshot {h = h} z (field {w = w} {room = room} {each = each} {kind = kind} {fs = fs} {ps = ps} {us = us} x18 _ _ _) = elim x18 [ ]

  enter_schema : {h : Held} {f : Frame} {fs : List Frame} → Sized h.marks h.places → Open h 2 (f ∷ fs) → EntersObject 15 first h f fs
  unfolding row_at entering slot_of opening
  enter_schema {h} z (update u) =
      record {
        held = part_begun ASchema first h;
        laid_so = λ e k w q n p. ap (entering first) (clear_laid (member_count ASchema) (first_member ASchema) (state e k w 15 q n p h) z (omega arith));
        opens = part schema (say_none h.marks ASchema z.marks_all) (update_cleared (member_count ASchema) (first_member ASchema) (omega arith) u);
        object = refl;
        sized = cleared_size ASchema z;
      }
  enter_schema {h = h} z (ids {each = each} {us = us} x8 _) = elim x8 [ ]
  enter_schema {h = h} z (part {kind = kind} {ps = ps} {us = us} x12 _ _) = elim x12 [ ]
  enter_schema {h = h} z (fields {room = room} {each = each} {kind = kind} {ps = ps} {us = us} x17 _ _) = elim x17 [ ]
  enter_schema {h = h} z (field {w = w} {room = room} {each = each} {kind = kind} {fs = fs} {ps = ps} {us = us} x18 _ _ _) = elim x18 [ ]

  enter_order : {h : Held} {f : Frame} {fs : List Frame} → Sized h.marks h.places → Open h 2 (f ∷ fs) → EntersObject 19 first h f fs
  unfolding row_at entering slot_of opening
  enter_order {h} z (update u) =
      record {
        held = part_begun AnOrder first h;
        laid_so = λ e k w q n p. ap (entering first) (clear_laid (member_count AnOrder) (first_member AnOrder) (state e k w 19 q n p h) z (omega arith));
        opens = part order (say_none h.marks AnOrder z.marks_all) (update_cleared (member_count AnOrder) (first_member AnOrder) (omega arith) u);
        object = refl;
        sized = cleared_size AnOrder z;
      }
  enter_order {h = h} z (ids {each = each} {us = us} x8 _) = elim x8 [ ]
  enter_order {h = h} z (part {kind = kind} {ps = ps} {us = us} x12 _ _) = elim x12 [ ]
  enter_order {h = h} z (fields {room = room} {each = each} {kind = kind} {ps = ps} {us = us} x17 _ _) = elim x17 [ ]
  enter_order {h = h} z (field {w = w} {room = room} {each = each} {kind = kind} {fs = fs} {ps = ps} {us = us} x18 _ _ _) = elim x18 [ ]

  enter_spec : {h : Held} {f : Frame} {fs : List Frame} → Sized h.marks h.places → Open h 2 (f ∷ fs) → EntersObject 21 first h f fs
  unfolding row_at entering slot_of opening
  enter_spec {h} z (update u) =
      record {
        held = part_begun ASpec first h;
        laid_so = λ e k w q n p. ap (entering first) (clear_laid (member_count ASpec) (first_member ASpec) (state e k w 21 q n p h) z (omega arith));
        opens = part spec (say_none h.marks ASpec z.marks_all) (update_cleared (member_count ASpec) (first_member ASpec) (omega arith) u);
        object = refl;
        sized = cleared_size ASpec z;
      }
  enter_spec {h = h} z (ids {each = each} {us = us} x8 _) = elim x8 [ ]
  enter_spec {h = h} z (part {kind = kind} {ps = ps} {us = us} x12 _ _) = elim x12 [ ]
  enter_spec {h = h} z (fields {room = room} {each = each} {kind = kind} {ps = ps} {us = us} x17 _ _) = elim x17 [ ]
  enter_spec {h = h} z (field {w = w} {room = room} {each = each} {kind = kind} {fs = fs} {ps = ps} {us = us} x18 _ _ _) = elim x18 [ ]

  enter_field : {h : Held} {f : Frame} {fs : List Frame} → Sized h.marks h.places → Open h 38 (f ∷ fs) → EntersObject 39 first h f fs
  unfolding row_at entering slot_of opening
  enter_field {h} z (fields {ps = ps} schema_fields m u) =
      record {
        held = field_begun AField first h;
        laid_so = λ e k w q n p. ap (entering first) (clear_laid (member_count AField) (first_member AField) (state e k w 39 q n p h) z (omega arith));
        opens = field schema_fields (say_none h.marks AField z.marks_all) (say_cleared h.marks ASchema ps m (member_count AField) (first_member AField) (omega arith)) (update_cleared (member_count AField) (first_member AField) (omega arith) u);
        object = refl;
        sized = cleared_size AField z;
      }
  enter_field {h = h} z (ids {each = each} {us = us} x9 _) = elim x9 [ ]
  enter_field {h = h} z (part {kind = kind} {ps = ps} {us = us} x13 _ _) = elim x13 [ ]
  enter_field {h = h} z (field {w = w} {room = room} {each = each} {kind = kind} {fs = fs} {ps = ps} {us = us} x18 _ _ _) = elim x18 [ ]

  enter_sort_field : {h : Held} {f : Frame} {fs : List Frame} → Sized h.marks h.places → Open h 45 (f ∷ fs) → EntersObject 46 first h f fs
  unfolding row_at entering slot_of opening
  enter_sort_field {h} z (fields {ps = ps} order_fields m u) =
      record {
        held = field_begun ASortField first h;
        laid_so = λ e k w q n p. ap (entering first) (clear_laid (member_count ASortField) (first_member ASortField) (state e k w 46 q n p h) z (omega arith));
        opens = field order_fields (say_none h.marks ASortField z.marks_all) (say_cleared h.marks AnOrder ps m (member_count ASortField) (first_member ASortField) (omega arith)) (update_cleared (member_count ASortField) (first_member ASortField) (omega arith) u);
        object = refl;
        sized = cleared_size ASortField z;
      }
  enter_sort_field {h = h} z (ids {each = each} {us = us} x9 _) = elim x9 [ ]
  enter_sort_field {h = h} z (part {kind = kind} {ps = ps} {us = us} x13 _ _) = elim x13 [ ]
  enter_sort_field {h = h} z (field {w = w} {room = room} {each = each} {kind = kind} {fs = fs} {ps = ps} {us = us} x18 _ _ _) = elim x18 [ ]

  enter_partition_field : {h : Held} {f : Frame} {fs : List Frame} → Sized h.marks h.places → Open h 52 (f ∷ fs) → EntersObject 53 first h f fs
  unfolding row_at entering slot_of opening
  enter_partition_field {h} z (fields {ps = ps} spec_fields m u) =
      record {
        held = field_begun APartitionField first h;
        laid_so = λ e k w q n p. ap (entering first) (clear_laid (member_count APartitionField) (first_member APartitionField) (state e k w 53 q n p h) z (omega arith));
        opens = field spec_fields (say_none h.marks APartitionField z.marks_all) (say_cleared h.marks ASpec ps m (member_count APartitionField) (first_member APartitionField) (omega arith)) (update_cleared (member_count APartitionField) (first_member APartitionField) (omega arith) u);
        object = refl;
        sized = cleared_size APartitionField z;
      }
  enter_partition_field {h = h} z (ids {each = each} {us = us} x9 _) = elim x9 [ ]
  enter_partition_field {h = h} z (part {kind = kind} {ps = ps} {us = us} x13 _ _) = elim x13 [ ]
  enter_partition_field {h = h} z (field {w = w} {room = room} {each = each} {kind = kind} {fs = fs} {ps = ps} {us = us} x18 _ _ _) = elim x18 [ ]

abbrev pub object_arms : List (List ℕ)
object_arms = (2 ∷ 7 ∷ 15 ∷ 19 ∷ 21 ∷ 39 ∷ 46 ∷ 53 ∷ []) ∷ []

pub enter_object : (v first : ℕ) {h : Held} {f : Frame} {fs : List Frame} → is_some (kind_of (shape_at v)) ≡ true → Sized h.marks h.places → Open h (parent_of v) (f ∷ fs) → EntersObject v first h f fs
unfolding parent_of row_at
enter_object v first {h} {f} {fs} =
    by_keys (λ x. is_some (kind_of (shape_at x)) ≡ true → Sized h.marks h.places → Open h (parent_of x) (f ∷ fs) → EntersObject x first h f fs) (2 ∷ 7 ∷ 15 ∷ 19 ∷ 21 ∷ 39 ∷ 46 ∷ 53 ∷ []) v
    ((λ _ z o. enter_update first z o)
    & (λ _ z o. enter_snapshot first z o)
    & (λ _ z o. enter_schema first z o)
    & (λ _ z o. enter_order first z o)
    & (λ _ z o. enter_spec first z o)
    & (λ _ z o. enter_field first z o)
    & (λ _ z o. enter_sort_field first z o)
    & (λ _ z o. enter_partition_field first z o)
    & done)
    (λ n is _ _. absurd (true≢false (sym is ∙ only_spots (λ x. is_some (kind_of x)) object_arms v refl refl (rw n))))
