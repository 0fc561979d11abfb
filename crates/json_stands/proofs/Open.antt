-- The open lists and objects that are judged, by the spot of the innermost one and by what is held of them. Each stands in one other only.
use Prim.Native.Nat.{ℕ, suc, ◌%◌}
use mathlib.Core.Path.{◌≡◌}
use mathlib.Core.Bool.{true, false, cond}
use mathlib.Core.List.{List, [], ◌∷◌}
use mathlib.Core.Option.{Option, none, some}
use lib.ListN.{get_or}
use Rattle.rules.specs.Capacities.{removal_room, list_room, schema_field_room, sort_field_room, partition_field_room}
use Rattle.rules.specs.Words.{same_bytes}
use Rattle.json_rule.specs.Members.{is_one_of}
use Rattle.json_rule.specs.Shapes.{Kind, AnUpdate, ASnapshot, ASchema, AField, AnOrder, ASortField, ASpec, APartitionField, Shape, ARecord, i32, i64}
use Rattle.json_rule.specs.Defects.{schema_place}
use Rattle.json_judge.specs.Frames.{Seen, names_in, OpenList, OpenObject, Frame, Outside, InList, InObject, PassedList, PassedObject}
use Rattle.json_members.specs.Spots.{name_at}
use Rattle.json_members.specs.Rows.{action_at}
use Rattle.json_stands.proofs.Marked.{is_marked}
use Rattle.json_stands.proofs.Laid.{Held}
use Rattle.json_stands.proofs.Members.{is_member, MarksSay}

-- ---- the members of an update

-- where a name stands that was seen
abbrev pub place_of : List ℕ → List Seen → Option ℕ
place_of name [] = none
place_of name (s ∷ others) = cond (same_bytes name s.name) (some s.place) (place_of name others)

-- each is a member, and was seen once
pub data Once : List Seen → Type 0 where
  never : Once []
  also : {seen : List Seen} {place : ℕ} (m : ℕ) → is_member AnUpdate m ≡ true → is_one_of (names_in seen) (name_at m) ≡ false → Once seen → Once (record { name = name_at m; place = place } ∷ seen)

-- they are marked, with their places
pub record UpdateSays (marks places : List ℕ) (seen : List Seen) : Type 0 where
  pub says : MarksSay marks AnUpdate seen
  pub stands : (m : ℕ) → is_member AnUpdate m ≡ true → place_of (name_at m) seen ≡ cond (is_marked marks m) (some (get_or places m 0)) none
  pub once : Once seen

-- ---- the frames

module _ (h : Held) where
  abbrev pub updates_open : OpenList
  updates_open = record { room = list_room; each = ARecord AnUpdate; place = h.list; schema = 0; count = h.updates }

  -- its kind is read from the slot as a number below 256
  abbrev pub update_open : List Seen → OpenObject
  update_open seen = record { kind = AnUpdate; place = h.update; schema = 0; seen = seen; action = action_at (h.kind % 256) }

  -- a list of ids
  abbrev pub ids_open : Shape → OpenList
  ids_open each = record { room = removal_room; each = each; place = h.part; schema = 0; count = h.items }

  -- a snapshot, a schema, a sort order or a partition spec
  abbrev pub part_open : Kind → List Seen → OpenObject
  part_open kind seen = record { kind = kind; place = h.part; schema = schema_place kind h.part 0; seen = seen; action = none }

  -- its fields, and one of them
  abbrev pub fields_open : ℕ → Kind → Kind → OpenList
  fields_open room each kind = record { room = room; each = ARecord each; place = h.fields; schema = schema_place kind h.part 0; count = h.items }

  abbrev pub field_open : Kind → Kind → List Seen → OpenObject
  field_open each kind seen = record { kind = each; place = h.field; schema = schema_place each h.field (schema_place kind h.part 0); seen = seen; action = none }

-- ---- spots

pub data Ids : ℕ → Shape → Type 0 where
  snapshot_ids : Ids 8 i64
  schema_ids : Ids 18 i32
  spec_ids : Ids 23 i32

pub data Part : ℕ → Kind → Type 0 where
  snapshot : Part 7 ASnapshot
  schema : Part 15 ASchema
  order : Part 19 AnOrder
  spec : Part 21 ASpec

-- the spot of the fields, their room, the spot of one of them and its kind, and the kind of what they belong to
pub data Fields : ℕ → ℕ → ℕ → Kind → Kind → Type 0 where
  schema_fields : Fields 38 schema_field_room 39 AField ASchema
  order_fields : Fields 45 sort_field_room 46 ASortField AnOrder
  spec_fields : Fields 52 partition_field_room 53 APartitionField ASpec

pub data Open (h : Held) : ℕ → List Frame → Type 0 where
  nothing : Open h 0 (Outside ∷ [])
  updates : Open h 1 (InList (updates_open h) ∷ Outside ∷ [])
  update : {us : List Seen} → UpdateSays h.marks h.places us → Open h 2 (InObject (update_open h us) ∷ InList (updates_open h) ∷ Outside ∷ [])
  ids : {w : ℕ} {each : Shape} {us : List Seen} → Ids w each → UpdateSays h.marks h.places us
      → Open h w (InList (ids_open h each) ∷ InObject (update_open h us) ∷ InList (updates_open h) ∷ Outside ∷ [])
  part : {w : ℕ} {kind : Kind} {ps us : List Seen} → Part w kind → MarksSay h.marks kind ps → UpdateSays h.marks h.places us
      → Open h w (InObject (part_open h kind ps) ∷ InObject (update_open h us) ∷ InList (updates_open h) ∷ Outside ∷ [])
  fields : {w room x : ℕ} {each kind : Kind} {ps us : List Seen} → Fields w room x each kind → MarksSay h.marks kind ps → UpdateSays h.marks h.places us
      → Open h w (InList (fields_open h room each kind) ∷ InObject (part_open h kind ps) ∷ InObject (update_open h us) ∷ InList (updates_open h) ∷ Outside ∷ [])
  field : {w room x : ℕ} {each kind : Kind} {fs ps us : List Seen} → Fields w room x each kind → MarksSay h.marks each fs → MarksSay h.marks kind ps → UpdateSays h.marks h.places us
      → Open h x (InObject (field_open h each kind fs) ∷ InList (fields_open h room each kind) ∷ InObject (part_open h kind ps) ∷ InObject (update_open h us) ∷ InList (updates_open h) ∷ Outside ∷ [])

-- ---- what is passed over

-- so many frames that are passed over, and those around them
pub data Passed : ℕ → List Frame → List Frame → Type 0 where
  here : {fs : List Frame} → Passed 0 fs fs
  list : {q : ℕ} {fs js : List Frame} → Passed q fs js → Passed (suc q) (PassedList ∷ fs) js
  object : {q : ℕ} {fs js : List Frame} → Passed q fs js → Passed (suc q) (PassedObject ∷ fs) js
