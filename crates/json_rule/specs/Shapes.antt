-- What is published of updates and of the records in them, as tables: the REST catalogue's update list, and the public table format, "Appendix C: JSON
-- serialization". Document 02, request (vi), names the actions; request (ix) adds names, types and partition specs.
use Rattle.std.specs.Prelude.{ℕ, Bool, true, false, List, [], ◌∷◌, ◌++◌, map, ℤ, pos, negsuc}
use Prim.Native.String.{String}
use Rattle.rules.specs.Capacities.{name_room, location_room, removal_room, list_room, schema_field_room, sort_field_room, partition_field_room}
use Rattle.rules.specs.Register.Update.{AssignUuid, UpgradeFormatVersion, SetLocation, AddSnapshot, RemoveSnapshots, SetRef, RemoveRef, SetCurrentSchema, RemoveSchemas, AddSortOrder, SetDefaultSortOrder, SetDefaultPartitionSpec, RemovePartitionSpecs}
use Rattle.json_rule.specs.Letters.{bytes}
use Rattle.json_rule.specs.Tree.{Members}
use Rattle.json_rule.specs.Members.{text_by, number_or0, items_by, members_by}
use Rattle.json_rule.specs.Records.{Sent, Plain, SendsSchema, SendsSpec, natural_of, uuid_of, numbers_of, snapshot_of, reference_of, schema_of, order_of, spec_of}

-- the records that are objects
pub data Kind : Type 0 where
  AnUpdate ASnapshot ASchema AField AnOrder ASortField ASpec APartitionField : Kind

-- what a value is to be
pub data Shape : Type 0 where
  -- any JSON: "checked as JSON and passed over"
  Anything : Shape
  -- a text of at most so many bytes
  TextUpTo : ℕ → Shape
  -- one of these texts
  OneOf : List (List ℕ) → Shape
  -- a whole number between bounds
  NumberIn : ℤ → ℤ → Shape
  -- `false`
  No : Shape
  -- 8-4-4-4-12 hexadecimal digits
  AUuid : Shape
  -- a transform of a partition field
  ATransform : Shape
  -- a list of at most so many
  ListUpTo : ℕ → Shape → Shape
  ARecord : Kind → Shape

-- ---- numbers, by the fields that hold them

abbrev pub i32 : Shape
i32 = NumberIn (negsuc 2147483647) (pos 2147483647)

abbrev pub i64 : Shape
i64 = NumberIn (negsuc 9223372036854775807) (pos 9223372036854775807)

abbrev pub u64 : Shape
u64 = NumberIn (pos 0) (pos 18446744073709551615)

abbrev pub u8 : Shape
u8 = NumberIn (pos 0) (pos 255)

-- ---- rows

-- A member: its name, what its value is to be, whether it is required. What is wrong with the value of a member `of_schema` is "a schema not of .." what can be
-- held, and stands at the schema.
pub record Row : Type 0 where
  pub name : List ℕ
  pub shape : Shape
  pub is_required : Bool
  pub of_schema : Bool

abbrev pub required : String → Shape → Row
required name shape = record { name = bytes name; shape = shape; is_required = true; of_schema = false }

abbrev pub optional : String → Shape → Row
optional name shape = record { name = bytes name; shape = shape; is_required = false; of_schema = false }

abbrev pub required_of_schema : String → Shape → Row
required_of_schema name shape = record { name = bytes name; shape = shape; is_required = true; of_schema = true }

-- "`manifest-list`, `summary` and `schema_id_lem` are optional, checked as JSON and passed over"
abbrev pub snapshot_rows : List Row
snapshot_rows =
    required "snapshot-id" i64
    ∷ required "timestamp-ms" i64
    ∷ optional "parent-snapshot-id" i64
    ∷ optional "sequence-number" i64
    ∷ optional "first-row-id" u64
    ∷ optional "added-rows" u64
    ∷ optional "manifest-list" Anything
    ∷ optional "summary" Anything
    ∷ optional "schema-id" Anything
    ∷ []

abbrev pub schema_rows : List Row
schema_rows =
    required "type" (OneOf (bytes "struct" ∷ []))
    ∷ required "fields" (ListUpTo schema_field_room (ARecord AField))
    ∷ optional "schema-id" i32
    ∷ []

abbrev pub field_rows : List Row
field_rows =
    required "id" i32
    ∷ required "name" (TextUpTo name_room)
    ∷ required_of_schema "required" No
    ∷ required_of_schema "type" (OneOf (bytes "long" ∷ bytes "timestamp" ∷ []))
    ∷ []

abbrev pub order_rows : List Row
order_rows =
    required "order-id" i64
    ∷ required "fields" (ListUpTo sort_field_room (ARecord ASortField))
    ∷ []

abbrev pub sort_field_rows : List Row
sort_field_rows =
    required "transform" (OneOf (bytes "identity" ∷ []))
    ∷ required "source-id" i32
    ∷ required "direction" (OneOf (bytes "asc" ∷ bytes "desc" ∷ []))
    ∷ required "null-order" (OneOf (bytes "nulls-first" ∷ bytes "nulls-last" ∷ []))
    ∷ []

abbrev pub spec_rows : List Row
spec_rows =
    required "fields" (ListUpTo partition_field_room (ARecord APartitionField))
    ∷ optional "spec-id" i32
    ∷ []

abbrev pub partition_field_rows : List Row
partition_field_rows =
    required "source-id" i32
    ∷ required "name" (TextUpTo name_room)
    ∷ required "transform" ATransform
    ∷ optional "field-id" i32
    ∷ []

-- ---- actions

abbrev pub ref_rows : List Row
ref_rows =
    required "ref-name" (TextUpTo name_room)
    ∷ required "type" (OneOf (bytes "branch" ∷ bytes "tag" ∷ []))
    ∷ required "snapshot-id" i64
    ∷ optional "min-snapshots-to-keep" i32
    ∷ optional "max-snapshot-age-ms" i64
    ∷ optional "max-ref-age-ms" i64
    ∷ []

-- an action, the members beside it, and the update that they say
pub record Action : Type 0 where
  pub word : List ℕ
  pub rows : List Row
  pub sends : Members → Sent

abbrev pub action : String → List Row → (Members → Sent) → Action
action word rows sends = record { word = bytes word; rows = rows; sends = sends }

abbrev pub actions : List Action
actions =
    action "assign-uuid" (required "uuid" AUuid ∷ []) (λ ms. Plain (AssignUuid (uuid_of (text_by "uuid" ms))))
    ∷ action "upgrade-format-version" (required "format-version" u8 ∷ []) (λ ms. Plain (UpgradeFormatVersion (natural_of (number_or0 "format-version" ms))))
    ∷ action "set-location" (required "location" (TextUpTo location_room) ∷ []) (λ ms. Plain (SetLocation (text_by "location" ms)))
    ∷ action "add-snapshot" (required "snapshot" (ARecord ASnapshot) ∷ []) (λ ms. Plain (AddSnapshot (snapshot_of (members_by "snapshot" ms))))
    ∷ action "remove-snapshots" (required "snapshot-ids" (ListUpTo removal_room i64) ∷ []) (λ ms. Plain (RemoveSnapshots (numbers_of (items_by "snapshot-ids" ms))))
    ∷ action "set-snapshot-ref" ref_rows (λ ms. Plain (SetRef (text_by "ref-name" ms) (reference_of ms)))
    ∷ action "remove-snapshot-ref" (required "ref-name" (TextUpTo name_room) ∷ []) (λ ms. Plain (RemoveRef (text_by "ref-name" ms)))
    ∷ action "add-schema" (required "schema" (ARecord ASchema) ∷ optional "last-column-id" i32 ∷ []) (λ ms. SendsSchema (schema_of (members_by "schema" ms)))
    ∷ action "set-current-schema" (required "schema-id" i32 ∷ []) (λ ms. Plain (SetCurrentSchema (number_or0 "schema-id" ms)))
    ∷ action "remove-schemas" (required "schema-ids" (ListUpTo removal_room i32) ∷ []) (λ ms. Plain (RemoveSchemas (numbers_of (items_by "schema-ids" ms))))
    ∷ action "add-sort-order" (required "sort-order" (ARecord AnOrder) ∷ []) (λ ms. Plain (AddSortOrder (order_of (members_by "sort-order" ms))))
    ∷ action "set-default-sort-order" (required "sort-order-id" i64 ∷ []) (λ ms. Plain (SetDefaultSortOrder (number_or0 "sort-order-id" ms)))
    ∷ action "add-spec" (required "spec" (ARecord ASpec) ∷ []) (λ ms. SendsSpec (spec_of (members_by "spec" ms)))
    ∷ action "set-default-spec" (required "spec-id" i32 ∷ []) (λ ms. Plain (SetDefaultPartitionSpec (number_or0 "spec-id" ms)))
    ∷ action "remove-partition-specs" (required "spec-ids" (ListUpTo removal_room i32) ∷ []) (λ ms. Plain (RemovePartitionSpecs (numbers_of (items_by "spec-ids" ms))))
    ∷ []

abbrev pub action_name : List ℕ
action_name = bytes "action"

abbrev pub rows_of_actions : List Action → List Row
rows_of_actions [] = []
rows_of_actions (a ∷ others) = a.rows ++ rows_of_actions others

-- the members of an update: a name has one shape over all actions, so its value is judged before the action is known
abbrev pub update_rows : List Row
update_rows = required "action" (OneOf (map (λ (a : Action). a.word) actions)) ∷ rows_of_actions actions

abbrev pub rows_of : Kind → List Row
rows_of AnUpdate = update_rows
rows_of ASnapshot = snapshot_rows
rows_of ASchema = schema_rows
rows_of AField = field_rows
rows_of AnOrder = order_rows
rows_of ASortField = sort_field_rows
rows_of ASpec = spec_rows
rows_of APartitionField = partition_field_rows

-- the whole text: "the update list", of which a run takes 64
abbrev pub update_list : Shape
update_list = ListUpTo list_room (ARecord AnUpdate)
