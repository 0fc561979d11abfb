-- The spots of a list of updates: what is to stand at each, and how the rule's tables are made of them. A spot is a number; the rows below stand in the order of
-- the numbers.
use Rattle.std.specs.Prelude.{ℕ, zero, suc, Bool, false, cond, List, [], ◌∷◌, map, eqb, get_or}
use Rattle.std.proofs.Math.Option.{Option, none, some}
use Rattle.rules.specs.Capacities.{name_room, location_room, removal_room, schema_field_room, sort_field_room, partition_field_room}
use Rattle.json_rule.specs.Letters.{bytes}
use Rattle.json_rule.specs.Shapes.{Kind, AnUpdate, ASnapshot, ASchema, AField, AnOrder, ASortField, ASpec, APartitionField, Shape, Anything, TextUpTo, OneOf, No, AUuid, ATransform, ListUpTo, ARecord, i32, i64, u64, u8, Row, required, optional, required_of_schema, Action, actions, update_list}
use Rattle.json_rule.specs.Defects.{Listing, listing_of, kind_of, is_anything}
use Rattle.json_members.specs.Words.{Entry, entry, number_of}

-- what stands beside a number in a table; another where the number is not there
abbrev pub beside : {A : Type 0} → A → List (ℕ × A) → ℕ → A
beside other [] n = other
beside other (p ∷ ps) n = cond (eqb n p.0) p.1 (beside other ps n)

-- what is no member: the list, its updates, and the elements of the other lists
abbrev pub unnamed : Shape → Row
unnamed shape = record { name = []; shape = shape; is_required = false; of_schema = false }

abbrev pub spots : List Row
spots =
    unnamed Anything
    ∷ unnamed update_list
    ∷ unnamed (ARecord AnUpdate)
    -- 3, the members of an update
    ∷ required "action" (OneOf (map (λ (a : Action). a.word) actions))
    ∷ required "uuid" AUuid
    ∷ required "format-version" u8
    ∷ required "location" (TextUpTo location_room)
    ∷ required "snapshot" (ARecord ASnapshot)
    ∷ required "snapshot-ids" (ListUpTo removal_room i64)
    -- 9, those of a ref
    ∷ required "ref-name" (TextUpTo name_room)
    ∷ required "type" (OneOf (bytes "branch" ∷ bytes "tag" ∷ []))
    ∷ required "snapshot-id" i64
    ∷ optional "min-snapshots-to-keep" i32
    ∷ optional "max-snapshot-age-ms" i64
    ∷ optional "max-ref-age-ms" i64
    -- 15
    ∷ required "schema" (ARecord ASchema)
    ∷ optional "last-column-id" i32
    ∷ required "schema-id" i32
    ∷ required "schema-ids" (ListUpTo removal_room i32)
    ∷ required "sort-order" (ARecord AnOrder)
    ∷ required "sort-order-id" i64
    ∷ required "spec" (ARecord ASpec)
    ∷ required "spec-id" i32
    ∷ required "spec-ids" (ListUpTo removal_room i32)
    -- 24, the elements of the three lists of ids
    ∷ unnamed i64
    ∷ unnamed i32
    ∷ unnamed i32
    -- 27, the members of a snapshot
    ∷ required "snapshot-id" i64
    ∷ optional "parent-snapshot-id" i64
    ∷ optional "sequence-number" i64
    ∷ required "timestamp-ms" i64
    ∷ optional "first-row-id" u64
    ∷ optional "added-rows" u64
    ∷ optional "manifest-list" Anything
    ∷ optional "summary" Anything
    ∷ optional "schema-id" Anything
    -- 36, those of a schema, a field, and its members
    ∷ required "type" (OneOf (bytes "struct" ∷ []))
    ∷ optional "schema-id" i32
    ∷ required "fields" (ListUpTo schema_field_room (ARecord AField))
    ∷ unnamed (ARecord AField)
    ∷ required "id" i32
    ∷ required "name" (TextUpTo name_room)
    ∷ required_of_schema "required" No
    ∷ required_of_schema "type" (OneOf (bytes "long" ∷ bytes "timestamp" ∷ []))
    -- 44, the same of a sort order
    ∷ required "order-id" i64
    ∷ required "fields" (ListUpTo sort_field_room (ARecord ASortField))
    ∷ unnamed (ARecord ASortField)
    ∷ required "transform" (OneOf (bytes "identity" ∷ []))
    ∷ required "source-id" i32
    ∷ required "direction" (OneOf (bytes "asc" ∷ bytes "desc" ∷ []))
    ∷ required "null-order" (OneOf (bytes "nulls-first" ∷ bytes "nulls-last" ∷ []))
    -- 51, the same of a partition spec
    ∷ optional "spec-id" i32
    ∷ required "fields" (ListUpTo partition_field_room (ARecord APartitionField))
    ∷ unnamed (ARecord APartitionField)
    ∷ required "source-id" i32
    ∷ optional "field-id" i32
    ∷ required "name" (TextUpTo name_room)
    ∷ required "transform" ATransform
    ∷ []

-- past the last nothing is right
unfoldable pub row_at : ℕ → Row
row_at spot = get_or spots spot (unnamed (OneOf []))

abbrev pub shape_at : ℕ → Shape
shape_at spot = (row_at spot).shape

abbrev pub name_at : ℕ → List ℕ
name_at spot = (row_at spot).name

-- what is wrong with its value stands at the schema around
abbrev pub is_of_schema : ℕ → Bool
is_of_schema spot = (row_at spot).of_schema

-- ---- the members of each record, in the order of the rule's tables

-- The name of a ref stands in two actions.
abbrev pub spots_of : Kind → List ℕ
spots_of AnUpdate = 3 ∷ 4 ∷ 5 ∷ 6 ∷ 7 ∷ 8 ∷ 9 ∷ 10 ∷ 11 ∷ 12 ∷ 13 ∷ 14 ∷ 9 ∷ 15 ∷ 16 ∷ 17 ∷ 18 ∷ 19 ∷ 20 ∷ 21 ∷ 22 ∷ 23 ∷ []
spots_of ASnapshot = 27 ∷ 30 ∷ 28 ∷ 29 ∷ 31 ∷ 32 ∷ 33 ∷ 34 ∷ 35 ∷ []
spots_of ASchema = 36 ∷ 38 ∷ 37 ∷ []
spots_of AField = 40 ∷ 41 ∷ 42 ∷ 43 ∷ []
spots_of AnOrder = 44 ∷ 45 ∷ []
spots_of ASortField = 47 ∷ 48 ∷ 49 ∷ 50 ∷ []
spots_of ASpec = 52 ∷ 51 ∷ []
spots_of APartitionField = 54 ∷ 56 ∷ 57 ∷ 55 ∷ []

-- those that are required; of an update its action says more
abbrev pub required_of : Kind → List ℕ
required_of AnUpdate = 3 ∷ 4 ∷ 5 ∷ 6 ∷ 7 ∷ 8 ∷ 9 ∷ 10 ∷ 11 ∷ 9 ∷ 15 ∷ 17 ∷ 18 ∷ 19 ∷ 20 ∷ 21 ∷ 22 ∷ 23 ∷ []
required_of ASnapshot = 27 ∷ 30 ∷ []
required_of ASchema = 36 ∷ 38 ∷ []
required_of AField = 40 ∷ 41 ∷ 42 ∷ 43 ∷ []
required_of AnOrder = 44 ∷ 45 ∷ []
required_of ASortField = 47 ∷ 48 ∷ 49 ∷ 50 ∷ []
required_of ASpec = 52 ∷ []
required_of APartitionField = 54 ∷ 56 ∷ 57 ∷ []

-- those of an update that stand beside the later actions, and those with the actions on refs before them
abbrev pub later_spots : List ℕ
later_spots = 15 ∷ 16 ∷ 17 ∷ 18 ∷ 19 ∷ 20 ∷ 21 ∷ 22 ∷ 23 ∷ []

abbrev pub ref_spots : List ℕ
ref_spots = 9 ∷ 10 ∷ 11 ∷ 12 ∷ 13 ∷ 14 ∷ later_spots

-- the names of members, each with its spot
abbrev pub names_of : List ℕ → List Entry
names_of [] = []
names_of (s ∷ ss) = entry (name_at s) s ∷ names_of ss

abbrev pub members_of : Option Kind → List ℕ
members_of none = []
members_of (some kind) = spots_of kind

-- the row of a spot; none at 0
abbrev pub row_found : ℕ → Option Row
row_found spot = cond (eqb spot 0) none (some (row_at spot))

-- the member of an object that a name is; 0 where it is none
unfoldable pub member_named : ℕ → List ℕ → ℕ
member_named object text = number_of 0 (names_of (members_of (kind_of (shape_at object)))) text

-- ---- lists

-- what the elements of a list are; 0 where the spot is no list
abbrev pub items : List (ℕ × ℕ)
items = (1, 2) ∷ (8, 24) ∷ (18, 25) ∷ (23, 26) ∷ (38, 39) ∷ (45, 46) ∷ (52, 53) ∷ []

unfoldable pub item_at : ℕ → ℕ
item_at spot = beside 0 items spot

abbrev pub room_in : Option Listing → ℕ
room_in none = 0
room_in (some l) = l.room

-- ---- values

-- what the value of a member is: its own spot, but 0 where it is passed over
unfoldable pub value_at : ℕ → ℕ
value_at member = cond (is_anything (shape_at member)) 0 member

-- ---- in which list or object one stands

abbrev pub arounds : List (ℕ × ℕ)
arounds = (2, 1) ∷ (7, 2) ∷ (8, 2) ∷ (15, 2) ∷ (18, 2) ∷ (19, 2) ∷ (21, 2) ∷ (23, 2) ∷ (38, 15) ∷ (39, 38) ∷ (45, 19) ∷ (46, 45) ∷ (52, 21) ∷ (53, 52) ∷ []

unfoldable pub around_at : ℕ → ℕ
around_at spot = beside 0 arounds spot
