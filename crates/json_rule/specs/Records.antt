-- The records that the members of an object say, and an update as it is sent: document 02, request (vi), after the public table format, "Appendix C: JSON
-- serialization". What is said here counts where nothing is wrong with the text.
use Rattle.std.specs.Prelude.{ℕ, zero, suc, ◌+◌, ◌*◌, ◌-◌, ◌/◌, ◌%◌, Bool, cond, List, [], ◌∷◌, ◌++◌, map, leb, ℤ, pos, negsuc, length, replicate, drop}
use Rattle.std.proofs.Math.Option.{Option, none, some}
use Rattle.records.specs.declared.counters.SequenceNumber.{SequenceNumber}
use Rattle.records.specs.declared.counters.RowId.{RowId}
use Rattle.rules.specs.Words.{or_else, keep, same_bytes}
use Rattle.rules.specs.Capacities.{name_room}
use Rattle.rules.specs.Partitions.{identity, year, month, day, bucket}
use Rattle.rules.specs.WellFormed.{branch, tag, long, timestamp}
use Rattle.rules.specs.Register.{RowRange, Snapshot, Reference, SchemaField, Schema, SortField, SortOrder, PartitionField, PartitionSpec, Update}
use Rattle.rules.specs.Register.Update.{AddSchema, AddPartitionSpec}
use Rattle.json_rule.specs.Letters.{bytes}
use Rattle.json_rule.specs.Lexemes.{is_digit, is_hex}
use Rattle.json_rule.specs.Values.{hex_value, digits_value}
use Rattle.json_rule.specs.Tree.{Items, no_item, item, Members}
use Rattle.json_rule.specs.Members.{number_in, members_in, text_by, number_by, number_or0, items_by, is_word}

-- ---- lists

abbrev pub numbers_of : Items → List ℤ
numbers_of no_item = []
numbers_of (item x xs) = or_else (number_in x) (pos 0) ∷ numbers_of xs

abbrev pub records_of : {A : Type 0} → (Members → A) → Items → List A
records_of make no_item = []
records_of make (item x xs) = make (members_in x) ∷ records_of make xs

-- ---- numbers and texts of their own form

-- a number that is not below 0
abbrev pub natural_of : ℤ → ℕ
natural_of (pos n) = n
natural_of (negsuc n) = 0

-- two hexadecimal digits are a byte
abbrev pub hex_bytes : List ℕ → List ℕ
hex_bytes [] = []
hex_bytes (a ∷ []) = []
hex_bytes (a ∷ b ∷ bs) = (hex_value a * 16 + hex_value b) ∷ hex_bytes bs

abbrev pub uuid_of : List ℕ → List ℕ
uuid_of text = hex_bytes (keep is_hex text)

-- ---- records

abbrev pub range_of : Option ℤ → Option ℤ → Option RowRange
range_of none added = none
range_of (some first) none = none
range_of (some first) (some added) = some (record { first = record { 0 = natural_of first }; added = natural_of added })

-- a sequence number that is absent is 0
abbrev pub snapshot_of : Members → Snapshot
snapshot_of ms =
    record {
      id = number_or0 "snapshot-id" ms;
      parent = number_by "parent-snapshot-id" ms;
      sequence = record { 0 = number_or0 "sequence-number" ms };
      time = number_or0 "timestamp-ms" ms;
      rows = range_of (number_by "first-row-id" ms) (number_by "added-rows" ms);
    }

abbrev pub reference_of : Members → Reference
reference_of ms =
    record {
      snapshot = number_or0 "snapshot-id" ms;
      kind = cond (is_word "branch" "type" ms) branch tag;
      min_snapshots = number_by "min-snapshots-to-keep" ms;
      max_snapshot_age = number_by "max-snapshot-age-ms" ms;
      max_ref_age = number_by "max-ref-age-ms" ms;
    }

abbrev pub field_of : Members → SchemaField
field_of ms = record { id = number_or0 "id" ms; field_type = cond (is_word "long" "type" ms) long timestamp; name = text_by "name" ms }

abbrev pub schema_of : Members → Schema
schema_of ms = record { id = number_or0 "schema-id" ms; fields = records_of field_of (items_by "fields" ms) }

-- direction: 0 ascending, 1 descending; nulls: 0 first, 1 last
abbrev pub sort_field_of : Members → SortField
sort_field_of ms = record { source = number_or0 "source-id" ms; direction = cond (is_word "asc" "direction" ms) 0 1; nulls = cond (is_word "nulls-first" "null-order" ms) 0 1 }

abbrev pub order_of : Members → SortOrder
order_of ms = record { id = number_or0 "order-id" ms; fields = records_of sort_field_of (items_by "fields" ms) }

abbrev pub transform_of : List ℕ → ℕ
transform_of text =
    cond (same_bytes text (bytes "identity")) identity
    (cond (same_bytes text (bytes "year")) year
    (cond (same_bytes text (bytes "month")) month
    (cond (same_bytes text (bytes "day")) day
    bucket)))

-- the number of `bucket[N]`; 0 with every other transform, which has no digits
abbrev pub buckets_of : List ℕ → ℤ
buckets_of text = pos (digits_value 0 (keep is_digit text))

abbrev pub partition_field_of : Members → PartitionField
partition_field_of ms =
    record {
      source = number_or0 "source-id" ms;
      id = number_by "field-id" ms;
      transform = transform_of (text_by "transform" ms);
      buckets = buckets_of (text_by "transform" ms);
      name = text_by "name" ms;
    }

abbrev pub spec_of : Members → PartitionSpec
spec_of ms = record { id = number_or0 "spec-id" ms; fields = records_of partition_field_of (items_by "fields" ms) }

-- ---- updates as they are sent

-- one that offers a schema or a spec holds it; the others are as a run takes them
pub data Sent : Type 0 where
  Plain : Update → Sent
  SendsSchema : Schema → Sent
  SendsSpec : PartitionSpec → Sent

-- ---- what a run takes: the fields of schemas and specs as bytes beside the list, in the order of the list

-- a number of 32 bits as four bytes, the lowest first
abbrev pub four_bytes : ℕ → List ℕ
four_bytes n = (n % 256) ∷ (n / 256 % 256) ∷ (n / 65536 % 256) ∷ (n / 16777216 % 256) ∷ []

-- one below 0 counts down from 2^32
abbrev pub number_bytes : ℤ → List ℕ
number_bytes (pos n) = four_bytes n
number_bytes (negsuc n) = four_bytes (4294967295 - n)

abbrev pub name_bytes : List ℕ → List ℕ
name_bytes name = length name ∷ name ++ replicate (name_room - length name) 0

abbrev pub field_offer : SchemaField → List ℕ
field_offer f = number_bytes f.id ++ (f.field_type ∷ []) ++ name_bytes f.name

abbrev pub partition_offer : PartitionField → List ℕ
partition_offer f = number_bytes f.source ++ (f.transform ∷ []) ++ number_bytes f.buckets ++ name_bytes f.name

abbrev pub all_bytes : {A : Type 0} → (A → List ℕ) → List A → List ℕ
all_bytes f [] = []
all_bytes f (x ∷ xs) = f x ++ all_bytes f xs

abbrev pub offer_of : Sent → List ℕ
offer_of (Plain u) = []
offer_of (SendsSchema s) = all_bytes field_offer s.fields
offer_of (SendsSpec s) = all_bytes partition_offer s.fields

abbrev pub offers_of : List Sent → List ℕ
offers_of l = all_bytes offer_of l

-- the update whose offer begins at a place
abbrev pub update_at : ℕ → Sent → Update
update_at place (Plain u) = u
update_at place (SendsSchema s) = AddSchema (record { id = s.id; at = place; count = length s.fields })
update_at place (SendsSpec s) = AddPartitionSpec (record { id = s.id; at = place; ids = map (λ (f : PartitionField). f.id) s.fields })

abbrev pub updates_from : ℕ → List Sent → List Update
updates_from place [] = []
updates_from place (x ∷ xs) = update_at place x ∷ updates_from (place + length (offer_of x)) xs
