-- Each record of a file says the same with its members in another order.
use Prim.Native.Nat.{ℕ}
use Prim.Native.String.{String}
use mathlib.Core.Path.{◌≡◌, refl, ap}
use mathlib.Core.Bool.{Bool, true, false, cond, not}
use mathlib.Core.List.{List, []}
use mathlib.Core.Option.{Option, some}
use lib.IntN.{ℤ, pos}
use Rattle.rules.specs.Words.{is_some, or_else, same_bytes}
use Rattle.rules.specs.Capacities.{schema_field_room, sort_field_room, partition_field_room}
use Rattle.rules.specs.WellFormed.{branch, tag, long, timestamp}
use Rattle.rules.proofs.Checks.{or_right}
use Rattle.json_rule.specs.Letters.{bytes}
use Rattle.json_rule.specs.Tree.{Members}
use Rattle.json_rule.specs.Members.{value_of, text_by, number_by, number_or0}
use Rattle.json_rule.specs.Records.{range_of, snapshot_of, reference_of, field_of, schema_of, sort_field_of, order_of, transform_of, buckets_of, partition_field_of}
use Rattle.file_rule.specs.Tables.{FileKind, HeldSnapshot, HeldSchema, HeldField, HeldSpec, HeldPartitionField, HeldOrder, HeldSortField, HeldRef, HeldLogEntry, HeldFileEntry, FileShape, Several, OfKind, Published, row_in, rows_in}
use Rattle.file_rule.specs.FileDefects.{published_as, skips_unknown, member_defects}
use Rattle.file_rule.specs.Import.{log_entry_of, file_entry_of, statistics_of, with_position, spec_of}
use Rattle.file_round.proofs.Scalars.{Version, one, two, three}
use Rattle.file_order.specs.Order.{TurnedMembers}
use Rattle.file_order.proofs.Kept.{Near, text_near, number_near, value_near, RowShape, Good, list_kept}

-- ---- by name, where no name is skipped

module _ (version : ℕ) (kind : FileKind) (k : skips_unknown kind ≡ false) (ms ns : Members) (h : TurnedMembers ms ns) (schema : ℕ) (e : member_defects version schema kind (rows_in version kind) [] ms ≡ []) where
  value_by : (name : String) → Near (value_of (bytes name) ms) (value_of (bytes name) ns)
  value_by name = value_near version schema kind (rows_in version kind) (bytes name) (or_right (is_some (published_as (bytes name) (rows_in version kind))) (ap not k)) h [] e

  number_by_lem : (name : String) → number_by name ms ≡ number_by name ns
  number_by_lem name = number_near (value_by name)

  number_or : (name : String) → number_or0 name ms ≡ number_or0 name ns
  number_or name = ap (λ (o : Option ℤ). or_else o (pos 0)) (number_by_lem name)

  text_by_lem : (name : String) → text_by name ms ≡ text_by name ns
  text_by_lem name = text_near (value_by name)

-- ---- records without lists

module _ (version : ℕ) where
  pub snapshot_good : Good version HeldSnapshot snapshot_of
  snapshot_good ms ns h schema e = λ i. record {
    id = number_or version HeldSnapshot refl ms ns h schema e "snapshot-id" i;
    parent = number_by_lem version HeldSnapshot refl ms ns h schema e "parent-snapshot-id" i;
    sequence = record { 0 = number_or version HeldSnapshot refl ms ns h schema e "sequence-number" i };
    time = number_or version HeldSnapshot refl ms ns h schema e "timestamp-ms" i;
    rows = range_of (number_by_lem version HeldSnapshot refl ms ns h schema e "first-row-id" i) (number_by_lem version HeldSnapshot refl ms ns h schema e "added-rows" i);
  }

  pub reference_good : Good version HeldRef reference_of
  reference_good ms ns h schema e = λ i. record {
    snapshot = number_or version HeldRef refl ms ns h schema e "snapshot-id" i;
    kind = cond (same_bytes (text_by_lem version HeldRef refl ms ns h schema e "type" i) (bytes "branch")) branch tag;
    min_snapshots = number_by_lem version HeldRef refl ms ns h schema e "min-snapshots-to-keep" i;
    max_snapshot_age = number_by_lem version HeldRef refl ms ns h schema e "max-snapshot-age-ms" i;
    max_ref_age = number_by_lem version HeldRef refl ms ns h schema e "max-ref-age-ms" i;
  }

  field_good : Good version HeldField field_of
  field_good ms ns h schema e = λ i. record {
    id = number_or version HeldField refl ms ns h schema e "id" i;
    field_type = cond (same_bytes (text_by_lem version HeldField refl ms ns h schema e "type" i) (bytes "long")) long timestamp;
    name = text_by_lem version HeldField refl ms ns h schema e "name" i;
  }

  sort_field_good : Good version HeldSortField sort_field_of
  sort_field_good ms ns h schema e = λ i. record {
    source = number_or version HeldSortField refl ms ns h schema e "source-id" i;
    direction = cond (same_bytes (text_by_lem version HeldSortField refl ms ns h schema e "direction" i) (bytes "asc")) 0 1;
    nulls = cond (same_bytes (text_by_lem version HeldSortField refl ms ns h schema e "null-order" i) (bytes "nulls-first")) 0 1;
  }

  pub partition_field_good : Good version HeldPartitionField partition_field_of
  partition_field_good ms ns h schema e = λ i. record {
    source = number_or version HeldPartitionField refl ms ns h schema e "source-id" i;
    id = number_by_lem version HeldPartitionField refl ms ns h schema e "field-id" i;
    transform = transform_of (text_by_lem version HeldPartitionField refl ms ns h schema e "transform" i);
    buckets = buckets_of (text_by_lem version HeldPartitionField refl ms ns h schema e "transform" i);
    name = text_by_lem version HeldPartitionField refl ms ns h schema e "name" i;
  }

  pub log_good : Good version HeldLogEntry log_entry_of
  log_good ms ns h schema e = λ i. record { snapshot = number_or version HeldLogEntry refl ms ns h schema e "snapshot-id" i; time = number_or version HeldLogEntry refl ms ns h schema e "timestamp-ms" i }

  pub file_good : Good version HeldFileEntry file_entry_of
  file_good ms ns h schema e = λ i. record { file = text_by_lem version HeldFileEntry refl ms ns h schema e "metadata-file" i; time = number_or version HeldFileEntry refl ms ns h schema e "timestamp-ms" i }

  pub statistics_good : (kind : FileKind) → skips_unknown kind ≡ false → Good version kind statistics_of
  statistics_good kind k ms ns h schema e = λ i. record {
    snapshot = number_or version kind k ms ns h schema e "snapshot-id" i;
    path = text_by_lem version kind k ms ns h schema e "statistics-path" i;
    size = number_or version kind k ms ns h schema e "file-size-in-bytes" i;
  }

-- ---- records with lists

-- a row in each version
abbrev pub listed : List ℕ → FileShape → Bool → Published
listed w shape required = record { name = w; shape = shape; is_required = required; of_schema = false }

pub row_shape : {version : ℕ} → Version version → (kind : FileKind) (w : List ℕ) (shape : FileShape) (p q r : Bool) → published_as w (rows_in 1 kind) ≡ some (listed w shape p) → published_as w (rows_in 2 kind) ≡ some (listed w shape q)
    → published_as w (rows_in 3 kind) ≡ some (listed w shape r) → RowShape (rows_in version kind) w shape
row_shape one kind w shape p q r a b c = record { row = listed w shape p; found = a; is = refl }
row_shape two kind w shape p q r a b c = record { row = listed w shape q; found = b; is = refl }
row_shape three kind w shape p q r a b c = record { row = listed w shape r; found = c; is = refl }

module _ {version : ℕ} (v : Version version) where
  pub schema_good : Good version HeldSchema schema_of
  unfolding rows_in row_in
  schema_good ms ns h schema e = λ i. record {
    id = number_or version HeldSchema refl ms ns h schema e "schema-id" i;
    fields = list_kept version HeldField field_of (field_good version) HeldSchema (bytes "fields") schema_field_room
        (row_shape v HeldSchema (bytes "fields") (Several schema_field_room (OfKind HeldField)) true true true refl refl refl) ms ns h schema e i;
  }

  pub order_good : Good version HeldOrder order_of
  unfolding rows_in row_in
  order_good ms ns h schema e = λ i. record {
    id = number_or version HeldOrder refl ms ns h schema e "order-id" i;
    fields = list_kept version HeldSortField sort_field_of (sort_field_good version) HeldOrder (bytes "fields") sort_field_room
        (row_shape v HeldOrder (bytes "fields") (Several sort_field_room (OfKind HeldSortField)) true true true refl refl refl) ms ns h schema e i;
  }

  pub spec_good : Good version HeldSpec spec_of
  unfolding rows_in row_in
  spec_good ms ns h schema e = λ i. record {
    id = number_or version HeldSpec refl ms ns h schema e "spec-id" i;
    fields = with_position 0 (list_kept version HeldPartitionField partition_field_of (partition_field_good version) HeldSpec (bytes "fields") partition_field_room
        (row_shape v HeldSpec (bytes "fields") (Several partition_field_room (OfKind HeldPartitionField)) true true true refl refl refl) ms ns h schema e i);
  }
