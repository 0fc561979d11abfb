-- The tables of a file from their cells are those that its members say.
use Prim.Native.Nat.{ℕ}
use native.Mathlib.Omega.{arith}
use mathlib.Core.Path.{◌≡◌, refl, sym, ap, ◌∙◌}
use mathlib.Core.Bool.{true, cond, not, ◌&&◌}
use mathlib.Core.List.{List}
use mathlib.Core.Option.{Option, none, some}
use borrow.Table.Steps.{cases}
use lib.Dec.{eqb}
use lib.IntN.{ℤ, negsuc}
use lib.ListN.{get_or}
use Rattle.rules.specs.Words.{eq_z}
use Rattle.rules.specs.Capacities.{snapshot_room, snapshot_log_room, metadata_log_room, schema_room, sort_order_room, spec_room, statistics_room}
use Rattle.rules.proofs.Checks.{and_left}
use Rattle.json_rule.specs.Letters.{bytes}
use Rattle.json_rule.specs.Tree.{Json, Members}
use Rattle.json_rule.specs.Members.{number_by, items_by, members_by, members_in}
use Rattle.json_rule.specs.Records.{records_of, snapshot_of, schema_of, order_of}
use Rattle.json_rule.specs.Shapes.{i32}
use Rattle.json_store.specs.Made.{each}
use Rattle.file_rule.specs.Tables.{TheFile, HeldSnapshot, HeldSchema, HeldSpec, HeldOrder, HeldLogEntry, HeldFileEntry, HeldStatistics, HeldPartitionStatistics, OfKind}
use Rattle.file_rule.specs.Import as rule
use Rattle.file_rule.specs.Import.{log_entry_of, file_entry_of, statistics_of, spec_of, spec_fields_of, refs_of, has, schemas_of, current_schema_of, specs_of, default_spec_of, orders_of, current_of, main_at}
use Rattle.file_cells.specs.Wants.{shape_of, row_at}
use Rattle.file_cells.specs.Cells.{size_of, offset_at}
use Rattle.file_records.specs.Decoded as decoded
use Rattle.file_records.specs.Decoded.{is_there, count_at, item_at, maybe_narrow_at, snapshot_at, log_entry_at, file_entry_at, statistics_at, schema_at, spec_at, spec_fields_at, order_at, schemas_in, current_schema_in, specs_in, default_spec_in, orders_in, current_in, refs_in, snapshots_in, snapshot_log_in, metadata_log_in, statistics_in}
use Rattle.file_decoded.proofs.Reading.{is_known, always, HeldRecord, record_of_lem, Reading, missing, present}
use Rattle.file_decoded.proofs.Scalars.{single, there_so, current_read}
use Rattle.file_decoded.proofs.Inner.{outer, number32}
use Rattle.file_decoded.proofs.Lists.{list_read}
use Rattle.file_decoded.proofs.Snapshots.{snapshot_same}
use Rattle.file_decoded.proofs.Logs.{log_entry_same, file_entry_same, statistics_same, partition_statistics_same}
use Rattle.file_decoded.proofs.Schemas.{schema_same}
use Rattle.file_decoded.proofs.SortOrders.{order_same}
use Rattle.file_decoded.proofs.PartitionSpecs.{spec_fields_same, spec_same}
use Rattle.file_decoded.proofs.Refs.{members_of, refs_read}
use Rattle.file_decoded.proofs.Versions.{in_one}

module _ (version : ℕ) (bs cells : List ℕ) (v : is_known version ≡ true) (ms : Members) (h : HeldRecord version bs cells TheFile 0 ms) where
  snapshot_list : (each (λ i. snapshot_at bs cells (item_at 12 5596 i)) (count_at cells snapshot_room 5596) ≡ records_of snapshot_of (items_by "snapshots" ms)) × (is_there cells 5596 ≡ has "snapshots" ms)
  unfolding offset_at size_of shape_of row_at
  snapshot_list =
      list_read version bs cells HeldSnapshot (λ at. snapshot_at bs cells at) snapshot_of (λ at others g. snapshot_same version bs cells v at others g) snapshot_room (bytes "snapshots") 15 5596 ms refl
      (outer version bs cells v h 14 _ refl refl (always version _ refl) 5596 refl)

  pub snapshots_same : snapshots_in bs cells ≡ records_of snapshot_of (items_by "snapshots" ms)
  unfolding snapshots_in
  snapshots_same = snapshot_list.0

  log_list : (each (λ i. log_entry_at bs cells (item_at 4 6365 i)) (count_at cells snapshot_log_room 6365) ≡ records_of log_entry_of (items_by "snapshot-log" ms)) × (is_there cells 6365 ≡ has "snapshot-log" ms)
  unfolding offset_at size_of shape_of row_at
  log_list =
      list_read version bs cells HeldLogEntry (λ at. log_entry_at bs cells at) log_entry_of (λ at others g. log_entry_same version bs cells v at others g) snapshot_log_room (bytes "snapshot-log") 16 6365 ms refl
      (outer version bs cells v h 15 _ refl refl (always version _ refl) 6365 refl)

  pub snapshot_log_same : snapshot_log_in bs cells ≡ records_of log_entry_of (items_by "snapshot-log" ms)
  unfolding snapshot_log_in
  snapshot_log_same = log_list.0

  file_list : (each (λ i. file_entry_at bs cells (item_at 4 6878 i)) (count_at cells metadata_log_room 6878) ≡ records_of file_entry_of (items_by "metadata-log" ms)) × (is_there cells 6878 ≡ has "metadata-log" ms)
  unfolding offset_at size_of shape_of row_at
  file_list =
      list_read version bs cells HeldFileEntry (λ at. file_entry_at bs cells at) file_entry_of (λ at others g. file_entry_same version bs cells v at others g) metadata_log_room (bytes "metadata-log") 17 6878 ms refl
      (outer version bs cells v h 16 _ refl refl (always version _ refl) 6878 refl)

  pub metadata_log_same : metadata_log_in bs cells ≡ records_of file_entry_of (items_by "metadata-log" ms)
  unfolding metadata_log_in
  metadata_log_same = file_list.0

  statistics_list : (each (λ i. statistics_at bs cells (item_at 6 8659 i)) (count_at cells statistics_room 8659) ≡ records_of statistics_of (items_by "statistics" ms)) × (is_there cells 8659 ≡ has "statistics" ms)
  unfolding offset_at size_of shape_of row_at
  statistics_list =
      list_read version bs cells HeldStatistics (λ at. statistics_at bs cells at) statistics_of (λ at others g. statistics_same version bs cells v at others g) statistics_room (bytes "statistics") 21 8659 ms refl
      (outer version bs cells v h 20 _ refl refl (always version _ refl) 8659 refl)

  pub statistics_table_same : statistics_in bs cells 8659 ≡ records_of statistics_of (items_by "statistics" ms)
  unfolding statistics_in
  statistics_table_same = statistics_list.0

  partition_list : (each (λ i. statistics_at bs cells (item_at 6 8852 i)) (count_at cells statistics_room 8852) ≡ records_of statistics_of (items_by "partition-statistics" ms)) × (is_there cells 8852 ≡ has "partition-statistics" ms)
  unfolding offset_at size_of shape_of row_at
  partition_list =
      list_read version bs cells HeldPartitionStatistics (λ at. statistics_at bs cells at) statistics_of (λ at others g. partition_statistics_same version bs cells v at others g) statistics_room (bytes "partition-statistics") 22 8852 ms refl
      (outer version bs cells v h 21 _ refl refl (always version _ refl) 8852 refl)

  pub partition_statistics_table_same : statistics_in bs cells 8852 ≡ records_of statistics_of (items_by "partition-statistics" ms)
  unfolding statistics_in
  partition_statistics_table_same = partition_list.0

  order_list : (each (λ i. order_at bs cells (item_at 67 7391 i)) (count_at cells sort_order_room 7391) ≡ records_of order_of (items_by "sort-orders" ms)) × (is_there cells 7391 ≡ has "sort-orders" ms)
  unfolding offset_at size_of shape_of row_at
  order_list =
      list_read version bs cells HeldOrder (λ at. order_at bs cells at) order_of (λ at others g. order_same version bs cells v at others g) sort_order_room (bytes "sort-orders") 18 7391 ms refl
      (outer version bs cells v h 17 _ refl refl (always version _ refl) 7391 refl)

  pub orders_same : orders_in bs cells ≡ orders_of ms
  unfolding orders_in
  orders_same = rw (order_list.1, order_list.0)

  schema_list : (each (λ i. schema_at bs cells (item_at 261 273 i)) (count_at cells schema_room 273) ≡ records_of schema_of (items_by "schemas" ms)) × (is_there cells 273 ≡ has "schemas" ms)
  unfolding offset_at size_of shape_of row_at
  schema_list =
      list_read version bs cells HeldSchema (λ at. schema_at bs cells at) schema_of (λ at others g. schema_same version bs cells v at others g) schema_room (bytes "schemas") 8 273 ms refl
      (outer version bs cells v h 7 _ refl refl (always version _ refl) 273 refl)

  spec_list : (each (λ i. spec_at bs cells (item_at 67 4517 i)) (count_at cells spec_room 4517) ≡ records_of spec_of (items_by "partition-specs" ms)) × (is_there cells 4517 ≡ has "partition-specs" ms)
  unfolding offset_at size_of shape_of row_at
  spec_list =
      list_read version bs cells HeldSpec (λ at. spec_at bs cells at) spec_of (λ at others g. spec_same version bs cells v at others g) spec_room (bytes "partition-specs") 11 4517 ms refl
      (outer version bs cells v h 10 _ refl refl (always version _ refl) 4517 refl)

  -- ---- schemas

  id_there : is_there cells 4450 ≡ has "current-schema-id" ms
  unfolding offset_at size_of
  id_there = there_so version bs cells i32 (bytes "current-schema-id") 4450 ms (single version bs cells i32 (bytes "current-schema-id") 9 4450 ms refl refl (outer version bs cells v h 8 _ refl refl (always version _ refl) 4450 refl))

  id_same : maybe_narrow_at bs cells 4450 ≡ number_by "current-schema-id" ms
  unfolding offset_at size_of
  id_same = number32 version bs cells v h (bytes "current-schema-id") 9 4450 refl (outer version bs cells v h 8 _ refl refl (always version _ refl) 4450 refl)

  schema_decides_lem : decoded.schema_decides bs cells version ≡ rule.schema_decides version ms
  schema_decides_lem = rw (schema_list.1, id_there)

  -- the single schema of version 1
  schema_single : eqb version 1 ≡ true → schema_at bs cells 12 ≡ schema_of (members_by "schema" ms)
  unfolding offset_at size_of shape_of row_at schema_at maybe_narrow_at is_there count_at
  schema_single one = go (outer version bs cells v h 6 _ refl refl (in_one version v _ one refl) 12 refl)
    where
      go : Reading version bs cells (OfKind HeldSchema) (bytes "schema") 7 12 ms → schema_at bs cells 12 ≡ schema_of (members_by "schema" ms)
      go (missing e z) =
          let a : get_or cells 271 0 ≡ 0 = z 259 (omega arith) in
          let b : get_or cells 14 0 ≡ 0 = z 2 (omega arith) in
          rw (a, b) (sym (ap (λ (o : Option Json). schema_of (members_of o)) e))
      go (present x schema of_schema e g d c f) =
          schema_same version bs cells v 12 (members_in x) (record_of_lem version bs cells HeldSchema 7 12 schema of_schema x refl g d c f) ∙ sym (ap (λ (o : Option Json). schema_of (members_of o)) e)

  pub schemas_same : schemas_in bs cells version ≡ schemas_of version ms
  unfolding schemas_in
  schemas_same =
      rw (schema_decides_lem, schema_list.0)
      (cases (rule.schema_decides version ms)
      (λ b. rw (b, schema_single (and_left (eqb version 1) (not (has "schemas" ms && has "current-schema-id" ms)) b)))
      (λ b. rw b))

  pub current_schema_same : current_schema_in bs cells version ≡ current_schema_of version ms
  unfolding current_schema_in
  current_schema_same =
      rw (schema_decides_lem, id_same)
      (cases (rule.schema_decides version ms)
      (λ b. rw (b, schema_single (and_left (eqb version 1) (not (has "schemas" ms && has "current-schema-id" ms)) b)))
      (λ b. rw b))

  -- ---- partition specs

  default_there : is_there cells 5590 ≡ has "default-spec-id" ms
  unfolding offset_at size_of
  default_there = there_so version bs cells i32 (bytes "default-spec-id") 5590 ms (single version bs cells i32 (bytes "default-spec-id") 12 5590 ms refl refl (outer version bs cells v h 11 _ refl refl (always version _ refl) 5590 refl))

  default_same : maybe_narrow_at bs cells 5590 ≡ number_by "default-spec-id" ms
  unfolding offset_at size_of
  default_same = number32 version bs cells v h (bytes "default-spec-id") 12 5590 refl (outer version bs cells v h 11 _ refl refl (always version _ refl) 5590 refl)

  spec_decides_lem : decoded.spec_decides bs cells version ≡ rule.spec_decides version ms
  spec_decides_lem = rw (spec_list.1, default_there)

  -- the fields of the single spec of version 1
  spec_single : eqb version 1 ≡ true → spec_fields_at bs cells 4452 ≡ spec_fields_of (items_by "partition-spec" ms)
  unfolding offset_at size_of shape_of row_at
  spec_single one = spec_fields_same version bs cells v (bytes "partition-spec") 10 4452 ms refl (outer version bs cells v h 9 _ refl refl (in_one version v _ one refl) 4452 refl)

  pub specs_same : specs_in bs cells version ≡ specs_of version ms
  unfolding specs_in
  specs_same =
      rw (spec_decides_lem, spec_list.0)
      (cases (rule.spec_decides version ms)
      (λ b. rw (b, spec_single (and_left (eqb version 1) (not (has "partition-specs" ms && has "default-spec-id" ms)) b)))
      (λ b. rw b))

  pub default_spec_same : default_spec_in bs cells version ≡ default_spec_of version ms
  unfolding default_spec_in
  default_spec_same = rw (spec_decides_lem, default_same)

  -- ---- the current snapshot, and refs

  abbrev current_by : Option ℤ → Option ℤ
  current_by o = elim o [ none ↦ none | some id ↦ cond (eq_z id (negsuc 0)) none (some id) ]

  pub current_same : current_in bs cells ≡ current_of ms
  unfolding offset_at size_of current_in
  current_same = ap current_by (current_read version bs cells (bytes "current-snapshot-id") 14 5594 ms refl (outer version bs cells v h 13 _ refl refl (always version _ refl) 5594 refl))

  pub refs_table_same : refs_in bs cells ≡ cond (has "refs" ms) (refs_of (members_by "refs" ms)) (main_at (current_of ms))
  unfolding offset_at size_of shape_of row_at refs_in
  refs_table_same =
      let q = refs_read version bs cells v (bytes "refs") 20 8466 ms refl (outer version bs cells v h 19 _ refl refl (always version _ refl) 8466 refl) in
      rw (q.1, q.0, current_same)
