-- What a written file says is the metadata that was written.
use Prim.Native.Nat.{ℕ}
use native.Mathlib.Omega.{arith}
use mathlib.Core.Path.{◌≡◌, refl, ◌∙◌, sym, ap}
use mathlib.Core.Bool.{true, false, cond, not, ◌&&◌, ◌||◌, false≢true}
use mathlib.Core.List.{List, [], ◌∷◌}
use mathlib.Core.Option.{Option, none, some}
use lib.Dec.{eqb, leb, ltb}
use lib.IntN.{ℤ, pos, negsuc}
use lib.ListN.{replicate}
use lib.Signed.{lt_z, non_neg}
use borrow.Author.Tests.{eqb-true}
use Rattle.rules.specs.Words.{or_else, if_some, eq_z}
use Rattle.rules.specs.Names.{name_below}
use Rattle.rules.specs.WellFormed.{snapshot_below, ref_below, schema_below, order_below, spec_below, statistics_below}
use Rattle.rules.specs.Register.{Snapshot, NamedRef, Schema, SortOrder, PartitionSpec, StatisticsFile, Metadata}
use Rattle.rules.proofs.Orders.{eq_z_equal, numbers_ordered, names_ordered}
use Rattle.json_rule.specs.Letters.{bytes}
use Rattle.json_rule.specs.Tree.{Json, Members}
use Rattle.json_rule.specs.Members.{number_in, text_by, number_by, number_or0, items_by, members_by}
use Rattle.json_rule.specs.Records.{records_of, natural_of, uuid_of, snapshot_of, schema_of, order_of}
use Rattle.file_rule.specs.Tables.{OfKind, HeldSnapshot, HeldSchema, HeldSpec, HeldOrder, HeldLogEntry, HeldFileEntry, HeldStatistics, HeldPartitionStatistics}
use Rattle.file_rule.specs.FileDefects.{known_version, version_of}
use Rattle.file_rule.specs.Import.{sorted, log_entry_of, file_entry_of, statistics_of, spec_fields_of, spec_of, refs_of, has, schema_decides, spec_decides, schemas_of, specs_of, largest_id, orders_of, current_of, main_at, fields_of, metadata_of}
use Rattle.file_rule.specs.Files.{uuid_from, snapshot_text, schema_text, spec_text, order_text, log_entry_text, file_entry_text, statistics_text}
use Rattle.file_rule.specs.Fits.{log_entry_fits}
use Rattle.file_round.proofs.Documents.{Document, tree_at, members_at}
use Rattle.file_round.proofs.Numbers.{Fitting, number_read}
use Rattle.file_round.proofs.Plain.{uuid_back}
use Rattle.file_round.proofs.Fields.{Field, mapped, number, quotation, entries_of, Only, looked, number_by_lem, number_or0_lem, text_by_lem, items_by_lem, members_by_lem, has_field}
use Rattle.file_round.proofs.Scalars.{Version, one, two, three, sym_some, optional_fits, fitting32, fitting64, fitting_unsigned}
use Rattle.file_round.proofs.Lists.{documents, listing, list_made}
use Rattle.file_round.proofs.Snapshots.{snapshot_show, snapshot_ok, snapshot_shown}
use Rattle.file_round.proofs.Refs.{refs_show, ref_entries, refs_made}
use Rattle.file_round.proofs.Logs.{log_show, log_shown, file_show as entryShow, file_entry_ok, file_shown, of_table, of_partitions, statistics_show, statistics_ok, statistics_shown}
use Rattle.file_round.proofs.Schemas.{schema_show, schema_ok, schema_shown, order_show, order_ok, order_shown}
use Rattle.file_round.proofs.Specs.{spec_show, spec_ok, spec_shown}
use Rattle.file_round.proofs.Sorted.{sorted_same}
use Rattle.file_round.proofs.File.{Bounds, file_fields, version_fits}

-- ---- where each member stands

-- what a version does not have is absent
abbrev since : ℕ → ℕ → Document → Option Document
since least w d = cond (leb least w) (some d) none

record Found (w version : ℕ) (m : Metadata) (fs : List Field) : Type 0 where
  format_version : Only (bytes "format-version") fs (some (number (pos version)))
  uuid : Only (bytes "table-uuid") fs (some (quotation (uuid_from 0 m.fields.uuid)))
  location : Only (bytes "location") fs (some (quotation m.fields.location))
  last_sequence : Only (bytes "last-sequence-number") fs (since 2 w (number m.fields.last_sequence.0))
  last_updated : Only (bytes "last-updated-ms") fs (some (number m.fields.last_updated))
  last_column : Only (bytes "last-column-id") fs (some (number m.fields.last_column))
  schemas : Only (bytes "schemas") fs (some (listing schema_show m.schemas))
  current_schema : Only (bytes "current-schema-id") fs (some (number m.fields.current_schema))
  specs : Only (bytes "partition-specs") fs (some (listing spec_show m.specs))
  default_spec : Only (bytes "default-spec-id") fs (some (number m.fields.default_spec))
  last_partition : Only (bytes "last-partition-id") fs (some (number m.fields.last_partition))
  current : Only (bytes "current-snapshot-id") fs (mapped number m.fields.current)
  snapshots : Only (bytes "snapshots") fs (some (listing (snapshot_show version) m.snapshots))
  log : Only (bytes "snapshot-log") fs (some (listing log_show m.snapshot_log))
  files : Only (bytes "metadata-log") fs (some (listing entryShow m.metadata_log))
  orders : Only (bytes "sort-orders") fs (some (listing order_show m.orders))
  default_order : Only (bytes "default-sort-order-id") fs (some (number m.fields.default_order))
  refs : Only (bytes "refs") fs (some (refs_show m.refs))
  statistics : Only (bytes "statistics") fs (some (listing statistics_show m.statistics))
  partitions : Only (bytes "partition-statistics") fs (some (listing statistics_show m.partition_statistics))
  next_row : Only (bytes "next-row-id") fs (since 3 w (number (pos m.fields.next_row.0)))

found : (version : ℕ) (m : Metadata) {w : ℕ} → Version w → Found w version m (file_fields w version m)
found version m one =
    record {
      format_version = (refl, refl);
      uuid = (refl, refl);
      location = (refl, refl);
      last_sequence = refl;
      last_updated = (refl, refl);
      last_column = (refl, refl);
      schemas = (refl, refl);
      current_schema = (refl, refl);
      specs = (refl, refl);
      default_spec = (refl, refl);
      last_partition = (refl, refl);
      current = (refl, refl);
      snapshots = (refl, refl);
      log = (refl, refl);
      files = (refl, refl);
      orders = (refl, refl);
      default_order = (refl, refl);
      refs = (refl, refl);
      statistics = (refl, refl);
      partitions = (refl, refl);
      next_row = refl;
    }
found version m two =
    record {
      format_version = (refl, refl);
      uuid = (refl, refl);
      location = (refl, refl);
      last_sequence = (refl, refl);
      last_updated = (refl, refl);
      last_column = (refl, refl);
      schemas = (refl, refl);
      current_schema = (refl, refl);
      specs = (refl, refl);
      default_spec = (refl, refl);
      last_partition = (refl, refl);
      current = (refl, refl);
      snapshots = (refl, refl);
      log = (refl, refl);
      files = (refl, refl);
      orders = (refl, refl);
      default_order = (refl, refl);
      refs = (refl, refl);
      statistics = (refl, refl);
      partitions = (refl, refl);
      next_row = refl;
    }
found version m three =
    record {
      format_version = (refl, refl);
      uuid = (refl, refl);
      location = (refl, refl);
      last_sequence = (refl, refl);
      last_updated = (refl, refl);
      last_column = (refl, refl);
      schemas = (refl, refl);
      current_schema = (refl, refl);
      specs = (refl, refl);
      default_spec = (refl, refl);
      last_partition = (refl, refl);
      current = (refl, refl);
      snapshots = (refl, refl);
      log = (refl, refl);
      files = (refl, refl);
      orders = (refl, refl);
      default_order = (refl, refl);
      refs = (refl, refl);
      statistics = (refl, refl);
      partitions = (refl, refl);
      next_row = (refl, refl);
    }

-- ---- the single fields

-- none below 0 is -1, which stands for none
abbrev current_by : Option ℤ → Option ℤ
current_by o = elim o [ none ↦ none | some id ↦ cond (eq_z id (negsuc 0)) none (some id) ]

current_back : (o : Option ℤ) → if_some non_neg o ≡ true → current_by o ≡ o
current_back none h = refl
current_back (some (pos n)) h = refl
current_back (some (negsuc n)) h = absurd (false≢true h)

abbrev version_said : Option ℤ → ℕ
version_said o = elim o [ none ↦ 0 | some n ↦ known_version n ]

abbrev version_found : Option Json → ℕ
version_found o = elim o [ none ↦ 0 | some x ↦ elim (number_in x) [ none ↦ 0 | some n ↦ known_version n ] ]

-- the version that is written is one that is known
version_known : {version : ℕ} → Version version → known_version (pos version) ≡ version
version_known one = refl
version_known two = refl
version_known three = refl

module _ (m : Metadata) (fs : List Field) (place : ℕ) where
  abbrev said : Members
  said = members_at place (entries_of fs)

  sequence_made : {w : ℕ} → Version w → Only (bytes "last-sequence-number") fs (since 2 w (number m.fields.last_sequence.0)) → Fitting m.fields.last_sequence.0 → (leb 2 w || eq_z m.fields.last_sequence.0 (pos 0)) ≡ true
      → cond (ltb 1 w) (number_or0 "last-sequence-number" said) (pos 0) ≡ m.fields.last_sequence.0
  sequence_made one o f h = sym (eq_z_equal m.fields.last_sequence.0 (pos 0) h)
  sequence_made two o f h = number_or0_lem "last-sequence-number" fs place m.fields.last_sequence.0 o f
  sequence_made three o f h = number_or0_lem "last-sequence-number" fs place m.fields.last_sequence.0 o f

  row_made : {w : ℕ} → Version w → Only (bytes "next-row-id") fs (since 3 w (number (pos m.fields.next_row.0))) → Fitting (pos m.fields.next_row.0) → (leb 3 w || eqb m.fields.next_row.0 0) ≡ true
      → cond (ltb 2 w) (natural_of (number_or0 "next-row-id" said)) 0 ≡ m.fields.next_row.0
  row_made one o f h = sym (eqb-true m.fields.next_row.0 0 h)
  row_made two o f h = sym (eqb-true m.fields.next_row.0 0 h)
  row_made three o f h = ap natural_of (number_or0_lem "next-row-id" fs place (pos m.fields.next_row.0) o f)

  -- the tables and the ids decide
  schema_decides_lem : {w : ℕ} → Version w → has "schemas" said ≡ true → has "current-schema-id" said ≡ true → schema_decides w said ≡ false
  schema_decides_lem one p q = ap (λ b. not (b && has "current-schema-id" said)) p ∙ ap not q
  schema_decides_lem two p q = refl
  schema_decides_lem three p q = refl

  spec_decides_lem : {w : ℕ} → Version w → has "partition-specs" said ≡ true → has "default-spec-id" said ≡ true → spec_decides w said ≡ false
  spec_decides_lem one p q = ap (λ b. not (b && has "default-spec-id" said)) p ∙ ap not q
  spec_decides_lem two p q = refl
  spec_decides_lem three p q = refl

module _ (m : Metadata) {version : ℕ} (v : Version version) (b : Bounds version m) (fs : List Field) (place : ℕ) (f : Found version version m fs) where
  abbrev saying : Members
  saying = members_at place (entries_of fs)

  no_single_schema : schema_decides version saying ≡ false
  no_single_schema = schema_decides_lem m fs place v (has_field "schemas" fs place (listing schema_show m.schemas) f.schemas) (has_field "current-schema-id" fs place (number m.fields.current_schema) f.current_schema)

  no_single_spec : spec_decides version saying ≡ false
  no_single_spec = spec_decides_lem m fs place v (has_field "partition-specs" fs place (listing spec_show m.specs) f.specs) (has_field "default-spec-id" fs place (number m.fields.default_spec) f.default_spec)

  uuid_made : cond (has "table-uuid" saying) (uuid_of (text_by "table-uuid" saying)) (replicate 16 0) ≡ m.fields.uuid
  uuid_made =
      ap (λ h. cond h (uuid_of (text_by "table-uuid" saying)) (replicate 16 0)) (has_field "table-uuid" fs place (quotation (uuid_from 0 m.fields.uuid)) f.uuid)
      ∙ ap uuid_of (text_by_lem "table-uuid" fs place (uuid_from 0 m.fields.uuid) f.uuid)
      ∙ uuid_back 0 m.fields.uuid b.uuid_bytes

  current_made : current_of saying ≡ m.fields.current
  current_made =
      ap current_by (number_by_lem "current-snapshot-id" fs place m.fields.current f.current (optional_fits m.fields.current b.current))
      ∙ current_back m.fields.current b.current_held

  last_made : or_else (number_by "last-partition-id" saying) (largest_id (specs_of version saying)) ≡ m.fields.last_partition
  last_made =
      ap (λ o. or_else o (largest_id (specs_of version saying))) (number_by_lem "last-partition-id" fs place (some m.fields.last_partition) f.last_partition (λ z e. rw (sym_some m.fields.last_partition z e) (fitting32 m.fields.last_partition b.last_partition)))

  fields_made : version ≡ m.fields.version → fields_of version saying ≡ m.fields
  unfolding fields_of
  fields_made e =
      λ i.
      record {
        version = e i;
        uuid = uuid_made i;
        location = text_by_lem "location" fs place m.fields.location f.location i;
        last_updated = number_or0_lem "last-updated-ms" fs place m.fields.last_updated f.last_updated (fitting64 m.fields.last_updated b.last_updated) i;
        last_sequence = record { 0 = sequence_made m fs place v f.last_sequence (fitting64 m.fields.last_sequence.0 b.last_sequence) b.sequence_shown i };
        next_row = record { 0 = row_made m fs place v f.next_row (fitting_unsigned m.fields.next_row.0 b.next_row) b.row_shown i };
        last_column = number_or0_lem "last-column-id" fs place m.fields.last_column f.last_column (fitting32 m.fields.last_column b.last_column) i;
        current = current_made i;
        current_schema = (ap (λ d. cond d (schema_of (members_by "schema" saying)).id (number_or0 "current-schema-id" saying)) no_single_schema ∙ number_or0_lem "current-schema-id" fs place m.fields.current_schema f.current_schema (fitting32 m.fields.current_schema b.current_schema)) i;
        default_order = number_or0_lem "default-sort-order-id" fs place m.fields.default_order f.default_order (fitting64 m.fields.default_order b.default_order) i;
        default_spec = (ap (λ d. cond d (pos 0) (number_or0 "default-spec-id" saying)) no_single_spec ∙ number_or0_lem "default-spec-id" fs place m.fields.default_spec f.default_spec (fitting32 m.fields.default_spec b.default_spec)) i;
        last_partition = last_made i;
      }

  -- ---- the tables

  snapshots_made : sorted snapshot_below (records_of snapshot_of (items_by "snapshots" saying)) ≡ m.snapshots
  snapshots_made =
      let k = items_by_lem "snapshots" fs place (documents (snapshot_show version) m.snapshots) f.snapshots in
      ap (λ xs. sorted snapshot_below (records_of snapshot_of xs)) k.1
      ∙ ap (λ l. sorted snapshot_below l) (list_made version 2 (OfKind HeldSnapshot) snapshot_of (snapshot_text version) (snapshot_show version) (snapshot_ok version) (snapshot_shown v) m.snapshots b.snapshots k.0)
      ∙ sorted_same lt_z numbers_ordered (λ (s : Snapshot). s.id) m.snapshots b.snapshot_order

  refs_said : sorted ref_below (cond (has "refs" saying) (refs_of (members_by "refs" saying)) (main_at (current_of saying))) ≡ m.refs
  refs_said =
      let k = members_by_lem "refs" fs place (ref_entries m.refs) f.refs in
      ap (λ h. sorted ref_below (cond h (refs_of (members_by "refs" saying)) (main_at (current_of saying)))) (has_field "refs" fs place (refs_show m.refs) f.refs)
      ∙ ap (λ ms. sorted ref_below (refs_of ms)) k.1
      ∙ ap (λ l. sorted ref_below l) (refs_made m.refs b.refs k.0)
      ∙ sorted_same name_below names_ordered (λ (r : NamedRef). r.name) m.refs b.ref_order

  log_made : records_of log_entry_of (items_by "snapshot-log" saying) ≡ m.snapshot_log
  log_made =
      let k = items_by_lem "snapshot-log" fs place (documents log_show m.snapshot_log) f.log in
      ap (λ xs. records_of log_entry_of xs) k.1 ∙ list_made version 2 (OfKind HeldLogEntry) log_entry_of log_entry_text log_show log_entry_fits (log_shown v) m.snapshot_log b.log k.0

  files_made : records_of file_entry_of (items_by "metadata-log" saying) ≡ m.metadata_log
  files_made =
      let k = items_by_lem "metadata-log" fs place (documents entryShow m.metadata_log) f.files in
      ap (λ xs. records_of file_entry_of xs) k.1 ∙ list_made version 2 (OfKind HeldFileEntry) file_entry_of file_entry_text entryShow file_entry_ok (file_shown v) m.metadata_log b.files k.0

  schemas_made : sorted schema_below (schemas_of version saying) ≡ m.schemas
  schemas_made =
      let k = items_by_lem "schemas" fs place (documents schema_show m.schemas) f.schemas in
      ap (λ d. sorted schema_below (cond d (schema_of (members_by "schema" saying) ∷ []) (records_of schema_of (items_by "schemas" saying)))) no_single_schema
      ∙ ap (λ xs. sorted schema_below (records_of schema_of xs)) k.1
      ∙ ap (λ l. sorted schema_below l) (list_made version 2 (OfKind HeldSchema) schema_of schema_text schema_show schema_ok (schema_shown 2 (omega arith) v) m.schemas b.schemas k.0)
      ∙ sorted_same lt_z numbers_ordered (λ (s : Schema). s.id) m.schemas b.schema_order

  orders_made : sorted order_below (orders_of saying) ≡ m.orders
  orders_made =
      let k = items_by_lem "sort-orders" fs place (documents order_show m.orders) f.orders in
      ap (λ h. sorted order_below (cond h (records_of order_of (items_by "sort-orders" saying)) (record { id = pos 0; fields = [] } ∷ []))) (has_field "sort-orders" fs place (listing order_show m.orders) f.orders)
      ∙ ap (λ xs. sorted order_below (records_of order_of xs)) k.1
      ∙ ap (λ l. sorted order_below l) (list_made version 2 (OfKind HeldOrder) order_of order_text order_show order_ok (order_shown v) m.orders b.orders k.0)
      ∙ sorted_same lt_z numbers_ordered (λ (o : SortOrder). o.id) m.orders b.order_order

  statistics_made : sorted statistics_below (records_of statistics_of (items_by "statistics" saying)) ≡ m.statistics
  statistics_made =
      let k = items_by_lem "statistics" fs place (documents statistics_show m.statistics) f.statistics in
      ap (λ xs. sorted statistics_below (records_of statistics_of xs)) k.1
      ∙ ap (λ l. sorted statistics_below l) (list_made version 2 (OfKind HeldStatistics) statistics_of statistics_text statistics_show statistics_ok (statistics_shown of_table v) m.statistics b.statistics k.0)
      ∙ sorted_same lt_z numbers_ordered (λ (s : StatisticsFile). s.snapshot) m.statistics b.statistics_order

  partitions_made : sorted statistics_below (records_of statistics_of (items_by "partition-statistics" saying)) ≡ m.partition_statistics
  partitions_made =
      let k = items_by_lem "partition-statistics" fs place (documents statistics_show m.partition_statistics) f.partitions in
      ap (λ xs. sorted statistics_below (records_of statistics_of xs)) k.1
      ∙ ap (λ l. sorted statistics_below l) (list_made version 2 (OfKind HeldPartitionStatistics) statistics_of statistics_text statistics_show statistics_ok (statistics_shown of_partitions v) m.partition_statistics b.partitions k.0)
      ∙ sorted_same lt_z numbers_ordered (λ (s : StatisticsFile). s.snapshot) m.partition_statistics b.partition_order

  specs_made : sorted spec_below (specs_of version saying) ≡ m.specs
  specs_made =
      let k = items_by_lem "partition-specs" fs place (documents spec_show m.specs) f.specs in
      ap (λ d. sorted spec_below (cond d (record { id = pos 0; fields = spec_fields_of (items_by "partition-spec" saying) } ∷ []) (records_of spec_of (items_by "partition-specs" saying)))) no_single_spec
      ∙ ap (λ xs. sorted spec_below (records_of spec_of xs)) k.1
      ∙ ap (λ l. sorted spec_below l) (list_made version 2 (OfKind HeldSpec) spec_of spec_text spec_show spec_ok (spec_shown v) m.specs b.specs k.0)
      ∙ sorted_same lt_z numbers_ordered (λ (s : PartitionSpec). s.id) m.specs b.spec_order

  all_made : version ≡ m.fields.version → metadata_of version saying ≡ m
  unfolding metadata_of
  all_made e =
      λ i.
      record {
        fields = fields_made e i;
        snapshots = snapshots_made i;
        refs = refs_said i;
        snapshot_log = log_made i;
        metadata_log = files_made i;
        schemas = schemas_made i;
        orders = orders_made i;
        statistics = statistics_made i;
        partition_statistics = partitions_made i;
        specs = specs_made i;
      }

  version_made : version_of saying ≡ version
  unfolding version_of tree_at
  version_made =
      let k = looked (bytes "format-version") fs (some (number (pos version))) f.format_version place in
      ap version_found k.1 ∙ ap version_said (number_read k.0 (pos version) (version_fits v)) ∙ version_known v

-- ---- the whole file

pub metadata_made : (m : Metadata) → Version m.fields.version → Bounds m.fields.version m → (place : ℕ)
    → metadata_of m.fields.version (members_at place (entries_of (file_fields m.fields.version m.fields.version m))) ≡ m
metadata_made m v b place = all_made m v b (file_fields m.fields.version m.fields.version m) place (found m.fields.version m v) refl

pub version_read : (m : Metadata) → Version m.fields.version → Bounds m.fields.version m → (place : ℕ)
    → version_of (members_at place (entries_of (file_fields m.fields.version m.fields.version m))) ≡ m.fields.version
version_read m v b place = version_made m v b (file_fields m.fields.version m.fields.version m) place (found m.fields.version m v)
