-- A metadata file as it is written: its bytes are those of a document that can be read, and with which nothing is wrong.
use Prim.Native.Nat.{ℕ}
use native.Mathlib.Omega.{arith}
use mathlib.Core.Path.{◌≡◌, refl, ◌∙◌, sym, ap}
use mathlib.Core.Bool.{Bool, true, false, cond, ◌&&◌, ◌||◌}
use mathlib.Core.List.{List, [], ◌∷◌, ◌++◌}
use mathlib.Core.Option.{Option, none, some}
use lib.Dec.{eqb, leb}
use lib.IntN.{ℤ, pos}
use lib.ListN.{length}
use lib.Signed.{le_z, non_neg}
use Rattle.rules.specs.Words.{if_some, eq_z, all, ascending}
use Rattle.rules.specs.Capacities.{text_room, snapshot_room, ref_room, snapshot_log_room, metadata_log_room, schema_room, sort_order_room, spec_room, partition_field_room, statistics_room}
use Rattle.rules.specs.WellFormed.{snapshot_below, ref_below, schema_below, order_below, spec_below, statistics_below}
use Rattle.rules.specs.Register.{Schema, PartitionField, Metadata}
use Rattle.json_rule.specs.Letters.{bytes}
use Rattle.json_rule.specs.Records.{snapshot_of, schema_of, order_of, partition_field_of}
use Rattle.json_rule.specs.Shapes.{AUuid}
use Rattle.file_rule.specs.Tables.{Single, IdOrNull, Several, ByName, OfKind, TheFile, HeldSnapshot, HeldSchema, HeldSpec, HeldPartitionField, HeldOrder, HeldRef, HeldLogEntry, HeldFileEntry, HeldStatistics, HeldPartitionStatistics, number32, number64, text_up_to, version_shape, rows_in, row_in}
use Rattle.file_rule.specs.FileDefects.{published_as}
use Rattle.file_rule.specs.Import.{log_entry_of, file_entry_of, statistics_of, spec_of}
use Rattle.file_rule.specs.Written.{quoted, escaped_byte, number_text, list_text, items, also, also_if, object_text}
use Rattle.file_rule.specs.Files.{since, until, uuid_from, uuid_text, snapshot_text, ref_text, schema_text, partition_field_text, spec_text, order_text, log_entry_text, file_entry_text, statistics_text, schema_by_id, head_text, schemas_text, specs_text, snapshots_text, tail_text, file_text}
use Rattle.file_rule.specs.Files as Files
use Rattle.file_rule.specs.Export.{is_utf8}
use Rattle.file_rule.specs.Fits.{fits32, fits64, fits_unsigned, log_entry_fits}
use Rattle.file_round.proofs.Documents.{Document, bytes_of, Good}
use Rattle.file_round.proofs.Numbers.{Fitting, number_token}
use Rattle.file_round.proofs.Texts.{text_token_lem}
use Rattle.file_round.proofs.Plain.{is_byte, uuid_text_lem, uuid_utf8, uuid_formed}
use Rattle.file_round.proofs.Fields.{Field, field, field_if, mapped, number, quotation, object, group_text, fields_text, flat, group_text_lem, pieces_text, pieces_fields, object_pieces, names_fine, Each, each_flat, ValuesFine, ValuesGood, FineIn, FineBy, OptionGood, mapped_fine, fields_good, object_fine}
use Rattle.file_round.proofs.Scalars.{Version, one, two, three, if_there, good32, good64, optional_good, fitting_unsigned, number_fine, fine32, fine64, fine_unsigned, id_fine, text_fine, uuid_fine}
use Rattle.file_round.proofs.Lists.{listing, list_written, list_good, list_fine}
use Rattle.file_round.proofs.Snapshots.{fields_since, since_text, snapshot_show, snapshot_ok, snapshot_shown}
use Rattle.file_round.proofs.Refs.{ref_ok, refs_show, refs_written, refs_good, refs_fine}
use Rattle.file_round.proofs.Logs.{log_show, log_shown, file_show as entryShow, file_entry_ok, file_shown, of_table, of_partitions, statistics_show, statistics_ok, statistics_shown}
use Rattle.file_round.proofs.Schemas.{schema_show, schema_ok, schema_shown, order_show, order_ok, order_shown}
use Rattle.file_round.proofs.Specs.{part_show, part_ok, part_shown, spec_show, spec_ok, spec_shown}

-- up to a version
abbrev pub fields_until : ℕ → ℕ → List Field → List Field
fields_until most version fs = cond (leb version most) fs []

until_text : (most version : ℕ) (bs : List ℕ) (fs : List Field) → bs ≡ group_text fs → until most version bs ≡ group_text (fields_until most version fs)
until_text most version bs fs h = go (leb version most)
  where
    go : (b : Bool) → cond b bs [] ≡ group_text (cond b fs [])
    go true = h
    go false = refl

-- ---- the fields, by their groups: a version says which of them are there

abbrev pub held_schema : Metadata → Schema
held_schema m = schema_by_id m.fields.current_schema m.schemas

abbrev pub default_fields : Metadata → List PartitionField
default_fields m = Files.spec_fields m.fields.default_spec m.specs

abbrev pub head_groups : ℕ → Metadata → List (List Field)
head_groups version m =
    (field "table-uuid" (quotation (uuid_from 0 m.fields.uuid)) ∷ [])
    ∷ (field "location" (quotation m.fields.location) ∷ [])
    ∷ fields_since 2 version (field "last-sequence-number" (number m.fields.last_sequence.0) ∷ [])
    ∷ (field "last-updated-ms" (number m.fields.last_updated) ∷ [])
    ∷ (field "last-column-id" (number m.fields.last_column) ∷ [])
    ∷ []

abbrev pub schema_groups : ℕ → Metadata → List (List Field)
schema_groups version m =
    fields_until 1 version (field "schema" (schema_show (held_schema m)) ∷ [])
    ∷ (field "schemas" (listing schema_show m.schemas) ∷ [])
    ∷ (field "current-schema-id" (number m.fields.current_schema) ∷ [])
    ∷ []

abbrev pub spec_groups : ℕ → Metadata → List (List Field)
spec_groups version m =
    fields_until 1 version (field "partition-spec" (listing part_show (default_fields m)) ∷ [])
    ∷ (field "partition-specs" (listing spec_show m.specs) ∷ [])
    ∷ (field "default-spec-id" (number m.fields.default_spec) ∷ [])
    ∷ (field "last-partition-id" (number m.fields.last_partition) ∷ [])
    ∷ []

abbrev pub snapshot_groups : ℕ → Metadata → List (List Field)
snapshot_groups version m =
    (field_if "current-snapshot-id" number m.fields.current ∷ [])
    ∷ (field "snapshots" (listing (snapshot_show version) m.snapshots) ∷ [])
    ∷ (field "snapshot-log" (listing log_show m.snapshot_log) ∷ [])
    ∷ (field "metadata-log" (listing entryShow m.metadata_log) ∷ [])
    ∷ []

abbrev pub tail_groups : ℕ → Metadata → List (List Field)
tail_groups version m =
    (field "sort-orders" (listing order_show m.orders) ∷ [])
    ∷ (field "default-sort-order-id" (number m.fields.default_order) ∷ [])
    ∷ (field "refs" (refs_show m.refs) ∷ [])
    ∷ (field "statistics" (listing statistics_show m.statistics) ∷ [])
    ∷ (field "partition-statistics" (listing statistics_show m.partition_statistics) ∷ [])
    ∷ fields_since 3 version (field "next-row-id" (number (pos m.fields.next_row.0)) ∷ [])
    ∷ []

-- the version that says which of them are there, and the version of the records in them
abbrev pub file_fields : ℕ → ℕ → Metadata → List Field
file_fields w version m =
    field "format-version" (number (pos version))
    ∷ flat (flat (head_groups w m) ∷ flat (schema_groups w m) ∷ flat (spec_groups w m) ∷ flat (snapshot_groups version m) ∷ flat (tail_groups w m) ∷ [])

abbrev pub file_show : ℕ → Metadata → Document
file_show version m = object (file_fields version version m)

-- ---- what is asked of metadata, part by part

pub record Bounds (version : ℕ) (m : Metadata) : Type 0 where
  pub uuid_length : length m.fields.uuid ≡ 16
  pub uuid_bytes : all is_byte m.fields.uuid ≡ true
  pub location : leb (length m.fields.location) text_room ≡ true
  pub location_text : is_utf8 m.fields.location ≡ true
  pub last_updated : fits64 m.fields.last_updated ≡ true
  pub last_sequence : fits64 m.fields.last_sequence.0 ≡ true
  pub next_row : fits_unsigned m.fields.next_row.0 ≡ true
  pub last_column : fits32 m.fields.last_column ≡ true
  pub current : if_some fits64 m.fields.current ≡ true
  pub current_held : if_some non_neg m.fields.current ≡ true
  pub current_schema : fits32 m.fields.current_schema ≡ true
  pub default_order : fits64 m.fields.default_order ≡ true
  pub default_spec : fits32 m.fields.default_spec ≡ true
  pub last_partition : fits32 m.fields.last_partition ≡ true
  pub sequence_shown : (leb 2 version || eq_z m.fields.last_sequence.0 (pos 0)) ≡ true
  pub row_shown : (leb 3 version || eqb m.fields.next_row.0 0) ≡ true
  pub snapshots : all (snapshot_ok version) m.snapshots ≡ true
  pub snapshot_count : leb (length m.snapshots) snapshot_room ≡ true
  pub snapshot_order : ascending snapshot_below m.snapshots ≡ true
  pub refs : all ref_ok m.refs ≡ true
  pub ref_count : leb (length m.refs) ref_room ≡ true
  pub ref_order : ascending ref_below m.refs ≡ true
  pub log : all log_entry_fits m.snapshot_log ≡ true
  pub log_count : leb (length m.snapshot_log) snapshot_log_room ≡ true
  pub files : all file_entry_ok m.metadata_log ≡ true
  pub file_count : leb (length m.metadata_log) metadata_log_room ≡ true
  pub schemas : all schema_ok m.schemas ≡ true
  pub schema_count : leb (length m.schemas) schema_room ≡ true
  pub schema_order : ascending schema_below m.schemas ≡ true
  pub orders : all order_ok m.orders ≡ true
  pub order_count : leb (length m.orders) sort_order_room ≡ true
  pub order_order : ascending order_below m.orders ≡ true
  pub statistics : all statistics_ok m.statistics ≡ true
  pub statistics_count : leb (length m.statistics) statistics_room ≡ true
  pub statistics_order : ascending statistics_below m.statistics ≡ true
  pub partitions : all statistics_ok m.partition_statistics ≡ true
  pub partition_count : leb (length m.partition_statistics) statistics_room ≡ true
  pub partition_order : ascending statistics_below m.partition_statistics ≡ true
  pub specs : all spec_ok m.specs ≡ true
  pub spec_count : leb (length m.specs) spec_room ≡ true
  pub spec_order : ascending spec_below m.specs ≡ true
  pub one_schema : schema_ok (held_schema m) ≡ true
  pub one_spec : all part_ok (default_fields m) ≡ true
  pub one_spec_count : leb (length (default_fields m)) partition_field_room ≡ true

-- ---- its bytes

current_text : (o : Option ℤ) → also_if "current-snapshot-id" number_text o ≡ group_text (field_if "current-snapshot-id" number o ∷ [])
unfolding quoted escaped_byte bytes_of
current_text none = refl
current_text (some z) = refl

module _ (m : Metadata) (v : Version m.fields.version) (b : Bounds m.fields.version m) where
  abbrev version : ℕ
  version = m.fields.version

  head_written : head_text m ≡ (quoted (bytes "format-version") ++ (58 ∷ number_text (pos version))) ++ fields_text (flat (head_groups version m))
  unfolding head_text quoted escaped_byte bytes_of number_text
  head_written =
      pieces_text (quoted (bytes "format-version") ++ (58 ∷ number_text (pos version)))
      (also "table-uuid" (uuid_text m.fields.uuid) ∷ also "location" (quoted m.fields.location) ∷ since 2 version (also "last-sequence-number" (number_text m.fields.last_sequence.0)) ∷ also "last-updated-ms" (number_text m.fields.last_updated) ∷ also "last-column-id" (number_text m.fields.last_column) ∷ [])
      (head_groups version m)
      (ap (λ t. also "table-uuid" t) (uuid_text_lem m.fields.uuid b.uuid_bytes), (refl, (since_text 2 version (also "last-sequence-number" (number_text m.fields.last_sequence.0)) (field "last-sequence-number" (number m.fields.last_sequence.0) ∷ []) refl, (refl, (refl, tt)))))

  schemas_written : schemas_text m ≡ group_text (flat (schema_groups version m))
  unfolding schemas_text quoted escaped_byte bytes_of
  schemas_written =
      pieces_fields (until 1 version (also "schema" (schema_text (held_schema m)))) (also "schemas" (list_text schema_text m.schemas) ∷ also "current-schema-id" (number_text m.fields.current_schema) ∷ [])
      (fields_until 1 version (field "schema" (schema_show (held_schema m)) ∷ [])) ((field "schemas" (listing schema_show m.schemas) ∷ []) ∷ (field "current-schema-id" (number m.fields.current_schema) ∷ []) ∷ [])
      (until_text 1 version (also "schema" (schema_text (held_schema m))) (field "schema" (schema_show (held_schema m)) ∷ []) (ap (λ t. also "schema" t) (schema_shown 1 (omega arith) v (held_schema m) b.one_schema).written))
      (ap (λ t. also "schemas" t) (list_written version 2 (OfKind HeldSchema) schema_of schema_text schema_show schema_ok (schema_shown 2 (omega arith) v) m.schemas b.schemas), (refl, tt))

  specs_written : specs_text m ≡ group_text (flat (spec_groups version m))
  unfolding specs_text quoted escaped_byte bytes_of
  specs_written =
      pieces_fields (until 1 version (also "partition-spec" (list_text partition_field_text (default_fields m)))) (also "partition-specs" (list_text spec_text m.specs) ∷ also "default-spec-id" (number_text m.fields.default_spec) ∷ also "last-partition-id" (number_text m.fields.last_partition) ∷ [])
      (fields_until 1 version (field "partition-spec" (listing part_show (default_fields m)) ∷ [])) ((field "partition-specs" (listing spec_show m.specs) ∷ []) ∷ (field "default-spec-id" (number m.fields.default_spec) ∷ []) ∷ (field "last-partition-id" (number m.fields.last_partition) ∷ []) ∷ [])
      (until_text 1 version (also "partition-spec" (list_text partition_field_text (default_fields m))) (field "partition-spec" (listing part_show (default_fields m)) ∷ []) (ap (λ t. also "partition-spec" t) (list_written version 2 (OfKind HeldPartitionField) partition_field_of partition_field_text part_show part_ok (part_shown 2 (omega arith) v) (default_fields m) b.one_spec)))
      (ap (λ t. also "partition-specs" t) (list_written version 2 (OfKind HeldSpec) spec_of spec_text spec_show spec_ok (spec_shown v) m.specs b.specs), (refl, (refl, tt)))

  snapshots_written : snapshots_text m ≡ group_text (flat (snapshot_groups version m))
  unfolding snapshots_text quoted escaped_byte bytes_of
  snapshots_written =
      pieces_fields (also_if "current-snapshot-id" number_text m.fields.current) (also "snapshots" (list_text (snapshot_text version) m.snapshots) ∷ also "snapshot-log" (list_text log_entry_text m.snapshot_log) ∷ also "metadata-log" (list_text file_entry_text m.metadata_log) ∷ [])
      (field_if "current-snapshot-id" number m.fields.current ∷ []) ((field "snapshots" (listing (snapshot_show version) m.snapshots) ∷ []) ∷ (field "snapshot-log" (listing log_show m.snapshot_log) ∷ []) ∷ (field "metadata-log" (listing entryShow m.metadata_log) ∷ []) ∷ [])
      (current_text m.fields.current)
      (ap (λ t. also "snapshots" t) (list_written version 2 (OfKind HeldSnapshot) snapshot_of (snapshot_text version) (snapshot_show version) (snapshot_ok version) (snapshot_shown v) m.snapshots b.snapshots), (ap (λ t. also "snapshot-log" t) (list_written version 2 (OfKind HeldLogEntry) log_entry_of log_entry_text log_show log_entry_fits (log_shown v) m.snapshot_log b.log), (ap (λ t. also "metadata-log" t) (list_written version 2 (OfKind HeldFileEntry) file_entry_of file_entry_text entryShow file_entry_ok (file_shown v) m.metadata_log b.files), tt)))

  tail_written : tail_text m ≡ group_text (flat (tail_groups version m))
  unfolding tail_text quoted escaped_byte bytes_of number_text
  tail_written =
      pieces_fields (also "sort-orders" (list_text order_text m.orders))
      (also "default-sort-order-id" (number_text m.fields.default_order) ∷ also "refs" (object_text (items ref_text m.refs)) ∷ also "statistics" (list_text statistics_text m.statistics) ∷ also "partition-statistics" (list_text statistics_text m.partition_statistics) ∷ since 3 version (also "next-row-id" (number_text (pos m.fields.next_row.0))) ∷ [])
      (field "sort-orders" (listing order_show m.orders) ∷ [])
      ((field "default-sort-order-id" (number m.fields.default_order) ∷ []) ∷ (field "refs" (refs_show m.refs) ∷ []) ∷ (field "statistics" (listing statistics_show m.statistics) ∷ []) ∷ (field "partition-statistics" (listing statistics_show m.partition_statistics) ∷ []) ∷ fields_since 3 version (field "next-row-id" (number (pos m.fields.next_row.0)) ∷ []) ∷ [])
      (ap (λ t. also "sort-orders" t) (list_written version 2 (OfKind HeldOrder) order_of order_text order_show order_ok (order_shown v) m.orders b.orders))
      (refl, (ap (λ t. also "refs" t) (refs_written m.refs b.refs), (ap (λ t. also "statistics" t) (list_written version 2 (OfKind HeldStatistics) statistics_of statistics_text statistics_show statistics_ok (statistics_shown of_table v) m.statistics b.statistics), (ap (λ t. also "partition-statistics" t) (list_written version 2 (OfKind HeldPartitionStatistics) statistics_of statistics_text statistics_show statistics_ok (statistics_shown of_partitions v) m.partition_statistics b.partitions), (since_text 3 version (also "next-row-id" (number_text (pos m.fields.next_row.0))) (field "next-row-id" (number (pos m.fields.next_row.0)) ∷ []) refl, tt)))))

  pub file_written : file_text m ≡ bytes_of (file_show version m)
  unfolding file_text bytes_of
  file_written =
      ap (λ h. object_text (h ++ schemas_text m ++ specs_text m ++ snapshots_text m ++ tail_text m)) head_written
      ∙ object_pieces "format-version" (number (pos version)) (fields_text (flat (head_groups version m)) ∷ schemas_text m ∷ specs_text m ∷ snapshots_text m ∷ tail_text m ∷ [])
      (flat (head_groups version m) ∷ flat (schema_groups version m) ∷ flat (spec_groups version m) ∷ flat (snapshot_groups version m) ∷ flat (tail_groups version m) ∷ [])
      (sym (group_text_lem (flat (head_groups version m))), (schemas_written, (specs_written, (snapshots_written, (tail_written, tt)))))

-- ---- nothing is wrong with it

version_within : {version : ℕ} → Version version → (le_z (pos 1) (pos version) && le_z (pos version) (pos 3)) ≡ true
version_within one = refl
version_within two = refl
version_within three = refl

pub version_fits : {version : ℕ} → Version version → Fitting (pos version)
version_fits one = omega arith
version_fits two = omega arith
version_fits three = omega arith

module _ {version : ℕ} (v : Version version) (m : Metadata) (b : Bounds version m) where
  pub file_names : {w : ℕ} → Version w → names_fine w TheFile (file_fields w version m) ≡ true
  unfolding rows_in row_in
  file_names one = refl
  file_names two = refl
  file_names three = refl

  version_fine : FineIn version false version_shape (some (number (pos version)))
  version_fine = number_fine version false (pos 1) (pos 3) (pos version) (version_within v) (version_fits v)

  uuid_is : FineIn version false (Single AUuid) (some (quotation (uuid_from 0 m.fields.uuid)))
  uuid_is = uuid_fine version false (uuid_from 0 m.fields.uuid) (uuid_formed m.fields.uuid b.uuid_length b.uuid_bytes)

  location_is : FineIn version false (text_up_to text_room) (some (quotation m.fields.location))
  location_is = text_fine version false text_room m.fields.location b.location

  schemas_are : FineIn version false (Several schema_room (OfKind HeldSchema)) (some (listing schema_show m.schemas))
  schemas_are = list_fine version 2 (OfKind HeldSchema) schema_of schema_text schema_show schema_ok (schema_shown 2 (omega arith) v) schema_room m.schemas b.schemas b.schema_count

  part_is : FineIn version false (Several partition_field_room (OfKind HeldPartitionField)) (some (listing part_show (default_fields m)))
  part_is = list_fine version 2 (OfKind HeldPartitionField) partition_field_of partition_field_text part_show part_ok (part_shown 2 (omega arith) v) partition_field_room (default_fields m) b.one_spec b.one_spec_count

  specs_are : FineIn version false (Several spec_room (OfKind HeldSpec)) (some (listing spec_show m.specs))
  specs_are = list_fine version 2 (OfKind HeldSpec) spec_of spec_text spec_show spec_ok (spec_shown v) spec_room m.specs b.specs b.spec_count

  current_is : FineIn version false IdOrNull (mapped number m.fields.current)
  current_is = mapped_fine version false IdOrNull number m.fields.current (λ z e. id_fine version false z (if_there fits64 m.fields.current b.current z e))

  snapshots_are : FineIn version false (Several snapshot_room (OfKind HeldSnapshot)) (some (listing (snapshot_show version) m.snapshots))
  snapshots_are = list_fine version 2 (OfKind HeldSnapshot) snapshot_of (snapshot_text version) (snapshot_show version) (snapshot_ok version) (snapshot_shown v) snapshot_room m.snapshots b.snapshots b.snapshot_count

  log_is : FineIn version false (Several snapshot_log_room (OfKind HeldLogEntry)) (some (listing log_show m.snapshot_log))
  log_is = list_fine version 2 (OfKind HeldLogEntry) log_entry_of log_entry_text log_show log_entry_fits (log_shown v) snapshot_log_room m.snapshot_log b.log b.log_count

  files_are : FineIn version false (Several metadata_log_room (OfKind HeldFileEntry)) (some (listing entryShow m.metadata_log))
  files_are = list_fine version 2 (OfKind HeldFileEntry) file_entry_of file_entry_text entryShow file_entry_ok (file_shown v) metadata_log_room m.metadata_log b.files b.file_count

  orders_are : FineIn version false (Several sort_order_room (OfKind HeldOrder)) (some (listing order_show m.orders))
  orders_are = list_fine version 2 (OfKind HeldOrder) order_of order_text order_show order_ok (order_shown v) sort_order_room m.orders b.orders b.order_count

  refs_are : FineIn version false (ByName ref_room (OfKind HeldRef)) (some (refs_show m.refs))
  refs_are = refs_fine v m.refs b.refs b.ref_order b.ref_count

  statistics_are : FineIn version false (Several statistics_room (OfKind HeldStatistics)) (some (listing statistics_show m.statistics))
  statistics_are = list_fine version 2 (OfKind HeldStatistics) statistics_of statistics_text statistics_show statistics_ok (statistics_shown of_table v) statistics_room m.statistics b.statistics b.statistics_count

  partitions_are : FineIn version false (Several statistics_room (OfKind HeldPartitionStatistics)) (some (listing statistics_show m.partition_statistics))
  partitions_are = list_fine version 2 (OfKind HeldPartitionStatistics) statistics_of statistics_text statistics_show statistics_ok (statistics_shown of_partitions v) statistics_room m.partition_statistics b.partitions b.partition_count

  -- the single numbers
  number_32 : (z : ℤ) → fits32 z ≡ true → FineIn version false number32 (some (number z))
  number_32 z h = fine32 version false z h

  number_64 : (z : ℤ) → fits64 z ≡ true → FineIn version false number64 (some (number z))
  number_64 z h = fine64 version false z h

  -- a field of the file, by the rows of a version
  abbrev FineField : ℕ → Field → Type 0
  FineField w f = FineBy version (published_as f.name (rows_in w TheFile)) f.value

  version_row : {w : ℕ} → Version w → FineField w (field "format-version" (number (pos version)))
  unfolding rows_in row_in
  version_row one = version_fine
  version_row two = version_fine
  version_row three = version_fine

  later_head : Each (FineField 2) (flat (head_groups 2 m))
  unfolding rows_in row_in
  later_head = (uuid_is, (location_is, (number_64 m.fields.last_sequence.0 b.last_sequence, (number_64 m.fields.last_updated b.last_updated, (number_32 m.fields.last_column b.last_column, tt)))))

  head_fine : {w : ℕ} → Version w → Each (FineField w) (flat (head_groups w m))
  unfolding rows_in row_in
  head_fine one = (uuid_is, (location_is, (number_64 m.fields.last_updated b.last_updated, (number_32 m.fields.last_column b.last_column, tt))))
  head_fine two = later_head
  head_fine three = later_head

  later_schemas : Each (FineField 2) (flat (schema_groups 2 m))
  unfolding rows_in row_in
  later_schemas = (schemas_are, (number_32 m.fields.current_schema b.current_schema, tt))

  schemas_fine : {w : ℕ} → Version w → Each (FineField w) (flat (schema_groups w m))
  unfolding rows_in row_in
  schemas_fine one = ((schema_shown 1 (omega arith) v (held_schema m) b.one_schema).fine, later_schemas)
  schemas_fine two = later_schemas
  schemas_fine three = later_schemas

  later_specs : Each (FineField 2) (flat (spec_groups 2 m))
  unfolding rows_in row_in
  later_specs = (specs_are, (number_32 m.fields.default_spec b.default_spec, (number_32 m.fields.last_partition b.last_partition, tt)))

  specs_fine : {w : ℕ} → Version w → Each (FineField w) (flat (spec_groups w m))
  unfolding rows_in row_in
  specs_fine one = (part_is, later_specs)
  specs_fine two = later_specs
  specs_fine three = later_specs

  all_snapshots : Each (FineField 1) (flat (snapshot_groups version m))
  unfolding rows_in row_in
  all_snapshots = (current_is, (snapshots_are, (log_is, (files_are, tt))))

  snapshots_fine : {w : ℕ} → Version w → Each (FineField w) (flat (snapshot_groups version m))
  unfolding rows_in row_in
  snapshots_fine one = all_snapshots
  snapshots_fine two = all_snapshots
  snapshots_fine three = all_snapshots

  -- up to a next row id
  tail_with : {X : Type 0} → X → FineIn version false (Several sort_order_room (OfKind HeldOrder)) (some (listing order_show m.orders)) × (FineIn version false number64 (some (number m.fields.default_order)) × (FineIn version false (ByName ref_room (OfKind HeldRef)) (some (refs_show m.refs)) × (FineIn version false (Several statistics_room (OfKind HeldStatistics)) (some (listing statistics_show m.statistics)) × (FineIn version false (Several statistics_room (OfKind HeldPartitionStatistics)) (some (listing statistics_show m.partition_statistics)) × X))))
  tail_with x = (orders_are, (number_64 m.fields.default_order b.default_order, (refs_are, (statistics_are, (partitions_are, x)))))

  tail_fine : {w : ℕ} → Version w → Each (FineField w) (flat (tail_groups w m))
  unfolding rows_in row_in
  tail_fine one = tail_with tt
  tail_fine two = tail_with tt
  tail_fine three = tail_with (fine_unsigned version false m.fields.next_row.0 b.next_row, tt)

  file_values : {w : ℕ} → Version w → ValuesFine version (rows_in w TheFile) (file_fields w version m)
  file_values {w} u = (
    version_row u,
    each_flat (FineField w) (flat (head_groups w m) ∷ flat (schema_groups w m) ∷ flat (spec_groups w m) ∷ flat (snapshot_groups version m) ∷ flat (tail_groups w m) ∷ [])
        (head_fine u, (schemas_fine u, (specs_fine u, (snapshots_fine u, (tail_fine u, tt))))),
  )

  pub file_fine : FineIn version false (OfKind TheFile) (some (file_show version m))
  file_fine = object_fine version TheFile (file_fields version version m) (file_names v) (file_values v)

  -- ---- it can be read

  file_utf8 : {w : ℕ} → Version w → all (λ (f : Field). is_utf8 f.name) (file_fields w version m) ≡ true
  unfolding is_utf8
  file_utf8 one = refl
  file_utf8 two = refl
  file_utf8 three = refl

  uuid_good : Good 0 (quotation (uuid_from 0 m.fields.uuid))
  uuid_good = text_token_lem (uuid_from 0 m.fields.uuid) (uuid_utf8 m.fields.uuid b.uuid_bytes)

  location_good : Good 0 (quotation m.fields.location)
  location_good = text_token_lem m.fields.location b.location_text

  version_good : Good 0 (number (pos version))
  version_good = number_token (pos version) (version_fits v)

  abbrev GoodField : Field → Type 0
  GoodField f = OptionGood 1 f.value

  later_head_good : Each GoodField (flat (head_groups 2 m))
  later_head_good = (uuid_good, (location_good, (good64 m.fields.last_sequence.0 b.last_sequence, (good64 m.fields.last_updated b.last_updated, (good32 m.fields.last_column b.last_column, tt)))))

  head_good : {w : ℕ} → Version w → Each GoodField (flat (head_groups w m))
  head_good one = (uuid_good, (location_good, (good64 m.fields.last_updated b.last_updated, (good32 m.fields.last_column b.last_column, tt))))
  head_good two = later_head_good
  head_good three = later_head_good

  later_schemas_good : Each GoodField (flat (schema_groups 2 m))
  later_schemas_good =
      ((refl, list_good version 2 (OfKind HeldSchema) schema_of schema_text schema_show schema_ok (schema_shown 2 (omega arith) v) m.schemas b.schemas), (good32 m.fields.current_schema b.current_schema, tt))

  schemas_good : {w : ℕ} → Version w → Each GoodField (flat (schema_groups w m))
  schemas_good one = ((schema_shown 1 (omega arith) v (held_schema m) b.one_schema).good, later_schemas_good)
  schemas_good two = later_schemas_good
  schemas_good three = later_schemas_good

  later_specs_good : Each GoodField (flat (spec_groups 2 m))
  later_specs_good =
      ((refl, list_good version 2 (OfKind HeldSpec) spec_of spec_text spec_show spec_ok (spec_shown v) m.specs b.specs), (good32 m.fields.default_spec b.default_spec, (good32 m.fields.last_partition b.last_partition, tt)))

  specs_good : {w : ℕ} → Version w → Each GoodField (flat (spec_groups w m))
  specs_good one = ((refl, list_good version 2 (OfKind HeldPartitionField) partition_field_of partition_field_text part_show part_ok (part_shown 2 (omega arith) v) (default_fields m) b.one_spec), later_specs_good)
  specs_good two = later_specs_good
  specs_good three = later_specs_good

  snapshots_good : Each GoodField (flat (snapshot_groups version m))
  snapshots_good = (
    optional_good 1 m.fields.current b.current,
    (
      (refl, list_good version 2 (OfKind HeldSnapshot) snapshot_of (snapshot_text version) (snapshot_show version) (snapshot_ok version) (snapshot_shown v) m.snapshots b.snapshots),
      (
        (refl, list_good version 2 (OfKind HeldLogEntry) log_entry_of log_entry_text log_show log_entry_fits (log_shown v) m.snapshot_log b.log),
        ((refl, list_good version 2 (OfKind HeldFileEntry) file_entry_of file_entry_text entryShow file_entry_ok (file_shown v) m.metadata_log b.files), tt),
      ),
    ),
  )

  row_good : {w : ℕ} → Version w → Each GoodField (fields_since 3 w (field "next-row-id" (number (pos m.fields.next_row.0)) ∷ []) ++ [])
  row_good one = tt
  row_good two = tt
  row_good three = (number_token (pos m.fields.next_row.0) (fitting_unsigned m.fields.next_row.0 b.next_row), tt)

  tail_good : {w : ℕ} → Version w → Each GoodField (flat (tail_groups w m))
  tail_good u = (
    (refl, list_good version 2 (OfKind HeldOrder) order_of order_text order_show order_ok (order_shown v) m.orders b.orders),
    (
      good64 m.fields.default_order b.default_order,
      (
        refs_good m.refs b.refs,
        (
          (refl, list_good version 2 (OfKind HeldStatistics) statistics_of statistics_text statistics_show statistics_ok (statistics_shown of_table v) m.statistics b.statistics),
          ((refl, list_good version 2 (OfKind HeldPartitionStatistics) statistics_of statistics_text statistics_show statistics_ok (statistics_shown of_partitions v) m.partition_statistics b.partitions), row_good u),
        ),
      ),
    ),
  )

  file_values_good : {w : ℕ} → Version w → ValuesGood 1 (file_fields w version m)
  file_values_good {w} u = (
    version_good,
    each_flat GoodField (flat (head_groups w m) ∷ flat (schema_groups w m) ∷ flat (spec_groups w m) ∷ flat (snapshot_groups version m) ∷ flat (tail_groups w m) ∷ [])
        (head_good u, (schemas_good u, (specs_good u, (snapshots_good, (tail_good u, tt))))),
  )

  pub file_good : Good 0 (file_show version m)
  file_good = (refl, fields_good 1 (file_fields version version m) (file_utf8 v) (file_values_good v))
