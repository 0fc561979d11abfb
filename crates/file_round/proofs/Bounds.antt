-- Well-formed metadata that a file shows, and that records hold, has what is asked of it part by part.
use Prim.Native.Nat.{ℕ, zero, suc, ◌≤◌}
use native.Mathlib.Omega.{arith}
use mathlib.Core.Path.{◌≡◌, refl}
use mathlib.Core.Bool.{Bool, true, false, not, ◌&&◌, ◌||◌, beq, false≢true}
use mathlib.Core.List.{List, [], ◌∷◌}
use mathlib.Core.Option.{Option, none, some}
use lib.Dec.{eqb, leb}
use lib.IntN.{ℤ, pos}
use lib.ListN.{length}
use lib.Signed.{non_neg}
use borrow.Author.Tests.{eqb-true, leb-true}
use Rattle.rules.specs.Words.{is_some, if_some, or_else, same_option, eq_z, all, any, first, is_empty, unequal_by, unequal, same_bytes, ascending}
use Rattle.rules.specs.Capacities.{snapshot_room, ref_room, snapshot_log_room, metadata_log_room, schema_room, schema_field_room, sort_order_room, sort_field_room, spec_room, partition_field_room, statistics_room}
use Rattle.rules.specs.Names.{is_main}
use Rattle.rules.specs.Partitions.{is_redundant, partition_names, partition_ids}
use Rattle.rules.specs.Register.{Snapshot, NamedRef, LogEntry, FileEntry, SchemaField, Schema, SortOrder, PartitionField, PartitionSpec, StatisticsFile, Metadata}
use Rattle.rules.specs.WellFormed.{version_formed, location_formed, file_name_formed, name_formed, kind_formed, retention_formed, reference_formed, owner_formed, ref_formed, snapshot_formed, field_ids, field_names, schema_field_formed, schema_formed, sort_field_formed, offered_order_formed, order_formed, partition_field_formed, offered_spec_formed, spec_formed, statistics_file_formed, snapshot_below, ref_below, schema_below, order_below, statistics_below, spec_below, snapshots_formed, refs_formed, snapshot_log_formed, metadata_log_formed, schemas_formed, orders_formed, statistics_formed, specs_formed, fields_formed, refs_held, main_ref, main_snapshot, main_agrees, has_schema, has_order, has_spec, current_schema_held, default_order_held, default_spec_held, metadata_formed}
use Rattle.rules.proofs.Checks.{parts, both, and_left, and_right}
use Rattle.rules.proofs.Orders.{eq_z_equal}
use Rattle.rules.proofs.Tables.{all_first}
use Rattle.file_rule.specs.Files as Files
use Rattle.file_rule.specs.Export.{is_utf8, schema_texts, spec_texts, file_path, texts_shown, sequences_shown, rows_shown, owners_shown, is_shown}
use Rattle.file_rule.specs.Fits.{fits32, fits64, fits_unsigned, uuid_fits, snapshot_fits, ref_fits, log_entry_fits, file_entry_fits, field_fits, schema_fits, sort_field_fits, order_fits, partition_field_fits, spec_fits, statistics_fits, fields_fit, metadata_fits}
use Rattle.file_round.proofs.Plain.{is_byte}
use Rattle.file_round.proofs.Scalars.{Version, one, two, three}
use Rattle.file_round.proofs.Lists.{all_both}
use Rattle.file_round.proofs.Snapshots.{is_shown_in}
use Rattle.file_round.proofs.Refs.{ref_ok}
use Rattle.file_round.proofs.Logs.{file_entry_ok, statistics_ok}
use Rattle.file_round.proofs.Schemas.{column_ok, schema_ok, order_ok}
use Rattle.file_round.proofs.Specs.{part_ok, spec_ok}
use Rattle.file_round.proofs.File.{Bounds}

-- ---- tests of lists

-- what follows from three tests
from_three : {A : Type 0} (p q r ok : A → Bool) → ((x : A) → p x ≡ true → q x ≡ true → r x ≡ true → ok x ≡ true) → (l : List A) → all p l ≡ true → all q l ≡ true → all r l ≡ true → all ok l ≡ true
from_three p q r ok f [] h k i = refl
from_three p q r ok f (x ∷ l) h k i =
    both (f x (and_left (p x) (all p l) h) (and_left (q x) (all q l) k) (and_left (r x) (all r l) i))
    (from_three p q r ok f l (and_right (p x) (all p l) h) (and_right (q x) (all q l) k) (and_right (r x) (all r l) i))

-- a test that is asked of each only where another fails
unless_each : {A : Type 0} (b c : Bool) (p : A → Bool) (l : List A) → (b || (c && all p l)) ≡ true → all (λ x. b || p x) l ≡ true
unless_each true c p [] h = refl
unless_each true c p (x ∷ l) h = unless_each true c p l h
unless_each false c p l h = and_right c (all p l) h

unless_first : {A : Type 0} (b c : Bool) (p : A → Bool) (l : List A) → (b || (c && all p l)) ≡ true → (b || c) ≡ true
unless_first true c p l h = refl
unless_first false c p l h = and_left c (all p l) h

-- ---- records

pub version_of_lem : (n : ℕ) → version_formed n ≡ true → Version n
version_of_lem zero h = absurd (false≢true h)
version_of_lem (suc zero) h = one
version_of_lem (suc (suc zero)) h = two
version_of_lem (suc (suc (suc zero))) h = three
version_of_lem (suc (suc (suc (suc n)))) h = absurd (let k : suc (suc (suc (suc n))) ≤ 3 = leb-true (suc (suc (suc (suc n)))) 3 (and_right (leb 1 (suc (suc (suc (suc n))))) (leb (suc (suc (suc (suc n)))) 3) h) in omega arith)

schema_ok_lem : (s : Schema) → schema_formed s ≡ true → schema_fits s ≡ true → schema_texts s ≡ true → schema_ok s ≡ true
schema_ok_lem s h k t =
    let p = parts (non_neg s.id) (leb (length s.fields) schema_field_room ∷ all schema_field_formed s.fields ∷ unequal (field_ids s) ∷ unequal_by same_bytes (field_names s) ∷ []) h in
    both (both (and_left (fits32 s.id) (all field_fits s.fields) k) p.1.0)
    (from_three schema_field_formed field_fits (λ (f : SchemaField). is_utf8 f.name) column_ok (λ f a b c. both (both a b) c) s.fields p.1.1.0 (and_right (fits32 s.id) (all field_fits s.fields) k) t)

order_ok_lem : (o : SortOrder) → order_formed o ≡ true → order_fits o ≡ true → order_ok o ≡ true
order_ok_lem o h k =
    let p = parts (non_neg o.id) (leb (length o.fields) sort_field_room ∷ all sort_field_formed o.fields ∷ []) (and_left (offered_order_formed o) (beq (is_empty o.fields) (eq_z o.id (pos 0))) h) in
    both (both (and_left (fits64 o.id) (all sort_field_fits o.fields) k) p.1.0) (all_both sort_field_formed sort_field_fits o.fields p.1.1.0 (and_right (fits64 o.id) (all sort_field_fits o.fields) k))

spec_ok_lem : (s : PartitionSpec) → spec_formed s ≡ true → spec_fits s ≡ true → spec_texts s ≡ true → spec_ok s ≡ true
spec_ok_lem s h k t =
    let q = parts (offered_spec_formed s) (all (λ (f : PartitionField). is_some f.id) s.fields ∷ unequal_by same_bytes (partition_names s) ∷ unequal (partition_ids s) ∷ unequal_by is_redundant s.fields ∷ []) h in
    let p = parts (non_neg s.id) (leb (length s.fields) partition_field_room ∷ all partition_field_formed s.fields ∷ []) q.0 in
    both (both (and_left (fits32 s.id) (all partition_field_fits s.fields) k) p.1.0)
    (from_three (λ (f : PartitionField). partition_field_formed f && is_some f.id) partition_field_fits (λ (f : PartitionField). is_utf8 f.name) part_ok (λ f a b c. both (both a b) c) s.fields
    (all_both partition_field_formed (λ (f : PartitionField). is_some f.id) s.fields p.1.1.0 q.1.0) (and_right (fits32 s.id) (all partition_field_fits s.fields) k) t)

statistics_ok_lem : (f : StatisticsFile) → statistics_file_formed f ≡ true → statistics_fits f ≡ true → file_path f ≡ true → statistics_ok f ≡ true
statistics_ok_lem f h k t = both (both (parts (non_neg f.snapshot) (file_name_formed f.path ∷ non_neg f.size ∷ []) h).1.0 k) t

-- ---- the current ones

abbrev snapshot_in : Option NamedRef → Option ℤ
snapshot_in o = elim o [ none ↦ none | some r ↦ some r.reference.snapshot ]

abbrev fields_in : Option PartitionSpec → List PartitionField
fields_in o = elim o [ none ↦ [] | some s ↦ s.fields ]

-- a current snapshot is `main`'s, and no ref names one below 0
main_held : (o : Option NamedRef) → if_some ref_formed o ≡ true → if_some non_neg (snapshot_in o) ≡ true
main_held none h = refl
main_held (some r) h =
    (parts (non_neg r.reference.snapshot) (kind_formed r.reference ∷ retention_formed r.reference ∷ []) (parts (name_formed r.name) (reference_formed r.reference ∷ owner_formed r ∷ []) h).1.0).0

same_held : (a o : Option ℤ) → same_option eq_z a o ≡ true → if_some non_neg o ≡ true → if_some non_neg a ≡ true
same_held none o h k = refl
same_held (some a) none h k = absurd (false≢true h)
same_held (some a) (some b) h k = rw (eq_z_equal a b h) k

schema_there : (id : ℤ) (o : Option Schema) → fits32 id ≡ true → if_some schema_ok o ≡ true → schema_ok (or_else o (record { id = id; fields = [] })) ≡ true
schema_there id none h k = both (both h refl) refl
schema_there id (some s) h k = k

spec_there : (o : Option PartitionSpec) → if_some spec_ok o ≡ true → (all part_ok (fields_in o) ≡ true) × (leb (length (fields_in o)) partition_field_room ≡ true)
spec_there none h = (refl, refl)
spec_there (some s) h = let k = parts (fits32 s.id) (leb (length s.fields) partition_field_room ∷ all part_ok s.fields ∷ []) h in (k.1.1.0, k.1.0)

-- ---- tables

pub record Table {A : Type 0} (room : ℕ) (formed : A → Bool) (below : A → A → Bool) (l : List A) : Type 0 where
  pub count : leb (length l) room ≡ true
  pub each : all formed l ≡ true
  pub order : ascending below l ≡ true

table : {A : Type 0} (room : ℕ) (formed : A → Bool) (below : A → A → Bool) (l : List A) → (leb (length l) room && all formed l && ascending below l) ≡ true → Table room formed below l
table room formed below l h = let k = parts (leb (length l) room) (all formed l ∷ ascending below l ∷ []) h in record { count = k.0; each = k.1.0; order = k.1.1.0 }

-- the well-formed parts
pub record Formed (m : Metadata) : Type 0 where
  pub snapshots : Table snapshot_room snapshot_formed snapshot_below m.snapshots
  pub refs : Table ref_room ref_formed ref_below m.refs
  pub log_count : leb (length m.snapshot_log) snapshot_log_room ≡ true
  pub log : all (λ (e : LogEntry). non_neg e.snapshot) m.snapshot_log ≡ true
  pub file_count : leb (length m.metadata_log) metadata_log_room ≡ true
  pub files : all (λ (e : FileEntry). file_name_formed e.file) m.metadata_log ≡ true
  pub schemas : Table schema_room schema_formed schema_below m.schemas
  pub orders : Table sort_order_room order_formed order_below m.orders
  pub statistics : Table statistics_room statistics_file_formed statistics_below m.statistics
  pub partitions : Table statistics_room statistics_file_formed statistics_below m.partition_statistics
  pub specs : Table spec_room spec_formed spec_below m.specs
  pub version : version_formed m.fields.version ≡ true
  pub location : location_formed m.fields.location ≡ true
  pub last_sequence : non_neg m.fields.last_sequence.0 ≡ true
  pub last_partition : non_neg m.fields.last_partition ≡ true
  pub current : same_option eq_z m.fields.current (main_snapshot m.refs) ≡ true
  pub schema_held : any (has_schema m.fields.current_schema) m.schemas ≡ true
  pub order_held : any (has_order m.fields.default_order) m.orders ≡ true
  pub spec_held : any (has_spec m.fields.default_spec) m.specs ≡ true

pub formed : (m : Metadata) → metadata_formed m ≡ true → Formed m
unfolding metadata_formed snapshots_formed refs_formed snapshot_log_formed metadata_log_formed schemas_formed orders_formed statistics_formed specs_formed fields_formed main_agrees current_schema_held default_order_held default_spec_held
formed m h =
    let k = parts (snapshots_formed m.snapshots)
    (refs_formed m.refs ∷ snapshot_log_formed m.snapshot_log ∷ metadata_log_formed m.metadata_log ∷ schemas_formed m.schemas ∷ orders_formed m.orders ∷ statistics_formed m.statistics ∷ statistics_formed m.partition_statistics ∷ specs_formed m.specs ∷ fields_formed m.fields ∷ refs_held m ∷ main_agrees m ∷ current_schema_held m ∷ default_order_held m ∷ default_spec_held m ∷ []) h in
    let f = parts (version_formed m.fields.version) (location_formed m.fields.location ∷ non_neg m.fields.last_sequence.0 ∷ non_neg m.fields.last_partition ∷ []) k.1.1.1.1.1.1.1.1.1.0 in
    record {
      snapshots = table snapshot_room snapshot_formed snapshot_below m.snapshots k.0;
      refs = table ref_room ref_formed ref_below m.refs k.1.0;
      log_count = and_left (leb (length m.snapshot_log) snapshot_log_room) (all (λ (e : LogEntry). non_neg e.snapshot) m.snapshot_log) k.1.1.0;
      log = and_right (leb (length m.snapshot_log) snapshot_log_room) (all (λ (e : LogEntry). non_neg e.snapshot) m.snapshot_log) k.1.1.0;
      file_count = and_left (leb (length m.metadata_log) metadata_log_room) (all (λ (e : FileEntry). file_name_formed e.file) m.metadata_log) k.1.1.1.0;
      files = and_right (leb (length m.metadata_log) metadata_log_room) (all (λ (e : FileEntry). file_name_formed e.file) m.metadata_log) k.1.1.1.0;
      schemas = table schema_room schema_formed schema_below m.schemas k.1.1.1.1.0;
      orders = table sort_order_room order_formed order_below m.orders k.1.1.1.1.1.0;
      statistics = table statistics_room statistics_file_formed statistics_below m.statistics k.1.1.1.1.1.1.0;
      partitions = table statistics_room statistics_file_formed statistics_below m.partition_statistics k.1.1.1.1.1.1.1.0;
      specs = table spec_room spec_formed spec_below m.specs k.1.1.1.1.1.1.1.1.0;
      version = f.0;
      location = f.1.0;
      last_sequence = f.1.1.0;
      last_partition = f.1.1.1.0;
      current = k.1.1.1.1.1.1.1.1.1.1.1.0;
      schema_held = k.1.1.1.1.1.1.1.1.1.1.1.1.0;
      order_held = k.1.1.1.1.1.1.1.1.1.1.1.1.1.0;
      spec_held = k.1.1.1.1.1.1.1.1.1.1.1.1.1.1.0;
    }

-- the parts that a file shows
record InFile (m : Metadata) : Type 0 where
  sequences : (leb 2 m.fields.version || (eq_z m.fields.last_sequence.0 (pos 0) && all (λ (s : Snapshot). eq_z s.sequence.0 (pos 0)) m.snapshots)) ≡ true
  rows : (leb 3 m.fields.version || (eqb m.fields.next_row.0 0 && all (λ (s : Snapshot). not (is_some s.rows)) m.snapshots)) ≡ true
  owners : all (λ (r : NamedRef). eqb r.owner 1) m.refs ≡ true
  location : is_utf8 m.fields.location ≡ true
  refs : all (λ (r : NamedRef). is_utf8 r.name) m.refs ≡ true
  files : all (λ (e : FileEntry). is_utf8 e.file) m.metadata_log ≡ true
  schemas : all schema_texts m.schemas ≡ true
  specs : all spec_texts m.specs ≡ true
  statistics : all file_path m.statistics ≡ true
  partitions : all file_path m.partition_statistics ≡ true

in_file : (m : Metadata) → is_shown m ≡ true → InFile m
unfolding sequences_shown rows_shown owners_shown texts_shown
in_file m h =
    let k = parts (sequences_shown m) (rows_shown m ∷ owners_shown m ∷ texts_shown m ∷ []) h in
    let t = parts (is_utf8 m.fields.location)
    (all (λ (r : NamedRef). is_utf8 r.name) m.refs ∷ all (λ (e : FileEntry). is_utf8 e.file) m.metadata_log ∷ all schema_texts m.schemas ∷ all spec_texts m.specs ∷ all file_path m.statistics ∷ all file_path m.partition_statistics ∷ []) k.1.1.1.0 in
    record {
      sequences = k.0;
      rows = k.1.0;
      owners = k.1.1.0;
      location = t.0;
      refs = t.1.0;
      files = t.1.1.0;
      schemas = t.1.1.1.0;
      specs = t.1.1.1.1.0;
      statistics = t.1.1.1.1.1.0;
      partitions = t.1.1.1.1.1.1.0;
    }

-- the parts that records hold
pub record InRecords (m : Metadata) : Type 0 where
  pub uuid : uuid_fits m.fields.uuid ≡ true
  pub last_updated : fits64 m.fields.last_updated ≡ true
  pub last_sequence : fits64 m.fields.last_sequence.0 ≡ true
  pub next_row : fits_unsigned m.fields.next_row.0 ≡ true
  pub last_column : fits32 m.fields.last_column ≡ true
  pub current : if_some fits64 m.fields.current ≡ true
  pub current_schema : fits32 m.fields.current_schema ≡ true
  pub default_order : fits64 m.fields.default_order ≡ true
  pub default_spec : fits32 m.fields.default_spec ≡ true
  pub last_partition : fits32 m.fields.last_partition ≡ true
  pub snapshots : all snapshot_fits m.snapshots ≡ true
  pub refs : all ref_fits m.refs ≡ true
  pub log : all log_entry_fits m.snapshot_log ≡ true
  pub files : all file_entry_fits m.metadata_log ≡ true
  pub schemas : all schema_fits m.schemas ≡ true
  pub orders : all order_fits m.orders ≡ true
  pub statistics : all statistics_fits m.statistics ≡ true
  pub partitions : all statistics_fits m.partition_statistics ≡ true
  pub specs : all spec_fits m.specs ≡ true

pub in_records : (m : Metadata) → metadata_fits m ≡ true → InRecords m
unfolding metadata_fits fields_fit
in_records m h =
    let k = parts (fields_fit m.fields) (all snapshot_fits m.snapshots ∷ all ref_fits m.refs ∷ all log_entry_fits m.snapshot_log ∷ all file_entry_fits m.metadata_log ∷ all schema_fits m.schemas ∷ all order_fits m.orders ∷ all statistics_fits m.statistics ∷ all statistics_fits m.partition_statistics ∷ all spec_fits m.specs ∷ []) h in
    let f = parts (uuid_fits m.fields.uuid) (fits64 m.fields.last_updated ∷ fits64 m.fields.last_sequence.0 ∷ fits_unsigned m.fields.next_row.0 ∷ fits32 m.fields.last_column ∷ if_some fits64 m.fields.current ∷ fits32 m.fields.current_schema ∷ fits64 m.fields.default_order ∷ fits32 m.fields.default_spec ∷ fits32 m.fields.last_partition ∷ []) k.0 in
    record {
      uuid = f.0;
      last_updated = f.1.0;
      last_sequence = f.1.1.0;
      next_row = f.1.1.1.0;
      last_column = f.1.1.1.1.0;
      current = f.1.1.1.1.1.0;
      current_schema = f.1.1.1.1.1.1.0;
      default_order = f.1.1.1.1.1.1.1.0;
      default_spec = f.1.1.1.1.1.1.1.1.0;
      last_partition = f.1.1.1.1.1.1.1.1.1.0;
      snapshots = k.1.0;
      refs = k.1.1.0;
      log = k.1.1.1.0;
      files = k.1.1.1.1.0;
      schemas = k.1.1.1.1.1.0;
      orders = k.1.1.1.1.1.1.0;
      statistics = k.1.1.1.1.1.1.1.0;
      partitions = k.1.1.1.1.1.1.1.1.0;
      specs = k.1.1.1.1.1.1.1.1.1.0;
    }

-- ---- all of it

module _ (m : Metadata) (h : metadata_formed m ≡ true) (s : is_shown m ≡ true) (k : metadata_fits m ≡ true) where
  f : Formed m
  f = formed m h

  i : InFile m
  i = in_file m s

  r : InRecords m
  r = in_records m k

  pub version_formed_lem : Version m.fields.version
  version_formed_lem = version_of_lem m.fields.version f.version

  schemas_ok : all schema_ok m.schemas ≡ true
  schemas_ok = from_three schema_formed schema_fits schema_texts schema_ok schema_ok_lem m.schemas f.schemas.each r.schemas i.schemas

  specs_ok : all spec_ok m.specs ≡ true
  specs_ok = from_three spec_formed spec_fits spec_texts spec_ok spec_ok_lem m.specs f.specs.each r.specs i.specs

  default_spec : (all part_ok (Files.spec_fields m.fields.default_spec m.specs) ≡ true) × (leb (length (Files.spec_fields m.fields.default_spec m.specs)) partition_field_room ≡ true)
  default_spec = spec_there (first (λ (x : PartitionSpec). eq_z x.id m.fields.default_spec) m.specs) (all_first spec_ok (λ (x : PartitionSpec). eq_z x.id m.fields.default_spec) m.specs specs_ok)

  pub metadata_bounds : Bounds m.fields.version m
  metadata_bounds =
      record {
        uuid_length = eqb-true (length m.fields.uuid) 16 (and_left (eqb (length m.fields.uuid) 16) (all is_byte m.fields.uuid) r.uuid);
        uuid_bytes = and_right (eqb (length m.fields.uuid) 16) (all is_byte m.fields.uuid) r.uuid;
        location = f.location;
        location_text = i.location;
        last_updated = r.last_updated;
        last_sequence = r.last_sequence;
        next_row = r.next_row;
        last_column = r.last_column;
        current = r.current;
        current_held = same_held m.fields.current (main_snapshot m.refs) f.current (main_held (main_ref m.refs) (all_first ref_formed (λ x. is_main x.name) m.refs f.refs.each));
        current_schema = r.current_schema;
        default_order = r.default_order;
        default_spec = r.default_spec;
        last_partition = r.last_partition;
        sequence_shown = unless_first (leb 2 m.fields.version) (eq_z m.fields.last_sequence.0 (pos 0)) (λ (x : Snapshot). eq_z x.sequence.0 (pos 0)) m.snapshots i.sequences;
        row_shown = unless_first (leb 3 m.fields.version) (eqb m.fields.next_row.0 0) (λ (x : Snapshot). not (is_some x.rows)) m.snapshots i.rows;
        snapshots =
            all_both snapshot_fits (is_shown_in m.fields.version) m.snapshots r.snapshots
            (all_both (λ (x : Snapshot). leb 2 m.fields.version || eq_z x.sequence.0 (pos 0)) (λ (x : Snapshot). leb 3 m.fields.version || not (is_some x.rows)) m.snapshots
            (unless_each (leb 2 m.fields.version) (eq_z m.fields.last_sequence.0 (pos 0)) (λ (x : Snapshot). eq_z x.sequence.0 (pos 0)) m.snapshots i.sequences)
            (unless_each (leb 3 m.fields.version) (eqb m.fields.next_row.0 0) (λ (x : Snapshot). not (is_some x.rows)) m.snapshots i.rows));
        snapshot_count = f.snapshots.count;
        snapshot_order = f.snapshots.order;
        refs =
            from_three (λ (x : NamedRef). ref_formed x && ref_fits x) (λ (x : NamedRef). eqb x.owner 1) (λ (x : NamedRef). is_utf8 x.name) ref_ok (λ x a b c. both (both a b) c) m.refs
            (all_both ref_formed ref_fits m.refs f.refs.each r.refs) i.owners i.refs;
        ref_count = f.refs.count;
        ref_order = f.refs.order;
        log = r.log;
        log_count = f.log_count;
        files = from_three (λ (e : FileEntry). file_name_formed e.file) file_entry_fits (λ (e : FileEntry). is_utf8 e.file) file_entry_ok (λ x a b c. both (both a b) c) m.metadata_log f.files r.files i.files;
        file_count = f.file_count;
        schemas = schemas_ok;
        schema_count = f.schemas.count;
        schema_order = f.schemas.order;
        orders = from_three order_formed order_fits order_fits order_ok (λ x a b c. order_ok_lem x a b) m.orders f.orders.each r.orders r.orders;
        order_count = f.orders.count;
        order_order = f.orders.order;
        statistics = from_three statistics_file_formed statistics_fits file_path statistics_ok statistics_ok_lem m.statistics f.statistics.each r.statistics i.statistics;
        statistics_count = f.statistics.count;
        statistics_order = f.statistics.order;
        partitions = from_three statistics_file_formed statistics_fits file_path statistics_ok statistics_ok_lem m.partition_statistics f.partitions.each r.partitions i.partitions;
        partition_count = f.partitions.count;
        partition_order = f.partitions.order;
        specs = specs_ok;
        spec_count = f.specs.count;
        spec_order = f.specs.order;
        one_schema = schema_there m.fields.current_schema (first (λ (x : Schema). eq_z x.id m.fields.current_schema) m.schemas) r.current_schema (all_first schema_ok (λ (x : Schema). eq_z x.id m.fields.current_schema) m.schemas schemas_ok);
        one_spec = default_spec.0;
        one_spec_count = default_spec.1;
      }
