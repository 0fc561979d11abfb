-- P1 to P12 of document 01, "Examples on both sides", every clause a question and the reply that it must get; then its "Easy wrong turns",
-- and, each with a name, examples of clauses that no P shows; docs/RULES.md cites them by these names.
-- That the rules give these replies is one statement over the list (`examples_hold`, in proofs/Examples).
-- `tools/clauses` changes the rules one clause at a time and says which example then fails.
use Rattle.std.specs.Prelude.{ℕ, zero, suc, ◌+◌, ◌*◌, ◌-◌, Bool, true, false, List, [], ◌∷◌, ◌++◌, map, ℤ, pos, negsuc, length, replicate}
use Rattle.std.proofs.Math.Option.{Option, none, some}
use Rattle.records.specs.declared.counters.SequenceNumber.{SequenceNumber}
use Rattle.records.specs.declared.counters.RowId.{RowId}
use Rattle.rules.specs.Words.{eq_z, is_in, total}
use Rattle.rules.specs.Names.{main_name}
use Rattle.rules.specs.Window.{default_tolerance}
use Rattle.rules.specs.Register.{RowRange, Snapshot, Reference, NamedRef, LogEntry, FileEntry, SchemaField, Schema, SchemaOffer, SortField, SortOrder, PartitionField, PartitionSpec, SpecOffer, StatisticsFile, StatisticsTable, Metadata, Update, Terms, Outcome, statistics_of, with_fields, with_snapshots, with_refs, with_snapshot_log, with_metadata_log, with_schemas, with_orders, with_statistics, with_specs, with_version, with_location, with_last_sequence, with_current_schema, with_default_order, with_default_spec, with_last_partition}
use Rattle.rules.specs.Register.StatisticsTable.{Statistics, PartitionStatistics}
use Rattle.rules.specs.Register.Outcome.{Refused, Accepted}
use Rattle.rules.specs.Register.Update.{AssignUuid, UpgradeFormatVersion, SetLocation, AddSnapshot, SetBranchSnapshot, RemoveSnapshots, SetRef, RemoveRef, AddSchema, SetCurrentSchema, RemoveSchemas, AddSortOrder, SetDefaultSortOrder, SetStatistics, RemoveStatistics, AddPartitionSpec, SetDefaultPartitionSpec, RemovePartitionSpecs, NotFormed}
use Rattle.rules.specs.Limit.{limit_given}
use Rattle.rules.specs.RowIds.{row_number, row_next}
use Rattle.rules.specs.Walk.{Walk, Listed, Twice, Bad, parent_of, follow, ancestors, record_ancestors, reach, walk_number, walk_count, walk_buffer}
use Rattle.rules.specs.Partitions.{identity, year, month, day, bucket}
use Rattle.rules.specs.WellFormed.{long, timestamp, metadata_formed, update_formed}
use Rattle.rules.specs.Capacities.{name_room, field_bytes, partition_bytes}
use Rattle.rules.specs.Offers.{offer_formed, spec_offer_formed}
use Rattle.rules.specs.RefUpdates.{owner_after}
use Rattle.rules.specs.Others.{others_refs}
use Rattle.rules.specs.Moment.{current_at, entries_read, is_whole, removes_and_adds}
use Rattle.rules.specs.Run.{list_sum, run}
use Rattle.rules.specs.Rows.{new_snapshots, end_over, next_row_of, has_rows, ranges_of, end_of, has_row, climbs, is_apart}
use Rattle.rules.specs.FieldIds.{fresh_over, is_reached}
use Rattle.rules.specs.Replay.{strip}
use Rattle.rules.specs.Kinds.{kind_weight}

-- ---- questions and replies

-- what of an accepted run an example looks at
pub data Look : Type 0 where
  AtHistory AtSnapshots AtRefs AtSequence AtNextRow AtColumn AtUpdated AtLog AtFiles AtRemovedAndAdded : Look
  -- the whole outcome
  AtAll : Look
  -- which snapshot was current at a time
  AtMoment : ℤ → Look
  -- a table of statistics files
  AtStatistics : StatisticsTable → Look
  -- the partition specs, and last partition id
  AtSpecs : Look

pub data Question : Type 0 where
  -- a run
  OfRun : Look → Terms → Metadata → List Update → Question
  -- a run of the log of a run
  OfReplay : Look → Terms → Metadata → List Update → Question
  OfLimit : Option (List ℕ) → Question
  -- ids, parents, start, excluded id
  OfWalk : List ℤ → List ℤ → ℤ → Option ℤ → Question
  -- snapshots, start, excluded id
  OfRecords : List Snapshot → ℤ → Option ℤ → Question
  -- what a walk finds
  OfFound : Walk → Question
  -- which snapshot was current at a time, by a history
  OfMoment : ℤ → List LogEntry → Question
  -- a history names held snapshots alone
  OfWhole : Metadata → Question
  -- the same walk into a buffer: number, count, what is then in the buffer
  OfBuffer : List ℤ → List ℤ → List ℤ → ℤ → Option ℤ → Question
  -- the row-id check of next row id, first row id, added rows: number, and next row id
  OfRows : ℕ → ℕ → ℕ → Question
  -- what a definition says of each of some
  OfTests : List Bool → Question
  OfNumbers : List ℕ → Question
  OfIds : List ℤ → Question

pub data Reply : Type 0 where
  -- number and place
  Refusal : ℕ → ℕ → Reply
  History : List LogEntry → Reply
  Snapshots : List Snapshot → Reply
  Refs : List NamedRef → Reply
  Sequence : SequenceNumber → Reply
  NextRow : RowId → Reply
  Column : ℤ → Reply
  Updated : ℤ → Reply
  Log : List Update → Reply
  -- the entries that expire, and those that stay
  Files : List FileEntry → List FileEntry → Reply
  Limit : ℕ → Reply
  Walked : Walk → Reply
  Attached : List StatisticsFile → Reply
  -- the entry, and how many were read
  Current : Option LogEntry → ℕ → Reply
  Whole : Bool → Reply
  -- a snapshot is both removed and added by the log
  RemovedAndAdded : Bool → Reply
  Answered : Outcome → Reply
  Filled : ℕ → ℕ → List ℤ → Reply
  Rows : ℕ → RowId → Reply
  Tests : List Bool → Reply
  Numbers : List ℕ → Reply
  Ids : List ℤ → Reply
  Specs : List PartitionSpec → ℤ → Reply

abbrev pub moment : ℤ → List LogEntry → Reply
moment time log = Current (current_at time log) (entries_read time log)

abbrev pub look : Look → Outcome → Reply
look at (Refused number place) = Refusal number place
look AtHistory (Accepted m log expired) = History m.snapshot_log
look AtSnapshots (Accepted m log expired) = Snapshots m.snapshots
look AtRefs (Accepted m log expired) = Refs m.refs
look AtSequence (Accepted m log expired) = Sequence m.fields.last_sequence
look AtNextRow (Accepted m log expired) = NextRow m.fields.next_row
look AtColumn (Accepted m log expired) = Column m.fields.last_column
look AtUpdated (Accepted m log expired) = Updated m.fields.last_updated
look AtLog (Accepted m log expired) = Log log
look AtFiles (Accepted m log expired) = Files expired m.metadata_log
look AtRemovedAndAdded (Accepted m log expired) = RemovedAndAdded (removes_and_adds log)
look AtAll (Accepted m log expired) = Answered (Accepted m log expired)
look (AtMoment time) (Accepted m log expired) = moment time m.snapshot_log
look (AtStatistics which) (Accepted m log expired) = Attached (statistics_of which m)
look AtSpecs (Accepted m log expired) = Specs m.specs m.fields.last_partition

abbrev pub rerun : Terms → Metadata → Outcome → Outcome
rerun terms m (Refused number place) = Refused number place
rerun terms m (Accepted m' log expired) = run terms m log

abbrev pub filled : List ℤ → Walk → Reply
filled buffer w = Filled (walk_number (length buffer) w) (walk_count (length buffer) w) (walk_buffer buffer w)

abbrev pub reply_to : Question → Reply
reply_to (OfRun at terms m us) = look at (run terms m us)
reply_to (OfReplay at terms m us) = look at (rerun terms m (run terms m us))
reply_to (OfLimit text) = Limit (limit_given text)
reply_to (OfWalk ids parents start excluded) = Walked (ancestors ids parents start excluded)
reply_to (OfRecords snapshots start excluded) = Walked (record_ancestors snapshots start excluded)
reply_to (OfFound walk) = Walked walk
reply_to (OfMoment time log) = moment time log
reply_to (OfWhole m) = Whole (is_whole m)
reply_to (OfBuffer buffer ids parents start excluded) = filled buffer (ancestors ids parents start excluded)
reply_to (OfRows next first added) = Rows (row_number (record { 0 = next }) (record { 0 = first }) added) (row_next (record { 0 = next }) (record { 0 = first }) added)
reply_to (OfTests tests) = Tests tests
reply_to (OfNumbers numbers) = Numbers numbers
reply_to (OfIds ids) = Ids ids

-- ---- what the examples are made of

-- a snapshot with no row range; its parent, its sequence number, its time
abbrev pub snap : ℕ → Option ℤ → ℕ → ℤ → Snapshot
snap id parent sequence time = record { id = pos id; parent = parent; sequence = record { 0 = pos sequence }; time = time; rows = none }

-- the same with rows from a first one on
abbrev pub snap_rows : ℕ → ℕ → ℕ → Snapshot
snap_rows id first added = record { id = pos id; parent = none; sequence = record { 0 = pos id }; time = pos 400000; rows = some (record { first = record { 0 = first }; added = added }) }

-- a snapshot with no parent, whose sequence number is its id, is added
abbrev pub adding : ℕ → ℕ → Update
adding id time = AddSnapshot (snap id none id (pos time))

abbrev pub entry : ℕ → ℕ → LogEntry
entry id time = record { snapshot = pos id; time = pos time }

-- a branch that keeps nothing
abbrev pub branch_to : ℕ → Reference
branch_to id = record { snapshot = pos id; kind = 1; min_snapshots = none; max_snapshot_age = none; max_ref_age = none }

-- a branch that keeps five snapshots
abbrev pub keeping_to : ℕ → Reference
keeping_to id = record { snapshot = pos id; kind = 1; min_snapshots = some (pos 5); max_snapshot_age = none; max_ref_age = none }

abbrev pub tag_to : ℕ → Reference
tag_to id = record { snapshot = pos id; kind = 2; min_snapshots = none; max_snapshot_age = none; max_ref_age = none }

abbrev pub to_main : ℕ → Update
to_main id = SetRef main_name (branch_to id)

-- the name `d`
abbrev pub draft : List ℕ
draft = 100 ∷ []

abbrev pub to_draft : ℕ → Update
to_draft id = SetRef draft (branch_to id)

-- an entry of the metadata log whose file has a name of one byte
abbrev pub file : ℕ → ℕ → FileEntry
file name time = record { file = name ∷ []; time = pos time }

-- ---- what the examples offer

-- 0 up to a number
abbrev pub below : ℕ → List ℕ
below zero = []
below (suc n) = below n ++ (n ∷ [])

abbrev pub many : {A : Type 0} → ℕ → (ℕ → A) → List A
many n make = map make (below n)

abbrev pub all_of : List (List ℕ) → List ℕ
all_of [] = []
all_of (l ∷ ls) = l ++ all_of ls

-- the bytes of a field: the four of its id, its type, its name's length, and its name with what stands behind it
abbrev pub field_offer : List ℕ → ℕ → ℕ → List ℕ → List ℕ
field_offer id type len name = id ++ (type ∷ len ∷ []) ++ name ++ replicate (name_room - length name) 0

-- a field with an id of one byte, a type, and a name
abbrev pub offering : ℕ → ℕ → List ℕ → List ℕ
offering id type name = field_offer (id ∷ 0 ∷ 0 ∷ 0 ∷ []) type (length name) name

-- a long whose name is its id
abbrev pub long_offer : ℕ → List ℕ
long_offer id = offering id long (id ∷ [])

-- 0 to 32: the longs 1 to 33; 33 on: 0, then 1 2 1 of unequal names, then 2 9 4, then 2 1; 42 on: the largest id, and one more than that.
-- 44 on: field 1 a timestamp, of another name, and then 2 of that name; of the types 0 and 3; with no name, and with the longest; with one byte past no name, and with a length past the longest
abbrev pub schema_offers : List ℕ
schema_offers =
    all_of (many 33 (λ (i : ℕ). long_offer (suc i)))
    ++ all_of (map long_offer (0 ∷ 1 ∷ 2 ∷ []))
    ++ offering 1 long (3 ∷ [])
    ++ all_of (map long_offer (2 ∷ 9 ∷ 4 ∷ 2 ∷ 1 ∷ []))
    ++ field_offer (255 ∷ 255 ∷ 255 ∷ 127 ∷ []) long 0 []
    ++ field_offer (0 ∷ 0 ∷ 0 ∷ 128 ∷ []) long 0 []
    ++ offering 1 timestamp (1 ∷ [])
    ++ offering 1 long (97 ∷ [])
    ++ offering 2 long (97 ∷ [])
    ++ offering 1 0 (1 ∷ [])
    ++ offering 1 3 (1 ∷ [])
    ++ offering 1 long []
    ++ offering 2 long (replicate 32 255)
    ++ field_offer (1 ∷ 0 ∷ 0 ∷ 0 ∷ []) long 0 (replicate 31 0 ++ (1 ∷ []))
    ++ field_offer (1 ∷ 0 ∷ 0 ∷ 0 ∷ []) long 33 (replicate 32 97)

-- the bytes of a field of a spec: the four of its source's id, its transform, the four of its number, its name's length, and its name with what stands behind it
abbrev pub partition_offer : List ℕ → ℕ → List ℕ → ℕ → List ℕ → List ℕ
partition_offer source transform buckets len name = source ++ (transform ∷ []) ++ buckets ++ (len ∷ []) ++ name ++ replicate (name_room - length name) 0

-- with a source and a number of one byte each
abbrev pub splitting : ℕ → ℕ → ℕ → List ℕ → List ℕ
splitting source transform buckets name = partition_offer (source ∷ 0 ∷ 0 ∷ 0 ∷ []) transform (buckets ∷ 0 ∷ 0 ∷ 0 ∷ []) (length name) name

-- 0 to 9: identity(1) `p`, year(2) `q`, identity(1) `r`, year(2) `y`, month(2) `m`, bucket 4 of 1 `b`, bucket 8 of 1 `c`, identity(1) `a`, bucket 4 of 2 `n`, identity(2) `a`.
-- 10 to 21: year(2) `t`, identity(2) `z`, year(1) `u`, identity(9) `v`, identity(1) `s`, identity(2) `s`, identity(2) `w`, bucket 4 of 1 `d` and `e`, day(1) `f`, day(2) `g`, year(2) `h`.
-- 22 on: the largest source with the longest name; a source past the largest, and 0; the transforms 0 and 6; the largest number of buckets, one past it, and 0; a year with a number;
-- with no name, with a length past the longest, and with a byte past the name
abbrev pub partition_offers : List ℕ
partition_offers =
    splitting 1 identity 0 (112 ∷ [])
    ++ splitting 2 year 0 (113 ∷ [])
    ++ splitting 1 identity 0 (114 ∷ [])
    ++ splitting 2 year 0 (121 ∷ [])
    ++ splitting 2 month 0 (109 ∷ [])
    ++ splitting 1 bucket 4 (98 ∷ [])
    ++ splitting 1 bucket 8 (99 ∷ [])
    ++ splitting 1 identity 0 (97 ∷ [])
    ++ splitting 2 bucket 4 (110 ∷ [])
    ++ splitting 2 identity 0 (97 ∷ [])
    ++ splitting 2 year 0 (116 ∷ [])
    ++ splitting 2 identity 0 (122 ∷ [])
    ++ splitting 1 year 0 (117 ∷ [])
    ++ splitting 9 identity 0 (118 ∷ [])
    ++ splitting 1 identity 0 (115 ∷ [])
    ++ splitting 2 identity 0 (115 ∷ [])
    ++ splitting 2 identity 0 (119 ∷ [])
    ++ splitting 1 bucket 4 (100 ∷ [])
    ++ splitting 1 bucket 4 (101 ∷ [])
    ++ splitting 1 day 0 (102 ∷ [])
    ++ splitting 2 day 0 (103 ∷ [])
    ++ splitting 2 year 0 (104 ∷ [])
    ++ partition_offer (255 ∷ 255 ∷ 255 ∷ 127 ∷ []) identity (0 ∷ 0 ∷ 0 ∷ 0 ∷ []) 32 (replicate 32 255)
    ++ partition_offer (0 ∷ 0 ∷ 0 ∷ 128 ∷ []) identity (0 ∷ 0 ∷ 0 ∷ 0 ∷ []) 1 (112 ∷ [])
    ++ splitting 0 identity 0 (112 ∷ [])
    ++ splitting 1 0 0 (112 ∷ [])
    ++ splitting 1 6 0 (112 ∷ [])
    ++ partition_offer (1 ∷ 0 ∷ 0 ∷ 0 ∷ []) bucket (255 ∷ 255 ∷ 255 ∷ 127 ∷ []) 1 (112 ∷ [])
    ++ partition_offer (1 ∷ 0 ∷ 0 ∷ 0 ∷ []) bucket (0 ∷ 0 ∷ 0 ∷ 128 ∷ []) 1 (112 ∷ [])
    ++ splitting 1 bucket 0 (112 ∷ [])
    ++ splitting 2 year 1 (112 ∷ [])
    ++ splitting 1 identity 0 []
    ++ partition_offer (1 ∷ 0 ∷ 0 ∷ 0 ∷ []) identity (0 ∷ 0 ∷ 0 ∷ 0 ∷ []) 33 (replicate 32 97)
    ++ partition_offer (1 ∷ 0 ∷ 0 ∷ 0 ∷ []) identity (0 ∷ 0 ∷ 0 ∷ 0 ∷ []) 1 (112 ∷ replicate 30 0 ++ (1 ∷ []))

abbrev pub offers : List ℕ
offers = schema_offers ++ partition_offers

-- fields of a spec with these ids, from one on, counted from 0, behind the 53 fields of schemas
abbrev pub spec_from : ℕ → List (Option ℤ) → ℕ → SpecOffer
spec_from first ids id = record { id = pos id; at = 53 * field_bytes + first * partition_bytes; ids = ids }

-- so many of them, each without an id
abbrev pub adding_spec : ℕ → ℕ → ℕ → Update
adding_spec first count id = AddPartitionSpec (spec_from first (replicate count none) id)

-- so many of these fields, from one on, counted from 0
abbrev pub offer_from : ℕ → ℕ → ℕ → SchemaOffer
offer_from first count id = record { id = pos id; at = first * field_bytes; count = count }

-- one field, of 1 to 33
abbrev pub offer_of : ℕ → ℕ → SchemaOffer
offer_of field id = offer_from (field - 1) 1 id

-- a long whose name is its id
abbrev pub long_field : ℕ → SchemaField
long_field id = record { id = pos id; field_type = long; name = id ∷ [] }

-- a clock reading and a tolerance, no file name, an empty limit text. A call always has a limit text (`Answer.readTerms`)
abbrev pub plain_terms : ℤ → ℤ → Terms
plain_terms clock tolerance = record { clock = clock; tolerance = tolerance; file = none; limit = some []; office = 1; offers = offers }

abbrev pub clock_at : ℤ → Terms
clock_at clock = plain_terms clock default_tolerance

abbrev pub tolerating : ℤ → Terms
tolerating tolerance = plain_terms (pos 500000) tolerance

abbrev pub terms : Terms
terms = tolerating default_tolerance

-- the current file `d`, and the limit `2`
abbrev pub file_terms : Terms
file_terms = record { clock = pos 500000; tolerance = default_tolerance; file = some (100 ∷ []); limit = some (50 ∷ []); office = 1; offers = offers }

-- the same terms, of an office
abbrev pub as_office : ℕ → Terms → Terms
as_office office t = record { clock = t.clock; tolerance = t.tolerance; file = t.file; limit = t.limit; office = office; offers = t.offers }

abbrev pub second_terms : Terms
second_terms = as_office 2 terms

-- a field of a spec: its source, its id, its transform and number, its name
abbrev pub partition : ℕ → ℕ → ℕ → ℕ → List ℕ → PartitionField
partition source id transform buckets name = record { source = pos source; id = some (pos id); transform = transform; buckets = pos buckets; name = name }

abbrev pub spec_of : ℕ → List PartitionField → PartitionSpec
spec_of id fields = record { id = pos id; fields = fields }

abbrev pub unpartitioned : PartitionSpec
unpartitioned = spec_of 0 []

-- a column with a name of one byte
abbrev pub column : ℕ → ℕ → ℕ → SchemaField
column id type name = record { id = pos id; field_type = type; name = name ∷ [] }

-- `a`, a long; with `t`, a timestamp; with `y`, a long; each with a schema's id
abbrev pub of_a : ℕ → Schema
of_a id = record { id = pos id; fields = column 1 long 97 ∷ [] }

abbrev pub of_at : ℕ → Schema
of_at id = record { id = pos id; fields = column 1 long 97 ∷ column 2 timestamp 116 ∷ [] }

abbrev pub of_aty : ℕ → Schema
of_aty id = record { id = pos id; fields = column 1 long 97 ∷ column 2 timestamp 116 ∷ column 3 long 121 ∷ [] }

-- one schema with field 1, the order of no fields, and the spec of none
abbrev pub register : ℕ → ℕ → ℕ → ℤ → List Snapshot → Option ℤ → List NamedRef → List LogEntry → List FileEntry → Metadata
register version sequence next updated snapshots current refs log files =
    record {
      fields = record {
        version = version;
        uuid = 0 ∷ 0 ∷ 0 ∷ 0 ∷ 0 ∷ 0 ∷ 0 ∷ 0 ∷ 0 ∷ 0 ∷ 0 ∷ 0 ∷ 0 ∷ 0 ∷ 0 ∷ 0 ∷ [];
        location = 116 ∷ [];
        last_updated = updated;
        last_sequence = record { 0 = pos sequence };
        next_row = record { 0 = next };
        last_column = pos 1;
        current = current;
        current_schema = pos 0;
        default_order = pos 0;
        default_spec = pos 0;
        last_partition = pos 999;
      };
      snapshots = snapshots;
      refs = refs;
      snapshot_log = log;
      metadata_log = files;
      schemas = record { id = pos 0; fields = long_field 1 ∷ [] } ∷ [];
      orders = record { id = pos 0; fields = [] } ∷ [];
      statistics = [];
      partition_statistics = [];
      specs = unpartitioned ∷ [];
    }

-- a ref of an office, and one of office 1
abbrev pub owned : ℕ → List ℕ → Reference → NamedRef
owned office name r = record { name = name; owner = office; reference = r }

abbrev pub ref_of : List ℕ → Reference → NamedRef
ref_of name r = owned 1 name r

-- `main` at a snapshot
abbrev pub main_at : ℕ → List NamedRef
main_at id = ref_of main_name (branch_to id) ∷ []

-- version 2, snapshot 1 current since 100000
abbrev pub first : Metadata
first = register 2 1 0 (pos 100000) (snap 1 none 1 (pos 100000) ∷ []) (some (pos 1)) (main_at 1) (entry 1 100000 ∷ []) []

-- version 2, history 1, 2, 3 at 100000, 200000, 300000, current 3, last sequence number 5; the snapshots that are held
abbrev pub at_three : List Snapshot → Metadata
at_three snapshots = register 2 5 0 (pos 300000) snapshots (some (pos 3)) (main_at 3) (entry 1 100000 ∷ entry 2 200000 ∷ entry 3 300000 ∷ []) []

-- all three are held
abbrev pub three : Metadata
three = at_three (snap 1 none 1 (pos 100000) ∷ snap 2 (some (pos 1)) 2 (pos 200000) ∷ snap 3 (some (pos 2)) 5 (pos 300000) ∷ [])

-- 2 is no longer held
abbrev pub holed : Metadata
holed = at_three (snap 1 none 1 (pos 100000) ∷ snap 3 (some (pos 2)) 5 (pos 300000) ∷ [])

-- no snapshots yet: the version, the next row id, the last update, the metadata log
abbrev pub empty : ℕ → ℕ → ℤ → List FileEntry → Metadata
empty version next updated files = register version 0 next updated [] none [] [] files

-- no snapshots: the version, the schemas, the specs, last partition id; schema 0 is the current one and spec 0 the default one
abbrev pub partitioned : ℕ → List Schema → List PartitionSpec → ℕ → Metadata
partitioned version schemas specs last =
    with_schemas schemas (with_specs specs (with_fields (with_last_partition (pos last) (empty version 0 (pos 0) []).fields) (empty version 0 (pos 0) [])))

-- with `a` and `t`, and the spec of no fields before these
abbrev pub dated : ℕ → List PartitionSpec → ℕ → Metadata
dated version specs last = partitioned version (of_at 0 ∷ []) (unpartitioned ∷ specs) last

-- specs of one field: identity(1) `p` and year(2) `q`, with the field's id and the spec's
abbrev pub by_p : ℕ → ℕ → PartitionSpec
by_p field id = spec_of id (partition 1 field identity 0 (112 ∷ []) ∷ [])

abbrev pub by_q : ℕ → ℕ → PartitionSpec
by_q field id = spec_of id (partition 2 field year 0 (113 ∷ []) ∷ [])

-- year(2) `y`
abbrev pub by_y : ℕ → ℕ → PartitionSpec
by_y field id = spec_of id (partition 2 field year 0 (121 ∷ []) ∷ [])

-- metadata with another default spec
abbrev pub default_at : ℕ → Metadata → Metadata
default_at id m = with_fields (with_default_spec (pos id) m.fields) m

-- the change log of the addition of some spec alone, as it is logged
abbrev pub logs_spec : ℕ → List (Option ℤ) → ℕ → Reply
logs_spec first ids id = Log (AddPartitionSpec (spec_from first ids id) ∷ [])

-- 4 and 5 are added, and 4 is `main` on the way to 5
abbrev pub over_four : List Update
over_four = adding 4 400000 ∷ adding 5 410000 ∷ to_main 4 ∷ to_main 5 ∷ []

-- 2 is removed, added again, and `main` on the way to 5
abbrev pub over_two_again : List Update
over_two_again = RemoveSnapshots (pos 2 ∷ []) ∷ adding 2 400000 ∷ to_main 2 ∷ adding 5 410000 ∷ to_main 5 ∷ []

-- a history whose times step back: 0, 1, 0
abbrev pub steps_back : List LogEntry
steps_back = entry 1 0 ∷ entry 2 1 ∷ entry 3 0 ∷ []

-- as `first`, with an entry of a snapshot that is no longer held before the last entry, and after it
abbrev pub gapped : Metadata
gapped = register 2 1 0 (pos 100000) (snap 1 none 1 (pos 100000) ∷ []) (some (pos 1)) (main_at 1) (entry 2 50000 ∷ entry 1 100000 ∷ []) []

abbrev pub astray : Metadata
astray = register 2 1 0 (pos 100000) (snap 1 none 1 (pos 100000) ∷ []) (some (pos 1)) (main_at 1) (entry 1 100000 ∷ entry 2 50000 ∷ []) []

-- a snapshot that holds rows 0 to 3: the version, the next row id
abbrev pub ranged : ℕ → ℕ → Metadata
ranged version next = register version 1 next (pos 0) (snap_rows 1 0 4 ∷ []) none [] [] []

-- snapshots 1 and 2: the current one, the refs
abbrev pub two_held : Option ℤ → List NamedRef → Metadata
two_held current refs = register 2 2 0 (pos 0) (snap 1 none 1 (pos 0) ∷ snap 2 none 2 (pos 0) ∷ []) current refs [] []

-- a snapshot that no ref names, before 1970
abbrev pub unnamed : Metadata
unnamed = register 2 1 0 (negsuc 99999) (snap 1 none 1 (negsuc 299999) ∷ []) none [] [] []

-- a schema of some fields, with an id
abbrev pub schema_with : List SchemaField → ℕ → Schema
schema_with fields id = record { id = pos id; fields = fields }

-- of one long
abbrev pub schema_of : ℕ → ℕ → Schema
schema_of field id = schema_with (long_field field ∷ []) id

-- field 2 with a type and a name
abbrev pub second : ℕ → List ℕ → SchemaField
second type name = record { id = pos 2; field_type = type; name = name }

-- a sort order by one field, ascending, nulls first, with an id
abbrev pub order_of : ℕ → ℕ → SortOrder
order_of field id = record { id = pos id; fields = record { source = pos field; direction = 0; nulls = 0 } ∷ [] }

-- the order of no fields, with an id
abbrev pub unordered : ℕ → SortOrder
unordered id = record { id = pos id; fields = [] }

-- a statistics file of a snapshot, with a size
abbrev pub attached : ℕ → ℕ → StatisticsFile
attached id size = record { snapshot = pos id; path = 112 ∷ []; size = pos size }

abbrev pub attaching : ℕ → ℕ → Update
attaching id size = SetStatistics Statistics (attached id size)

-- so many files, of as many snapshots
abbrev pub attachings : ℕ → List Update
attachings zero = []
attachings (suc n) = attaching n 1 ∷ attachings n

abbrev pub range : ℕ → ℕ → RowRange
range first added = record { first = record { 0 = first }; added = added }

-- a sort field; 0 ascending, 1 descending; 0 nulls first, 1 last
abbrev pub by : ℤ → ℕ → ℕ → SortField
by source direction nulls = record { source = source; direction = direction; nulls = nulls }

abbrev pub order_by : ℕ → List SortField → SortOrder
order_by id fields = record { id = pos id; fields = fields }

-- a ref with its retention numbers: fewest snapshots, snapshot age, ref age
abbrev pub keeping : ℤ → ℕ → Option ℤ → Option ℤ → Option ℤ → Reference
keeping id kind fewest age ref_age = record { snapshot = id; kind = kind; min_snapshots = fewest; max_snapshot_age = age; max_ref_age = ref_age }

-- a ref of a name of some bytes, to snapshot 1
abbrev pub named : List ℕ → NamedRef
named name = ref_of name (branch_to 1)

abbrev pub partition_file : ℕ → ℕ → Update
partition_file id size = SetStatistics PartitionStatistics (attached id size)

abbrev pub backwards : {A : Type 0} → List A → List A
backwards [] = []
backwards (x ∷ xs) = backwards xs ++ (x ∷ [])

-- version 1, with something in every part and in every table
abbrev pub stocked : Metadata
stocked =
    record {
      fields = record {
        version = 1;
        uuid = replicate 16 1;
        location = 116 ∷ [];
        last_updated = pos 450000;
        last_sequence = record { 0 = pos 5 };
        next_row = record { 0 = 7 };
        last_column = pos 9;
        current = some (pos 1);
        current_schema = pos 1;
        default_order = pos 1;
        default_spec = pos 1;
        last_partition = pos 1000;
      };
      snapshots = snap 1 none 1 (pos 100000) ∷ snap 2 none 2 (pos 200000) ∷ [];
      refs = named draft ∷ named main_name ∷ [];
      snapshot_log = entry 1 100000 ∷ [];
      metadata_log = file 97 1 ∷ [];
      schemas = schema_of 1 0 ∷ schema_of 2 1 ∷ schema_with (long_field 2 ∷ long_field 3 ∷ []) 2 ∷ [];
      orders = unordered 0 ∷ order_of 2 1 ∷ order_by 2 (by (pos 2) 1 0 ∷ []) ∷ [];
      statistics = attached 1 1 ∷ [];
      partition_statistics = attached 2 2 ∷ [];
      specs = unpartitioned ∷ spec_of 1 (partition 2 1000 identity 0 (112 ∷ []) ∷ []) ∷ spec_of 2 [] ∷ [];
    }

-- an update of each kind that is office 1's alone
abbrev pub kept_for_first : List Update
kept_for_first =
    AssignUuid (replicate 16 2)
    ∷ UpgradeFormatVersion 2
    ∷ SetLocation (117 ∷ [])
    ∷ AddSchema (offer_of 10 3)
    ∷ SetCurrentSchema (pos 2)
    ∷ RemoveSchemas (pos 0 ∷ [])
    ∷ AddSortOrder (order_by 3 (by (pos 2) 0 1 ∷ []))
    ∷ SetDefaultSortOrder (pos 2)
    ∷ AddPartitionSpec (spec_from 16 (some (pos 1000) ∷ []) 3)
    ∷ SetDefaultPartitionSpec (pos 2)
    ∷ RemovePartitionSpecs (pos 0 ∷ [])
    ∷ []

-- updates of every part and table but the statistics files that are there, in such a way that their order changes nothing
abbrev pub restocking : List Update
restocking = kept_for_first ++ (adding 6 500000 ∷ to_main 2 ∷ attaching 3 3 ∷ partition_file 3 4 ∷ [])

-- what they make of it, with the current file `d`
abbrev pub restocked : Metadata
restocked =
    record {
      fields = record {
        version = 2;
        uuid = replicate 16 2;
        location = 117 ∷ [];
        last_updated = pos 500000;
        last_sequence = record { 0 = pos 6 };
        next_row = record { 0 = 7 };
        last_column = pos 10;
        current = some (pos 2);
        current_schema = pos 2;
        default_order = pos 2;
        default_spec = pos 2;
        last_partition = pos 1000;
      };
      snapshots = snap 1 none 1 (pos 100000) ∷ snap 2 none 2 (pos 200000) ∷ snap 6 none 6 (pos 500000) ∷ [];
      refs = named draft ∷ main_at 2;
      snapshot_log = entry 1 100000 ∷ entry 2 500000 ∷ [];
      metadata_log = file 97 1 ∷ file 100 450000 ∷ [];
      schemas = schema_of 2 1 ∷ schema_with (long_field 2 ∷ long_field 3 ∷ []) 2 ∷ schema_of 10 3 ∷ [];
      orders = unordered 0 ∷ order_of 2 1 ∷ order_by 2 (by (pos 2) 1 0 ∷ []) ∷ order_by 3 (by (pos 2) 0 1 ∷ []) ∷ [];
      statistics = attached 1 1 ∷ attached 3 3 ∷ [];
      partition_statistics = attached 2 2 ∷ attached 3 4 ∷ [];
      specs = spec_of 1 (partition 2 1000 identity 0 (112 ∷ []) ∷ []) ∷ spec_of 2 [] ∷ spec_of 3 (partition 2 1000 identity 0 (119 ∷ []) ∷ []) ∷ [];
    }

-- the order of no fields under id 0, and else one of so many
abbrev pub order_at : ℕ → ℕ → SortOrder
order_at fields zero = unordered 0
order_at fields (suc id) = order_by (suc id) (replicate fields (by (pos 1) 1 1))

-- so many snapshots, refs, entries of both logs, schemas, fields of each, sort orders, fields of each but the first, statistics files, partition ones.
-- Schemas and orders of equal fields have several ids; each file has the size 0
abbrev pub crowded : ℕ → ℕ → ℕ → ℕ → ℕ → ℕ → ℕ → ℕ → ℕ → ℕ → Metadata
crowded snapshots refs log files schemas fields orders sort_fields statistics partition =
    with_snapshots (many snapshots (λ (i : ℕ). snap i none i (pos 0)))
    (with_refs (many refs (λ (i : ℕ). ref_of (i ∷ []) (branch_to 0)))
    (with_snapshot_log (replicate log (entry 0 0))
    (with_metadata_log (replicate files (file 97 0))
    (with_schemas (many schemas (schema_with (many fields (λ (i : ℕ). long_field (suc i)))))
    (with_orders (many orders (order_at sort_fields))
    (with_statistics Statistics (many statistics (λ (i : ℕ). attached i 0))
    (with_statistics PartitionStatistics (many partition (λ (i : ℕ). attached i 0)) (empty 2 0 (pos 0) []))))))))

-- one update of each kind, both tables of statistics files, and one that is not formed and counts 5
abbrev pub one_of_each : List Update
one_of_each =
    AssignUuid []
    ∷ UpgradeFormatVersion 2
    ∷ SetLocation []
    ∷ adding 4 0
    ∷ SetBranchSnapshot draft (snap 4 none 4 (pos 0))
    ∷ RemoveSnapshots []
    ∷ to_draft 4
    ∷ RemoveRef draft
    ∷ AddSchema (offer_of 1 0)
    ∷ SetCurrentSchema (pos 0)
    ∷ RemoveSchemas []
    ∷ AddSortOrder (unordered 0)
    ∷ SetDefaultSortOrder (pos 0)
    ∷ attaching 1 1
    ∷ RemoveStatistics PartitionStatistics (pos 1)
    ∷ adding_spec 0 1 0
    ∷ SetDefaultPartitionSpec (pos 0)
    ∷ RemovePartitionSpecs []
    ∷ NotFormed 5
    ∷ []

-- a name of the current file, and the limit `200`
abbrev pub file_named : List ℕ → Terms
file_named name = record { clock = pos 500000; tolerance = default_tolerance; file = some name; limit = some (50 ∷ 48 ∷ 48 ∷ []); office = 1; offers = offers }

-- version 3 and next row id 9, with these snapshots
abbrev pub with_rows : List Snapshot → Metadata
with_rows snapshots = register 3 2 9 (pos 0) snapshots none [] [] []

-- ---- two offices

-- the number that an update gets alone
abbrev pub number_in : Outcome → ℕ
number_in (Refused number place) = number
number_in (Accepted m log expired) = 0

abbrev pub number_of : Terms → Metadata → Update → ℕ
number_of terms m u = number_in (run terms m (u ∷ []))

-- the name `e`
abbrev pub extra : List ℕ
extra = 101 ∷ []

-- `three` with `d` as a ref of an office
abbrev pub drafted : ℕ → Reference → Metadata
drafted office r = with_refs (owned office draft r ∷ main_at 3) three

-- a ref of some name is set, gets a commit, and is removed
abbrev pub touching : List ℕ → List Update
touching name = SetRef name (branch_to 2) ∷ SetBranchSnapshot name (snap 4 none 6 (pos 400000)) ∷ RemoveRef name ∷ []

-- updates that change nothing of `three`
abbrev pub idle : List Update
idle =
    AssignUuid three.fields.uuid
    ∷ UpgradeFormatVersion 2
    ∷ SetLocation (116 ∷ [])
    ∷ SetCurrentSchema (pos 0)
    ∷ RemoveSchemas []
    ∷ SetDefaultSortOrder (pos 0)
    ∷ SetDefaultPartitionSpec (pos 0)
    ∷ RemovePartitionSpecs []
    ∷ []

-- updates that `three` refuses
abbrev pub refused : List Update
refused =
    UpgradeFormatVersion 1
    ∷ SetCurrentSchema (negsuc 0)
    ∷ SetCurrentSchema (pos 7)
    ∷ RemoveSchemas (pos 0 ∷ [])
    ∷ AddSortOrder (order_of 2 0)
    ∷ SetDefaultSortOrder (pos 7)
    ∷ adding_spec 13 1 0
    ∷ SetDefaultPartitionSpec (pos 7)
    ∷ RemovePartitionSpecs (pos 0 ∷ [])
    ∷ []

-- updates that are not well formed, or whose offers are not
abbrev pub unformed : List Update
unformed =
    UpgradeFormatVersion 4
    ∷ SetBranchSnapshot main_name (snap 4 (some (negsuc 0)) 6 (pos 400000))
    ∷ RemoveSnapshots (pos 3 ∷ negsuc 0 ∷ [])
    ∷ SetRef main_name (keeping (pos 3) 3 none none none)
    ∷ AddSchema (record { id = negsuc 0; at = 0; count = 1 })
    ∷ AddSchema (offer_from 33 1 0)
    ∷ AddPartitionSpec (record { id = negsuc 0; at = 53 * field_bytes; ids = [] })
    ∷ adding_spec 24 1 0
    ∷ []

-- 1, 2 and 3, each the parent of the next; 4 and 5, each the parent of the other; 6, whose parent 9 is not held. No history; the refs
abbrev pub related : List NamedRef → Metadata
related refs =
    register 2 6 0 (pos 0)
    (snap 1 none 1 (pos 0) ∷ snap 2 (some (pos 1)) 2 (pos 0) ∷ snap 3 (some (pos 2)) 3 (pos 0) ∷ snap 4 (some (pos 5)) 4 (pos 0) ∷ snap 5 (some (pos 4)) 5 (pos 0) ∷ snap 6 (some (pos 9)) 6 (pos 0) ∷ [])
    none refs [] []

-- the numbers that the removals of each of these alone, and of 9, get
abbrev pub removals : Terms → Metadata → List ℕ
removals terms m = map (λ (id : ℤ). number_of terms m (RemoveSnapshots (id ∷ []))) (pos 1 ∷ pos 2 ∷ pos 3 ∷ pos 4 ∷ pos 5 ∷ pos 6 ∷ pos 9 ∷ [])

-- no snapshot is held, and the history has one
abbrev pub lost : Metadata
lost = register 2 0 0 (pos 0) [] none [] (entry 0 0 ∷ []) []

-- 4 comes and goes
abbrev pub passing : List Update
passing = adding 4 400000 ∷ RemoveSnapshots (pos 4 ∷ []) ∷ []

-- so many snapshots, from 0 on, each the parent of the next
abbrev pub before : ℕ → Option ℤ
before zero = none
before (suc n) = some (pos n)

abbrev pub line : ℕ → List Snapshot
line n = many n (λ (i : ℕ). snap i (before i) i (pos 0))

-- ---- the examples

pub record Example : Type 0 where
  pub asked : Question
  pub reply : Reply

abbrev pub ◌gives◌ : Question → Reply → Example
q gives r = record { asked = q; reply = r }

infix 20 ◌gives◌
abbrev pub examples : List Example
examples =
    -- P1: last entry 100000, time 40000 passes 7; 39999 does not
    (OfRun AtSequence terms first (AddSnapshot (snap 2 (some (pos 1)) 2 (pos 40000)) ∷ []) gives Sequence (record { 0 = pos 2 }))
    ∷ (OfRun AtSequence terms first (AddSnapshot (snap 2 (some (pos 1)) 2 (pos 39999)) ∷ []) gives Refusal 7 0)
    -- P2: version 2, last 5: number 5 with parent is 6; parentless 3 is accepted and last becomes 3
    ∷ (OfRun AtSequence terms three (AddSnapshot (snap 4 (some (pos 3)) 5 (pos 400000)) ∷ []) gives Refusal 6 0)
    ∷ (OfRun AtSequence terms three (AddSnapshot (snap 4 none 3 (pos 400000)) ∷ []) gives Sequence (record { 0 = pos 3 }))
    -- P3: history 1, 2, 3, current 3, remove 2: only 3 stays
    ∷ (OfRun AtHistory terms three (RemoveSnapshots (pos 2 ∷ []) ∷ []) gives History (entry 3 300000 ∷ []))
    -- P4: remove 3 instead: 21 at place 1
    ∷ (OfRun AtHistory terms three (RemoveSnapshots (pos 3 ∷ []) ∷ []) gives Refusal 21 1)
    -- P5: add 4 and 5, `main` to 4, then 5: 4 has no entry
    ∷ (OfRun AtHistory terms three
    (AddSnapshot (snap 4 (some (pos 3)) 6 (pos 400000)) ∷ AddSnapshot (snap 5 (some (pos 4)) 7 (pos 410000)) ∷ to_main 4 ∷ to_main 5 ∷ [])
    gives History (entry 1 100000 ∷ entry 2 200000 ∷ entry 3 300000 ∷ entry 5 410000 ∷ []))
    -- P6: version 3, next row id 10: first 10, added 18446744073709551605 accepted, ..606 gives 11; first 9 gives 9
    ∷ (OfRun AtNextRow terms (empty 3 10 (pos 0) []) (AddSnapshot (snap_rows 1 10 18446744073709551605) ∷ []) gives NextRow (record { 0 = 18446744073709551615 }))
    ∷ (OfRun AtNextRow terms (empty 3 10 (pos 0) []) (AddSnapshot (snap_rows 1 10 18446744073709551606) ∷ []) gives Refusal 11 0)
    ∷ (OfRun AtNextRow terms (empty 3 10 (pos 0) []) (AddSnapshot (snap_rows 1 9 1) ∷ []) gives Refusal 9 0)
    -- P7: limits `0`, `+5`, empty, ` 5`, `18446744073709551616`: 1, 5, 100, 100, 100
    ∷ (OfLimit (some (48 ∷ [])) gives Limit 1)
    ∷ (OfLimit (some (43 ∷ 53 ∷ [])) gives Limit 5)
    ∷ (OfLimit (some []) gives Limit 100)
    ∷ (OfLimit (some (32 ∷ 53 ∷ [])) gives Limit 100)
    ∷ (OfLimit (some (49 ∷ 56 ∷ 52 ∷ 52 ∷ 54 ∷ 55 ∷ 52 ∷ 52 ∷ 48 ∷ 55 ∷ 51 ∷ 55 ∷ 48 ∷ 57 ∷ 53 ∷ 53 ∷ 49 ∷ 54 ∷ 49 ∷ 54 ∷ [])) gives Limit 100)
    -- P8: three metadata entries, limit 2, one joins: two oldest expire
    ∷ (OfRun AtFiles file_terms (empty 2 0 (pos 9000) (file 97 1 ∷ file 98 2 ∷ file 99 3 ∷ [])) []
    gives Files (file 97 1 ∷ file 98 2 ∷ []) (file 99 3 ∷ file 100 9000 ∷ []))
    -- P9: parents 3, 2, 1: between 3 and 1 gives 3, 2; between 3 and 3 nothing
    ∷ (OfWalk (pos 1 ∷ pos 2 ∷ pos 3 ∷ []) (negsuc 0 ∷ pos 1 ∷ pos 2 ∷ []) (pos 3) (some (pos 1)) gives Walked (Listed (pos 3 ∷ pos 2 ∷ [])))
    ∷ (OfWalk (pos 1 ∷ pos 2 ∷ pos 3 ∷ []) (negsuc 0 ∷ pos 1 ∷ pos 2 ∷ []) (pos 3) (some (pos 3)) gives Walked (Listed []))
    -- P9 over records: the same answer
    ∷ (OfRecords three.snapshots (pos 3) (some (pos 1)) gives Walked (Listed (pos 3 ∷ pos 2 ∷ [])))
    -- P10: removing unknown schema 7 logs an empty removal; its replay logs none
    ∷ (OfRun AtLog terms three (RemoveSchemas (pos 7 ∷ []) ∷ []) gives Log (RemoveSchemas [] ∷ []))
    ∷ (OfReplay AtLog terms three (RemoveSchemas (pos 7 ∷ []) ∷ []) gives Log [])
    -- P11: remove current S, add S again, set no ref: 22
    ∷ (OfRun AtHistory terms three (RemoveSnapshots (pos 3 ∷ []) ∷ AddSnapshot (snap 3 (some (pos 2)) 6 (pos 400000)) ∷ []) gives Refusal 22 2)
    -- P12: metadata last update -100000, empty log: time -60000 accepted, -60001 gives 8
    ∷ (OfRun AtUpdated terms (empty 2 0 (negsuc 99999) []) (AddSnapshot (snap 1 none 1 (negsuc 59999)) ∷ []) gives Updated (negsuc 59999))
    ∷ (OfRun AtUpdated terms (empty 2 0 (negsuc 99999) []) (AddSnapshot (snap 1 none 1 (negsuc 60000)) ∷ []) gives Refusal 8 0)
    -- Easy wrong turns, by name.
    -- removal asked: it is not logged, so the snapshot log stays, also before a missing snapshot
    ∷ (OfRun AtHistory terms gapped (RemoveSnapshots (pos 9 ∷ []) ∷ []) gives History (entry 2 50000 ∷ entry 1 100000 ∷ []))
    ∷ (OfRun AtLog terms gapped (RemoveSnapshots (pos 9 ∷ []) ∷ []) gives Log [])
    -- log's end: nothing was rebuilt, so it is not checked, whether the snapshot of its last entry is held or not
    ∷ (OfRun AtHistory terms (with_snapshot_log (entry 3 300000 ∷ entry 1 400000 ∷ []) three) [] gives History (entry 3 300000 ∷ entry 1 400000 ∷ []))
    ∷ (OfRun AtHistory terms astray [] gives History (entry 1 100000 ∷ entry 2 50000 ∷ []))
    -- -1: it is logged for the id of the last added schema
    ∷ (OfRun AtLog terms three (AddSchema (offer_of 2 0) ∷ SetCurrentSchema (pos 1) ∷ []) gives Log (AddSchema (offer_of 2 1) ∷ SetCurrentSchema (negsuc 0) ∷ []))
    -- equal ref: it does not raise the last update
    ∷ (OfRun AtUpdated terms three
    (AddSnapshot (snap 4 (some (pos 3)) 6 (pos 420000)) ∷ to_draft 4 ∷ AddSnapshot (snap 5 (some (pos 4)) 7 (pos 410000)) ∷ to_draft 4 ∷ [])
    gives Updated (pos 410000))
    -- Clauses that no P shows, by name, in the order of document 01.
    -- two currents: `main` names another snapshot than the current one
    ∷ (OfRun AtHistory terms (two_held (some (pos 1)) (main_at 2)) [] gives Refusal 1 0)
    -- main alone: `main` is there, and no current snapshot. 1 comes before 2
    ∷ (OfRun AtHistory terms (two_held none (main_at 1)) (replicate 65 (RemoveSnapshots [])) gives Refusal 1 0)
    -- sum: 64 updates pass, 65 do not; 33 branch commits count 66, which is asked before any of them
    ∷ (OfRun AtLog terms three (replicate 64 (RemoveSnapshots [])) gives Log [])
    ∷ (OfRun AtLog terms three (replicate 65 (RemoveSnapshots [])) gives Refusal 2 0)
    ∷ (OfRun AtLog terms three (replicate 33 (SetBranchSnapshot draft (snap 3 none 3 (pos 400000)))) gives Refusal 2 0)
    -- first refusal: it ends the run, and the place is its own
    ∷ (OfRun AtLog terms three (adding 4 400000 ∷ adding 4 400000 ∷ to_main 9 ∷ []) gives Refusal 5 1)
    -- not formed: a parent below 0 is 3, before the 5 of a held id
    ∷ (OfRun AtLog terms three (AddSnapshot (snap 3 (some (negsuc 0)) 6 (pos 400000)) ∷ []) gives Refusal 3 0)
    -- place of a close: the number of updates, not their sum
    ∷ (OfRun AtHistory terms three (SetBranchSnapshot draft (snap 4 none 4 (pos 400000)) ∷ RemoveSnapshots (pos 3 ∷ []) ∷ []) gives Refusal 21 2)
    -- exact: neither a difference nor a sum of times wraps around
    ∷ (OfRun AtUpdated terms (empty 2 0 (pos 9223372036854775807) []) (AddSnapshot (snap 1 none 1 (negsuc 1)) ∷ []) gives Refusal 8 0)
    ∷ (OfRun AtUpdated terms (empty 2 0 (pos 100000) []) (adding 1 9223372036854775807 ∷ []) gives Updated (pos 9223372036854775807))
    -- as given: logged as given, a removal with the held ids; refs to missing snapshots go unlogged
    ∷ (OfRun AtLog terms three (AddSnapshot (snap 4 none 6 (pos 400000)) ∷ to_draft 4 ∷ RemoveSnapshots (pos 9 ∷ pos 4 ∷ []) ∷ [])
    gives Log (AddSnapshot (snap 4 none 6 (pos 400000)) ∷ to_draft 4 ∷ RemoveSnapshots (pos 4 ∷ []) ∷ []))
    -- equal fields: the uuid, the location once it is trimmed, and the version are those that are held
    ∷ (OfRun AtLog terms three (AssignUuid three.fields.uuid ∷ SetLocation (116 ∷ 47 ∷ 47 ∷ []) ∷ UpgradeFormatVersion 2 ∷ []) gives Log [])
    -- trimmed: slashes come off at the end alone
    ∷ (OfRun AtLog terms three (SetLocation (47 ∷ 117 ∷ 47 ∷ 47 ∷ []) ∷ []) gives Log (SetLocation (47 ∷ 117 ∷ []) ∷ []))
    -- version lowered: it is refused
    ∷ (OfRun AtLog terms three (UpgradeFormatVersion 1 ∷ []) gives Refusal 4 0)
    -- reaching 2: next row id stays
    ∷ (OfRun AtNextRow terms (empty 1 10 (pos 0) []) (UpgradeFormatVersion 2 ∷ []) gives NextRow (record { 0 = 10 }))
    -- reaching 3: next row id becomes 0, so that rows 0 to 3 are given out again
    ∷ (OfRun AtSnapshots terms (ranged 2 4) (UpgradeFormatVersion 3 ∷ AddSnapshot (snap_rows 2 0 4) ∷ []) gives Snapshots (snap_rows 1 0 4 ∷ snap_rows 2 0 4 ∷ []))
    -- order of checks: each of these snapshots fails at the number that it gets and at all that come later in 5, 6, 7, 8, 10; the last at 9 and 11
    ∷ (OfRun AtLog terms three (UpgradeFormatVersion 3 ∷ AddSnapshot (snap 3 (some (pos 2)) 5 (pos 0)) ∷ []) gives Refusal 5 1)
    ∷ (OfRun AtLog terms three (UpgradeFormatVersion 3 ∷ AddSnapshot (snap 4 (some (pos 2)) 5 (pos 0)) ∷ []) gives Refusal 6 1)
    ∷ (OfRun AtLog terms three (UpgradeFormatVersion 3 ∷ AddSnapshot (snap 4 none 5 (pos 0)) ∷ []) gives Refusal 7 1)
    ∷ (OfRun AtLog terms (empty 3 0 (pos 100000) []) (adding 1 0 ∷ []) gives Refusal 8 0)
    ∷ (OfRun AtLog terms (empty 3 0 (pos 100000) []) (adding 1 100000 ∷ []) gives Refusal 10 0)
    ∷ (OfRun AtLog terms (empty 3 10 (pos 0) []) (AddSnapshot (snap_rows 1 9 18446744073709551615) ∷ []) gives Refusal 9 0)
    -- version 1: the sequence number is not checked
    ∷ (OfRun AtSequence terms (register 1 5 0 (pos 0) [] none [] [] []) (AddSnapshot (snap 1 (some (pos 0)) 5 (pos 0)) ∷ []) gives Sequence (record { 0 = pos 5 }))
    -- last entry: a time is held against the log's last entry, not its first
    ∷ (OfRun AtUpdated terms three (adding 4 239999 ∷ []) gives Refusal 7 0)
    -- last update: metadata's, also where the run's own is lower; and the run's own, where that is larger
    ∷ (OfRun AtUpdated terms (empty 2 0 (pos 100000) []) (adding 1 39999 ∷ []) gives Refusal 8 0)
    ∷ (OfRun AtUpdated terms (empty 2 0 (pos 100000) []) (adding 1 40000 ∷ adding 2 39999 ∷ []) gives Refusal 8 1)
    ∷ (OfRun AtUpdated terms (empty 2 0 (pos 0) []) (adding 1 100000 ∷ adding 2 39999 ∷ []) gives Refusal 8 1)
    -- gap: a range that starts above next row id takes it along, so that none can start within that range or before it
    ∷ (OfRun AtNextRow terms (empty 3 0 (pos 0) []) (AddSnapshot (snap_rows 1 100 50) ∷ []) gives NextRow (record { 0 = 150 }))
    ∷ (OfRun AtNextRow terms (empty 3 0 (pos 0) []) (AddSnapshot (snap_rows 1 100 50) ∷ AddSnapshot (snap_rows 2 50 1) ∷ []) gives Refusal 9 1)
    ∷ (OfRun AtNextRow terms (empty 3 0 (pos 0) []) (AddSnapshot (snap_rows 1 100 50) ∷ AddSnapshot (snap_rows 2 150 1) ∷ []) gives NextRow (record { 0 = 151 }))
    -- no rows: an empty range takes next row id along too
    ∷ (OfRun AtNextRow terms (empty 3 0 (pos 0) []) (AddSnapshot (snap_rows 1 100 0) ∷ []) gives NextRow (record { 0 = 100 }))
    -- held rows: next row id stands in no relation to the ranges that are held, so rows 0 to 3 are given out again
    ∷ (OfRun AtSnapshots terms (ranged 3 0) (AddSnapshot (snap_rows 2 0 4) ∷ []) gives Snapshots (snap_rows 1 0 4 ∷ snap_rows 2 0 4 ∷ []))
    -- range's end: it may be 2^64 - 1, and not more
    ∷ (OfRun AtNextRow terms (empty 3 0 (pos 0) []) (AddSnapshot (snap_rows 1 18446744073709551615 0) ∷ []) gives NextRow (record { 0 = 18446744073709551615 }))
    ∷ (OfRun AtNextRow terms (empty 3 0 (pos 0) []) (AddSnapshot (snap_rows 1 18446744073709551615 1) ∷ []) gives Refusal 11 0)
    -- rows below 3: neither 9 nor 11 is asked, and next row id stays
    ∷ (OfRun AtNextRow terms (empty 2 10 (pos 0) []) (AddSnapshot (snap_rows 1 9 18446744073709551615) ∷ []) gives NextRow (record { 0 = 10 }))
    -- equal main: nothing at all
    ∷ (OfRun AtLog terms three (to_main 3 ∷ []) gives Log [])
    -- other retention: the ref is not equal, so `main` gets an entry
    ∷ (OfRun AtHistory terms three (SetRef main_name (keeping_to 3) ∷ []) gives History (entry 1 100000 ∷ entry 2 200000 ∷ entry 3 300000 ∷ entry 3 500000 ∷ []))
    -- ref not held: a ref to a snapshot that is not held is refused
    ∷ (OfRun AtLog terms three (to_main 9 ∷ []) gives Refusal 12 0)
    -- no addition: a ref to a snapshot that this run did not add leaves the last update
    ∷ (OfRun AtUpdated terms three (adding 4 400000 ∷ to_draft 3 ∷ []) gives Updated (pos 400000))
    -- ref's time: a ref to one that it did add makes its time the last update, also where another was added since
    ∷ (OfRun AtUpdated terms three (adding 4 420000 ∷ adding 5 410000 ∷ to_main 4 ∷ []) gives Updated (pos 420000))
    -- clock kept: `main` makes the clock the run's last update, against which 8 is checked
    ∷ (OfRun AtUpdated (clock_at (negsuc 199999)) unnamed (to_main 1 ∷ AddSnapshot (snap 2 none 2 (negsuc 149999)) ∷ []) gives Updated (negsuc 149999))
    -- clock not taken: the run has a last update already
    ∷ (OfRun AtUpdated terms three (adding 4 400000 ∷ to_main 4 ∷ []) gives Updated (pos 400000))
    -- far back: the clock is checked against nothing, so the history's times step back by any amount
    ∷ (OfRun AtHistory (clock_at (pos 0)) three (to_main 1 ∷ []) gives History (entry 1 100000 ∷ entry 2 200000 ∷ entry 3 300000 ∷ entry 1 0 ∷ []))
    -- commit: two log entries, and a new ref is a branch that keeps nothing
    ∷ (OfRun AtLog terms three (SetBranchSnapshot draft (snap 4 none 4 (pos 400000)) ∷ []) gives Log (adding 4 400000 ∷ to_draft 4 ∷ []))
    -- commit keeps: a ref that is there keeps its retention
    ∷ (OfRun AtLog terms three (SetRef draft (keeping_to 3) ∷ SetBranchSnapshot draft (snap 4 none 4 (pos 400000)) ∷ [])
    gives Log (SetRef draft (keeping_to 3) ∷ adding 4 400000 ∷ SetRef draft (keeping_to 4) ∷ []))
    -- commit on a tag: 13, before the addition's 5
    ∷ (OfRun AtLog terms three (SetRef draft (tag_to 3) ∷ SetBranchSnapshot draft (snap 3 none 3 (pos 400000)) ∷ []) gives Refusal 13 1)
    -- table order: of the ids that a removal logs, whatever the order asked for
    ∷ (OfRun AtLog terms three (RemoveSnapshots (pos 2 ∷ pos 1 ∷ []) ∷ []) gives Log (RemoveSnapshots (pos 1 ∷ pos 2 ∷ []) ∷ []))
    -- absent refs: of the removals of `mai`, `mains` and `main` the last is logged
    ∷ (OfRun AtLog terms (empty 2 0 (pos 0) []) (RemoveRef (109 ∷ 97 ∷ 105 ∷ []) ∷ RemoveRef (109 ∷ 97 ∷ 105 ∷ 110 ∷ 115 ∷ []) ∷ RemoveRef main_name ∷ []) gives Log (RemoveRef main_name ∷ []))
    -- schema ids: highest + 1, whatever was offered; removed in table order
    ∷ (OfRun AtLog terms three (AddSchema (offer_of 2 7) ∷ AddSchema (offer_of 3 7) ∷ RemoveSchemas (pos 1 ∷ []) ∷ AddSchema (offer_of 4 7) ∷ RemoveSchemas (pos 3 ∷ pos 2 ∷ []) ∷ [])
    gives Log (AddSchema (offer_of 2 1) ∷ AddSchema (offer_of 3 2) ∷ RemoveSchemas (pos 1 ∷ []) ∷ AddSchema (offer_of 4 3) ∷ RemoveSchemas (pos 2 ∷ pos 3 ∷ []) ∷ []))
    -- schema reused: logged as offered, not again while it is the last added, and -1 stands for it
    ∷ (OfRun AtLog terms three (AddSchema (offer_of 1 9) ∷ AddSchema (offer_of 1 8) ∷ SetCurrentSchema (negsuc 0) ∷ []) gives Log (AddSchema (offer_of 1 9) ∷ []))
    -- unequal fields: field 1 under another name, and as a timestamp, makes a new schema; a name that another schema has does too
    ∷ (OfRun AtLog terms three (AddSchema (offer_from 45 1 0) ∷ AddSchema (offer_from 44 1 0) ∷ AddSchema (offer_from 46 1 0) ∷ [])
    gives Log (AddSchema (offer_from 45 1 1) ∷ AddSchema (offer_from 44 1 2) ∷ AddSchema (offer_from 46 1 3) ∷ []))
    -- last column: raised to a new schema's highest field id, and not lowered
    ∷ (OfRun AtColumn terms three (AddSchema (offer_of 9 0) ∷ AddSchema (offer_of 4 0) ∷ []) gives Column (pos 9))
    -- schema by id: one that is not the last added
    ∷ (OfRun AtLog terms three (AddSchema (offer_of 2 0) ∷ AddSchema (offer_of 3 0) ∷ SetCurrentSchema (pos 1) ∷ [])
    gives Log (AddSchema (offer_of 2 1) ∷ AddSchema (offer_of 3 2) ∷ SetCurrentSchema (pos 1) ∷ []))
    -- nothing added: -1 stands for nothing
    ∷ (OfRun AtLog terms three (SetCurrentSchema (negsuc 0) ∷ []) gives Refusal 14 0)
    ∷ (OfRun AtLog terms three (SetDefaultSortOrder (negsuc 0) ∷ []) gives Refusal 14 0)
    -- unknown id: also that of -1, where the last added is gone again
    ∷ (OfRun AtLog terms three (SetDefaultSortOrder (pos 7) ∷ []) gives Refusal 15 0)
    ∷ (OfRun AtLog terms three (AddSchema (offer_of 2 0) ∷ RemoveSchemas (pos 1 ∷ []) ∷ SetCurrentSchema (negsuc 0) ∷ []) gives Refusal 15 2)
    -- current schema: a removal list that names it is refused
    ∷ (OfRun AtLog terms three (RemoveSchemas (pos 7 ∷ pos 0 ∷ []) ∷ []) gives Refusal 16 0)
    -- order ids: a new order and a reused one are logged with their final ids; the reused one again, and the same default again, are not logged
    ∷ (OfRun AtLog terms three (AddSortOrder (order_of 1 7) ∷ SetDefaultSortOrder (pos 1) ∷ AddSortOrder (unordered 7) ∷ AddSortOrder (unordered 8) ∷ SetDefaultSortOrder (pos 1) ∷ [])
    gives Log (AddSortOrder (order_of 1 1) ∷ SetDefaultSortOrder (negsuc 0) ∷ AddSortOrder (unordered 0) ∷ []))
    -- field not there: a new order names a field that the current schema has not
    ∷ (OfRun AtLog terms three (AddSortOrder (order_of 2 0) ∷ []) gives Refusal 17 0)
    -- order unfit: the default order names such a field at the close; 20 comes before 21
    ∷ (OfRun AtLog terms three (AddSortOrder (order_of 1 0) ∷ SetDefaultSortOrder (negsuc 0) ∷ AddSchema (offer_of 2 0) ∷ SetCurrentSchema (negsuc 0) ∷ RemoveSnapshots (pos 3 ∷ []) ∷ [])
    gives Refusal 20 5)
    -- clock back: last update becomes the clock, even if that goes back
    ∷ (OfRun AtUpdated terms (empty 2 0 (pos 900000) []) [] gives Updated (pos 500000))
    -- not added: 2 was current in the middle of the run, but the run did not add it, so its entry stays
    ∷ (OfRun AtHistory terms three (to_main 2 ∷ to_main 3 ∷ []) gives History (entry 1 100000 ∷ entry 2 200000 ∷ entry 3 300000 ∷ entry 2 500000 ∷ entry 3 500000 ∷ []))
    -- never main: the run added 2 and set another ref to it, so 2 is not intermediate and the log stays
    ∷ (OfRun AtHistory terms gapped (adding 2 400000 ∷ to_draft 2 ∷ []) gives History (entry 2 50000 ∷ entry 1 100000 ∷ []))
    -- removal too: intermediate entries go also where a removal is logged
    ∷ (OfRun AtHistory terms three (RemoveSnapshots (pos 1 ∷ []) ∷ adding 4 400000 ∷ adding 5 410000 ∷ to_main 4 ∷ to_main 5 ∷ [])
    gives History (entry 2 200000 ∷ entry 3 300000 ∷ entry 5 410000 ∷ []))
    -- missing entry: with an intermediate snapshot and no removal the missing entry alone goes. At 250000 it was 2, and is now 1: the history was not whole
    ∷ (OfRun AtHistory terms holed over_four gives History (entry 1 100000 ∷ entry 3 300000 ∷ entry 5 410000 ∷ []))
    ∷ (OfWhole holed gives Whole false)
    ∷ (OfRun AtRemovedAndAdded terms holed over_four gives RemovedAndAdded false)
    ∷ (OfMoment (pos 250000) holed.snapshot_log gives Current (some (entry 2 200000)) 2)
    ∷ (OfRun (AtMoment (pos 250000)) terms holed over_four gives Current (some (entry 1 100000)) 3)
    -- added again: 2 is held at the close and intermediate, so its old entry goes too. At 250000 it was 2, and is now 1: the history was whole, but the log both removes and adds 2
    ∷ (OfRun AtHistory terms three over_two_again gives History (entry 1 100000 ∷ entry 3 300000 ∷ entry 5 410000 ∷ []))
    ∷ (OfWhole three gives Whole true)
    ∷ (OfRun AtRemovedAndAdded terms three over_two_again gives RemovedAndAdded true)
    ∷ (OfMoment (pos 250000) three.snapshot_log gives Current (some (entry 2 200000)) 2)
    ∷ (OfRun (AtMoment (pos 250000)) terms three over_two_again gives Current (some (entry 1 100000)) 3)
    -- none current: the end of the history is not checked
    ∷ (OfRun AtHistory terms three (RemoveSnapshots (pos 3 ∷ []) ∷ RemoveRef main_name ∷ []) gives History [])
    -- no file: none joins the metadata log
    ∷ (OfRun AtFiles terms (empty 2 0 (pos 9000) (file 97 1 ∷ [])) [] gives Files [] (file 97 1 ∷ []))
    -- limits: no text, `++5`, `+`, `/`, `:`, 18446744073709551615: 100, 100, 100, 100, 100, 18446744073709551615
    ∷ (OfLimit none gives Limit 100)
    ∷ (OfLimit (some (43 ∷ 43 ∷ 53 ∷ [])) gives Limit 100)
    ∷ (OfLimit (some (43 ∷ [])) gives Limit 100)
    ∷ (OfLimit (some (47 ∷ [])) gives Limit 100)
    ∷ (OfLimit (some (58 ∷ [])) gives Limit 100)
    ∷ (OfLimit (some (49 ∷ 56 ∷ 52 ∷ 52 ∷ 54 ∷ 55 ∷ 52 ∷ 52 ∷ 48 ∷ 55 ∷ 51 ∷ 55 ∷ 48 ∷ 57 ∷ 53 ∷ 53 ∷ 49 ∷ 54 ∷ 49 ∷ 53 ∷ [])) gives Limit 18446744073709551615)
    -- whole walk: a parent of -1 ends it
    ∷ (OfWalk (pos 1 ∷ pos 2 ∷ pos 3 ∷ []) (negsuc 0 ∷ pos 1 ∷ pos 2 ∷ []) (pos 3) none gives Walked (Listed (pos 3 ∷ pos 2 ∷ pos 1 ∷ [])))
    -- unheld parent: it ends the walk, and is not listed
    ∷ (OfWalk (pos 2 ∷ pos 3 ∷ []) (pos 1 ∷ pos 2 ∷ []) (pos 3) none gives Walked (Listed (pos 3 ∷ pos 2 ∷ [])))
    -- unknown start: nothing is listed
    ∷ (OfWalk (pos 1 ∷ []) (negsuc 0 ∷ []) (pos 3) none gives Walked (Listed []))
    -- met twice: the walk comes back to its start
    ∷ (OfWalk (pos 1 ∷ pos 2 ∷ []) (pos 2 ∷ pos 1 ∷ []) (pos 1) none gives Walked Twice)
    -- bad lists: unequal lengths, equal ids, an id below 0
    ∷ (OfWalk (pos 1 ∷ []) [] (pos 1) none gives Walked Bad)
    ∷ (OfWalk (pos 1 ∷ pos 1 ∷ []) (negsuc 0 ∷ negsuc 0 ∷ []) (pos 1) none gives Walked Bad)
    ∷ (OfWalk (negsuc 0 ∷ []) (negsuc 0 ∷ []) (pos 1) none gives Walked Bad)
    -- no parent: a record without one ends the walk, though snapshot 0 is held
    ∷ (OfRecords (snap 0 none 0 (pos 0) ∷ snap 1 none 1 (pos 0) ∷ []) (pos 1) none gives Walked (Listed (pos 1 ∷ [])))
    -- Document 02, request (i), by name.
    -- added and removed: a snapshot that a run adds and then removes counts as both too
    ∷ (OfRun AtRemovedAndAdded terms three (adding 4 400000 ∷ RemoveSnapshots (pos 4 ∷ []) ∷ []) gives RemovedAndAdded true)
    ∷ (OfRun AtRemovedAndAdded terms three (adding 4 400000 ∷ RemoveSnapshots (pos 2 ∷ []) ∷ []) gives RemovedAndAdded false)
    -- moment: at an entry's time it is that entry, a millisecond earlier the one before it, and before the first it is none and all are read
    ∷ (OfMoment (pos 300000) three.snapshot_log gives Current (some (entry 3 300000)) 1)
    ∷ (OfMoment (pos 200000) three.snapshot_log gives Current (some (entry 2 200000)) 2)
    ∷ (OfMoment (pos 199999) three.snapshot_log gives Current (some (entry 1 100000)) 3)
    ∷ (OfMoment (pos 99999) three.snapshot_log gives Current none 3)
    -- moment of no entries: none, and 0 are read
    ∷ (OfMoment (pos 0) [] gives Current none 0)
    -- moment where times step back: order in the log decides, so at 0 it is the third entry of 0, 1, 0
    ∷ (OfMoment (pos 0) steps_back gives Current (some (entry 3 0)) 1)
    ∷ (OfMoment (negsuc 0) steps_back gives Current none 3)
    -- moment after a run: as before, an entry of this run, or none
    ∷ (OfRun (AtMoment (pos 250000)) terms three over_four gives Current (some (entry 2 200000)) 3)
    ∷ (OfRun (AtMoment (pos 410000)) terms three over_four gives Current (some (entry 5 410000)) 1)
    ∷ (OfRun (AtMoment (pos 250000)) terms three (RemoveSnapshots (pos 2 ∷ []) ∷ []) gives Current none 1)
    -- Document 02, request (v), by name.
    -- tolerance 0: the time of the last entry passes 7 and one before it does not; the time of the last update passes 8 and one before it does not
    ∷ (OfRun AtUpdated (tolerating (pos 0)) first (adding 2 100000 ∷ []) gives Updated (pos 100000))
    ∷ (OfRun AtUpdated (tolerating (pos 0)) first (adding 2 99999 ∷ []) gives Refusal 7 0)
    ∷ (OfRun AtUpdated (tolerating (pos 0)) (empty 2 0 (pos 100000) []) (adding 1 100000 ∷ []) gives Updated (pos 100000))
    ∷ (OfRun AtUpdated (tolerating (pos 0)) (empty 2 0 (pos 100000) []) (adding 1 99999 ∷ []) gives Refusal 8 0)
    -- an hour: the longest tolerance, for 7 and for 8
    ∷ (OfRun AtUpdated (tolerating (pos 3600000)) first (AddSnapshot (snap 2 none 2 (negsuc 3499999)) ∷ []) gives Updated (negsuc 3499999))
    ∷ (OfRun AtUpdated (tolerating (pos 3600000)) first (AddSnapshot (snap 2 none 2 (negsuc 3500000)) ∷ []) gives Refusal 7 0)
    ∷ (OfRun AtUpdated (tolerating (pos 3600000)) (empty 2 0 (pos 3700000) []) (adding 1 100000 ∷ []) gives Updated (pos 100000))
    ∷ (OfRun AtUpdated (tolerating (pos 3600000)) (empty 2 0 (pos 3700000) []) (adding 1 99999 ∷ []) gives Refusal 8 0)
    -- outside: one more than that, and one below 0, also where no update is there to use it
    ∷ (OfRun AtUpdated (tolerating (pos 3600001)) three [] gives Refusal 26 0)
    ∷ (OfRun AtUpdated (tolerating (negsuc 0)) three [] gives Refusal 26 0)
    -- order of 26: after 1 and 2, and before any update, here one that is not well formed
    ∷ (OfRun AtUpdated (tolerating (negsuc 0)) (two_held none (main_at 1)) [] gives Refusal 1 0)
    ∷ (OfRun AtUpdated (tolerating (negsuc 0)) three (replicate 65 (RemoveSnapshots [])) gives Refusal 2 0)
    ∷ (OfRun AtUpdated (tolerating (negsuc 0)) three (RemoveSnapshots [] ∷ AddSnapshot (snap 4 (some (negsuc 0)) 6 (pos 400000)) ∷ []) gives Refusal 26 0)
    -- commit tolerated: a branch commit follows the tolerance too
    ∷ (OfRun AtLog (tolerating (pos 1)) first (SetBranchSnapshot draft (snap 2 none 2 (pos 99999)) ∷ []) gives Log (adding 2 99999 ∷ to_draft 2 ∷ []))
    ∷ (OfRun AtLog (tolerating (pos 0)) first (SetBranchSnapshot draft (snap 2 none 2 (pos 99999)) ∷ []) gives Refusal 7 0)
    -- other tolerance: a log replays under the tolerance of its run; under another one it can be refused
    ∷ (OfRun AtLog (tolerating (pos 3600000)) first (adding 2 30000 ∷ []) gives Log (adding 2 30000 ∷ []))
    ∷ (OfReplay AtLog (tolerating (pos 3600000)) first (adding 2 30000 ∷ []) gives Log (adding 2 30000 ∷ []))
    ∷ (OfRun AtLog terms first (adding 2 30000 ∷ []) gives Refusal 7 0)
    -- Document 02, request (ii), by name.
    -- statistics: a file takes the place of one of its snapshot, in ascending order; the snapshot need not be held
    ∷ (OfRun (AtStatistics Statistics) terms three (attaching 9 1 ∷ attaching 2 5 ∷ attaching 9 7 ∷ []) gives Attached (attached 2 5 ∷ attached 9 7 ∷ []))
    -- other statistics: the other table stays as it was
    ∷ (OfRun (AtStatistics PartitionStatistics) terms three (attaching 9 1 ∷ []) gives Attached [])
    ∷ (OfRun (AtStatistics PartitionStatistics) terms three (SetStatistics PartitionStatistics (attached 9 1) ∷ RemoveStatistics Statistics (pos 9) ∷ []) gives Attached (attached 9 1 ∷ []))
    -- equal statistics: an equal file is logged too
    ∷ (OfRun AtLog terms three (attaching 9 1 ∷ attaching 9 1 ∷ []) gives Log (attaching 9 1 ∷ attaching 9 1 ∷ []))
    -- statistics removed: a removal is logged only if there was a file
    ∷ (OfRun AtLog terms three (attaching 9 1 ∷ RemoveStatistics Statistics (pos 8) ∷ RemoveStatistics Statistics (pos 9) ∷ RemoveStatistics Statistics (pos 9) ∷ []) gives Log (attaching 9 1 ∷ RemoveStatistics Statistics (pos 9) ∷ []))
    ∷ (OfRun (AtStatistics Statistics) terms three (attaching 9 1 ∷ RemoveStatistics Statistics (pos 9) ∷ []) gives Attached [])
    -- snapshot gone: a removed snapshot's statistics stay
    ∷ (OfRun (AtStatistics Statistics) terms three (attaching 2 5 ∷ RemoveSnapshots (pos 2 ∷ []) ∷ []) gives Attached (attached 2 5 ∷ []))
    -- full statistics: 32 files; a new one is refused, one of a snapshot that has a file is not
    ∷ (OfRun AtUpdated terms three (attachings 33) gives Refusal 19 32)
    ∷ (OfRun AtUpdated terms three (attachings 32 ++ (attaching 0 2 ∷ [])) gives Updated (pos 500000))
    -- ill-formed statistics: an id or a size below 0, a path of 97 bytes
    ∷ (OfRun AtLog terms three (SetStatistics Statistics (record { snapshot = negsuc 0; path = []; size = pos 0 }) ∷ []) gives Refusal 3 0)
    ∷ (OfRun AtLog terms three (SetStatistics Statistics (record { snapshot = pos 9; path = []; size = negsuc 0 }) ∷ []) gives Refusal 3 0)
    ∷ (OfRun AtLog terms three (SetStatistics Statistics (record { snapshot = pos 9; path = replicate 97 112; size = pos 0 }) ∷ []) gives Refusal 3 0)
    ∷ (OfRun AtLog terms three (RemoveStatistics PartitionStatistics (negsuc 0) ∷ []) gives Refusal 3 0)
    -- from one table: a removal takes the file of one snapshot from one table; in the other it stays, and is not looked for
    ∷ (OfRun (AtStatistics PartitionStatistics) terms stocked (partition_file 1 5 ∷ RemoveStatistics PartitionStatistics (pos 1) ∷ []) gives Attached (attached 2 2 ∷ []))
    ∷ (OfRun (AtStatistics Statistics) terms stocked (partition_file 1 5 ∷ RemoveStatistics PartitionStatistics (pos 1) ∷ []) gives Attached (attached 1 1 ∷ []))
    ∷ (OfRun AtLog terms stocked (partition_file 3 5 ∷ RemoveStatistics PartitionStatistics (pos 1) ∷ RemoveStatistics PartitionStatistics (pos 3) ∷ []) gives Log (partition_file 3 5 ∷ RemoveStatistics PartitionStatistics (pos 3) ∷ []))
    -- 32 each: a full table of one kind leaves room in the other
    ∷ (OfRun AtLog terms (crowded 1 0 0 0 1 1 1 1 32 0) (partition_file 40 1 ∷ []) gives Log (partition_file 40 1 ∷ []))
    ∷ (OfRun AtLog terms (crowded 1 0 0 0 1 1 1 1 0 32) (partition_file 40 1 ∷ []) gives Refusal 19 0)
    -- Document 02, request (ix), by name. `a` is field 1, a long, `t` field 2, a timestamp, and `y` field 3, a long; year(2) `y` is a field with source 2, transform year and name `y`.
    -- new spec: it gets the id after the highest, its fields the ids after last partition id; it is logged with its id and without these, and its log adds it again
    ∷ (OfRun AtSpecs terms (dated 2 [] 999) (adding_spec 0 2 7 ∷ []) gives Specs (unpartitioned ∷ spec_of 1 (partition 1 1000 identity 0 (112 ∷ []) ∷ partition 2 1001 year 0 (113 ∷ []) ∷ []) ∷ []) (pos 1001))
    ∷ (OfRun AtLog terms (dated 2 (by_p 1000 5 ∷ []) 1000) (adding_spec 3 1 7 ∷ []) gives logs_spec 3 (none ∷ []) 6)
    ∷ (OfReplay AtSpecs terms (dated 2 [] 999) (adding_spec 0 2 7 ∷ []) gives Specs (unpartitioned ∷ spec_of 1 (partition 1 1000 identity 0 (112 ∷ []) ∷ partition 2 1001 year 0 (113 ∷ []) ∷ []) ∷ []) (pos 1001))
    -- fresh ids: they pass over ids of their own spec, wherever these stand; a higher one raises the number, a lower one leaves it
    ∷ (OfRun AtSpecs terms (dated 2 [] 999) (AddPartitionSpec (spec_from 0 (none ∷ some (pos 1000) ∷ []) 0) ∷ []) gives Specs (unpartitioned ∷ spec_of 1 (partition 1 1001 identity 0 (112 ∷ []) ∷ partition 2 1000 year 0 (113 ∷ []) ∷ []) ∷ []) (pos 1001))
    ∷ (OfRun AtSpecs terms (dated 2 [] 999) (AddPartitionSpec (spec_from 0 (some (pos 5000) ∷ none ∷ []) 0) ∷ []) gives Specs (unpartitioned ∷ spec_of 1 (partition 1 5000 identity 0 (112 ∷ []) ∷ partition 2 5001 year 0 (113 ∷ []) ∷ []) ∷ []) (pos 5001))
    ∷ (OfRun AtSpecs terms (dated 2 [] 999) (AddPartitionSpec (spec_from 4 (none ∷ some (pos 1001) ∷ some (pos 1000) ∷ []) 0) ∷ [])
    gives Specs (unpartitioned ∷ spec_of 1 (partition 2 1002 month 0 (109 ∷ []) ∷ partition 1 1001 bucket 4 (98 ∷ []) ∷ partition 1 1000 bucket 8 (99 ∷ []) ∷ []) ∷ []) (pos 1002))
    ∷ (OfRun AtSpecs terms (dated 2 [] 999) (AddPartitionSpec (spec_from 4 (some (pos 5000) ∷ some (pos 1000) ∷ none ∷ []) 0) ∷ [])
    gives Specs (unpartitioned ∷ spec_of 1 (partition 2 5000 month 0 (109 ∷ []) ∷ partition 1 1000 bucket 4 (98 ∷ []) ∷ partition 1 5001 bucket 8 (99 ∷ []) ∷ []) ∷ []) (pos 5001))
    ∷ (OfRun AtSpecs terms (dated 2 [] 999) (adding_spec 4 3 0 ∷ [])
    gives Specs (unpartitioned ∷ spec_of 1 (partition 2 1000 month 0 (109 ∷ []) ∷ partition 1 1001 bucket 4 (98 ∷ []) ∷ partition 1 1002 bucket 8 (99 ∷ []) ∷ []) ∷ []) (pos 1002))
    -- another spec's id: a fresh id passes over none of these, where last partition id stands below them
    ∷ (OfRun AtSpecs terms (dated 2 (by_p 1000 1 ∷ []) 999) (adding_spec 1 1 0 ∷ []) gives Specs (unpartitioned ∷ by_p 1000 1 ∷ by_q 1000 2 ∷ []) (pos 1000))
    -- reused ids: a field takes the smallest id of the old ones with its source and transform, in any spec, and is logged with it; the log takes the same again
    ∷ (OfRun AtSpecs terms (dated 2 (by_p 1002 1 ∷ by_q 1000 2 ∷ spec_of 3 (partition 1 1001 identity 0 (120 ∷ []) ∷ []) ∷ spec_of 4 (partition 1 1003 identity 0 (122 ∷ []) ∷ []) ∷ []) 1003) (adding_spec 2 1 0 ∷ [])
    gives Specs (unpartitioned ∷ by_p 1002 1 ∷ by_q 1000 2 ∷ spec_of 3 (partition 1 1001 identity 0 (120 ∷ []) ∷ []) ∷ spec_of 4 (partition 1 1003 identity 0 (122 ∷ []) ∷ []) ∷ spec_of 5 (partition 1 1001 identity 0 (114 ∷ []) ∷ []) ∷ []) (pos 1003))
    ∷ (OfRun AtLog terms (dated 2 (by_p 1001 1 ∷ spec_of 2 (partition 1 1000 identity 0 (122 ∷ []) ∷ []) ∷ []) 1001) (adding_spec 2 1 0 ∷ []) gives logs_spec 2 (some (pos 1000) ∷ []) 3)
    ∷ (OfReplay AtLog terms (dated 2 (by_p 1001 1 ∷ spec_of 2 (partition 1 1000 identity 0 (122 ∷ []) ∷ []) ∷ []) 1001) (adding_spec 2 1 0 ∷ []) gives logs_spec 2 (some (pos 1000) ∷ []) 3)
    -- not reused: by another source, another transform or another number of buckets
    ∷ (OfRun AtLog terms (dated 2 (by_p 1000 1 ∷ []) 1000) (adding_spec 16 1 0 ∷ []) gives logs_spec 16 (none ∷ []) 2)
    ∷ (OfRun AtLog terms (dated 2 (by_q 1000 1 ∷ []) 1000) (adding_spec 4 1 0 ∷ []) gives logs_spec 4 (none ∷ []) 2)
    ∷ (OfRun AtLog terms (dated 2 (spec_of 1 (partition 1 1000 bucket 4 (98 ∷ []) ∷ []) ∷ []) 1000) (adding_spec 6 1 0 ∷ []) gives logs_spec 6 (none ∷ []) 2)
    ∷ (OfRun AtLog terms (dated 2 (spec_of 1 (partition 1 1000 bucket 4 (98 ∷ []) ∷ []) ∷ []) 1000) (adding_spec 17 1 0 ∷ []) gives logs_spec 17 (some (pos 1000) ∷ []) 2)
    -- given id: it is kept, also where an old field has another, and where it is another field's in another spec; both fields in one spec then have one id
    ∷ (OfRun AtLog terms (dated 2 (by_p 1000 1 ∷ []) 1000) (AddPartitionSpec (spec_from 2 (some (pos 1007) ∷ []) 0) ∷ []) gives logs_spec 2 (some (pos 1007) ∷ []) 2)
    ∷ (OfRun AtLog terms (dated 2 (by_p 1000 1 ∷ []) 1000) (AddPartitionSpec (spec_from 1 (some (pos 1000) ∷ []) 0) ∷ []) gives logs_spec 1 (some (pos 1000) ∷ []) 2)
    ∷ (OfRun AtLog terms (dated 2 (by_p 1000 1 ∷ []) 1000) (AddPartitionSpec (spec_from 1 (some (pos 1000) ∷ []) 0) ∷ adding_spec 0 2 0 ∷ []) gives Refusal 31 1)
    -- name clash: with a column of the current schema, unless it is that column as it is; a name that another schema has is free
    ∷ (OfRun AtLog terms (dated 2 [] 999) (adding_spec 9 1 0 ∷ []) gives Refusal 31 0)
    ∷ (OfRun AtLog terms (dated 2 [] 999) (adding_spec 10 1 0 ∷ []) gives Refusal 31 0)
    ∷ (OfRun AtLog terms (dated 2 [] 999) (adding_spec 8 2 0 ∷ []) gives Refusal 31 0)
    ∷ (OfRun AtLog terms (dated 2 [] 999) (adding_spec 7 1 0 ∷ []) gives logs_spec 7 (none ∷ []) 1)
    ∷ (OfRun AtLog terms (partitioned 2 (of_aty 0 ∷ []) (unpartitioned ∷ []) 999) (adding_spec 3 1 0 ∷ []) gives Refusal 31 0)
    ∷ (OfRun AtLog terms (partitioned 2 (of_at 0 ∷ of_aty 1 ∷ []) (unpartitioned ∷ []) 999) (adding_spec 3 1 0 ∷ []) gives logs_spec 3 (none ∷ []) 1)
    -- repeated: two names, or two given ids, that are equal; a redundant field, by one transform or by two of year, month and day; buckets of two numbers are not redundant
    ∷ (OfRun AtLog terms (dated 2 [] 999) (adding_spec 14 2 0 ∷ []) gives Refusal 31 0)
    ∷ (OfRun AtLog terms (dated 2 [] 999) (AddPartitionSpec (spec_from 0 (some (pos 1000) ∷ some (pos 1000) ∷ []) 0) ∷ []) gives Refusal 31 0)
    ∷ (OfRun AtLog terms (dated 2 [] 999) (adding_spec 15 2 0 ∷ []) gives Refusal 31 0)
    ∷ (OfRun AtLog terms (dated 2 [] 999) (adding_spec 3 2 0 ∷ []) gives Refusal 31 0)
    ∷ (OfRun AtLog terms (dated 2 [] 999) (adding_spec 20 2 0 ∷ []) gives Refusal 31 0)
    ∷ (OfRun AtLog terms (dated 2 [] 999) (adding_spec 17 2 0 ∷ []) gives Refusal 31 0)
    ∷ (OfRun AtLog terms (dated 2 [] 999) (adding_spec 5 2 0 ∷ []) gives logs_spec 5 (none ∷ none ∷ []) 1)
    -- source: missing, or a long for a year or a day, also of a second field; 31 comes before 32
    ∷ (OfRun AtLog terms (dated 2 [] 999) (adding_spec 13 1 0 ∷ []) gives Refusal 32 0)
    ∷ (OfRun AtLog terms (dated 2 [] 999) (adding_spec 11 2 0 ∷ []) gives Refusal 32 0)
    ∷ (OfRun AtLog terms (dated 2 [] 999) (adding_spec 19 1 0 ∷ []) gives Refusal 32 0)
    ∷ (OfRun AtLog terms (dated 2 [] 999) (adding_spec 4 1 0 ∷ []) gives logs_spec 4 (none ∷ []) 1)
    ∷ (OfRun AtLog terms (partitioned 2 (of_a 0 ∷ []) (unpartitioned ∷ []) 999) (adding_spec 9 1 0 ∷ []) gives Refusal 31 0)
    -- equal spec: the smallest id of those with the same source, transform and name, whatever their ids; logged with that id and the given ids, not while it is the last added, and -1 stands for it
    ∷ (OfRun AtLog terms (dated 2 (by_p 1000 1 ∷ by_p 2000 2 ∷ []) 2000) (AddPartitionSpec (spec_from 0 (some (pos 3000) ∷ []) 9) ∷ adding_spec 0 1 9 ∷ SetDefaultPartitionSpec (negsuc 0) ∷ [])
    gives Log (AddPartitionSpec (spec_from 0 (some (pos 3000) ∷ []) 1) ∷ SetDefaultPartitionSpec (negsuc 0) ∷ []))
    ∷ (OfRun AtSpecs terms (dated 2 (by_p 1000 1 ∷ by_p 2000 2 ∷ []) 2000) (AddPartitionSpec (spec_from 0 (some (pos 3000) ∷ []) 9) ∷ []) gives Specs (unpartitioned ∷ by_p 1000 1 ∷ by_p 2000 2 ∷ []) (pos 2000))
    ∷ (OfRun AtLog terms (dated 2 (by_p 1000 1 ∷ []) 1000) (adding_spec 0 1 9 ∷ []) gives logs_spec 0 (some (pos 1000) ∷ []) 1)
    -- unequal specs: of another source or transform, the fields in another order, or some of them
    ∷ (OfRun AtLog terms (dated 2 (spec_of 1 (partition 2 1000 identity 0 (114 ∷ []) ∷ []) ∷ spec_of 2 (partition 2 1001 month 0 (113 ∷ []) ∷ []) ∷ []) 1001) (adding_spec 2 1 0 ∷ adding_spec 1 1 0 ∷ []) gives Log (adding_spec 2 1 3 ∷ adding_spec 1 1 4 ∷ []))
    ∷ (OfRun AtLog terms (dated 2 (spec_of 1 (partition 1 1000 identity 0 (114 ∷ []) ∷ partition 2 1001 year 0 (113 ∷ []) ∷ []) ∷ []) 1001) (adding_spec 1 2 0 ∷ adding_spec 2 1 0 ∷ [])
    gives Log (AddPartitionSpec (spec_from 1 (some (pos 1001) ∷ some (pos 1000) ∷ []) 2) ∷ AddPartitionSpec (spec_from 2 (some (pos 1000) ∷ []) 3) ∷ []))
    -- an equal spec is checked: 32 comes before it, and 18, 33 and 19 do not come up
    ∷ (OfRun AtLog terms (partitioned 2 (of_a 0 ∷ []) (unpartitioned ∷ by_q 1000 1 ∷ []) 1000) (adding_spec 1 1 0 ∷ []) gives Refusal 32 0)
    ∷ (OfRun AtLog terms (dated 1 (many 14 (λ (i : ℕ). spec_of (suc i) []) ++ (by_p 1007 2147483647 ∷ [])) 2147483647) (adding_spec 0 1 0 ∷ []) gives logs_spec 0 (some (pos 1007) ∷ []) 2147483647)
    -- largest spec id: 2147483647 may be given; then 18, before 33
    ∷ (OfRun AtLog terms (dated 2 (by_p 1000 2147483646 ∷ []) 1000) (adding_spec 1 1 0 ∷ []) gives logs_spec 1 (none ∷ []) 2147483647)
    ∷ (OfRun AtLog terms (dated 1 (by_p 1000 2147483647 ∷ []) 1000) (adding_spec 1 1 0 ∷ []) gives Refusal 18 0)
    -- largest field id: a fresh id may be 2147483647, and not more; one that is given, or reused, does not count
    ∷ (OfRun AtLog terms (dated 2 [] 2147483646) (adding_spec 0 1 0 ∷ []) gives logs_spec 0 (none ∷ []) 1)
    ∷ (OfRun AtLog terms (dated 2 [] 2147483646) (adding_spec 0 2 0 ∷ []) gives Refusal 18 0)
    ∷ (OfRun AtLog terms (dated 2 [] 2147483647) (AddPartitionSpec (spec_from 0 (some (pos 2147483647) ∷ []) 0) ∷ []) gives logs_spec 0 (some (pos 2147483647) ∷ []) 1)
    -- sequential: at version 1 a new spec has the field ids 1000, 1001 and so on in order, reused or fresh; from version 2 on this is not asked
    ∷ (OfRun AtLog terms (dated 1 [] 999) (adding_spec 0 2 0 ∷ adding_spec 0 0 0 ∷ []) gives Log (adding_spec 0 2 1 ∷ adding_spec 0 0 0 ∷ []))
    ∷ (OfRun AtLog terms (dated 1 (by_y 1000 1 ∷ []) 1000) (adding_spec 0 1 0 ∷ []) gives Refusal 33 0)
    ∷ (OfRun AtLog terms (dated 1 (by_y 1000 1 ∷ []) 1000) (adding_spec 1 2 0 ∷ []) gives logs_spec 1 (some (pos 1000) ∷ none ∷ []) 2)
    ∷ (OfRun AtLog terms (dated 1 (by_y 1000 1 ∷ []) 1000) (UpgradeFormatVersion 2 ∷ adding_spec 0 1 0 ∷ []) gives Log (UpgradeFormatVersion 2 ∷ adding_spec 0 1 2 ∷ []))
    ∷ (OfRun AtLog terms (dated 1 [] 999) (AddPartitionSpec (spec_from 0 (some (pos 1001) ∷ some (pos 1000) ∷ []) 0) ∷ []) gives Refusal 33 0)
    ∷ (OfRun AtLog terms (dated 1 [] 999) (AddPartitionSpec (spec_from 0 (some (pos 1000) ∷ some (pos 1002) ∷ []) 0) ∷ []) gives Refusal 33 0)
    -- full of specs: 15 leave room for one, 16 do not; 33 comes before 19
    ∷ (OfRun AtLog terms (dated 2 (many 14 (λ (i : ℕ). spec_of (suc i) [])) 999) (adding_spec 0 1 0 ∷ []) gives logs_spec 0 (none ∷ []) 15)
    ∷ (OfRun AtLog terms (dated 2 (many 15 (λ (i : ℕ). spec_of (suc i) [])) 999) (adding_spec 0 1 0 ∷ []) gives Refusal 19 0)
    ∷ (OfRun AtLog terms (dated 1 (many 15 (λ (i : ℕ). spec_of (suc i) [])) 1004) (adding_spec 0 1 0 ∷ []) gives Refusal 33 0)
    -- last partition: raised to a new spec's highest field id, and not lowered; a spec of no fields raises it to 999, and gets an id as others do
    ∷ (OfRun AtSpecs terms (dated 2 [] 999) (AddPartitionSpec (spec_from 0 (some (pos 1007) ∷ some (pos 1003) ∷ []) 0) ∷ []) gives Specs (unpartitioned ∷ spec_of 1 (partition 1 1007 identity 0 (112 ∷ []) ∷ partition 2 1003 year 0 (113 ∷ []) ∷ []) ∷ []) (pos 1007))
    ∷ (OfRun AtSpecs terms (dated 2 [] 999) (AddPartitionSpec (spec_from 0 (some (pos 5) ∷ []) 0) ∷ []) gives Specs (unpartitioned ∷ by_p 5 1 ∷ []) (pos 999))
    ∷ (OfRun AtSpecs terms (dated 2 [] 5) (AddPartitionSpec (spec_from 0 (some (pos 7) ∷ []) 0) ∷ []) gives Specs (unpartitioned ∷ by_p 7 1 ∷ []) (pos 7))
    ∷ (OfRun AtSpecs terms (partitioned 2 (of_at 0 ∷ []) (by_p 5 0 ∷ []) 5) (adding_spec 0 0 0 ∷ []) gives Specs (by_p 5 0 ∷ spec_of 1 [] ∷ []) (pos 999))
    ∷ (OfRun AtSpecs terms (partitioned 2 (of_at 0 ∷ []) (by_p 5 0 ∷ []) 1500) (adding_spec 0 0 0 ∷ []) gives Specs (by_p 5 0 ∷ spec_of 1 [] ∷ []) (pos 1500))
    -- default spec: -1 stands for the last added and nothing else, an equal one changes nothing, one that is not held is 15; logged as -1 for the last added, else by id
    ∷ (OfRun AtLog terms (dated 2 (by_p 1000 1 ∷ []) 1000) (SetDefaultPartitionSpec (negsuc 0) ∷ []) gives Refusal 14 0)
    ∷ (OfRun AtLog terms (dated 2 (by_p 1000 1 ∷ []) 1000) (SetDefaultPartitionSpec (pos 7) ∷ []) gives Refusal 15 0)
    ∷ (OfRun AtLog terms (dated 2 (by_p 1000 1 ∷ []) 1000) (SetDefaultPartitionSpec (pos 0) ∷ SetDefaultPartitionSpec (pos 1) ∷ SetDefaultPartitionSpec (pos 1) ∷ []) gives Log (SetDefaultPartitionSpec (pos 1) ∷ []))
    ∷ (OfRun AtLog terms (dated 2 (by_p 1000 1 ∷ []) 1000) (adding_spec 3 1 0 ∷ SetDefaultPartitionSpec (pos 2) ∷ SetDefaultPartitionSpec (pos 1) ∷ []) gives Log (adding_spec 3 1 2 ∷ SetDefaultPartitionSpec (negsuc 0) ∷ SetDefaultPartitionSpec (pos 1) ∷ []))
    -- last added spec: a schema and an order leave it, and it leaves theirs
    ∷ (OfRun AtLog terms (dated 2 [] 999) (adding_spec 0 1 1 ∷ AddSchema (offer_of 2 1) ∷ AddSortOrder (order_of 1 1) ∷ SetDefaultPartitionSpec (negsuc 0) ∷ []) gives Log (adding_spec 0 1 1 ∷ AddSchema (offer_of 2 1) ∷ AddSortOrder (order_of 1 1) ∷ SetDefaultPartitionSpec (negsuc 0) ∷ []))
    ∷ (OfRun AtLog terms (dated 2 [] 999) (AddSchema (offer_of 1 1) ∷ AddSortOrder (order_of 1 1) ∷ adding_spec 0 1 1 ∷ SetCurrentSchema (negsuc 0) ∷ SetDefaultSortOrder (negsuc 0) ∷ []) gives Log (AddSchema (offer_of 1 1) ∷ AddSortOrder (order_of 1 1) ∷ adding_spec 0 1 1 ∷ SetCurrentSchema (negsuc 0) ∷ SetDefaultSortOrder (negsuc 0) ∷ []))
    -- default that misfits: 32 in setting it, though a later update would mend it; an equal one is not asked, nor is a clash
    ∷ (OfRun AtLog terms (partitioned 2 (of_a 0 ∷ of_at 1 ∷ []) (unpartitioned ∷ by_q 1000 1 ∷ []) 1000) (SetDefaultPartitionSpec (pos 1) ∷ SetCurrentSchema (pos 1) ∷ []) gives Refusal 32 0)
    ∷ (OfRun AtLog terms (default_at 1 (partitioned 2 (of_a 0 ∷ of_at 1 ∷ []) (unpartitioned ∷ by_q 1000 1 ∷ []) 1000)) (SetDefaultPartitionSpec (pos 1) ∷ SetCurrentSchema (pos 1) ∷ []) gives Log (SetCurrentSchema (pos 1) ∷ []))
    ∷ (OfRun AtLog terms (partitioned 2 (of_aty 0 ∷ of_at 1 ∷ []) (unpartitioned ∷ by_y 1000 1 ∷ []) 1000) (SetDefaultPartitionSpec (pos 1) ∷ SetCurrentSchema (pos 1) ∷ []) gives Log (SetDefaultPartitionSpec (pos 1) ∷ SetCurrentSchema (pos 1) ∷ []))
    -- specs removed: those that are held, logged in the order of the table and only if there is one; last partition id stays
    ∷ (OfRun AtLog terms (dated 2 (by_p 1000 1 ∷ by_q 1001 2 ∷ by_y 1001 3 ∷ []) 1001) (RemovePartitionSpecs (pos 7 ∷ []) ∷ RemovePartitionSpecs (pos 3 ∷ pos 7 ∷ pos 1 ∷ []) ∷ []) gives Log (RemovePartitionSpecs (pos 1 ∷ pos 3 ∷ []) ∷ []))
    ∷ (OfRun AtSpecs terms (dated 2 (by_p 1000 1 ∷ by_q 1001 2 ∷ []) 1001) (RemovePartitionSpecs (pos 2 ∷ []) ∷ []) gives Specs (unpartitioned ∷ by_p 1000 1 ∷ []) (pos 1001))
    -- default spec removed: a removal list that names it is refused, also after another
    ∷ (OfRun AtLog terms (dated 2 (by_p 1000 1 ∷ []) 1000) (RemovePartitionSpecs (pos 1 ∷ pos 0 ∷ []) ∷ []) gives Refusal 34 0)
    -- removed last added: -1 still stands for it, and it is not held
    ∷ (OfRun AtLog terms (dated 2 [] 999) (adding_spec 0 1 0 ∷ RemovePartitionSpecs (pos 1 ∷ []) ∷ SetDefaultPartitionSpec (negsuc 0) ∷ []) gives Refusal 15 2)
    -- close: the default spec clashes with the schema that is then current, or misfits it; also of an empty list; another spec may do either
    ∷ (OfRun AtLog terms (partitioned 2 (of_at 0 ∷ of_aty 1 ∷ []) (unpartitioned ∷ []) 999) (adding_spec 3 1 0 ∷ SetDefaultPartitionSpec (negsuc 0) ∷ SetCurrentSchema (pos 1) ∷ []) gives Refusal 31 3)
    ∷ (OfRun AtLog terms (partitioned 2 (of_at 0 ∷ of_a 1 ∷ []) (unpartitioned ∷ []) 999) (adding_spec 1 1 0 ∷ SetDefaultPartitionSpec (negsuc 0) ∷ SetCurrentSchema (pos 1) ∷ []) gives Refusal 32 3)
    ∷ (OfRun AtLog terms (default_at 1 (partitioned 2 (of_aty 0 ∷ []) (unpartitioned ∷ by_y 1000 1 ∷ []) 1000)) [] gives Refusal 31 0)
    ∷ (OfRun AtLog terms (default_at 1 (partitioned 2 (of_a 0 ∷ []) (unpartitioned ∷ by_q 1000 1 ∷ []) 1000)) [] gives Refusal 32 0)
    ∷ (OfRun AtLog terms (partitioned 2 (of_aty 0 ∷ []) (unpartitioned ∷ by_y 1000 1 ∷ spec_of 2 (partition 9 1001 identity 0 (112 ∷ []) ∷ []) ∷ []) 1001) [] gives Log [])
    -- order at the close: 31, 32, 20
    ∷ (OfRun AtLog terms (default_at 1 (partitioned 2 (of_a 0 ∷ []) (spec_of 0 [] ∷ spec_of 1 (partition 9 1000 identity 0 (97 ∷ []) ∷ []) ∷ []) 1000)) [] gives Refusal 31 0)
    ∷ (OfRun AtLog terms (default_at 1 (with_fields (with_default_order (pos 1) (dated 2 [] 999).fields) (with_orders (unordered 0 ∷ order_of 9 1 ∷ []) (partitioned 2 (of_a 0 ∷ []) (unpartitioned ∷ by_q 1000 1 ∷ []) 1000)))) [] gives Refusal 32 0)
    -- schema's names: a name of a held spec, and of no held schema, is refused in a new schema, also of its second field; before 18
    ∷ (OfRun AtLog terms (with_specs (unpartitioned ∷ spec_of 1 (partition 1 1000 identity 0 (97 ∷ []) ∷ []) ∷ []) three) (AddSchema (offer_from 45 1 0) ∷ []) gives Refusal 31 0)
    ∷ (OfRun AtLog terms (with_specs (unpartitioned ∷ spec_of 1 (partition 1 1000 identity 0 (112 ∷ []) ∷ partition 1 1001 bucket 4 (2 ∷ []) ∷ []) ∷ []) three) (AddSchema (offer_from 0 2 0) ∷ []) gives Refusal 31 0)
    ∷ (OfRun AtLog terms (with_schemas (schema_of 1 0 ∷ of_a 1 ∷ []) (with_specs (unpartitioned ∷ spec_of 1 (partition 1 1000 identity 0 (97 ∷ []) ∷ []) ∷ []) three)) (AddSchema (offer_from 46 1 0) ∷ AddSchema (offer_of 1 9) ∷ []) gives Log (AddSchema (offer_from 46 1 2) ∷ AddSchema (offer_of 1 9) ∷ []))
    ∷ (OfRun AtLog terms (with_schemas (schema_of 1 0 ∷ schema_of 1 2147483647 ∷ []) (with_specs (unpartitioned ∷ spec_of 1 (partition 1 1000 identity 0 (97 ∷ []) ∷ []) ∷ []) three)) (AddSchema (offer_from 45 1 0) ∷ []) gives Refusal 31 0)
    -- offered specs: as many fields as there may be, the largest source with the longest name, the most buckets, no field, none past the last byte; and a byte that is not there, one field more,
    -- a source past the largest or 0, the transforms 0 and 6, too many buckets, none, a number with a year, no name, a length past the longest, a byte past the name, an id of 0, a spec id below 0
    ∷ (OfTests (map (spec_offer_formed offers) (spec_from 0 (replicate 8 none) 0 ∷ spec_from 22 (none ∷ []) 0 ∷ spec_from 27 (some (pos 1) ∷ []) 0 ∷ spec_from 5 [] 0 ∷ spec_from 34 [] 0 ∷ spec_from 14 (none ∷ none ∷ []) 0 ∷ []))
    gives Tests (replicate 6 true))
    ∷ (OfTests (map (spec_offer_formed offers)
    (spec_from 34 (none ∷ []) 0
    ∷ spec_from 35 [] 0
    ∷ spec_from 0 (replicate 9 none) 0
    ∷ spec_from 23 (none ∷ []) 0
    ∷ spec_from 24 (none ∷ []) 0
    ∷ spec_from 25 (none ∷ []) 0
    ∷ spec_from 26 (none ∷ []) 0
    ∷ spec_from 28 (none ∷ []) 0
    ∷ spec_from 29 (none ∷ []) 0
    ∷ spec_from 30 (none ∷ []) 0
    ∷ spec_from 31 (none ∷ []) 0
    ∷ spec_from 32 (none ∷ []) 0
    ∷ spec_from 33 (none ∷ []) 0
    ∷ spec_from 0 (some (pos 0) ∷ []) 0
    ∷ record { id = negsuc 0; at = 0; ids = [] }
    ∷ []))
    gives Tests (replicate 15 false))
    ∷ (OfRun AtLog terms (dated 2 [] 999) (adding_spec 24 1 0 ∷ []) gives Refusal 3 0)
    -- given 0: an id of 0 is not one that is left out
    ∷ (OfRun AtLog terms (dated 2 [] 999) (AddPartitionSpec (spec_from 0 (some (pos 0) ∷ []) 0) ∷ []) gives Refusal 3 0)
    -- specs in tables: 16 of 8 fields are well formed; one more of either, descending or equal ids, an id below 0, and fields that are not well formed or stand twice are not
    ∷ (OfTests (map metadata_formed
    (dated 2 (many 15 (λ (i : ℕ). spec_of (suc i) (many 8 (λ (k : ℕ). partition (suc k) (suc k) identity 0 (k ∷ []))))) 0
    ∷ dated 2 (spec_of 1 (partition 1 1 day 0 (replicate 32 255) ∷ partition 2 2 bucket 1 (113 ∷ []) ∷ partition 2 3 year 0 (112 ∷ []) ∷ partition 2 4 bucket 2147483647 (114 ∷ []) ∷ []) ∷ []) 0
    ∷ []))
    gives Tests (true ∷ true ∷ []))
    ∷ (OfTests (map metadata_formed
    (dated 2 (many 16 (λ (i : ℕ). spec_of (suc i) [])) 0
    ∷ dated 2 (spec_of 1 (many 9 (λ (k : ℕ). partition (suc k) (suc k) identity 0 (k ∷ []))) ∷ []) 0
    ∷ dated 2 (spec_of 2 [] ∷ spec_of 1 [] ∷ []) 0
    ∷ dated 2 (spec_of 0 [] ∷ []) 0
    ∷ with_specs (record { id = negsuc 0; fields = [] } ∷ unpartitioned ∷ []) first
    ∷ dated 2 (spec_of 1 (partition 0 1 identity 0 (112 ∷ []) ∷ []) ∷ []) 0
    ∷ dated 2 (spec_of 1 (partition 1 0 identity 0 (112 ∷ []) ∷ []) ∷ []) 0
    ∷ dated 2 (spec_of 1 (partition 1 1 0 0 (112 ∷ []) ∷ []) ∷ []) 0
    ∷ dated 2 (spec_of 1 (partition 1 1 6 0 (112 ∷ []) ∷ []) ∷ []) 0
    ∷ dated 2 (spec_of 1 (partition 1 1 identity 1 (112 ∷ []) ∷ []) ∷ []) 0
    ∷ dated 2 (spec_of 1 (partition 1 1 bucket 0 (112 ∷ []) ∷ []) ∷ []) 0
    ∷ dated 2 (spec_of 1 (partition 1 1 identity 0 [] ∷ []) ∷ []) 0
    ∷ dated 2 (spec_of 1 (partition 1 1 identity 0 (replicate 33 112) ∷ []) ∷ []) 0
    ∷ dated 2 (spec_of 1 (record { source = pos 1; id = none; transform = identity; buckets = pos 0; name = 112 ∷ [] } ∷ []) ∷ []) 0
    ∷ dated 2 (spec_of 1 (partition 1 1 identity 0 (112 ∷ []) ∷ partition 2 2 identity 0 (112 ∷ []) ∷ []) ∷ []) 0
    ∷ dated 2 (spec_of 1 (partition 1 1 identity 0 (112 ∷ []) ∷ partition 2 1 identity 0 (113 ∷ []) ∷ []) ∷ []) 0
    ∷ dated 2 (spec_of 1 (partition 1 1 identity 0 (112 ∷ []) ∷ partition 1 2 identity 0 (113 ∷ []) ∷ []) ∷ []) 0
    ∷ dated 2 (spec_of 1 (partition 1 1 year 0 (112 ∷ []) ∷ partition 1 2 day 0 (113 ∷ []) ∷ []) ∷ []) 0
    ∷ []))
    gives Tests (replicate 18 false))
    -- fresh over runs: of three runs the second is refused; an equal spec gets none, nor does a field that reuses an id
    ∷ (OfIds (fresh_over (dated 2 [] 999)
    (record { terms = terms; updates = adding_spec 0 2 0 ∷ adding_spec 0 2 0 ∷ adding_spec 2 1 0 ∷ [] }
    ∷ record { terms = terms; updates = adding_spec 4 1 0 ∷ adding_spec 9 1 0 ∷ [] }
    ∷ record { terms = terms; updates = AddPartitionSpec (spec_from 4 (none ∷ some (pos 1007) ∷ none ∷ []) 0) ∷ AddPartitionSpec (spec_from 7 (some (pos 7) ∷ none ∷ []) 0) ∷ RemovePartitionSpecs (pos 3 ∷ []) ∷ adding_spec 4 1 0 ∷ [] }
    ∷ []))
    gives Ids (pos 1000 ∷ pos 1001 ∷ pos 1002 ∷ pos 1008 ∷ pos 1009 ∷ pos 1010 ∷ []))
    -- reached: last partition id is at least every field id that is held, of every spec and field
    ∷ (OfTests (map is_reached
    (dated 2 (by_p 1000 1 ∷ []) 1000
    ∷ dated 2 (by_p 1000 1 ∷ by_q 1001 2 ∷ []) 1000
    ∷ dated 2 (by_p 1000 1 ∷ spec_of 2 (partition 2 7 year 0 (112 ∷ []) ∷ partition 1 1001 bucket 4 (113 ∷ []) ∷ []) ∷ []) 1000
    ∷ []))
    gives Tests (true ∷ false ∷ false ∷ []))
    -- Document 02, request (xi), by name. `d` and `e` are refs of other names than `main`, whose owner is office 1.
    -- office: 1 and 2 are offices, 0 and 3 are not; the place is 0
    ∷ (OfRun AtLog second_terms three [] gives Log [])
    ∷ (OfRun AtLog (as_office 0 terms) three [] gives Refusal 39 0)
    ∷ (OfRun AtLog (as_office 3 terms) three [] gives Refusal 39 0)
    -- order of 39: after 1, 2 and 26, and before any update, here one that is not well formed
    ∷ (OfRun AtLog (as_office 3 terms) (two_held none (main_at 1)) [] gives Refusal 1 0)
    ∷ (OfRun AtLog (as_office 3 terms) three (replicate 65 (RemoveSnapshots [])) gives Refusal 2 0)
    ∷ (OfRun AtLog (as_office 0 (tolerating (negsuc 0))) three [] gives Refusal 26 0)
    ∷ (OfRun AtLog (as_office 3 terms) three (RemoveSnapshots [] ∷ NotFormed 1 ∷ []) gives Refusal 39 0)
    -- owners: `d` of office 1 and of office 2 is well formed, of 0 and of 3 it is not; `main` of office 2, of 0 and of 3 is not
    ∷ (OfTests (map metadata_formed
    (drafted 1 (branch_to 3)
    ∷ drafted 2 (branch_to 3)
    ∷ drafted 0 (branch_to 3)
    ∷ drafted 3 (branch_to 3)
    ∷ with_refs (owned 2 main_name (branch_to 3) ∷ []) three
    ∷ with_refs (owned 0 main_name (branch_to 3) ∷ []) three
    ∷ with_refs (owned 3 main_name (branch_to 3) ∷ []) three
    ∷ []))
    gives Tests (true ∷ true ∷ replicate 5 false))
    ∷ (OfRun AtLog second_terms (with_refs (owned 2 main_name (branch_to 3) ∷ []) three) [] gives Refusal 1 0)
    ∷ (OfRun AtLog terms (drafted 2 (branch_to 3)) [] gives Log [])
    -- kept for office 1: each of these kinds, which is 35 for office 2 by kind alone
    ∷ (OfNumbers (map (number_of terms stocked) kept_for_first) gives Numbers (replicate 11 0))
    ∷ (OfNumbers (map (number_of second_terms stocked) kept_for_first) gives Numbers (replicate 11 35))
    -- kept though idle: also where nothing would change
    ∷ (OfRun AtLog terms three idle gives Log [])
    ∷ (OfNumbers (map (number_of second_terms three) idle) gives Numbers (replicate 8 35))
    -- 35 first: before the numbers that the update has for office 1
    ∷ (OfNumbers (map (number_of terms three) refused) gives Numbers (4 ∷ 14 ∷ 15 ∷ 16 ∷ 17 ∷ 15 ∷ 32 ∷ 15 ∷ 34 ∷ []))
    ∷ (OfNumbers (map (number_of second_terms three) refused) gives Numbers (replicate 9 35))
    ∷ (OfRun AtLog second_terms (crowded 1 0 0 0 16 1 1 1 0 0) (AddSchema (offer_of 2 16) ∷ []) gives Refusal 35 0)
    -- 3 before 35: of the update's own form, and of what it offers
    ∷ (OfNumbers (map (number_of second_terms three) unformed) gives Numbers (replicate 8 3))
    -- place of 35: that of its update
    ∷ (OfRun AtLog second_terms three (adding 4 400000 ∷ SetLocation (117 ∷ []) ∷ NotFormed 1 ∷ []) gives Refusal 35 1)
    -- neither's: office 2 adds snapshots, and sets and removes statistics files of both tables
    ∷ (OfRun AtLog second_terms stocked (adding 6 500000 ∷ attaching 3 3 ∷ partition_file 3 4 ∷ RemoveStatistics Statistics (pos 1) ∷ RemoveStatistics PartitionStatistics (pos 2) ∷ []) gives Log (adding 6 500000 ∷ attaching 3 3 ∷ partition_file 3 4 ∷ RemoveStatistics Statistics (pos 1) ∷ RemoveStatistics PartitionStatistics (pos 2) ∷ []))
    -- other's ref: `d` of office 1, and then of office 2, is set, gets a commit and is removed, by office 1 and by office 2
    ∷ (OfNumbers (map (number_of terms (drafted 1 (branch_to 3))) (touching draft)) gives Numbers (replicate 3 0))
    ∷ (OfNumbers (map (number_of second_terms (drafted 1 (branch_to 3))) (touching draft)) gives Numbers (replicate 3 35))
    ∷ (OfNumbers (map (number_of terms (drafted 2 (branch_to 3))) (touching draft)) gives Numbers (replicate 3 35))
    ∷ (OfNumbers (map (number_of second_terms (drafted 2 (branch_to 3))) (touching draft)) gives Numbers (replicate 3 0))
    -- other's equal ref: also where it is what it is set to; 35 comes before 12, and before 13
    ∷ (OfRun AtLog terms (drafted 2 (branch_to 3)) (to_draft 3 ∷ []) gives Refusal 35 0)
    ∷ (OfRun AtLog second_terms (drafted 2 (branch_to 3)) (to_draft 3 ∷ []) gives Log [])
    ∷ (OfRun AtLog terms (drafted 2 (branch_to 3)) (to_draft 9 ∷ []) gives Refusal 35 0)
    ∷ (OfRun AtLog second_terms (drafted 2 (branch_to 3)) (to_draft 9 ∷ []) gives Refusal 12 0)
    ∷ (OfRun AtLog terms (drafted 2 (tag_to 3)) (SetBranchSnapshot draft (snap 4 none 6 (pos 400000)) ∷ []) gives Refusal 35 0)
    ∷ (OfRun AtLog second_terms (drafted 2 (tag_to 3)) (SetBranchSnapshot draft (snap 4 none 6 (pos 400000)) ∷ []) gives Refusal 13 0)
    -- office of main: it is office 1's, held or absent
    ∷ (OfNumbers (map (number_of terms three) (touching main_name)) gives Numbers (replicate 3 0))
    ∷ (OfNumbers (map (number_of second_terms three) (touching main_name)) gives Numbers (replicate 3 35))
    ∷ (OfNumbers (map (number_of terms (two_held none [])) (touching main_name)) gives Numbers (replicate 3 0))
    ∷ (OfNumbers (map (number_of second_terms (two_held none [])) (touching main_name)) gives Numbers (replicate 3 35))
    ∷ (OfRun AtLog second_terms (empty 2 0 (pos 0) []) (SetBranchSnapshot main_name (snap 0 none 0 (pos 0)) ∷ []) gives Refusal 35 0)
    -- absent ref: another absent name is free to either office
    ∷ (OfNumbers (map (number_of terms (drafted 2 (branch_to 3))) (touching extra)) gives Numbers (replicate 3 0))
    ∷ (OfNumbers (map (number_of second_terms (drafted 1 (branch_to 3))) (touching extra)) gives Numbers (replicate 3 0))
    -- owner made: a ref that a run makes is its office's, by setting it and by a commit; the others keep theirs
    ∷ (OfRun AtRefs terms (drafted 2 (branch_to 3)) (SetRef extra (branch_to 3) ∷ []) gives Refs (owned 2 draft (branch_to 3) ∷ owned 1 extra (branch_to 3) ∷ main_at 3))
    ∷ (OfRun AtRefs second_terms (drafted 1 (branch_to 3)) (SetRef extra (branch_to 3) ∷ []) gives Refs (owned 1 draft (branch_to 3) ∷ owned 2 extra (branch_to 3) ∷ main_at 3))
    ∷ (OfRun AtRefs terms three (SetBranchSnapshot draft (snap 4 none 6 (pos 400000)) ∷ []) gives Refs (owned 1 draft (branch_to 4) ∷ main_at 3))
    ∷ (OfRun AtRefs second_terms three (SetBranchSnapshot draft (snap 4 none 6 (pos 400000)) ∷ []) gives Refs (owned 2 draft (branch_to 4) ∷ main_at 3))
    -- owner kept: a ref that is set, or made by this run and set again, keeps its owner
    ∷ (OfRun AtRefs second_terms (drafted 2 (branch_to 3)) (SetRef draft (tag_to 2) ∷ SetRef extra (tag_to 3) ∷ SetRef extra (tag_to 1) ∷ []) gives Refs (owned 2 draft (tag_to 2) ∷ owned 2 extra (tag_to 1) ∷ main_at 3))
    ∷ (OfRun AtRefs second_terms (drafted 2 (branch_to 3)) (SetBranchSnapshot draft (snap 4 none 6 (pos 400000)) ∷ []) gives Refs (owned 2 draft (branch_to 4) ∷ main_at 3))
    ∷ (OfNumbers (owner_after 2 draft (drafted 1 (branch_to 3)).refs ∷ owner_after 1 draft (drafted 2 (branch_to 3)).refs ∷ owner_after 2 main_name (drafted 2 (branch_to 3)).refs ∷ owner_after 1 extra (drafted 2 (branch_to 3)).refs ∷ owner_after 2 extra (drafted 1 (branch_to 3)).refs ∷ []) gives Numbers (1 ∷ 2 ∷ 1 ∷ 1 ∷ 2 ∷ []))
    -- owner made again: `d` goes and comes again within a run, by its removal and with its snapshot; over two runs it changes hands
    ∷ (OfRun AtRefs terms (drafted 1 (branch_to 3)) (RemoveRef draft ∷ to_draft 2 ∷ []) gives Refs (owned 1 draft (branch_to 2) ∷ main_at 3))
    ∷ (OfRun AtRefs second_terms (drafted 2 (branch_to 3)) (RemoveRef draft ∷ to_draft 2 ∷ []) gives Refs (owned 2 draft (branch_to 2) ∷ main_at 3))
    ∷ (OfRun AtRefs second_terms three (adding 4 400000 ∷ to_draft 4 ∷ RemoveSnapshots (pos 4 ∷ []) ∷ to_draft 3 ∷ []) gives Refs (owned 2 draft (branch_to 3) ∷ main_at 3))
    ∷ (OfNumbers (map (λ (r : NamedRef). r.owner) (end_over (drafted 1 (branch_to 3)) (record { terms = terms; updates = RemoveRef draft ∷ [] } ∷ record { terms = second_terms; updates = to_draft 3 ∷ [] } ∷ [])).refs) gives Numbers (2 ∷ 1 ∷ []))
    -- office of a log: it leads there again in its own office; in the other one it can be refused
    ∷ (OfReplay AtRefs second_terms (drafted 2 (branch_to 3)) (to_draft 2 ∷ SetRef extra (branch_to 1) ∷ []) gives Refs (owned 2 draft (branch_to 2) ∷ owned 2 extra (branch_to 1) ∷ main_at 3))
    ∷ (OfRun AtRefs terms (drafted 2 (branch_to 3)) (to_draft 2 ∷ SetRef extra (branch_to 1) ∷ []) gives Refusal 35 0)
    -- needed: of 1, 2 and 3, each the parent of the next, 4 and 5, each the parent of the other, 6 with parent 9, and 9, which is not held, those stay that a ref of the other office names or reaches
    ∷ (OfNumbers (removals terms (related (owned 2 draft (branch_to 3) ∷ []))) gives Numbers (35 ∷ 35 ∷ 35 ∷ 0 ∷ 0 ∷ 0 ∷ 0 ∷ []))
    ∷ (OfNumbers (removals second_terms (related (owned 2 draft (branch_to 3) ∷ []))) gives Numbers (replicate 7 0))
    ∷ (OfNumbers (removals second_terms (related (owned 1 draft (branch_to 2) ∷ []))) gives Numbers (35 ∷ 35 ∷ 0 ∷ 0 ∷ 0 ∷ 0 ∷ 0 ∷ []))
    ∷ (OfNumbers (removals terms (related (owned 1 draft (branch_to 2) ∷ []))) gives Numbers (replicate 7 0))
    ∷ (OfNumbers (removals second_terms (with_snapshot_log [] three)) gives Numbers (35 ∷ 35 ∷ 35 ∷ 0 ∷ 0 ∷ 0 ∷ 0 ∷ []))
    -- needed by a tag: as by a branch
    ∷ (OfNumbers (removals terms (related (owned 2 draft (tag_to 3) ∷ []))) gives Numbers (35 ∷ 35 ∷ 35 ∷ 0 ∷ 0 ∷ 0 ∷ 0 ∷ []))
    -- needed in a cycle: it ends what is reached, and is no 24
    ∷ (OfNumbers (removals terms (related (owned 2 draft (branch_to 4) ∷ []))) gives Numbers (0 ∷ 0 ∷ 0 ∷ 35 ∷ 35 ∷ 0 ∷ 0 ∷ []))
    ∷ (OfNumbers (removals second_terms (related (owned 2 draft (branch_to 4) ∷ []))) gives Numbers (replicate 7 0))
    -- needed by either: of two refs of the other office, and not by an own one
    ∷ (OfNumbers (removals terms (related (owned 2 draft (branch_to 1) ∷ owned 2 extra (branch_to 6) ∷ []))) gives Numbers (35 ∷ 0 ∷ 0 ∷ 0 ∷ 0 ∷ 35 ∷ 0 ∷ []))
    ∷ (OfNumbers (removals terms (related (owned 1 draft (branch_to 3) ∷ owned 2 extra (branch_to 2) ∷ []))) gives Numbers (35 ∷ 35 ∷ 0 ∷ 0 ∷ 0 ∷ 0 ∷ 0 ∷ []))
    ∷ (OfNumbers (removals second_terms (related (owned 1 draft (branch_to 3) ∷ owned 2 extra (branch_to 2) ∷ []))) gives Numbers (35 ∷ 35 ∷ 35 ∷ 0 ∷ 0 ∷ 0 ∷ 0 ∷ []))
    -- one of several: a removal list with one that is needed, after or before one that is not, or beside one that is not held; and lists with none
    ∷ (OfNumbers (map (λ (ids : List ℤ). number_of terms (related (owned 2 draft (branch_to 5) ∷ [])) (RemoveSnapshots ids)) ((pos 1 ∷ pos 4 ∷ []) ∷ (pos 6 ∷ pos 5 ∷ []) ∷ (pos 9 ∷ pos 4 ∷ []) ∷ (pos 1 ∷ pos 6 ∷ []) ∷ [] ∷ [])) gives Numbers (35 ∷ 35 ∷ 35 ∷ 0 ∷ 0 ∷ []))
    -- needed by now: it is asked of the state of the moment. Office 1 adds 9, which `d` of office 2 then reaches
    ∷ (OfRun AtLog terms (related (owned 2 draft (branch_to 6) ∷ [])) (RemoveSnapshots (pos 9 ∷ []) ∷ adding 9 0 ∷ RemoveSnapshots (pos 9 ∷ []) ∷ []) gives Refusal 35 2)
    ∷ (OfRun AtLog terms (related []) (RemoveSnapshots (pos 9 ∷ []) ∷ adding 9 0 ∷ RemoveSnapshots (pos 9 ∷ []) ∷ []) gives Log (adding 9 0 ∷ RemoveSnapshots (pos 9 ∷ []) ∷ []))
    -- logged: what the snapshot log names stays for office 2, if it is held; office 1 may remove it
    ∷ (OfNumbers (removals second_terms (with_snapshot_log (entry 5 0 ∷ entry 9 0 ∷ entry 6 0 ∷ []) (related []))) gives Numbers (0 ∷ 0 ∷ 0 ∷ 0 ∷ 35 ∷ 35 ∷ 0 ∷ []))
    ∷ (OfNumbers (removals terms (with_snapshot_log (entry 5 0 ∷ entry 9 0 ∷ entry 6 0 ∷ []) (related []))) gives Numbers (replicate 7 0))
    -- log unbuilt: the close of office 2 leaves the snapshot log as it is, and does not ask for its end
    ∷ (OfRun AtHistory second_terms lost passing gives History (entry 0 0 ∷ []))
    ∷ (OfRun AtHistory terms lost passing gives History [])
    ∷ (OfRun AtHistory second_terms astray passing gives History (entry 1 100000 ∷ entry 2 50000 ∷ []))
    ∷ (OfRun AtHistory terms astray passing gives Refusal 21 2)
    -- close of office 2: the log of changes, last update, files that expire, and 31, 32, 20 and 23 are as ever
    ∷ (OfRun AtLog second_terms lost passing gives Log passing)
    ∷ (OfRun AtUpdated second_terms lost passing gives Updated (pos 400000))
    ∷ (OfRun AtFiles (as_office 2 file_terms) (empty 2 0 (pos 9000) (file 97 1 ∷ file 98 2 ∷ file 99 3 ∷ [])) [] gives Files (file 97 1 ∷ file 98 2 ∷ []) (file 99 3 ∷ file 100 9000 ∷ []))
    ∷ (OfRun AtLog second_terms (default_at 1 (partitioned 2 (of_aty 0 ∷ []) (unpartitioned ∷ by_y 1000 1 ∷ []) 1000)) [] gives Refusal 31 0)
    ∷ (OfRun AtLog second_terms (default_at 1 (partitioned 2 (of_a 0 ∷ []) (unpartitioned ∷ by_q 1000 1 ∷ []) 1000)) [] gives Refusal 32 0)
    ∷ (OfRun AtLog second_terms (with_fields (with_default_order (pos 1) three.fields) (with_orders (unordered 0 ∷ order_of 9 1 ∷ []) three)) [] gives Refusal 20 0)
    ∷ (OfRun AtLog (as_office 2 (file_named draft)) (with_metadata_log (replicate 128 (file 97 0)) three) [] gives Refusal 23 0)
    -- reach: of a chain, of a cycle, with a parent that is not held, of a start that is not held, and of 64
    ∷ (OfIds (reach (related []).snapshots (pos 3)) gives Ids (pos 3 ∷ pos 2 ∷ pos 1 ∷ []))
    ∷ (OfIds (reach (related []).snapshots (pos 5)) gives Ids (pos 5 ∷ pos 4 ∷ []))
    ∷ (OfIds (reach (related []).snapshots (pos 6)) gives Ids (pos 6 ∷ []))
    ∷ (OfIds (reach (related []).snapshots (pos 9)) gives Ids [])
    ∷ (OfIds (reach (line 64) (pos 63)) gives Ids (backwards (many 64 (λ (i : ℕ). pos i))))
    -- steps: a walk behind those that are listed, with enough steps and with one less; stopped in front of one that is listed, and not
    ∷ (OfFound (follow 3 (parent_of (pos 1 ∷ pos 2 ∷ []) (negsuc 0 ∷ pos 1 ∷ [])) is_in (pos 7 ∷ []) (pos 2)) gives Walked (Listed (pos 7 ∷ pos 2 ∷ pos 1 ∷ [])))
    ∷ (OfFound (follow 2 (parent_of (pos 1 ∷ pos 2 ∷ []) (negsuc 0 ∷ pos 1 ∷ [])) is_in (pos 7 ∷ []) (pos 2)) gives Walked Twice)
    ∷ (OfFound (follow 3 (parent_of (pos 1 ∷ pos 2 ∷ []) (pos 2 ∷ pos 1 ∷ [])) is_in [] (pos 2)) gives Walked (Listed (pos 2 ∷ pos 1 ∷ [])))
    ∷ (OfFound (follow 3 (parent_of (pos 1 ∷ pos 2 ∷ []) (pos 2 ∷ pos 1 ∷ [])) (λ listed id. false) [] (pos 2)) gives Walked Twice)
    -- others: the refs of the other office, in table order
    ∷ (OfIds (map (λ (r : NamedRef). r.reference.snapshot) (others_refs 1 (owned 1 (97 ∷ []) (branch_to 1) ∷ owned 2 (98 ∷ []) (branch_to 2) ∷ owned 1 (99 ∷ []) (branch_to 3) ∷ owned 2 (100 ∷ []) (branch_to 4) ∷ []))) gives Ids (pos 2 ∷ pos 4 ∷ []))
    ∷ (OfIds (map (λ (r : NamedRef). r.reference.snapshot) (others_refs 2 (owned 1 (97 ∷ []) (branch_to 1) ∷ owned 2 (98 ∷ []) (branch_to 2) ∷ owned 1 (99 ∷ []) (branch_to 3) ∷ owned 2 (100 ∷ []) (branch_to 4) ∷ []))) gives Ids (pos 1 ∷ pos 3 ∷ []))
    -- Clauses in which no example above fails, by name, in the order of document 01.
    -- everything: a run touches every part, in one order of its updates and in the other; the answer is this, and nothing of another part is lost
    ∷ (OfRun AtAll file_terms stocked restocking gives Answered (Accepted restocked restocking []))
    ∷ (OfRun AtAll file_terms stocked (backwards restocking) gives Answered (Accepted restocked (backwards restocking) []))
    -- full tables: as much as there is room for is well formed, with files of size 0; one more of each is not
    ∷ (OfTests (map metadata_formed
    (crowded 64 16 128 128 16 32 16 8 32 32
    ∷ crowded 65 16 128 128 16 32 16 8 32 32
    ∷ crowded 64 17 128 128 16 32 16 8 32 32
    ∷ crowded 64 16 129 128 16 32 16 8 32 32
    ∷ crowded 64 16 128 129 16 32 16 8 32 32
    ∷ crowded 64 16 128 128 17 32 16 8 32 32
    ∷ crowded 64 16 128 128 16 33 16 8 32 32
    ∷ crowded 64 16 128 128 16 32 17 8 32 32
    ∷ crowded 64 16 128 128 16 32 16 9 32 32
    ∷ crowded 64 16 128 128 16 32 16 8 33 32
    ∷ crowded 64 16 128 128 16 32 16 8 32 33
    ∷ []))
    gives Tests (true ∷ replicate 10 false))
    -- order of tables: not ascending, neither at the beginning nor later; not with equal keys; names by bytes, a prefix first
    ∷ (OfTests (map metadata_formed
    (with_snapshots (snap 1 none 1 (pos 0) ∷ snap 3 none 1 (pos 0) ∷ snap 2 none 1 (pos 0) ∷ []) first
    ∷ with_snapshots (snap 1 none 1 (pos 0) ∷ snap 1 none 1 (pos 0) ∷ []) first
    ∷ with_schemas (schema_of 1 0 ∷ schema_of 1 2 ∷ schema_of 1 1 ∷ []) first
    ∷ with_schemas (schema_of 1 0 ∷ schema_of 1 0 ∷ []) first
    ∷ with_orders (order_of 1 2 ∷ order_of 1 1 ∷ unordered 0 ∷ []) first
    ∷ with_orders (unordered 0 ∷ unordered 0 ∷ []) first
    ∷ with_statistics Statistics (attached 2 1 ∷ attached 1 1 ∷ []) first
    ∷ with_statistics PartitionStatistics (attached 1 1 ∷ attached 1 1 ∷ []) first
    ∷ with_refs (named main_name ∷ named main_name ∷ []) first
    ∷ with_refs (named (97 ∷ 98 ∷ []) ∷ named (97 ∷ []) ∷ named main_name ∷ []) first
    ∷ with_refs (named (98 ∷ 97 ∷ []) ∷ named (97 ∷ 98 ∷ []) ∷ named main_name ∷ []) first
    ∷ with_refs (named [] ∷ named (97 ∷ []) ∷ named (97 ∷ 98 ∷ []) ∷ named (98 ∷ []) ∷ named main_name ∷ []) first
    ∷ []))
    gives Tests (replicate 11 false ++ (true ∷ [])))
    -- records in tables: an id or a number out of its bounds in a table is not well formed
    ∷ (OfTests (map metadata_formed
    (with_snapshots (record { id = negsuc 0; parent = none; sequence = record { 0 = pos 1 }; time = pos 0; rows = none } ∷ snap 1 none 1 (pos 0) ∷ []) first
    ∷ with_refs (ref_of draft (keeping (pos 1) 1 (some (pos 0)) none none) ∷ named main_name ∷ []) first
    ∷ with_refs (named main_name ∷ named (replicate 33 110) ∷ []) first
    ∷ with_snapshot_log (record { snapshot = negsuc 0; time = pos 0 } ∷ []) first
    ∷ with_metadata_log (record { file = replicate 97 97; time = pos 0 } ∷ []) first
    ∷ with_schemas (schema_of 1 0 ∷ schema_of 0 1 ∷ []) first
    ∷ with_orders (unordered 0 ∷ unordered 1 ∷ []) first
    ∷ with_orders (order_of 1 0 ∷ []) first
    ∷ with_statistics Statistics (record { snapshot = pos 1; path = []; size = negsuc 0 } ∷ []) first
    ∷ with_statistics PartitionStatistics (record { snapshot = negsuc 0; path = []; size = pos 0 } ∷ []) first
    ∷ []))
    gives Tests (replicate 10 false))
    -- names and types in tables: beside field 1 a field of the type 0 or 3, of a name of 33 bytes or of the name of field 1, or of an id of both, is not well formed; one of 32 bytes and one of none are, the latter in two schemas
    ∷ (OfTests (map metadata_formed
    (with_schemas (schema_with (long_field 1 ∷ second 0 [] ∷ []) 0 ∷ []) first
    ∷ with_schemas (schema_with (long_field 1 ∷ second 3 [] ∷ []) 0 ∷ []) first
    ∷ with_schemas (schema_with (long_field 1 ∷ second long (replicate 33 97) ∷ []) 0 ∷ []) first
    ∷ with_schemas (schema_with (long_field 3 ∷ long_field 1 ∷ second long (1 ∷ []) ∷ []) 0 ∷ []) first
    ∷ with_schemas (schema_with (long_field 2 ∷ second long (1 ∷ []) ∷ []) 0 ∷ []) first
    ∷ with_schemas (schema_with (long_field 1 ∷ second timestamp (replicate 32 97) ∷ []) 0 ∷ []) first
    ∷ with_schemas (schema_with (long_field 1 ∷ second timestamp [] ∷ []) 0 ∷ schema_with (long_field 1 ∷ second long [] ∷ []) 1 ∷ []) first
    ∷ []))
    gives Tests (replicate 5 false ++ (true ∷ true ∷ [])))
    ∷ (OfRun AtLog terms (with_schemas (schema_with (long_field 1 ∷ second long (1 ∷ []) ∷ []) 0 ∷ []) three) [] gives Refusal 1 0)
    -- single fields: version 0 and 4, a location of 97 bytes, a last sequence number and a last partition id below 0; a last partition id of 0 is well formed
    ∷ (OfTests (map metadata_formed
    (with_fields (with_version 0 (record { 0 = 0 }) first.fields) first
    ∷ with_fields (with_version 4 (record { 0 = 0 }) first.fields) first
    ∷ with_fields (with_location (replicate 97 116) first.fields) first
    ∷ with_fields (with_last_sequence (record { 0 = negsuc 0 }) (record { 0 = 0 }) first.fields) first
    ∷ with_fields (with_last_partition (negsuc 0) first.fields) first
    ∷ with_fields (with_last_partition (pos 0) first.fields) first
    ∷ []))
    gives Tests (replicate 5 false ++ (true ∷ [])))
    -- what is named: a ref to a snapshot that is not held, a current schema, a default order and a default spec that are not held
    ∷ (OfTests (map metadata_formed
    (with_refs (ref_of draft (branch_to 9) ∷ named main_name ∷ []) first
    ∷ with_fields (with_current_schema (pos 9) first.fields) first
    ∷ with_fields (with_default_order (pos 9) first.fields) first
    ∷ default_at 9 first
    ∷ []))
    gives Tests (replicate 4 false))
    -- bounds: the largest and the smallest that an update may have, of each length and each number
    ∷ (OfTests (map update_formed
    (UpgradeFormatVersion 1
    ∷ UpgradeFormatVersion 3
    ∷ SetLocation (replicate 96 47)
    ∷ AddSnapshot (snap 0 (some (pos 0)) 0 (negsuc 0))
    ∷ SetBranchSnapshot (replicate 32 97) (snap 0 none 0 (pos 0))
    ∷ RemoveSnapshots (replicate 16 (pos 0))
    ∷ SetRef (replicate 32 97) (keeping (pos 0) 1 (some (pos 1)) (some (pos 1)) (some (pos 1)))
    ∷ SetRef [] (keeping (pos 0) 2 none none (some (pos 1)))
    ∷ RemoveRef (replicate 32 97)
    ∷ AddSchema (offer_of 1 0)
    ∷ SetCurrentSchema (negsuc 0)
    ∷ RemoveSchemas (replicate 16 (pos 0))
    ∷ AddSortOrder (order_by 0 (replicate 8 (by (pos 1) 1 1)))
    ∷ AddSortOrder (unordered 7)
    ∷ SetDefaultSortOrder (negsuc 0)
    ∷ SetStatistics Statistics (record { snapshot = pos 0; path = replicate 96 112; size = pos 0 })
    ∷ RemoveStatistics Statistics (pos 0)
    ∷ AddPartitionSpec (spec_from 0 (some (pos 1) ∷ replicate 7 none) 0)
    ∷ SetDefaultPartitionSpec (negsuc 0)
    ∷ RemovePartitionSpecs (replicate 16 (pos 0))
    ∷ []))
    gives Tests (replicate 20 true))
    -- offers: as many fields as there may be, the largest id, no field, none past the last byte; and one more field, no id, an id twice, an id past the largest, a byte that is not there, a schema id below 0
    ∷ (OfTests (map (offer_formed schema_offers) (offer_from 0 32 0 ∷ offer_from 42 1 0 ∷ offer_from 53 0 0 ∷ offer_from 40 2 7 ∷ [])) gives Tests (replicate 4 true))
    ∷ (OfTests (map (offer_formed schema_offers) (offer_from 0 33 0 ∷ offer_from 33 1 0 ∷ offer_from 34 3 0 ∷ offer_from 43 1 0 ∷ offer_from 53 1 0 ∷ offer_from 54 0 0 ∷ record { id = negsuc 0; at = 0; count = 1 } ∷ [])) gives Tests (replicate 7 false))
    -- offered names and types: a timestamp, a name that an older schema has, no name beside the longest; and a name twice, the types 0 and 3, a byte past the name, a length past the longest, which are 3
    ∷ (OfTests (map (offer_formed schema_offers) (offer_from 44 1 0 ∷ offer_from 45 1 0 ∷ offer_from 46 1 0 ∷ offer_from 49 2 0 ∷ [])) gives Tests (replicate 4 true))
    ∷ (OfTests (map (offer_formed schema_offers) (offer_from 45 2 0 ∷ offer_from 47 1 0 ∷ offer_from 48 1 0 ∷ offer_from 51 1 0 ∷ offer_from 52 1 0 ∷ [])) gives Tests (replicate 5 false))
    ∷ (OfRun AtLog terms three (AddSchema (offer_from 45 2 0) ∷ []) gives Refusal 3 0)
    -- an offered id of four bytes
    ∷ (OfRun AtColumn terms three (AddSchema (offer_from 42 1 0) ∷ []) gives Column (pos 2147483647))
    -- an offer that is not well formed is 3, also where a table is full
    ∷ (OfRun AtLog terms (crowded 1 0 0 0 16 1 1 1 0 0) (AddSchema (offer_from 33 1 0) ∷ []) gives Refusal 3 0)
    -- out of bounds: one more, or one less
    ∷ (OfTests (map update_formed
    (UpgradeFormatVersion 0
    ∷ UpgradeFormatVersion 4
    ∷ SetLocation (replicate 97 47)
    ∷ AddSnapshot (record { id = negsuc 0; parent = none; sequence = record { 0 = pos 0 }; time = pos 0; rows = none })
    ∷ AddSnapshot (record { id = pos 0; parent = none; sequence = record { 0 = negsuc 0 }; time = pos 0; rows = none })
    ∷ SetBranchSnapshot (replicate 33 97) (snap 0 none 0 (pos 0))
    ∷ SetBranchSnapshot draft (snap 0 (some (negsuc 0)) 0 (pos 0))
    ∷ RemoveSnapshots (replicate 17 (pos 0))
    ∷ RemoveSnapshots (negsuc 0 ∷ [])
    ∷ SetRef (replicate 33 97) (branch_to 0)
    ∷ SetRef draft (keeping (negsuc 0) 1 none none none)
    ∷ SetRef draft (keeping (pos 0) 0 none none none)
    ∷ SetRef draft (keeping (pos 0) 3 none none none)
    ∷ SetRef draft (keeping (pos 0) 2 (some (pos 1)) none none)
    ∷ SetRef draft (keeping (pos 0) 2 none (some (pos 1)) none)
    ∷ SetRef draft (keeping (pos 0) 1 (some (pos 0)) none none)
    ∷ SetRef draft (keeping (pos 0) 1 none (some (pos 0)) none)
    ∷ SetRef draft (keeping (pos 0) 1 none none (some (pos 0)))
    ∷ RemoveRef (replicate 33 97)
    ∷ AddSchema (record { id = negsuc 0; at = 0; count = 0 })
    ∷ SetCurrentSchema (negsuc 1)
    ∷ RemoveSchemas (replicate 17 (pos 0))
    ∷ RemoveSchemas (negsuc 0 ∷ [])
    ∷ AddSortOrder (record { id = negsuc 0; fields = [] })
    ∷ AddSortOrder (order_by 0 (replicate 9 (by (pos 1) 0 0)))
    ∷ AddSortOrder (order_by 0 (by (pos 0) 0 0 ∷ []))
    ∷ AddSortOrder (order_by 0 (by (pos 1) 2 0 ∷ []))
    ∷ AddSortOrder (order_by 0 (by (pos 1) 0 2 ∷ []))
    ∷ SetDefaultSortOrder (negsuc 1)
    ∷ AddPartitionSpec (record { id = negsuc 0; at = 0; ids = [] })
    ∷ AddPartitionSpec (spec_from 0 (replicate 9 none) 0)
    ∷ AddPartitionSpec (spec_from 0 (none ∷ some (pos 0) ∷ []) 0)
    ∷ AddPartitionSpec (spec_from 0 (some (negsuc 0) ∷ none ∷ []) 0)
    ∷ SetDefaultPartitionSpec (negsuc 1)
    ∷ RemovePartitionSpecs (replicate 17 (pos 0))
    ∷ RemovePartitionSpecs (negsuc 0 ∷ [])
    ∷ NotFormed 1
    ∷ []))
    gives Tests (replicate 37 false))
    -- weights: one of each kind, of which the branch commit counts 2 and one that is not formed 5; and by the kind alone
    ∷ (OfNumbers (list_sum one_of_each ∷ total kind_weight (4 ∷ 5 ∷ 6 ∷ []) ∷ []) gives Numbers (24 ∷ 4 ∷ []))
    -- file's name: 96 bytes pass, 97 are 1
    ∷ (OfRun AtUpdated (file_named (replicate 96 97)) three [] gives Updated (pos 500000))
    ∷ (OfRun AtUpdated (file_named (replicate 97 97)) three [] gives Refusal 1 0)
    -- held trimmed: a location that was trimmed is equal to the next one
    ∷ (OfRun AtLog terms three (SetLocation (117 ∷ 47 ∷ []) ∷ SetLocation (117 ∷ []) ∷ []) gives Log (SetLocation (117 ∷ []) ∷ []))
    -- own update: a schema leaves the run's last update
    ∷ (OfRun AtUpdated terms three (adding 4 400000 ∷ AddSchema (offer_of 2 1) ∷ []) gives Updated (pos 400000))
    -- full of snapshots: 63 leave room for one, 64 do not; 11 comes before 19
    ∷ (OfRun AtSequence terms (crowded 63 0 0 0 1 1 1 1 0 0) (adding 64 0 ∷ []) gives Sequence (record { 0 = pos 64 }))
    ∷ (OfRun AtSequence terms (crowded 64 0 0 0 1 1 1 1 0 0) (adding 64 0 ∷ []) gives Refusal 19 0)
    ∷ (OfRun AtSequence terms (crowded 64 0 0 0 1 1 1 1 0 0) (UpgradeFormatVersion 3 ∷ AddSnapshot (snap_rows 64 18446744073709551615 1) ∷ []) gives Refusal 11 1)
    -- last entry alone: an earlier entry with a later time does not count
    ∷ (OfRun AtUpdated terms (with_snapshot_log (entry 1 300000 ∷ entry 1 100000 ∷ []) first) (adding 2 50000 ∷ []) gives Updated (pos 50000))
    -- unequal refs: refs that differ in the kind, in one age or in the other
    ∷ (OfRun AtLog terms three (to_draft 3 ∷ SetRef draft (tag_to 3) ∷ SetRef draft (keeping (pos 3) 2 none none (some (pos 5))) ∷ to_draft 3 ∷ SetRef draft (keeping (pos 3) 1 none (some (pos 5)) none) ∷ [])
    gives Log (to_draft 3 ∷ SetRef draft (tag_to 3) ∷ SetRef draft (keeping (pos 3) 2 none none (some (pos 5))) ∷ to_draft 3 ∷ SetRef draft (keeping (pos 3) 1 none (some (pos 5)) none) ∷ []))
    -- full of refs: 15 leave room for one, 16 do not, also for a commit; a name that is held needs none; 12 comes before 19
    ∷ (OfRun AtLog terms (crowded 2 15 0 0 1 1 1 1 0 0) (to_draft 0 ∷ []) gives Log (to_draft 0 ∷ []))
    ∷ (OfRun AtLog terms (crowded 2 16 0 0 1 1 1 1 0 0) (to_draft 0 ∷ []) gives Refusal 19 0)
    ∷ (OfRun AtLog terms (crowded 2 16 0 0 1 1 1 1 0 0) (SetBranchSnapshot draft (snap 4 none 4 (pos 0)) ∷ []) gives Refusal 19 0)
    ∷ (OfRun AtLog terms (crowded 2 16 0 0 1 1 1 1 0 0) (SetRef (3 ∷ []) (branch_to 1) ∷ []) gives Log (SetRef (3 ∷ []) (branch_to 1) ∷ []))
    ∷ (OfRun AtLog terms (crowded 2 16 0 0 1 1 1 1 0 0) (to_draft 9 ∷ []) gives Refusal 12 0)
    -- full history: 127 entries leave room for one, 128 do not; another ref, or an equal `main`, needs none
    ∷ (OfRun AtLog terms (crowded 1 0 127 0 1 1 1 1 0 0) (to_main 0 ∷ []) gives Log (to_main 0 ∷ []))
    ∷ (OfRun AtLog terms (crowded 1 0 128 0 1 1 1 1 0 0) (to_main 0 ∷ []) gives Refusal 19 0)
    ∷ (OfRun AtLog terms (crowded 1 0 128 0 1 1 1 1 0 0) (to_draft 0 ∷ []) gives Log (to_draft 0 ∷ []))
    ∷ (OfRun AtLog terms (with_snapshot_log (replicate 128 (entry 1 0)) first) (to_main 1 ∷ []) gives Log [])
    -- another ref's time: a ref other than `main` to a snapshot that the run added makes its time the last update too
    ∷ (OfRun AtUpdated terms three (adding 4 420000 ∷ adding 5 410000 ∷ to_draft 4 ∷ []) gives Updated (pos 420000))
    -- commit keeps all: the fewest snapshots and both ages
    ∷ (OfRun AtLog terms three (SetRef draft (keeping (pos 3) 1 (some (pos 5)) (some (pos 6)) (some (pos 7))) ∷ SetBranchSnapshot draft (snap 4 none 4 (pos 400000)) ∷ [])
    gives Log (SetRef draft (keeping (pos 3) 1 (some (pos 5)) (some (pos 6)) (some (pos 7))) ∷ adding 4 400000 ∷ SetRef draft (keeping (pos 4) 1 (some (pos 5)) (some (pos 6)) (some (pos 7))) ∷ []))
    -- refs by name: `ab`, `a` and `b` are set to snapshot 1 and stand in the order of their bytes; of two one goes, and is logged
    ∷ (OfRun AtRefs terms first (SetRef (97 ∷ 98 ∷ []) (branch_to 1) ∷ SetRef (97 ∷ []) (branch_to 1) ∷ SetRef (98 ∷ []) (branch_to 1) ∷ []) gives Refs (named (97 ∷ []) ∷ named (97 ∷ 98 ∷ []) ∷ named (98 ∷ []) ∷ named main_name ∷ []))
    ∷ (OfRun AtRefs terms stocked (SetRef (97 ∷ []) (branch_to 1) ∷ RemoveRef draft ∷ []) gives Refs (named (97 ∷ []) ∷ named main_name ∷ []))
    ∷ (OfRun AtLog terms stocked (RemoveRef draft ∷ []) gives Log (RemoveRef draft ∷ []))
    -- the bytes of main: an absent ref of this name is logged
    ∷ (OfRun AtLog terms (empty 2 0 (pos 0) []) (RemoveRef (109 ∷ 97 ∷ 105 ∷ 110 ∷ []) ∷ []) gives Log (RemoveRef (109 ∷ 97 ∷ 105 ∷ 110 ∷ []) ∷ []))
    -- smallest id: of several schemas of equal fields, here the current one, and of several orders; fields in another order are not equal
    ∷ (OfRun AtLog terms (crowded 1 0 0 0 3 2 3 1 0 0) (AddSchema (offer_from 0 2 9) ∷ SetCurrentSchema (negsuc 0) ∷ AddSortOrder (order_at 1 2) ∷ AddSchema (offer_from 40 2 3) ∷ [])
    gives Log (AddSchema (offer_from 0 2 9) ∷ AddSortOrder (order_at 1 1) ∷ AddSchema (offer_from 40 2 3) ∷ []))
    -- highest field: last column id is the highest field id, wherever it stands
    ∷ (OfRun AtColumn terms three (AddSchema (offer_from 37 3 1) ∷ []) gives Column (pos 9))
    -- largest schema id: 2147483647 may be given; then 18, before 19, and not for one that is reused
    ∷ (OfRun AtLog terms (with_schemas (schema_of 1 0 ∷ schema_of 1 2147483646 ∷ []) three) (AddSchema (offer_of 2 2147483647) ∷ []) gives Log (AddSchema (offer_of 2 2147483647) ∷ []))
    ∷ (OfRun AtLog terms (with_schemas (many 15 (schema_of 1) ++ (schema_of 1 2147483647 ∷ [])) three) (AddSchema (offer_of 2 0) ∷ []) gives Refusal 18 0)
    ∷ (OfRun AtLog terms (with_schemas (many 15 (schema_of 1) ++ (schema_of 1 2147483647 ∷ [])) three) (AddSchema (offer_of 1 0) ∷ []) gives Log (AddSchema (offer_of 1 0) ∷ []))
    -- full of schemas: 15 leave room for one, 16 do not
    ∷ (OfRun AtLog terms (crowded 1 0 0 0 15 1 1 1 0 0) (AddSchema (offer_of 2 15) ∷ []) gives Log (AddSchema (offer_of 2 15) ∷ []))
    ∷ (OfRun AtLog terms (crowded 1 0 0 0 16 1 1 1 0 0) (AddSchema (offer_of 2 16) ∷ []) gives Refusal 19 0)
    -- last added stays: an order and a snapshot leave what -1 stands for among schemas, a schema what it stands for among orders; the id is set, so its removal is 16
    ∷ (OfRun AtLog terms three (AddSortOrder (order_of 1 1) ∷ AddSchema (offer_of 2 1) ∷ SetDefaultSortOrder (negsuc 0) ∷ []) gives Log (AddSortOrder (order_of 1 1) ∷ AddSchema (offer_of 2 1) ∷ SetDefaultSortOrder (negsuc 0) ∷ []))
    ∷ (OfRun AtLog terms three (AddSchema (offer_of 2 1) ∷ AddSortOrder (order_of 1 1) ∷ adding 4 400000 ∷ SetCurrentSchema (negsuc 0) ∷ RemoveSchemas (pos 1 ∷ []) ∷ []) gives Refusal 16 4)
    -- unequal orders: orders that differ in source, direction or nulls; one id is left out, and highest + 1 comes next
    ∷ (OfRun AtLog terms (with_orders (unordered 0 ∷ order_of 2 1 ∷ order_of 3 5 ∷ []) stocked) (SetCurrentSchema (pos 2) ∷ AddSortOrder (order_by 6 (by (pos 2) 1 0 ∷ [])) ∷ AddSortOrder (order_by 7 (by (pos 2) 0 1 ∷ [])) ∷ AddSortOrder (order_of 3 0) ∷ [])
    gives Log (SetCurrentSchema (pos 2) ∷ AddSortOrder (order_by 6 (by (pos 2) 1 0 ∷ [])) ∷ AddSortOrder (order_by 7 (by (pos 2) 0 1 ∷ [])) ∷ AddSortOrder (order_of 3 5) ∷ []))
    -- one field not there: of two that a new order names
    ∷ (OfRun AtLog terms three (AddSortOrder (order_by 0 (by (pos 1) 0 0 ∷ by (pos 2) 0 0 ∷ [])) ∷ []) gives Refusal 17 0)
    -- largest order id: 9223372036854775807 may be given; then 18, before 17; not for an order of no fields, which gets id 0, nor for one that is reused
    ∷ (OfRun AtLog terms (with_orders (unordered 0 ∷ order_by 9223372036854775806 (by (pos 1) 1 1 ∷ []) ∷ []) three) (AddSortOrder (order_of 1 9223372036854775807) ∷ []) gives Log (AddSortOrder (order_of 1 9223372036854775807) ∷ []))
    ∷ (OfRun AtLog terms (with_orders (unordered 0 ∷ order_of 1 9223372036854775807 ∷ []) three) (AddSortOrder (order_of 2 0) ∷ []) gives Refusal 18 0)
    ∷ (OfRun AtLog terms (with_orders (order_of 1 9223372036854775807 ∷ []) (with_fields (with_default_order (pos 9223372036854775807) three.fields) three)) (AddSortOrder (order_of 1 0) ∷ AddSortOrder (unordered 7) ∷ [])
    gives Log (AddSortOrder (order_of 1 9223372036854775807) ∷ AddSortOrder (unordered 0) ∷ []))
    -- full of orders: 15 leave room for one, 16 do not, also for one of no fields; 17 comes before 19
    ∷ (OfRun AtLog terms (crowded 1 0 0 0 1 1 15 1 0 0) (AddSortOrder (order_of 1 15) ∷ []) gives Log (AddSortOrder (order_of 1 15) ∷ []))
    ∷ (OfRun AtLog terms (crowded 1 0 0 0 1 1 16 1 0 0) (AddSortOrder (order_of 1 16) ∷ []) gives Refusal 19 0)
    ∷ (OfRun AtLog terms (crowded 1 0 0 0 1 1 16 1 0 0) (AddSortOrder (order_of 2 16) ∷ []) gives Refusal 17 0)
    ∷ (OfRun AtLog terms (with_orders (many 16 (λ (i : ℕ). order_of 1 (suc i))) (with_fields (with_default_order (pos 1) three.fields) three)) (AddSortOrder (unordered 0) ∷ []) gives Refusal 19 0)
    -- other order unfit: one that is not the default may name a field that the current schema has not
    ∷ (OfRun AtLog terms three (AddSortOrder (order_of 1 1) ∷ AddSchema (offer_of 2 1) ∷ SetCurrentSchema (negsuc 0) ∷ []) gives Log (AddSortOrder (order_of 1 1) ∷ AddSchema (offer_of 2 1) ∷ SetCurrentSchema (negsuc 0) ∷ []))
    -- other removals: of schemas, of a ref, of statistics and of a spec; none of them is one of snapshots, so the log stays
    ∷ (OfRun AtHistory terms gapped (RemoveSchemas (pos 7 ∷ []) ∷ to_draft 1 ∷ RemoveRef draft ∷ attaching 9 1 ∷ RemoveStatistics Statistics (pos 9) ∷ adding_spec 0 1 0 ∷ RemovePartitionSpecs (pos 1 ∷ []) ∷ []) gives History (entry 2 50000 ∷ entry 1 100000 ∷ []))
    -- removed intermediate: 4 was `main` on the way to 5 and is removed, so the history begins after its entry
    ∷ (OfRun AtHistory terms three (adding 4 400000 ∷ to_main 4 ∷ adding 5 410000 ∷ to_main 5 ∷ RemoveSnapshots (pos 4 ∷ []) ∷ []) gives History (entry 5 410000 ∷ []))
    -- too many files: 127 and one that joins may stay, 128 and one may not, unless the limit lets some expire; 22 comes before 23
    ∷ (OfRun AtUpdated (file_named draft) (with_metadata_log (replicate 127 (file 97 0)) three) [] gives Updated (pos 500000))
    ∷ (OfRun AtUpdated (file_named draft) (with_metadata_log (replicate 128 (file 97 0)) three) [] gives Refusal 23 0)
    ∷ (OfRun AtUpdated file_terms (with_metadata_log (replicate 128 (file 97 0)) three) [] gives Updated (pos 500000))
    ∷ (OfRun AtUpdated (file_named draft) (with_metadata_log (replicate 128 (file 97 0)) three) (RemoveSnapshots (pos 3 ∷ []) ∷ adding 3 400000 ∷ []) gives Refusal 22 2)
    -- minus: it is no number
    ∷ (OfLimit (some (45 ∷ 53 ∷ [])) gives Limit 100)
    -- longest lists: 64 ids are walked, 65 are bad, and so is a parent too many
    ∷ (OfWalk (many 64 (λ (i : ℕ). pos i)) (replicate 64 (negsuc 0)) (pos 5) none gives Walked (Listed (pos 5 ∷ [])))
    ∷ (OfWalk (many 65 (λ (i : ℕ). pos i)) (replicate 65 (negsuc 0)) (pos 5) none gives Walked Bad)
    ∷ (OfWalk (pos 1 ∷ []) (negsuc 0 ∷ negsuc 0 ∷ []) (pos 1) none gives Walked Bad)
    -- longest walk: one that lists 64
    ∷ (OfRecords (line 64) (pos 63) none gives Walked (Listed (backwards (many 64 (λ (i : ℕ). pos i)))))
    -- unheld exclusion: the excluded id is a parent that is not held
    ∷ (OfWalk (pos 2 ∷ pos 3 ∷ []) (pos 1 ∷ pos 2 ∷ []) (pos 3) (some (pos 1)) gives Walked (Listed (pos 3 ∷ pos 2 ∷ [])))
    -- buffer: what fits is written and the rest kept; what does not fit is 25, 24 comes before that, and 1 first; a refused walk counts 0 and writes nothing
    ∷ (OfBuffer (pos 7 ∷ pos 8 ∷ pos 9 ∷ []) (pos 1 ∷ pos 2 ∷ []) (negsuc 0 ∷ pos 1 ∷ []) (pos 2) none gives Filled 0 2 (pos 2 ∷ pos 1 ∷ pos 9 ∷ []))
    ∷ (OfBuffer (pos 7 ∷ pos 8 ∷ []) (pos 1 ∷ pos 2 ∷ []) (negsuc 0 ∷ pos 1 ∷ []) (pos 2) none gives Filled 0 2 (pos 2 ∷ pos 1 ∷ []))
    ∷ (OfBuffer (pos 7 ∷ []) (pos 1 ∷ pos 2 ∷ []) (negsuc 0 ∷ pos 1 ∷ []) (pos 2) none gives Filled 25 0 (pos 7 ∷ []))
    ∷ (OfBuffer (pos 7 ∷ []) (pos 1 ∷ pos 2 ∷ []) (pos 2 ∷ pos 1 ∷ []) (pos 2) none gives Filled 24 0 (pos 7 ∷ []))
    ∷ (OfBuffer [] (pos 1 ∷ pos 2 ∷ []) (pos 2 ∷ pos 1 ∷ []) (pos 2) none gives Filled 24 0 [])
    ∷ (OfBuffer (pos 7 ∷ []) (pos 1 ∷ pos 1 ∷ []) (pos 2 ∷ pos 1 ∷ []) (pos 2) none gives Filled 1 0 (pos 7 ∷ []))
    -- row-id check: what it gives is the end of the range; 9 and 11 leave next row id, and 9 comes before 11
    ∷ (OfRows 5 10 4 gives Rows 0 (record { 0 = 14 }))
    ∷ (OfRows 5 4 4 gives Rows 9 (record { 0 = 5 }))
    ∷ (OfRows 5 10 18446744073709551615 gives Rows 11 (record { 0 = 5 }))
    ∷ (OfRows 5 4 18446744073709551615 gives Rows 9 (record { 0 = 5 }))
    -- rows of a range: from the first on, and not its end; an empty range has none
    ∷ (OfTests (has_row (range 2 3) 1 ∷ has_row (range 2 3) 2 ∷ has_row (range 2 3) 4 ∷ has_row (range 2 3) 5 ∷ has_row (range 2 0) 2 ∷ []) gives Tests (false ∷ true ∷ true ∷ false ∷ false ∷ []))
    -- climbing ranges: each begins at or after the end of the one before, the first at or after the number, and ends by 2^64 - 1
    ∷ (OfTests (climbs 2 (range 2 3 ∷ range 5 1 ∷ range 18446744073709551615 0 ∷ []) ∷ climbs 3 (range 2 3 ∷ []) ∷ climbs 0 (range 2 3 ∷ range 4 1 ∷ []) ∷ climbs 0 (range 18446744073709551615 1 ∷ []) ∷ []) gives Tests (true ∷ false ∷ false ∷ false ∷ []))
    -- new snapshots: those of additions and of commits; only some have rows
    ∷ (OfNumbers (length (new_snapshots one_of_each) ∷ map end_of (ranges_of (snap 1 none 1 (pos 0) ∷ snap_rows 2 4 3 ∷ []))) gives Numbers (2 ∷ 7 ∷ []))
    ∷ (OfTests (has_rows (snap 1 none 1 (pos 0)) ∷ has_rows (snap_rows 2 4 3) ∷ []) gives Tests (false ∷ true ∷ []))
    -- end of runs: what the last run answers; here the second is refused with 9, and leaves what the first answered
    ∷ (OfNumbers (next_row_of (end_over (empty 3 10 (pos 0) []) (record { terms = terms; updates = AddSnapshot (snap_rows 1 10 10) ∷ [] } ∷ record { terms = terms; updates = AddSnapshot (snap_rows 2 10 9) ∷ [] } ∷ [])) ∷ []) gives Numbers (20 ∷ []))
    -- apart: a snapshot without rows is apart from any, and an empty range too; of three ranges the first and the last are not
    ∷ (OfTests (map is_apart
    (with_rows (snap 1 none 1 (pos 0) ∷ snap_rows 2 0 4 ∷ [])
    ∷ with_rows (snap_rows 1 0 4 ∷ snap 2 none 1 (pos 0) ∷ [])
    ∷ with_rows (snap_rows 1 2 0 ∷ snap_rows 2 0 4 ∷ [])
    ∷ with_rows (snap_rows 1 0 4 ∷ snap_rows 2 4 1 ∷ snap_rows 3 2 1 ∷ [])
    ∷ []))
    gives Tests (true ∷ true ∷ true ∷ false ∷ []))
    -- removed among others: one of the snapshots that are removed is added; a removed schema of the same id is none
    ∷ (OfTests (removes_and_adds (adding 4 0 ∷ RemoveSnapshots (pos 2 ∷ pos 4 ∷ []) ∷ []) ∷ removes_and_adds (adding 4 0 ∷ RemoveSchemas (pos 4 ∷ []) ∷ []) ∷ []) gives Tests (true ∷ false ∷ []))
    -- left out: of a log, removals that name no schema; not one that names one, nor a removal of no snapshots or specs
    ∷ (OfNumbers (length (strip (RemoveSchemas [] ∷ RemoveSchemas (pos 1 ∷ []) ∷ RemoveSnapshots [] ∷ RemovePartitionSpecs [] ∷ [])) ∷ []) gives Numbers (3 ∷ []))
    -- signs: a number below 0 is not one that is not
    ∷ (OfTests (eq_z (negsuc 0) (pos 0) ∷ eq_z (pos 0) (negsuc 0) ∷ eq_z (negsuc 0) (negsuc 0) ∷ []) gives Tests (false ∷ false ∷ true ∷ []))
    ∷ []
