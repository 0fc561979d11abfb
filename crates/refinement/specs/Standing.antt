-- The pieces that a run holds, and how they stand to a state of the rules.
use Rattle.std.specs.Prelude.{ℕ, ◌+◌, ◌≤◌, ◌≡◌, Bool, true, false, ◌||◌, List, map, ltb, ℤ, pos, length, drop, set}
use Rattle.records.specs.Blanks.{no_update}
use Rattle.records.specs.declared.counters.Time.{Time}
use Rattle.records.specs.declared.metadata.TableMetadata.{TableMetadata}
use Rattle.records.specs.declared.snapshot.Snapshots.{Snapshots}
use Rattle.records.specs.declared.snapshot.SnapshotLog.{SnapshotLog}
use Rattle.records.specs.declared.reference.Refs.{Refs}
use Rattle.records.specs.declared.schema.Schemas.{Schemas}
use Rattle.records.specs.declared.sort_order.SortOrders.{SortOrders}
use Rattle.records.specs.declared.statistics.StatisticsFiles.{StatisticsFiles}
use Rattle.records.specs.declared.partition.PartitionSpecs.{PartitionSpecs}
use Rattle.records.specs.declared.update.TableUpdate.{TableUpdate}
use Rattle.records.specs.declared.update.UpdateList.{UpdateList}
use Rattle.records.specs.declared.run.RunTerms.{RunTerms}
use Rattle.records.specs.declared.run.Answer.{Answer}
use Rattle.rules.specs.Words.{total, any}
use Rattle.rules.specs.Register as plain
use Rattle.rules.specs.Register.{StatisticsTable, Metadata, Update, Terms, State}
use Rattle.rules.specs.Register.StatisticsTable.{Statistics, PartitionStatistics}
use Rattle.rules.specs.ChangeLog.{logs_main, logs_removal}
use Rattle.rules.specs.WellFormed.{update_formed}
use Rattle.rules.specs.Others.{is_second, is_others_ref, is_others}
use Rattle.rules.specs.Run.{weight, run_from, started}
use Rattle.rules.specs.Layout.{given, pad, laid_snapshots, laid_refs, laid_snapshot_log, laid_schemas, laid_sort_orders, laid_statistics, laid_partition_specs, read_metadata, read_refs, read_metadata_log, laid_metadata_log}
use Rattle.rules.specs.Kinds.{read_updates, laid_update}
use Rattle.rules.specs.Answer.{Lent, read_terms, answer}
use Rattle.rules.proofs.Sound.Metadata.{Sound}
use Rattle.builder.specs.declared.builder.TableMetadataBuilder.{TableMetadataBuilder}
use Rattle.builder.specs.declared.decision.Decision.{Decision}
use Rattle.builder.specs.Pieces.{laid_builder, ids_of, last_time}
use Rattle.schema_updates.specs.declared.keys.SchemaKeys.{SchemaKeys}
use Rattle.schema_updates.specs.Keys.{laid_keys}
use Rattle.start.proofs.Started.{Starts}
use Rattle.close.specs.Facts.{additions}

-- ---- what a run is given, and what it holds

pub record Given : Type 0 where
  pub metadata : TableMetadata
  pub updates : UpdateList
  pub terms : RunTerms
  pub lent : Lent

abbrev pub terms_of : Given → Terms
terms_of g = read_terms g.terms g.lent

abbrev pub answer_of : Given → Answer
answer_of g = answer g.metadata g.updates g.terms g.lent

-- the schemas, and their ids beside the table, which is large
pub record HeldSchemas : Type 0 where
  pub table : Schemas
  pub keys : SchemaKeys

-- the tables that only their own updates change: a family of updates has one of them, and no other update touches it
pub record OwnTables : Type 0 where
  pub schemas : HeldSchemas
  pub orders : SortOrders
  pub statistics : StatisticsFiles
  pub partition_statistics : StatisticsFiles
  pub specs : PartitionSpecs

-- one of them, by its family
pub data OwnTable : Type 0 where
  of_schemas : OwnTable
  of_orders : OwnTable
  of_statistics : StatisticsTable → OwnTable
  of_specs : OwnTable

abbrev pub Slots : OwnTable → Type 0
Slots of_schemas = HeldSchemas
Slots of_orders = SortOrders
Slots (of_statistics which) = StatisticsFiles
Slots of_specs = PartitionSpecs

abbrev pub files_of : StatisticsTable → OwnTables → StatisticsFiles
files_of Statistics s = s.statistics
files_of PartitionStatistics s = s.partition_statistics

abbrev pub table_of : (o : OwnTable) → OwnTables → Slots o
table_of of_schemas s = s.schemas
table_of of_orders s = s.orders
table_of (of_statistics which) s = files_of which s
table_of of_specs s = s.specs

-- the tables with another one of a family
abbrev pub with_table : (o : OwnTable) → Slots o → OwnTables → OwnTables
with_table of_schemas t s = record { schemas = t; orders = s.orders; statistics = s.statistics; partition_statistics = s.partition_statistics; specs = s.specs }
with_table of_orders t s = record { schemas = s.schemas; orders = t; statistics = s.statistics; partition_statistics = s.partition_statistics; specs = s.specs }
with_table (of_statistics Statistics) t s = record { schemas = s.schemas; orders = s.orders; statistics = t; partition_statistics = s.partition_statistics; specs = s.specs }
with_table (of_statistics PartitionStatistics) t s = record { schemas = s.schemas; orders = s.orders; statistics = s.statistics; partition_statistics = t; specs = s.specs }
with_table of_specs t s = record { schemas = s.schemas; orders = s.orders; statistics = s.statistics; partition_statistics = s.partition_statistics; specs = t }

-- the builder and the tables; the ids of the snapshots and the time of the last log entry stand beside them, as they are read often
pub record Held : Type 0 where
  pub builder : TableMetadataBuilder
  pub snapshots : Snapshots
  pub ids : List ℤ
  pub refs : Refs
  pub log : SnapshotLog
  pub last : Time
  pub own_tables : OwnTables

-- the change log as slots and a count, and the three facts that are read of it: the ids that it adds, the snapshots to which it sets `main`,
-- and whether it removes snapshots
pub record Changes : Type 0 where
  pub entries : List TableUpdate
  pub count : ℕ
  pub added : List ℤ
  pub adds : ℕ
  pub main_targets : List ℤ
  pub mains : ℕ
  pub removal : Bool

pub record Pieces : Type 0 where
  pub held : Held
  pub changes : Changes

-- one entry more
abbrev pub entered : TableUpdate → Changes → Changes
entered e c = record { entries = set c.entries c.count e; count = c.count + 1; added = c.added; adds = c.adds; main_targets = c.main_targets; mains = c.mains; removal = c.removal }

-- what a log with such an entry is told besides: an id that it adds; a snapshot to which it sets `main`; that it removes snapshots
abbrev pub with_addition : ℤ → Changes → Changes
with_addition id c = record { entries = c.entries; count = c.count; added = set c.added c.adds id; adds = c.adds + 1; main_targets = c.main_targets; mains = c.mains; removal = c.removal }

abbrev pub with_main : ℤ → Changes → Changes
with_main id c = record { entries = c.entries; count = c.count; added = c.added; adds = c.adds; main_targets = set c.main_targets c.mains id; mains = c.mains + 1; removal = c.removal }

abbrev pub with_removal : Bool → Changes → Changes
with_removal b c = record { entries = c.entries; count = c.count; added = c.added; adds = c.adds; main_targets = c.main_targets; mains = c.mains; removal = c.removal || b }

-- the tables with another builder
abbrev pub with_builder : TableMetadataBuilder → Held → Held
with_builder b h = record { builder = b; snapshots = h.snapshots; ids = h.ids; refs = h.refs; log = h.log; last = h.last; own_tables = h.own_tables }

-- the builder and the entry of a decision are stored
abbrev pub stored : Decision → Pieces → Pieces
stored d p = record { held = with_builder d.builder p.held; changes = entered d.entry p.changes }

-- ---- the pieces of a state

-- these tables of metadata
pub record OwnLists : Type 0 where
  pub schemas : List plain.Schema
  pub orders : List plain.SortOrder
  pub statistics : List plain.StatisticsFile
  pub partition_statistics : List plain.StatisticsFile
  pub specs : List plain.PartitionSpec

abbrev pub own_lists : Metadata → OwnLists
own_lists m = record { schemas = m.schemas; orders = m.orders; statistics = m.statistics; partition_statistics = m.partition_statistics; specs = m.specs }

abbrev pub files_in : StatisticsTable → OwnLists → List plain.StatisticsFile
files_in Statistics l = l.statistics
files_in PartitionStatistics l = l.partition_statistics

abbrev pub held_schemas : List plain.Schema → HeldSchemas
held_schemas l = record { table = laid_schemas l; keys = laid_keys l }

abbrev pub laid_of : (o : OwnTable) → OwnLists → Slots o
laid_of of_schemas l = held_schemas l.schemas
laid_of of_orders l = laid_sort_orders l.orders
laid_of (of_statistics which) l = laid_statistics (files_in which l)
laid_of of_specs l = laid_partition_specs l.specs

-- the tables are these, laid out
pub record OwnLaid (m : OwnLists) (s : OwnTables) : Type 0 where
  pub schemas : s.schemas ≡ held_schemas m.schemas
  pub orders : s.orders ≡ laid_sort_orders m.orders
  pub statistics : s.statistics ≡ laid_statistics m.statistics
  pub partition_statistics : s.partition_statistics ≡ laid_statistics m.partition_statistics
  pub specs : s.specs ≡ laid_partition_specs m.specs

-- the builder and the tables are those of the state, laid out
pub record Tables (st : State) (h : Held) : Type 0 where
  pub builder : h.builder ≡ laid_builder st
  pub snapshots : h.snapshots ≡ laid_snapshots st.metadata.snapshots
  pub ids : h.ids ≡ pad 64 (pos 0) (ids_of st.metadata.snapshots)
  pub refs : h.refs ≡ laid_refs st.metadata.refs
  pub log : h.log ≡ laid_snapshot_log st.metadata.snapshot_log
  pub last : given (ltb 0 h.log.count) h.last.0 ≡ last_time st.metadata.snapshot_log
  pub own_tables : OwnLaid (own_lists st.metadata) h.own_tables

-- the entries are those of the log, laid out, and the three facts are read of it
pub record Logs (l : List Update) (c : Changes) : Type 0 where
  pub entries : c.entries ≡ pad 64 no_update (map laid_update l)
  pub count : c.count ≡ length l
  pub added : c.added ≡ pad 64 (pos 0) (additions l)
  pub adds : c.adds ≡ length (additions l)
  pub main_targets : c.main_targets ≡ pad 64 (pos 0) (logs_main l)
  pub mains : c.mains ≡ length (logs_main l)
  pub removal : c.removal ≡ logs_removal l

-- What has been so since the start. No update changes the metadata log, nor the old last update, which the close still needs, nor whether an
-- update can be the other office's; and where the start was accepted, the log that was given is laid out, and the file's name is not too long.
pub record SinceStart (g : Given) (st : State) : Type 0 where
  pub files : st.metadata.metadata_log ≡ read_metadata_log g.metadata.metadata_log
  pub old : st.metadata.fields.last_updated ≡ g.metadata.fields.last_updated_ms.0
  pub back : laid_metadata_log (read_metadata_log g.metadata.metadata_log) ≡ g.metadata.metadata_log
  pub short : g.terms.has_file ≡ true → g.terms.file.len ≤ 96
  pub shared : (is_second g.terms.office || any (is_others_ref g.terms.office) st.metadata.refs) ≡ (is_second g.terms.office || any (is_others_ref g.terms.office) (read_refs g.metadata.refs))

-- the pieces stand for the state
pub record Represents (g : Given) (st : State) (p : Pieces) : Type 0 where
  pub sound : Sound st.metadata
  pub since : SinceStart g st
  pub tables : Tables st p.held
  pub logs : Logs st.log p.changes
  pub room : length st.log ≤ 64

-- ---- an update that comes to its checks

-- it is well formed, and is not the other office's
pub record Passes (office : ℕ) (u : Update) (st : State) : Type 0 where
  pub formed : update_formed u ≡ true
  pub own : is_others office u st.metadata ≡ false

-- ---- between two updates

-- Between two updates the pieces stand for a state. From that state the updates that are left, those from the place on, come to the same
-- outcome as the whole list does from the start, and their entries still have room in the change log.
pub record Standing (g : Given) (i : ℕ) (p : Pieces) : Type 0 where
  pub starts : Starts g.metadata g.updates g.terms
  pub state : State
  pub reached : run_from (terms_of g) (read_updates g.updates) 0 (started (read_metadata g.metadata)) ≡ run_from (terms_of g) (drop i (read_updates g.updates)) i state
  pub left : length state.log + total weight (drop i (read_updates g.updates)) ≤ 64
  pub stands : Represents g state p
