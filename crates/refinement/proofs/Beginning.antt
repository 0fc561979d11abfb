-- Before the first update the pieces are those of the start, and what the tables' functions ask of them holds between any two updates.
use Prim.Native.Nat.{◌≤◌}
use native.Mathlib.Omega.{arith}
use mathlib.Core.Path.{◌≡◌, refl, sym, ap, ◌∙◌}
use mathlib.Core.Bool.{true, false}
use mathlib.Core.List.{List, [], ◌∷◌}
use mathlib.Core.Option.{some}
use lib.Dec.{leb, ltb}
use lib.IntN.{ℤ, pos}
use lib.ListN.{length, replicate}
use borrow.Author.Tests.{leb-true}
use Rattle.records.specs.Blanks.{no_update}
use Rattle.records.specs.declared.counters.Time.{Time}
use Rattle.records.specs.declared.metadata.TableMetadata.{TableMetadata}
use Rattle.records.specs.declared.update.TableUpdate.{TableUpdate}
use Rattle.records.specs.declared.schema.Schema.{Schema}
use Rattle.records.specs.declared.schema.Schemas.{Schemas}
use Rattle.rules.specs.Words.{any, all, first, ascending}
use Rattle.rules.specs.Capacities.{snapshot_room, ref_room, snapshot_log_room, schema_room, sort_order_room, statistics_room, spec_room, name_room, schema_field_room, sort_field_room, partition_field_room, location_room}
use Rattle.rules.specs.Register as plain
use Rattle.rules.specs.Register.{StatisticsTable, State, statistics_of}
use Rattle.rules.specs.Register.StatisticsTable.{Statistics, PartitionStatistics}
use Rattle.rules.specs.WellFormed.{snapshot_formed, reference_formed, owner_formed, ref_formed, schema_formed, order_formed, spec_formed, statistics_file_formed, name_formed, snapshot_below, ref_below, schema_below, order_below, spec_below, statistics_below, snapshots_formed, refs_formed, snapshot_log_formed, schemas_formed, orders_formed, specs_formed, statistics_formed, fields_formed, offered_order_formed, partition_field_formed, version_formed, location_formed, has_schema, has_order, has_spec, current_schema_held, default_order_held, default_spec_held}
use lib.Signed.{non_neg}
use Rattle.rules.specs.ChangeLog.{logs_main, logs_removal}
use Rattle.rules.specs.Run.{started, list_sum}
use Rattle.rules.specs.Layout.{given, pad, read_metadata, read_snapshots, read_refs, read_snapshot_log, read_schema, read_schemas, laid_schemas, read_sort_orders, read_statistics, laid_statistics, read_partition_specs, laid_fields, read_fields, laid_text, laid_metadata}
use Rattle.rules.proofs.Sound.Metadata.{formed_sound, statistics_formed_lem}
use Rattle.rules.proofs.Slots.Relaid.{relaid}
use Rattle.rules.proofs.Slots.Reread.{reread_snapshots, reread_refs, reread_snapshot_log, reread_schemas, reread_sort_orders, reread_statistics, reread_partition_specs, reread_fields}
use Rattle.rules.proofs.Tables.{table_parts_lem, log_fits_lem, all_then}
use Rattle.rules.proofs.Checks.{and_left, parts, schema_tests, offered_of}
use Rattle.tables.specs.Laid.{LaidSnapshots, LaidRefs, LaidSnapshotLog, LaidSchemas, LaidOrders, LaidStatistics, LaidSpecs}
use Rattle.builder.specs.declared.builder.TableMetadataBuilder.{TableMetadataBuilder}
use Rattle.builder.specs.Pieces.{fresh, laid_builder, ids_of, last_time, IsCurrent}
use Rattle.close.specs.Facts.{additions}
use Rattle.start.specs.Start.{start_number}
use Rattle.start.proofs.Started.{Starts, starts, file_short, sum_counts}
use Rattle.schema_updates.specs.declared.keys.SchemaKeys.{SchemaKeys}
use Rattle.schema_updates.specs.Keys.{laid_keys}
use Rattle.refinement.specs.Standing.{Given, HeldSchemas, Pieces, files_of, Represents, Standing}

-- schemas that are laid out from well-formed ones
pub schemas_laid : (l : List plain.Schema) {t : Schemas} → t ≡ laid_schemas l → schemas_formed l ≡ true → LaidSchemas t
unfolding schemas_formed
schemas_laid l {t} e f =
    let q : read_schemas t ≡ l = rw e (reread_schemas l) in
    let k = table_parts_lem schema_room schema_formed schema_below l f in
    record {
      back = rw q (sym e);
      fits = rw q k.0;
      fields = rw q (all_then schema_formed (λ (x : plain.Schema). leb (length x.fields) schema_field_room) (λ x e. (parts (non_neg x.id) (schema_tests x) e).1.0) l k.1);
    }

name_fits : (x : plain.NamedRef) → ref_formed x ≡ true → name_formed x.name ≡ true
name_fits x e = (parts (name_formed x.name) (reference_formed x.reference ∷ owner_formed x ∷ []) e).0

pub start_refs : (g : Given) → Starts g.metadata g.updates g.terms → LaidRefs g.metadata.refs
unfolding refs_formed laid_metadata
start_refs g s =
    let l : List plain.NamedRef = read_refs g.metadata.refs in
    let k = table_parts_lem ref_room ref_formed ref_below l (formed_sound (read_metadata g.metadata) s.formed).refs in
    record {
      back = ap (λ (x : TableMetadata). x.refs) (relaid g.metadata s.tidy s.formed);
      fits = k.0;
      names = all_then ref_formed (λ (x : plain.NamedRef). leb (length x.name) name_room) name_fits l k.1;
    }

module _ (g : Given) (z : start_number g.metadata g.updates g.terms ≡ 0) where
  start : Starts g.metadata g.updates g.terms
  start = starts g.metadata g.updates g.terms z

  back : laid_metadata (read_metadata g.metadata) ≡ g.metadata
  back = relaid g.metadata start.tidy start.formed

  pub start_snapshots : LaidSnapshots g.metadata.snapshots
  unfolding snapshots_formed laid_metadata
  start_snapshots = record { back = ap (λ (x : TableMetadata). x.snapshots) back; fits = (table_parts_lem snapshot_room snapshot_formed snapshot_below (read_snapshots g.metadata.snapshots) (formed_sound (read_metadata g.metadata) start.formed).snapshots).0 }

  pub start_schemas : LaidSchemas g.metadata.schemas
  unfolding laid_metadata
  start_schemas = schemas_laid (read_schemas g.metadata.schemas) (sym (ap (λ (x : TableMetadata). x.schemas) back)) (formed_sound (read_metadata g.metadata) start.formed).schemas

  pub start_log : LaidSnapshotLog g.metadata.snapshot_log
  unfolding snapshot_log_formed laid_metadata
  start_log = record { back = ap (λ (x : TableMetadata). x.snapshot_log) back; fits = log_fits_lem snapshot_log_room (λ (e : plain.LogEntry). non_neg e.snapshot) (read_snapshot_log g.metadata.snapshot_log) (formed_sound (read_metadata g.metadata) start.formed).snapshot_log }

  pub start_short : g.updates.count ≤ 64
  start_short = omega (arith, start.sum, sum_counts g.updates)

  pub standing_start : {b : TableMetadataBuilder} {is : List ℤ} {last : Time} {keys : SchemaKeys} {e : TableUpdate} → b ≡ fresh g.metadata.fields → is ≡ pad 64 (pos 0) (ids_of (read_snapshots g.metadata.snapshots)) → given (ltb 0 g.metadata.snapshot_log.count) last.0 ≡ last_time (read_snapshot_log g.metadata.snapshot_log) → keys ≡ laid_keys (read_schemas g.metadata.schemas) → e ≡ no_update
      → Standing g 0 (record {
        held = record { builder = b; snapshots = g.metadata.snapshots; ids = is; refs = g.metadata.refs; log = g.metadata.snapshot_log; last = last; own_tables = record { schemas = record { table = g.metadata.schemas; keys = keys }; orders = g.metadata.sort_orders; statistics = g.metadata.statistics; partition_statistics = g.metadata.partition_statistics; specs = g.metadata.partition_specs } };
        changes = record { entries = replicate 64 e; count = 0; added = replicate 64 (pos 0); adds = 0; main_targets = replicate 64 (pos 0); mains = 0; removal = false };
      })
  unfolding fresh laid_builder laid_metadata additions logs_main logs_removal list_sum
  standing_start p q l k r =
      record {
        starts = start;
        state = started (read_metadata g.metadata);
        reached = refl;
        left = omega (arith, start.sum);
        stands = record {
          sound = formed_sound (read_metadata g.metadata) start.formed;
          since = record { files = refl; old = refl; back = ap (λ (x : TableMetadata). x.metadata_log) back; short = file_short g.metadata g.updates g.terms start.file; shared = refl };
          tables = record {
            builder = p ∙ ap fresh (sym (ap (λ (x : TableMetadata). x.fields) back));
            snapshots = sym (ap (λ (x : TableMetadata). x.snapshots) back);
            ids = q;
            refs = sym (ap (λ (x : TableMetadata). x.refs) back);
            log = sym (ap (λ (x : TableMetadata). x.snapshot_log) back);
            last = l;
            own_tables = record {
              schemas = λ i. record { table = sym (ap (λ (x : TableMetadata). x.schemas) back) i; keys = k i };
              orders = sym (ap (λ (x : TableMetadata). x.sort_orders) back);
              statistics = sym (ap (λ (x : TableMetadata). x.statistics) back);
              partition_statistics = sym (ap (λ (x : TableMetadata). x.partition_statistics) back);
              specs = sym (ap (λ (x : TableMetadata). x.partition_specs) back);
            };
          };
          logs = record { entries = ap (λ (x : TableUpdate). replicate 64 x) r; count = refl; added = refl; adds = refl; main_targets = refl; mains = refl; removal = refl };
          room = omega arith;
        };
      }

-- ---- tables of sound metadata

module _ {g : Given} {st : State} {p : Pieces} (E : Represents g st p) where
  pub read_snapshots_lem : read_snapshots p.held.snapshots ≡ st.metadata.snapshots
  read_snapshots_lem = rw E.tables.snapshots (reread_snapshots st.metadata.snapshots)

  pub read_refs_lem : read_refs p.held.refs ≡ st.metadata.refs
  read_refs_lem = rw E.tables.refs (reread_refs st.metadata.refs)

  pub read_log : read_snapshot_log p.held.log ≡ st.metadata.snapshot_log
  read_log = rw E.tables.log (reread_snapshot_log st.metadata.snapshot_log)

  pub schemas_table : p.held.own_tables.schemas.table ≡ laid_schemas st.metadata.schemas
  schemas_table = ap (λ (x : HeldSchemas). x.table) E.tables.own_tables.schemas

  pub schemas_keys : p.held.own_tables.schemas.keys ≡ laid_keys st.metadata.schemas
  schemas_keys = ap (λ (x : HeldSchemas). x.keys) E.tables.own_tables.schemas

  pub read_schemas_lem : read_schemas p.held.own_tables.schemas.table ≡ st.metadata.schemas
  read_schemas_lem = rw schemas_table (reread_schemas st.metadata.schemas)

  pub read_orders : read_sort_orders p.held.own_tables.orders ≡ st.metadata.orders
  read_orders = rw E.tables.own_tables.orders (reread_sort_orders st.metadata.orders)

  pub read_specs : read_partition_specs p.held.own_tables.specs ≡ st.metadata.specs
  read_specs = rw E.tables.own_tables.specs (reread_partition_specs st.metadata.specs)

  pub statistics_laid : (which : StatisticsTable) → files_of which p.held.own_tables ≡ laid_statistics (statistics_of which st.metadata)
  statistics_laid Statistics = E.tables.own_tables.statistics
  statistics_laid PartitionStatistics = E.tables.own_tables.partition_statistics

  pub read_statistics_lem : (which : StatisticsTable) → read_statistics (files_of which p.held.own_tables) ≡ statistics_of which st.metadata
  read_statistics_lem which = rw (statistics_laid which) (reread_statistics (statistics_of which st.metadata))

  pub snapshots_fit : length st.metadata.snapshots ≤ 64
  unfolding snapshots_formed
  snapshots_fit = (table_parts_lem snapshot_room snapshot_formed snapshot_below st.metadata.snapshots E.sound.snapshots).0

  pub snapshots_ascend : ascending snapshot_below (read_snapshots p.held.snapshots) ≡ true
  unfolding snapshots_formed
  snapshots_ascend = rw read_snapshots_lem (table_parts_lem snapshot_room snapshot_formed snapshot_below st.metadata.snapshots E.sound.snapshots).2

  pub refs_fit : length st.metadata.refs ≤ 16
  unfolding refs_formed
  refs_fit = (table_parts_lem ref_room ref_formed ref_below st.metadata.refs E.sound.refs).0

  pub log_fit : length st.metadata.snapshot_log ≤ 128
  unfolding snapshot_log_formed
  log_fit = log_fits_lem snapshot_log_room (λ (e : plain.LogEntry). non_neg e.snapshot) st.metadata.snapshot_log E.sound.snapshot_log

  pub laid_snapshots_lem : LaidSnapshots p.held.snapshots
  laid_snapshots_lem = record { back = rw read_snapshots_lem (sym E.tables.snapshots); fits = rw read_snapshots_lem snapshots_fit }

  pub laid_refs_lem : LaidRefs p.held.refs
  unfolding refs_formed
  laid_refs_lem =
      record {
        back = rw read_refs_lem (sym E.tables.refs);
        fits = rw read_refs_lem refs_fit;
        names = rw read_refs_lem (all_then ref_formed (λ (x : plain.NamedRef). leb (length x.name) name_room) name_fits st.metadata.refs (table_parts_lem ref_room ref_formed ref_below st.metadata.refs E.sound.refs).1);
      }

  pub laid_log : LaidSnapshotLog p.held.log
  laid_log = record { back = rw read_log (sym E.tables.log); fits = rw read_log log_fit }

  pub laid_schemas_lem : LaidSchemas p.held.own_tables.schemas.table
  laid_schemas_lem = schemas_laid st.metadata.schemas schemas_table E.sound.schemas

  pub laid_orders : LaidOrders p.held.own_tables.orders
  unfolding orders_formed
  laid_orders =
      record {
        back = rw read_orders (sym E.tables.own_tables.orders);
        fits = rw read_orders (table_parts_lem sort_order_room order_formed order_below st.metadata.orders E.sound.orders).0;
        fields = rw read_orders (all_then order_formed (λ (x : plain.SortOrder). leb (length x.fields) sort_field_room) (λ x e. (parts (non_neg x.id) (leb (length x.fields) sort_field_room ∷ _ ∷ []) (and_left (offered_order_formed x) _ e)).1.0) st.metadata.orders (table_parts_lem sort_order_room order_formed order_below st.metadata.orders E.sound.orders).1);
      }

  pub laid_specs : LaidSpecs p.held.own_tables.specs
  unfolding specs_formed
  laid_specs =
      let k = table_parts_lem spec_room spec_formed spec_below st.metadata.specs E.sound.specs in
      record {
        back = rw read_specs (sym E.tables.own_tables.specs);
        fits = rw read_specs k.0;
        fields = rw read_specs (all_then spec_formed (λ (x : plain.PartitionSpec). leb (length x.fields) partition_field_room) (λ x e. (parts (non_neg x.id) (leb (length x.fields) partition_field_room ∷ all partition_field_formed x.fields ∷ []) (offered_of x e)).1.0) st.metadata.specs k.1);
      }

  pub specs_formed_lem : specs_formed (read_partition_specs p.held.own_tables.specs) ≡ true
  specs_formed_lem = rw read_specs E.sound.specs

  pub laid_statistics_lem : (which : StatisticsTable) → LaidStatistics (files_of which p.held.own_tables)
  unfolding statistics_formed
  laid_statistics_lem which =
      record {
        back = rw (read_statistics_lem which) (sym (statistics_laid which));
        fits = rw (read_statistics_lem which) (table_parts_lem statistics_room statistics_file_formed statistics_below (statistics_of which st.metadata) (statistics_formed_lem st.metadata E.sound which)).0;
      }

  pub statistics_ascend : (which : StatisticsTable) → ascending statistics_below (read_statistics (files_of which p.held.own_tables)) ≡ true
  unfolding statistics_formed
  statistics_ascend which = rw (read_statistics_lem which) (table_parts_lem statistics_room statistics_file_formed statistics_below (statistics_of which st.metadata) (statistics_formed_lem st.metadata E.sound which)).2

  -- the location of the builder
  pub location_fits : p.held.builder.fields.location.len ≤ location_room
  unfolding laid_builder laid_fields laid_text fields_formed
  location_fits =
      let k = parts (version_formed st.metadata.fields.version) (location_formed st.metadata.fields.location ∷ non_neg st.metadata.fields.last_sequence.0 ∷ non_neg st.metadata.fields.last_partition ∷ []) E.sound.fields in
      rw E.tables.builder (leb-true (length st.metadata.fields.location) location_room k.1.0)

  -- the single fields as they are read
  pub read_fields_lem : read_fields p.held.builder.fields ≡ st.metadata.fields
  unfolding laid_builder
  read_fields_lem = rw (ap (λ (x : TableMetadataBuilder). x.fields) E.tables.builder) (reread_fields st.metadata.fields)

  pub orders_formed_lem : orders_formed (read_sort_orders p.held.own_tables.orders) ≡ true
  orders_formed_lem = rw read_orders E.sound.orders

  pub refs_ascend : ascending ref_below (read_refs p.held.refs) ≡ true
  unfolding refs_formed
  refs_ascend = rw read_refs_lem (table_parts_lem ref_room ref_formed ref_below st.metadata.refs E.sound.refs).2

  pub schema_held : any (has_schema p.held.builder.fields.current_schema_id.0) (read_schemas p.held.own_tables.schemas.table) ≡ true
  unfolding current_schema_held
  schema_held = rw (read_schemas_lem, ap (λ (x : plain.SingleFields). x.current_schema) read_fields_lem) E.sound.schema_held

  -- what is held under the id of the builder is the current schema
  pub current_is : (s : Schema) → first (has_schema p.held.builder.fields.current_schema_id.0) (read_schemas p.held.own_tables.schemas.table) ≡ some (read_schema s) → IsCurrent st.metadata s
  current_is s e = rw (read_schemas_lem, ap (λ (x : plain.SingleFields). x.current_schema) read_fields_lem) at e

  pub order_held : any (has_order p.held.builder.fields.default_sort_order_id.0) (read_sort_orders p.held.own_tables.orders) ≡ true
  unfolding default_order_held
  order_held = rw (read_orders, ap (λ (x : plain.SingleFields). x.default_order) read_fields_lem) E.sound.order_held

  pub spec_held : any (has_spec p.held.builder.fields.default_spec_id.0) (read_partition_specs p.held.own_tables.specs) ≡ true
  unfolding default_spec_held
  spec_held = rw (read_specs, ap (λ (x : plain.SingleFields). x.default_spec) read_fields_lem) E.sound.spec_held
