-- Sound metadata: well formed but for one thing, since between two updates `main` may be gone while the current snapshot is still set.
-- A changed part keeps metadata sound if it is well formed itself and still agrees with the others.
use mathlib.Core.Path.{◌≡◌}
use mathlib.Core.Bool.{Bool, true}
use mathlib.Core.List.{List, [], ◌∷◌}
use lib.IntN.{ℤ}
use Rattle.rules.specs.Words.{all, any}
use Rattle.rules.specs.Register.{Snapshot, NamedRef, LogEntry, FileEntry, Schema, SortOrder, PartitionSpec, StatisticsFile, StatisticsTable, SingleFields, Metadata, State, with_fields, with_snapshots, with_refs, with_snapshot_log, with_metadata_log, with_schemas, with_orders, statistics_of, with_statistics, with_specs, with_current_schema, with_default_order, with_default_spec}
use Rattle.rules.specs.Register.StatisticsTable.{Statistics, PartitionStatistics}
use Rattle.rules.specs.WellFormed.{snapshots_formed, refs_formed, snapshot_log_formed, metadata_log_formed, schemas_formed, orders_formed, statistics_formed, specs_formed, fields_formed, refs_held, current_schema_held, default_order_held, default_spec_held, main_agrees, metadata_formed, points_in, has_schema, has_order, has_spec}
use Rattle.rules.proofs.Checks.{Hold, parts, whole}

pub record Sound (m : Metadata) : Type 0 where
  pub snapshots : snapshots_formed m.snapshots ≡ true
  pub refs : refs_formed m.refs ≡ true
  pub snapshot_log : snapshot_log_formed m.snapshot_log ≡ true
  pub metadata_log : metadata_log_formed m.metadata_log ≡ true
  pub schemas : schemas_formed m.schemas ≡ true
  pub orders : orders_formed m.orders ≡ true
  pub statistics : statistics_formed m.statistics ≡ true
  pub partition_statistics : statistics_formed m.partition_statistics ≡ true
  pub specs : specs_formed m.specs ≡ true
  pub fields : fields_formed m.fields ≡ true
  pub refs_held : refs_held m ≡ true
  pub schema_held : current_schema_held m ≡ true
  pub order_held : default_order_held m ≡ true
  pub spec_held : default_spec_held m ≡ true

-- a state's metadata is sound
abbrev pub SoundState : State → Type 0
SoundState st = Sound st.metadata

-- the parts of well-formed metadata after the first, in their order
abbrev further_parts : Metadata → List Bool
further_parts m =
    refs_formed m.refs
    ∷ snapshot_log_formed m.snapshot_log
    ∷ metadata_log_formed m.metadata_log
    ∷ schemas_formed m.schemas
    ∷ orders_formed m.orders
    ∷ statistics_formed m.statistics
    ∷ statistics_formed m.partition_statistics
    ∷ specs_formed m.specs
    ∷ fields_formed m.fields
    ∷ refs_held m
    ∷ main_agrees m
    ∷ current_schema_held m
    ∷ default_order_held m
    ∷ default_spec_held m
    ∷ []

formed_parts : (m : Metadata) → metadata_formed m ≡ true → Hold (snapshots_formed m.snapshots ∷ further_parts m)
unfolding metadata_formed
formed_parts m h = parts (snapshots_formed m.snapshots) (further_parts m) h

pub formed_sound : (m : Metadata) → metadata_formed m ≡ true → Sound m
formed_sound m h =
    let k : Hold (snapshots_formed m.snapshots ∷ further_parts m) = formed_parts m h in
    record {
      snapshots = k.0;
      refs = k.1.0;
      snapshot_log = k.1.1.0;
      metadata_log = k.1.1.1.0;
      schemas = k.1.1.1.1.0;
      orders = k.1.1.1.1.1.0;
      statistics = k.1.1.1.1.1.1.0;
      partition_statistics = k.1.1.1.1.1.1.1.0;
      specs = k.1.1.1.1.1.1.1.1.0;
      fields = k.1.1.1.1.1.1.1.1.1.0;
      refs_held = k.1.1.1.1.1.1.1.1.1.1.0;
      schema_held = k.1.1.1.1.1.1.1.1.1.1.1.1.0;
      order_held = k.1.1.1.1.1.1.1.1.1.1.1.1.1.0;
      spec_held = k.1.1.1.1.1.1.1.1.1.1.1.1.1.1.0;
    }

pub formed_agrees : (m : Metadata) → metadata_formed m ≡ true → main_agrees m ≡ true
formed_agrees m h = (formed_parts m h).1.1.1.1.1.1.1.1.1.1.1.0

pub sound_formed : (m : Metadata) → Sound m → main_agrees m ≡ true → metadata_formed m ≡ true
unfolding metadata_formed
sound_formed m s h =
    whole (snapshots_formed m.snapshots) (further_parts m)
    (s.snapshots, (s.refs, (s.snapshot_log, (s.metadata_log, (s.schemas, (s.orders, (s.statistics, (s.partition_statistics, (s.specs, (s.fields, (s.refs_held, (h, (s.schema_held, (s.order_held, (s.spec_held, tt)))))))))))))))

-- ---- one part changed

module _ (m : Metadata) (s : Sound m) where
  -- single fields that name the same schema, order and spec
  pub with_fields_lem : (f : SingleFields) → fields_formed f ≡ true → f.current_schema ≡ m.fields.current_schema → f.default_order ≡ m.fields.default_order → f.default_spec ≡ m.fields.default_spec → Sound (with_fields f m)
  unfolding refs_held current_schema_held default_order_held default_spec_held
  with_fields_lem f h c d p = record { snapshots = s.snapshots; refs = s.refs; snapshot_log = s.snapshot_log; metadata_log = s.metadata_log; schemas = s.schemas; orders = s.orders; statistics = s.statistics; partition_statistics = s.partition_statistics; specs = s.specs; fields = h; refs_held = s.refs_held; schema_held = rw c s.schema_held; order_held = rw d s.order_held; spec_held = rw p s.spec_held }

  -- another schema that is held
  pub with_current_schema_lem : (id : ℤ) → any (has_schema id) m.schemas ≡ true → Sound (with_fields (with_current_schema id m.fields) m)
  unfolding fields_formed refs_held current_schema_held default_order_held default_spec_held
  with_current_schema_lem id h = record { snapshots = s.snapshots; refs = s.refs; snapshot_log = s.snapshot_log; metadata_log = s.metadata_log; schemas = s.schemas; orders = s.orders; statistics = s.statistics; partition_statistics = s.partition_statistics; specs = s.specs; fields = s.fields; refs_held = s.refs_held; schema_held = h; order_held = s.order_held; spec_held = s.spec_held }

  -- another order that is held
  pub with_default_order_lem : (id : ℤ) → any (has_order id) m.orders ≡ true → Sound (with_fields (with_default_order id m.fields) m)
  unfolding fields_formed refs_held current_schema_held default_order_held default_spec_held
  with_default_order_lem id h = record { snapshots = s.snapshots; refs = s.refs; snapshot_log = s.snapshot_log; metadata_log = s.metadata_log; schemas = s.schemas; orders = s.orders; statistics = s.statistics; partition_statistics = s.partition_statistics; specs = s.specs; fields = s.fields; refs_held = s.refs_held; schema_held = s.schema_held; order_held = h; spec_held = s.spec_held }

  -- another spec that is held
  pub with_default_spec_lem : (id : ℤ) → any (has_spec id) m.specs ≡ true → Sound (with_fields (with_default_spec id m.fields) m)
  unfolding fields_formed refs_held current_schema_held default_order_held default_spec_held
  with_default_spec_lem id h = record { snapshots = s.snapshots; refs = s.refs; snapshot_log = s.snapshot_log; metadata_log = s.metadata_log; schemas = s.schemas; orders = s.orders; statistics = s.statistics; partition_statistics = s.partition_statistics; specs = s.specs; fields = s.fields; refs_held = s.refs_held; schema_held = s.schema_held; order_held = s.order_held; spec_held = h }

  -- snapshots to which all refs point
  pub with_snapshots_lem : (l : List Snapshot) → snapshots_formed l ≡ true → all (points_in l) m.refs ≡ true → Sound (with_snapshots l m)
  unfolding refs_held current_schema_held default_order_held default_spec_held
  with_snapshots_lem l h r = record { snapshots = h; refs = s.refs; snapshot_log = s.snapshot_log; metadata_log = s.metadata_log; schemas = s.schemas; orders = s.orders; statistics = s.statistics; partition_statistics = s.partition_statistics; specs = s.specs; fields = s.fields; refs_held = r; schema_held = s.schema_held; order_held = s.order_held; spec_held = s.spec_held }

  -- refs that point to held snapshots
  pub with_refs_lem : (l : List NamedRef) → refs_formed l ≡ true → all (points_in m.snapshots) l ≡ true → Sound (with_refs l m)
  unfolding refs_held current_schema_held default_order_held default_spec_held
  with_refs_lem l h r = record { snapshots = s.snapshots; refs = h; snapshot_log = s.snapshot_log; metadata_log = s.metadata_log; schemas = s.schemas; orders = s.orders; statistics = s.statistics; partition_statistics = s.partition_statistics; specs = s.specs; fields = s.fields; refs_held = r; schema_held = s.schema_held; order_held = s.order_held; spec_held = s.spec_held }

  pub with_snapshot_log_lem : (l : List LogEntry) → snapshot_log_formed l ≡ true → Sound (with_snapshot_log l m)
  unfolding refs_held current_schema_held default_order_held default_spec_held
  with_snapshot_log_lem l h = record { snapshots = s.snapshots; refs = s.refs; snapshot_log = h; metadata_log = s.metadata_log; schemas = s.schemas; orders = s.orders; statistics = s.statistics; partition_statistics = s.partition_statistics; specs = s.specs; fields = s.fields; refs_held = s.refs_held; schema_held = s.schema_held; order_held = s.order_held; spec_held = s.spec_held }

  pub with_metadata_log_lem : (l : List FileEntry) → metadata_log_formed l ≡ true → Sound (with_metadata_log l m)
  unfolding refs_held current_schema_held default_order_held default_spec_held
  with_metadata_log_lem l h = record { snapshots = s.snapshots; refs = s.refs; snapshot_log = s.snapshot_log; metadata_log = h; schemas = s.schemas; orders = s.orders; statistics = s.statistics; partition_statistics = s.partition_statistics; specs = s.specs; fields = s.fields; refs_held = s.refs_held; schema_held = s.schema_held; order_held = s.order_held; spec_held = s.spec_held }

  -- schemas with the current one among them
  pub with_schemas_lem : (l : List Schema) → schemas_formed l ≡ true → any (has_schema m.fields.current_schema) l ≡ true → Sound (with_schemas l m)
  unfolding refs_held current_schema_held default_order_held default_spec_held
  with_schemas_lem l h c = record { snapshots = s.snapshots; refs = s.refs; snapshot_log = s.snapshot_log; metadata_log = s.metadata_log; schemas = h; orders = s.orders; statistics = s.statistics; partition_statistics = s.partition_statistics; specs = s.specs; fields = s.fields; refs_held = s.refs_held; schema_held = c; order_held = s.order_held; spec_held = s.spec_held }

  -- orders with the default one among them
  pub with_orders_lem : (l : List SortOrder) → orders_formed l ≡ true → any (has_order m.fields.default_order) l ≡ true → Sound (with_orders l m)
  unfolding refs_held current_schema_held default_order_held default_spec_held
  with_orders_lem l h d = record { snapshots = s.snapshots; refs = s.refs; snapshot_log = s.snapshot_log; metadata_log = s.metadata_log; schemas = s.schemas; orders = h; statistics = s.statistics; partition_statistics = s.partition_statistics; specs = s.specs; fields = s.fields; refs_held = s.refs_held; schema_held = s.schema_held; order_held = d; spec_held = s.spec_held }

  -- specs with the default one among them
  pub with_specs_lem : (l : List PartitionSpec) → specs_formed l ≡ true → any (has_spec m.fields.default_spec) l ≡ true → Sound (with_specs l m)
  unfolding refs_held current_schema_held default_order_held default_spec_held
  with_specs_lem l h d = record { snapshots = s.snapshots; refs = s.refs; snapshot_log = s.snapshot_log; metadata_log = s.metadata_log; schemas = s.schemas; orders = s.orders; statistics = s.statistics; partition_statistics = s.partition_statistics; specs = h; fields = s.fields; refs_held = s.refs_held; schema_held = s.schema_held; order_held = s.order_held; spec_held = d }

  -- either table of statistics files
  pub with_statistics_lem : (which : StatisticsTable) (l : List StatisticsFile) → statistics_formed l ≡ true → Sound (with_statistics which l m)
  unfolding refs_held current_schema_held default_order_held default_spec_held
  with_statistics_lem Statistics l h = record { snapshots = s.snapshots; refs = s.refs; snapshot_log = s.snapshot_log; metadata_log = s.metadata_log; schemas = s.schemas; orders = s.orders; statistics = h; partition_statistics = s.partition_statistics; specs = s.specs; fields = s.fields; refs_held = s.refs_held; schema_held = s.schema_held; order_held = s.order_held; spec_held = s.spec_held }
  with_statistics_lem PartitionStatistics l h = record { snapshots = s.snapshots; refs = s.refs; snapshot_log = s.snapshot_log; metadata_log = s.metadata_log; schemas = s.schemas; orders = s.orders; statistics = s.statistics; partition_statistics = h; specs = s.specs; fields = s.fields; refs_held = s.refs_held; schema_held = s.schema_held; order_held = s.order_held; spec_held = s.spec_held }

  pub statistics_formed_lem : (which : StatisticsTable) → statistics_formed (statistics_of which m) ≡ true
  statistics_formed_lem Statistics = s.statistics
  statistics_formed_lem PartitionStatistics = s.partition_statistics
