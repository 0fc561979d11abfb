-- Well-formed metadata as a run holds it before its close, when it has logged a removal of snapshots and nothing else.
use Prim.Native.Nat.{ℕ}
use native.Mathlib.Omega.{arith}
use mathlib.Core.Path.{◌≡◌, refl}
use mathlib.Core.Bool.{true, false}
use mathlib.Core.List.{List, [], ◌∷◌, map}
use lib.Dec.{ltb}
use lib.IntN.{ℤ, pos}
use lib.ListN.{length, replicate}
use borrow.Author.Tests.{lt-ltb}
use Rattle.records.specs.Blanks.{no_update, no_updates}
use Rattle.records.specs.declared.counters.Time.{Time}
use Rattle.records.specs.declared.metadata.TableMetadata.{TableMetadata}
use Rattle.records.specs.declared.run.RunTerms.{RunTerms}
use Rattle.rules.specs.Words.{or_else}
use Rattle.rules.specs.Register.{LogEntry, Update, State}
use Rattle.rules.specs.Register.Update.{RemoveSnapshots}
use Rattle.rules.specs.ChangeLog.{logs_main, logs_removal}
use Rattle.rules.specs.Layout.{given, pad, read_snapshots, read_snapshot_log, read_schemas}
use Rattle.rules.specs.Kinds.{laid_update}
use Rattle.tables.proofs.Table.{read_length}
use Rattle.tables.proofs.Each.{tidy_snapshot_log}
use Rattle.builder.specs.declared.builder.TableMetadataBuilder.{TableMetadataBuilder}
use Rattle.builder.specs.Pieces.{fresh, laid_builder, ids_of, last_time}
use Rattle.close.specs.Facts.{additions}
use Rattle.start.specs.Start.{start_number}
use Rattle.refinement.specs.Standing.{Given, held_schemas, Pieces, Represents, Standing}
use Rattle.refinement.proofs.Beginning.{start_log, standing_start}

-- the change log of such a run
abbrev pub removal : List Update
removal = RemoveSnapshots [] ∷ []

last_told : (l : List LogEntry) {n : ℕ} → length l ≡ n → given (ltb 0 n) (or_else (last_time l) (pos 0)) ≡ last_time l
last_told [] e = rw (← e)
last_told (x ∷ l) {n} e = rw (lt-ltb 0 n (omega arith))

module _ (m : TableMetadata) (terms : RunTerms) (text : List ℕ) where
  abbrev pub asked : Given
  asked = record { metadata = m; updates = no_updates; terms = terms; lent = record { text = text; offers = [] } }

  abbrev pub builder : TableMetadataBuilder
  builder = record { fields = m.fields; has_own = false; own = record { 0 = pos 0 }; has_schema = false; last_added_schema_id = record { 0 = pos 0 }; has_order = false; last_added_order_id = record { 0 = pos 0 }; has_spec = false; last_added_spec_id = record { 0 = pos 0 } }

  abbrev pub ids : List ℤ
  ids = pad 64 (pos 0) (ids_of (read_snapshots m.snapshots))

  abbrev pub last : Time
  last = record { 0 = or_else (last_time (read_snapshot_log m.snapshot_log)) (pos 0) }

  abbrev pub pieces : Pieces
  pieces =
      record {
        held = record { builder = builder; snapshots = m.snapshots; ids = ids; refs = m.refs; log = m.snapshot_log; last = last; own_tables = record { schemas = record { table = m.schemas; keys = (held_schemas (read_schemas m.schemas)).keys }; orders = m.sort_orders; statistics = m.statistics; partition_statistics = m.partition_statistics; specs = m.partition_specs } };
        changes = record { entries = pad 64 no_update (map laid_update removal); count = 1; added = pad 64 (pos 0) []; adds = 0; main_targets = pad 64 (pos 0) []; mains = 0; removal = true };
      }

  abbrev pub start_pieces : Pieces
  start_pieces =
      record {
        held = pieces.held;
        changes = record { entries = replicate 64 no_update; count = 0; added = replicate 64 (pos 0); adds = 0; main_targets = replicate 64 (pos 0); mains = 0; removal = false };
      }

  module _ (z : start_number m no_updates terms ≡ 0) where
    pub begun : Standing asked 0 start_pieces
    unfolding fresh
    begun = standing_start asked z refl refl (last_told (read_snapshot_log m.snapshot_log) (read_length (tidy_snapshot_log (start_log asked z)))) refl refl

    abbrev pub state : State
    state = record { metadata = begun.state.metadata; own = begun.state.own; added = begun.state.added; log = removal }

    pub stands : Represents asked state pieces
    unfolding laid_builder additions logs_main logs_removal
    stands =
        let E = begun.stands in
        let T = E.tables in
        record {
          sound = E.sound;
          since = record { files = E.since.files; old = E.since.old; back = E.since.back; short = E.since.short; shared = E.since.shared };
          tables = record { builder = T.builder; snapshots = T.snapshots; ids = T.ids; refs = T.refs; log = T.log; last = T.last; own_tables = T.own_tables };
          logs = record { entries = refl; count = refl; added = refl; adds = refl; main_targets = refl; mains = refl; removal = refl };
          room = omega arith;
        }
