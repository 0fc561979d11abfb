-- The records of a tidy, well-formed update are laid out.
use Prim.Native.Nat.{◌≤◌}
use mathlib.Core.Path.{◌≡◌}
use mathlib.Core.Bool.{true}
use mathlib.Core.List.{[], ◌∷◌}
use native.Mathlib.Omega.{arith}
use borrow.Author.Tests.{leb-true}
use lib.Dec.{leb}
use lib.Signed.{non_neg}
use lib.ListN.{length}
use Rattle.records.specs.declared.update.TableUpdate.{TableUpdate}
use Rattle.rules.specs.Words.{all}
use Rattle.rules.specs.Capacities.{location_room, sort_field_room, removal_room}
use Rattle.rules.specs.WellFormed.{sort_field_formed, offered_order_formed, statistics_file_formed, removal_formed, location_formed}
use Rattle.rules.specs.Layout.{read_text, read_snapshot_ids, read_schema_ids, read_sort_order, read_statistics_file, read_spec_ids}
use Rattle.rules.specs.Kinds.{is_tidy_update}
use Rattle.rules.proofs.Checks.{and_left, parts}
use Rattle.rules.proofs.Slots.Relaid.{length_counted, back_snapshot_ids, back_schema_ids, back_sort_order, back_statistics_file, back_spec_ids}
use Rattle.tables.specs.Laid.{LaidSnapshotIds, LaidOrder, LaidStatisticsFile, LaidSchemaIds, LaidSpecIds}
use Rattle.builder.proofs.Parts.{snapshot_ids_tidy, schema_ids_tidy, order_tidy, statistics_file_tidy, spec_ids_tidy}

pub given_location : (u : TableUpdate) → location_formed (read_text u.fields.location) ≡ true → u.fields.location.len ≤ location_room
given_location u f = omega (arith, leb-true (length (read_text u.fields.location)) location_room f, length_counted 0 u.fields.location.bytes u.fields.location.len)

module _ (u : TableUpdate) (e : is_tidy_update u ≡ true) where
  pub given_snapshot_ids : removal_formed (read_snapshot_ids u.snapshots.removed) ≡ true → LaidSnapshotIds u.snapshots.removed
  given_snapshot_ids f = record { back = back_snapshot_ids u.snapshots.removed (snapshot_ids_tidy u e) f; fits = leb-true _ _ (and_left (leb (length (read_snapshot_ids u.snapshots.removed)) removal_room) _ f) }

  pub given_schema_ids : removal_formed (read_schema_ids u.schemas.removed) ≡ true → LaidSchemaIds u.schemas.removed
  given_schema_ids f = record { back = back_schema_ids u.schemas.removed (schema_ids_tidy u e) f; fits = leb-true _ _ (and_left (leb (length (read_schema_ids u.schemas.removed)) removal_room) _ f) }

  pub given_order : offered_order_formed (read_sort_order u.sort_orders.added) ≡ true → LaidOrder u.sort_orders.added
  given_order f =
      let o = read_sort_order u.sort_orders.added in
      let k = parts (non_neg o.id) (leb (length o.fields) sort_field_room ∷ all sort_field_formed o.fields ∷ []) f in
      record { back = back_sort_order u.sort_orders.added (order_tidy u e) f; fits = leb-true _ _ k.1.0 }

  pub given_statistics_file : statistics_file_formed (read_statistics_file u.statistics.file) ≡ true → LaidStatisticsFile u.statistics.file
  given_statistics_file f = record { back = back_statistics_file u.statistics.file (statistics_file_tidy u e) f }

  pub given_spec_ids : removal_formed (read_spec_ids u.partition_specs.removed) ≡ true → LaidSpecIds u.partition_specs.removed
  given_spec_ids f = record { back = back_spec_ids u.partition_specs.removed (spec_ids_tidy u e) f; fits = leb-true _ _ (and_left (leb (length (read_spec_ids u.partition_specs.removed)) removal_room) _ f) }
