-- The records that a well-formed update uses, as the tables' functions ask for them.
use mathlib.Core.Path.{◌≡◌}
use mathlib.Core.Bool.{true}
use lib.ListN.{length}
use borrow.Author.Tests.{leb-true}
use Rattle.records.specs.declared.update.TableUpdate.{TableUpdate}
use Rattle.rules.specs.Capacities.{name_room}
use Rattle.rules.specs.WellFormed.{update_formed, name_formed}
use Rattle.rules.specs.Layout.{read_name, read_snapshot, laid_snapshot, read_reference, laid_reference}
use Rattle.rules.specs.Kinds.{read_update, set_branch_snapshot_kind, remove_snapshots_kind, set_ref_kind, remove_ref_kind, remove_schemas_kind}
use Rattle.rules.proofs.Checks.{and_left}
use Rattle.rules.proofs.Slots.Relaid.{back_ref_name, back_snapshot, back_reference}
use Rattle.tables.specs.Laid.{LaidName, LaidSnapshotIds, LaidSchemaIds}
use Rattle.start.proofs.Reading.{formed_tidy, read_set_branch_snapshot, read_remove_snapshots, read_set_ref, read_remove_ref}
use Rattle.builder.proofs.Parts.{snapshot_tidy, ref_name_tidy, reference_tidy}
use Rattle.builder.proofs.Entries.{read_kind_lem}
use Rattle.builder.proofs.Given.{given_snapshot_ids, given_schema_ids}

module _ (u : TableUpdate) (f : update_formed (read_update u) ≡ true) where
  pub snapshot_back : laid_snapshot (read_snapshot u.snapshots.added) ≡ u.snapshots.added
  snapshot_back = back_snapshot u.snapshots.added (snapshot_tidy u (formed_tidy u f))

  pub reference_back : laid_reference (read_reference u.refs.reference) ≡ u.refs.reference
  reference_back = back_reference u.refs.reference (reference_tidy u (formed_tidy u f))

  pub asked_laid : u.kind ≡ remove_snapshots_kind → LaidSnapshotIds u.snapshots.removed
  unfolding update_formed
  asked_laid k = given_snapshot_ids u (formed_tidy u f) (rw (read_remove_snapshots u f k) at f)

  pub schemas_asked_laid : u.kind ≡ remove_schemas_kind → LaidSchemaIds u.schemas.removed
  unfolding update_formed
  schemas_asked_laid k = given_schema_ids u (formed_tidy u f) (rw (read_kind_lem u (formed_tidy u f) 11 k) at f)

  -- a name that fits
  name_laid : name_formed (read_name u.refs.name) ≡ true → LaidName u.refs.name
  name_laid h = let n = leb-true (length (read_name u.refs.name)) name_room h in record { back = back_ref_name u.refs.name (ref_name_tidy u (formed_tidy u f)) n; fits = n }

  pub branch_name_laid : u.kind ≡ set_branch_snapshot_kind → LaidName u.refs.name
  unfolding update_formed
  branch_name_laid k = name_laid (and_left (name_formed (read_name u.refs.name)) _ (rw (read_set_branch_snapshot u f k) at f))

  pub set_name_laid : u.kind ≡ set_ref_kind → LaidName u.refs.name
  unfolding update_formed
  set_name_laid k = name_laid (and_left (name_formed (read_name u.refs.name)) _ (rw (read_set_ref u f k) at f))

  pub removed_name_laid : u.kind ≡ remove_ref_kind → LaidName u.refs.name
  unfolding update_formed
  removed_name_laid k = name_laid (rw (read_remove_ref u f k) at f)
