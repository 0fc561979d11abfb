-- The two halves of a branch commit, which are an addition's entry and a setting's too: only the records that they use are left of the update.
use Prim.Native.Nat.{ℕ, ◌≤◌}
use mathlib.Core.Path.{◌≡◌, sym, ap, ap₂, ◌∙◌}
use mathlib.Core.Bool.{true, ◌||◌}
use borrow.Author.Tests.{eqb-true}
use lib.Dec.{eqb}
use lib.ListN.{length}
use Rattle.records.specs.Blanks.{no_refs_part, no_snapshots_part}
use Rattle.records.specs.declared.text.Name.{Name}
use Rattle.records.specs.declared.snapshot.Snapshot.{Snapshot}
use Rattle.records.specs.declared.reference.SnapshotReference.{SnapshotReference}
use Rattle.records.specs.declared.update.TableUpdate.{TableUpdate}
use Rattle.rules.specs.Capacities.{name_room}
use Rattle.rules.specs.Register.{AddSnapshot, SetRef}
use Rattle.rules.specs.Layout.{read_name, read_snapshot, read_reference, laid_reference}
use Rattle.rules.specs.Kinds.{add_snapshot_kind, set_branch_snapshot_kind, set_ref_kind, is_tidy_update, of_kind, with_snapshots_part, with_refs_part, with_snapshot, with_reference, laid_update}
use Rattle.rules.proofs.Checks.{by_either}
use Rattle.rules.proofs.Slots.Relaid.{back_ref_name, back_snapshot}
use Rattle.builder.proofs.Parts.{snapshot_tidy, ref_name_tidy}
use Rattle.builder.proofs.Entries.{of_kind_lem}

abbrev with_kind : ℕ → TableUpdate → TableUpdate
with_kind k u = record { kind = k; fields = u.fields; snapshots = u.snapshots; refs = u.refs; schemas = u.schemas; sort_orders = u.sort_orders; statistics = u.statistics; partition_specs = u.partition_specs }

module _ (u : TableUpdate) (e : is_tidy_update u ≡ true) where
  -- what an addition logs is laid out from its snapshot
  pub added : (eqb u.kind add_snapshot_kind || eqb u.kind set_branch_snapshot_kind) ≡ true
      → with_refs_part no_refs_part (with_kind add_snapshot_kind u) ≡ laid_update (AddSnapshot (read_snapshot u.snapshots.added))
  unfolding laid_update
  added =
      let entry : TableUpdate → TableUpdate = λ u. with_refs_part no_refs_part (with_kind add_snapshot_kind u) in
      let laid = ap (λ (s : Snapshot). with_snapshots_part (with_snapshot s no_snapshots_part) (of_kind add_snapshot_kind)) (sym (back_snapshot u.snapshots.added (snapshot_tidy u e))) in
      by_either (eqb u.kind add_snapshot_kind) (eqb u.kind set_branch_snapshot_kind)
      (λ t. ap entry (of_kind_lem u e add_snapshot_kind (eqb-true u.kind add_snapshot_kind t)) ∙ laid)
      (λ t. ap entry (of_kind_lem u e set_branch_snapshot_kind (eqb-true u.kind set_branch_snapshot_kind t)) ∙ laid)

  -- what a setting logs is laid out from its name and the ref
  pub set : (r : SnapshotReference) → length (read_name u.refs.name) ≤ name_room → laid_reference (read_reference r) ≡ r
      → (eqb u.kind set_branch_snapshot_kind || eqb u.kind set_ref_kind) ≡ true
      → with_refs_part (with_reference r u.refs) (with_snapshots_part no_snapshots_part (with_kind set_ref_kind u)) ≡ laid_update (SetRef (read_name u.refs.name) (read_reference r))
  unfolding laid_update
  set r h b =
      let entry : TableUpdate → TableUpdate = λ u. with_refs_part (with_reference r u.refs) (with_snapshots_part no_snapshots_part (with_kind set_ref_kind u)) in
      let laid = ap₂ (λ (n : Name) (r : SnapshotReference). with_refs_part (record { name = n; reference = r }) (of_kind set_ref_kind)) (sym (back_ref_name u.refs.name (ref_name_tidy u e) h)) (sym b) in
      by_either (eqb u.kind set_branch_snapshot_kind) (eqb u.kind set_ref_kind)
      (λ t. ap entry (of_kind_lem u e set_branch_snapshot_kind (eqb-true u.kind set_branch_snapshot_kind t)) ∙ laid)
      (λ t. ap entry (of_kind_lem u e set_ref_kind (eqb-true u.kind set_ref_kind t)) ∙ laid)
