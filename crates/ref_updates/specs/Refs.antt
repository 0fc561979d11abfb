-- Setting refs: the ref that an update asks for, what the function is handed of a state, and what it decides.
use Rattle.std.specs.Prelude.{◌≡◌, Bool, true, false, cond, not, ◌&&◌, List, ℕ, ◌<◌, eqb, pos, length}
use Rattle.std.proofs.Math.Option.{some}
use Rattle.records.specs.declared.counters.SnapshotId.{SnapshotId}
use Rattle.records.specs.declared.counters.Time.{Time}
use Rattle.records.specs.declared.reference.SnapshotReference.{SnapshotReference}
use Rattle.records.specs.declared.reference.NamedRef.{NamedRef}
use Rattle.records.specs.declared.reference.Refs.{Refs}
use Rattle.records.specs.declared.part.RefsPart.{RefsPart}
use Rattle.records.specs.declared.update.TableUpdate.{TableUpdate}
use Rattle.rules.specs.Words.{any, is_some, first_of}
use Rattle.rules.specs.Capacities.{ref_room}
use Rattle.rules.specs.Register as plain
use Rattle.rules.specs.Register.{Terms, State, SetRef}
use Rattle.rules.specs.WellFormed.{branch, holds_snapshot}
use Rattle.rules.specs.RefUpdates.{has_name, ref_named, is_held_ref, set_ref_checks, own_after, set_ref, committed}
use Rattle.rules.specs.Layout.{read_name, read_reference, laid_reference, read_refs, laid_refs}
use Rattle.rules.specs.Kinds.{set_ref_kind, laid_update}
use Rattle.tables.specs.Laid.{LaidRefsPart}
use Rattle.builder.specs.declared.builder.TableMetadataBuilder.{TableMetadataBuilder}
use Rattle.builder.specs.declared.decision.Decision.{Decision}
use Rattle.builder.specs.Pieces.{laid_builder}
use Rattle.ref_updates.specs.declared.AskedRef.{AskedRef}

-- the same ref to another snapshot
abbrev pub pointed : SnapshotId → SnapshotReference → SnapshotReference
pointed id r =
    record {
      snapshot_id = id;
      kind = r.kind;
      has_min = r.has_min;
      min_snapshots_to_keep = r.min_snapshots_to_keep;
      has_age = r.has_age;
      max_snapshot_age_ms = r.max_snapshot_age_ms;
      has_ref_age = r.has_ref_age;
      max_ref_age_ms = r.max_ref_age_ms;
    }

-- a branch that keeps nothing
abbrev pub bare_branch : SnapshotReference
bare_branch =
    record {
      snapshot_id = record { 0 = pos 0 };
      kind = branch;
      has_min = false;
      min_snapshots_to_keep = record { 0 = pos 0 };
      has_age = false;
      max_snapshot_age_ms = record { 0 = pos 0 };
      has_ref_age = false;
      max_ref_age_ms = record { 0 = pos 0 };
    }

-- the update's own ref; of a branch commit "keeping the old retention, or a branch with none"
unfoldable pub wanted_ref : TableUpdate → Bool → NamedRef → SnapshotReference
wanted_ref u held old =
    cond (eqb u.kind set_ref_kind)
    u.refs.reference
    (pointed u.snapshots.added.snapshot_id (cond held old.reference bare_branch))

-- the same, read: the update's own ref, or the rule's for a branch commit
abbrev pub asked_ref : TableUpdate → List plain.NamedRef → plain.Reference
asked_ref u l = cond (eqb u.kind set_ref_kind) (read_reference u.refs.reference) (committed (read_name u.refs.name) u.snapshots.added.snapshot_id.0 l)

-- what an update asks of the refs of a table
pub record RefAsked (t : Refs) (u : TableUpdate) (r : AskedRef) : Type 0 where
  pub same : r.same ≡ is_held_ref (read_name u.refs.name) (asked_ref u (read_refs t)) (read_refs t)
  pub named : r.named ≡ is_some (ref_named (read_name u.refs.name) (read_refs t))
  pub read : read_reference r.reference ≡ asked_ref u (read_refs t)
  pub laid : laid_reference (read_reference r.reference) ≡ r.reference

-- what a set ref is handed, of a state
pub record Faced (terms : Terms) (st : State) (w : plain.Reference) (b : TableMetadataBuilder) (t : Refs) (held is_added : Bool) (time : Time) (entries : ℕ) (clock : Time) : Type 0 where
  pub builder : b ≡ laid_builder st
  pub refs : t ≡ laid_refs st.metadata.refs
  pub snapshot : held ≡ holds_snapshot st.metadata.snapshots w.snapshot
  pub own : held ≡ true → cond is_added (some time.0) st.own ≡ own_after w.snapshot st
  pub log : entries ≡ length st.metadata.snapshot_log
  pub now : terms.clock ≡ clock.0

-- a set ref, decided
pub record RefSet (terms : Terms) (st : State) (name : List ℕ) (w : plain.Reference) (d : Decision) : Type 0 where
  pub number : d.number ≡ first_of (set_ref_checks name w st)
  pub logs : d.logs ≡ not (is_held_ref name w st.metadata.refs)
  pub grows : d.grows ≡ (d.logs && eqb d.number 0)
  pub builder : d.number ≡ 0 → d.logs ≡ true → d.builder ≡ laid_builder (set_ref terms name w st)
  pub entry : d.entry ≡ laid_update (SetRef name w)

-- a ref that can be put into a table: laid out, and with room for it if its name is new
pub record NewRef (t : Refs) (e : RefsPart) : Type 0 where
  pub laid : LaidRefsPart e
  pub room : any (has_name (read_name e.name)) (read_refs t) ≡ false → t.count < ref_room

pub record RefDecided (b : TableMetadataBuilder) (t : Refs) (held is_added : Bool) (time : Time) (entries : ℕ) (clock : Time) (u : TableUpdate) (d : Decision) : Type 0 where
  pub answers : (terms : Terms) (st : State) → Faced terms st (asked_ref u st.metadata.refs) b t held is_added time entries clock → RefSet terms st (read_name u.refs.name) (asked_ref u st.metadata.refs) d
  pub new : d.grows ≡ true → NewRef t d.entry.refs
