-- The turns of the run's loop: it decides an update, or one half of a branch commit, and in the next turn it stores the decision.
use Rattle.std.specs.Prelude.{ℕ, ◌+◌, ◌≤◌, ◌<◌, ◌≡◌, Bool, true, false, cond, List, [], pos, length, get_or}
use Rattle.records.specs.Blanks.{no_snapshot_id, no_snapshot, no_reference, no_schema_id, no_schema_offer, no_spec_id}
use Rattle.records.specs.declared.text.Text.{Text}
use Rattle.records.specs.declared.update.TableUpdate.{TableUpdate}
use Rattle.rules.specs.Words.{first_of}
use Rattle.rules.specs.Register.{State, Reference}
use Rattle.rules.specs.Register.Outcome.{Refused}
use Rattle.rules.specs.WellFormed.{update_formed}
use Rattle.rules.specs.RefUpdates.{set_ref_checks, set_ref}
use Rattle.rules.specs.Others.{names_others}
use Rattle.rules.specs.Layout.{read_name}
use Rattle.rules.specs.Kinds.{set_branch_snapshot_kind, read_update}
use Rattle.rules.specs.Answer.{laid_outcome}
use Rattle.builder.specs.declared.decision.Decision.{Decision}
use Rattle.ref_updates.specs.Refs.{asked_ref}
use Rattle.schema_updates.specs.Keys.{KeysFit}
use Rattle.refinement.specs.Standing.{Given, answer_of, terms_of, Pieces, stored, Tables, Logs, Represents, Standing}

-- what the logic reads past the end of an array: every array in it is empty
abbrev no_bytes : Text
no_bytes = record { bytes = []; len = 0 }

abbrev pub nothing : TableUpdate
nothing =
    record {
      kind = 0;
      fields = record { uuid = []; format_version = 0; location = no_bytes };
      snapshots = record { added = no_snapshot; removed = record { items = []; count = 0 } };
      refs = record { name = record { bytes = []; len = 0 }; reference = no_reference };
      schemas = record { added = no_schema_offer; chosen = no_schema_id; removed = record { items = []; count = 0 } };
      sort_orders = record { added = record { order_id = record { 0 = pos 0 }; items = []; count = 0 }; chosen = record { 0 = pos 0 } };
      statistics = record { file = record { snapshot_id = no_snapshot_id; statistics_path = no_bytes; file_size_in_bytes = record { 0 = pos 0 } }; removed = no_snapshot_id };
      partition_specs = record { added = record { spec_id = no_spec_id; at = 0; count = 0; ids = [] }; chosen = no_spec_id; removed = record { items = []; count = 0 } };
    }

-- the update at a place
abbrev pub update_at : Given → ℕ → TableUpdate
update_at g i = get_or g.updates.items i nothing

abbrev pub name_at : Given → ℕ → List ℕ
name_at g i = read_name (update_at g i).refs.name

-- the run is refused with a number, at a place
abbrev pub RefusedWith : Given → ℕ → ℕ → Type 0
RefusedWith g number place = laid_outcome g.metadata (Refused number place) ≡ answer_of g

-- The ref of the update at a place is still to be set: a set ref, or a branch commit that has added its snapshot. Its name is not the other office's. The
-- pieces stand for a state, and `wanted` is the ref. Where setting it in that state is refused, so is the run; where it is not, the state after it is the one
-- after the whole update.
pub record Midway (g : Given) (i : ℕ) (p : Pieces) : Type 0 where
  pub state : State
  pub stands : Represents g state p
  pub more : length state.log < 64
  pub own : names_others g.terms.office (name_at g i) state.metadata ≡ false
  pub wanted : Reference
  pub asks : wanted ≡ asked_ref (update_at g i) state.metadata.refs
  pub refuses : {n : ℕ} → n ≡ first_of (set_ref_checks (name_at g i) wanted state) → (n ≡ 0 → ⊥) → RefusedWith g n i
  pub goes : first_of (set_ref_checks (name_at g i) wanted state) ≡ 0 → {q : Pieces} → Tables (set_ref (terms_of g) (name_at g i) wanted state) q.held → Logs (set_ref (terms_of g) (name_at g i) wanted state).log q.changes → Standing g (i + 1) q

-- before a turn that decides: the first half of a branch commit may be done
pub record Stands (g : Given) (i : ℕ) (half : Bool) (p : Pieces) : Type 0 where
  pub whole : half ≡ false → Standing g i p
  pub midway : half ≡ true → Midway g i p
  pub commit : half ≡ true → ((update_at g i).kind ≡ set_branch_snapshot_kind) × (i < g.updates.count) × (update_formed (read_update (update_at g i)) ≡ true)

-- before a turn that stores: what comes of the decision, and whether it is of the first half of a branch commit
pub record Decided (g : Given) (i : ℕ) (half : Bool) (p : Pieces) (d : Decision) : Type 0 where
  pub refuses : (d.number ≡ 0 → ⊥) → RefusedWith g d.number i
  pub room : d.number ≡ 0 → p.changes.count < 64
  pub logs : d.number ≡ 0 → d.logs ≡ true → Stands g (cond half i (i + 1)) half (stored d p)
  pub stays : d.number ≡ 0 → d.logs ≡ false → Stands g (cond half i (i + 1)) half p

-- before any turn
pub record Turn (g : Given) (number place : ℕ) (decided half : Bool) (p : Pieces) (d : Decision) : Type 0 where
  pub within : place ≤ g.updates.count
  pub fit : KeysFit p.held.own_tables.schemas.keys
  pub short : number ≡ 0 → g.updates.count ≤ 64
  pub refused : (number ≡ 0 → ⊥) → RefusedWith g number place
  pub stands : number ≡ 0 → decided ≡ false → Stands g place half p
  pub waits : number ≡ 0 → decided ≡ true → (place < g.updates.count) × Decided g place half p d
