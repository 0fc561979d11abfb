-- Demand 3: the change log of an accepted run, run again from the same start, is accepted with the same metadata and expired entries, and logs itself without its schema removals that name no schema.
use Prim.Native.Nat.{ℕ, suc, ◌≤◌}
use mathlib.Core.Path.{◌≡◌, refl, sym, ◌∙◌, subst}
use mathlib.Core.Bool.{true, false≢true}
use mathlib.Core.List.{List, [], ◌∷◌}
use native.Mathlib.Omega.{arith}
use lib.Dec.{eqb}
use lib.ListN.{length}
use borrow.Author.Tests.{eqb-true}
use Rattle.rules.specs.Words.{all, if_some}
use Rattle.rules.specs.Capacities.{list_room}
use Rattle.rules.specs.Offices.{is_office}
use Rattle.rules.specs.Register.{FileEntry, Metadata, Update, Terms, State}
use Rattle.rules.specs.Register.Outcome.{Accepted}
use Rattle.rules.specs.Register.Update.{AssignUuid, UpgradeFormatVersion, SetLocation, AddSnapshot, SetBranchSnapshot, RemoveSnapshots, SetRef, RemoveRef, AddSchema, SetCurrentSchema, RemoveSchemas, AddSortOrder, SetDefaultSortOrder, SetStatistics, RemoveStatistics, AddPartitionSpec, SetDefaultPartitionSpec, RemovePartitionSpecs, NotFormed}
use Rattle.rules.specs.WellFormed.{metadata_formed, file_name_formed, update_formed}
use Rattle.rules.specs.Updates.{update_number, effect}
use Rattle.rules.specs.Run.{weight, list_sum, run_from, started, run}
use Rattle.rules.specs.Run.Ran.{Reached}
use Rattle.rules.specs.Replay.{strip}
use Rattle.rules.proofs.Checks.{only_then, and_left}
use Rattle.rules.proofs.Sound.Metadata.{Sound, formed_sound}
use Rattle.rules.proofs.Sound.Updates.{accepted_form, effect_sound}
use Rattle.rules.proofs.Replay.Log.{strip_strip}
use Rattle.rules.proofs.Replay.Steps.{with_log, Replays, nothing, followed}
use Rattle.rules.proofs.Replay.Singles.{uuid_replays, version_replays, location_replays}
use Rattle.rules.proofs.Replay.Snapshots.{add_snapshot_replays, remove_snapshots_replays}
use Rattle.rules.proofs.Replay.Refs.{set_ref_replays, set_branch_snapshot_replays, remove_ref_replays}
use Rattle.rules.proofs.Replay.Schemas.{add_schema_replays, set_current_schema_replays, remove_schemas_replays}
use Rattle.rules.proofs.Replay.Orders.{add_sort_order_replays, set_default_sort_order_replays}
use Rattle.rules.proofs.Replay.Statistics.{set_statistics_replays, remove_statistics_replays}
use Rattle.rules.proofs.Replay.Specs.{add_partition_spec_replays, set_default_partition_spec_replays, remove_partition_specs_replays}
use Rattle.rules.proofs.Replay.Close.{close_alike}
use Rattle.rules.proofs.Sound.Run.{not_reached, same_state}
use Rattle.rules.proofs.Sound.Accepted.{Ends, run_accepted, run_started}

-- ---- an accepted update

update_replays : (terms : Terms) (u : Update) (st : State) → update_number terms u st ≡ 0 → Sound st.metadata → Replays terms (weight u) st (effect terms u st)
unfolding effect update_formed
update_replays terms (AssignUuid uuid) st e k = uuid_replays terms uuid st e
update_replays terms (UpgradeFormatVersion v) st e k = version_replays terms v st e
update_replays terms (SetLocation location) st e k = location_replays terms location st e
update_replays terms (AddSnapshot s) st e k = add_snapshot_replays terms s st e
update_replays terms (SetBranchSnapshot name s) st e k = set_branch_snapshot_replays terms name s st e k
update_replays terms (RemoveSnapshots ids) st e k = remove_snapshots_replays terms ids st e k
update_replays terms (SetRef name r) st e k = set_ref_replays terms name r st e
update_replays terms (RemoveRef name) st e k = remove_ref_replays terms name st e
update_replays terms (AddSchema o) st e k = add_schema_replays terms o st e
update_replays terms (SetCurrentSchema id) st e k = set_current_schema_replays terms id st e
update_replays terms (RemoveSchemas ids) st e k = remove_schemas_replays terms ids st e k
update_replays terms (AddSortOrder o) st e k = add_sort_order_replays terms o st e k
update_replays terms (SetDefaultSortOrder id) st e k = set_default_sort_order_replays terms id st e
update_replays terms (SetStatistics which f) st e k = set_statistics_replays terms which f st e
update_replays terms (RemoveStatistics which id) st e k = remove_statistics_replays terms which id st e
update_replays terms (AddPartitionSpec o) st e k = add_partition_spec_replays terms o st e k
update_replays terms (SetDefaultPartitionSpec id) st e k = set_default_partition_spec_replays terms id st e
update_replays terms (RemovePartitionSpecs ids) st e k = remove_partition_specs_replays terms ids st e k
update_replays terms (NotFormed counts) st e k = absurd (false≢true (accepted_form terms (NotFormed counts) st e))

-- ---- the updates of a run, from any state and at any place

updates_replay : (terms : Terms) → is_office terms.office ≡ true → (us : List Update) (place : ℕ) (st st' : State) → run_from terms us place st ≡ Reached st' → Sound st.metadata → Replays terms (list_sum us) st st'
unfolding run_from list_sum
updates_replay terms o [] place st st' e k = subst (Replays terms 0 st) (same_state st st' e) (nothing terms 0 st)
updates_replay terms o (u ∷ us) place st st' e k =
    let t = only_then (eqb (update_number terms u st) 0) (not_reached (update_number terms u st) place st') e in
    let n : update_number terms u st ≡ 0 = eqb-true (update_number terms u st) 0 t.0 in
    followed terms (weight u) (list_sum us) st (effect terms u st) st'
    (update_replays terms u st n k)
    (updates_replay terms o us (suc place) (effect terms u st) st' t.1 (effect_sound terms u st o n k))

-- ---- an accepted run

module _ (terms : Terms) (m : Metadata) (us : List Update) (m' : Metadata) (log : List Update) (expired : List FileEntry) (accepted : run terms m us ≡ Accepted m' log expired) where
  ends : Ends terms m' log expired m us
  ends = run_accepted terms m' log expired m us accepted

  replays : Replays terms (list_sum us) (started m) ends.end
  replays = updates_replay terms ends.office us 0 (started m) ends.end ends.reached (formed_sound m (and_left (metadata_formed m) (if_some file_name_formed terms.file) ends.formed))

  -- the log is what the updates logged
  log_is : replays.entries ≡ log
  log_is = sym replays.logged ∙ ends.closes.logged

  log_formed_lem : all update_formed log ≡ true
  log_formed_lem = rw log_is at replays.formed

  log_light : list_sum log ≤ list_room
  log_light = omega (arith, rw log_is at replays.light, ends.short)

  reached_again : run_from terms log 0 (started m) ≡ Reached (with_log (strip log) ends.end)
  reached_again = rw log_is at (replays.again 0 [] (λ id. refl))

  accepted_again : run terms m log ≡ Accepted m' (strip log) expired
  accepted_again =
      rw (run_started terms m log ends.formed log_light ends.tolerated ends.office, reached_again)
      (rw ends.closes.logged at (close_alike terms m' log expired (length log) ends.end ends.closes))

-- ---- the theorems

-- the entries of a log are well formed, and as a list they are not too long
pub log_fits_lem : (terms : Terms) (m : Metadata) (us : List Update) (m' : Metadata) (log : List Update) (expired : List FileEntry)
    → run terms m us ≡ Accepted m' log expired
    → (all update_formed log ≡ true) × (list_sum log ≤ list_room)
log_fits_lem terms m us m' log expired accepted = (log_formed_lem terms m us m' log expired accepted, log_light terms m us m' log expired accepted)

-- the log, run again from the same start: the same metadata and expired entries, and the log stripped
pub log_replays : (terms : Terms) (m : Metadata) (us : List Update) (m' : Metadata) (log : List Update) (expired : List FileEntry)
    → run terms m us ≡ Accepted m' log expired
    → run terms m log ≡ Accepted m' (strip log) expired
log_replays = accepted_again

-- the stripped log, run again: it logs itself
pub stripped_replays : (terms : Terms) (m : Metadata) (us : List Update) (m' : Metadata) (log : List Update) (expired : List FileEntry)
    → run terms m us ≡ Accepted m' log expired
    → run terms m (strip log) ≡ Accepted m' (strip log) expired
stripped_replays terms m us m' log expired accepted = rw strip_strip at (log_replays terms m log m' (strip log) expired (log_replays terms m us m' log expired accepted))
