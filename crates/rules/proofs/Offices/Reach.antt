-- What the other office's refs reach stays: an addition is of an id that was not held (5), and a removal of what they reach is refused (35);
-- so over a run all that they reach at its start keeps its record, and is reached at every moment of the run.
use Prim.Native.Nat.{ℕ, ◌≤◌}
use mathlib.Core.Path.{◌≡◌, refl, sym, ap, ◌∙◌, subst}
use mathlib.Core.Bool.{true, false, ◌&&◌, true≢false}
use mathlib.Core.List.{List}
use mathlib.Core.Option.{Option}
use lib.Dec.{eqb}
use lib.IntN.{ℤ}
use lib.ListN.{length}
use borrow.Table.Steps.{cases}
use Rattle.rules.specs.Words.{eq_z, any, first, is_in, first_of}
use Rattle.rules.specs.Capacities.{snapshot_room}
use Rattle.rules.specs.Offices.{is_office}
use Rattle.rules.specs.Register.{Snapshot, NamedRef, FileEntry, Metadata, Update, Terms, State}
use Rattle.rules.specs.Register.Outcome.{Accepted}
use Rattle.rules.specs.Register.Update.{AssignUuid, UpgradeFormatVersion, SetLocation, AddSnapshot, SetBranchSnapshot, RemoveSnapshots, SetRef, RemoveRef, AddSchema, SetCurrentSchema, RemoveSchemas, AddSortOrder, SetDefaultSortOrder, SetStatistics, RemoveStatistics, AddPartitionSpec, SetDefaultPartitionSpec, RemovePartitionSpecs, NotFormed}
use Rattle.rules.specs.WellFormed.{has_snapshot, holds_snapshot}
use Rattle.rules.specs.Walk.{reach}
use Rattle.rules.specs.SingleUpdates.{upgrade_format_version}
use Rattle.rules.specs.SnapshotUpdates.{add_snapshot_checks, add_snapshot, held_snapshots, without_snapshots}
use Rattle.rules.specs.RefUpdates.{committed, set_branch_snapshot}
use Rattle.rules.specs.Offers.{offered_schema, offered_spec}
use Rattle.rules.specs.Others.{is_second, others_refs, others_reach, is_logged, is_needed, is_others}
use Rattle.rules.specs.Updates.{checks, update_number, effect}
use Rattle.rules.specs.Close.{closed}
use Rattle.rules.specs.Run.{started, run}
use Rattle.rules.specs.OfficeWalks.{HeldAlike}
use Rattle.rules.proofs.Checks.{by_test, or_left}
use Rattle.rules.proofs.Orders.{numbers_ordered, numbers_told}
use Rattle.rules.proofs.Tables.{first_any, first_put}
use Rattle.rules.proofs.Sound.Metadata.{Sound, formed_sound}
use Rattle.rules.proofs.Sound.Snapshots.{add_new}
use Rattle.rules.proofs.Sound.Updates.{accepted_own, accepted_checks, effect_sound}
use Rattle.rules.proofs.Sound.Accepted.{Ends, run_accepted}
use Rattle.rules.proofs.Sound.Run.{run_keeps, accepted_formed}
use Rattle.rules.proofs.Replay.Keys.{others_first}
use Rattle.rules.proofs.History.Lists.{in_any, found_any, any_found}
use Rattle.rules.proofs.Rows.Updates.{View, assign_uuid_keeps, set_location_keeps, set_ref_keeps, remove_ref_keeps, add_schema_keeps, set_current_schema_keeps, remove_schemas_keeps, add_sort_order_keeps, set_default_sort_order_keeps, set_statistics_keeps, remove_statistics_keeps, add_partition_spec_keeps, set_default_partition_spec_keeps, remove_partition_specs_keeps, remove_snapshots_keeps, commit_adds}
use Rattle.rules.proofs.Offices.Follow.{Way, way_agrees, parent_in, parent_field, parent_record, some_of, reach_way, reach_held, way_reached}
use Rattle.rules.proofs.Offices.Refs.{snapshots_few, step_others_refs, accepted_start}

-- the record of an id
abbrev pub record_of : List Snapshot → ℤ → Option Snapshot
record_of l id = first (has_snapshot id) l

-- what the other office's refs reach is held
pub reached_held : (office : ℕ) (m : Metadata) → Sound m → (id : ℤ) → others_reach office m id ≡ true → holds_snapshot m.snapshots id ≡ true
reached_held office m d id h =
    let k = any_found (λ (r : NamedRef). is_in (reach m.snapshots r.reference.snapshot) id) (others_refs office m.refs) h in
    reach_held m.snapshots (snapshots_few m d) k.0.reference.snapshot id k.2

-- where a held one keeps its record it is held alike
pub held_alike : (before after : List Snapshot) (id : ℤ) → holds_snapshot before id ≡ true → record_of after id ≡ record_of before id → HeldAlike before after id
held_alike before after id h e = let k = some_of (record_of before id) (first_any (has_snapshot id) before ∙ h) in record { snapshot = k.0; was = k.1; is = e ∙ k.1 }

-- ---- one update

-- the record of an id stays
abbrev RecordStays : ℤ → State → State → Type 0
RecordStays id st st' = record_of st'.metadata.snapshots id ≡ record_of st.metadata.snapshots id

-- it does where the snapshots stay
view_stays : (id : ℤ) {v w : View} → v ≡ w → record_of v.held id ≡ record_of w.held id
view_stays id k = ap (λ (v : View). record_of v.held id) k

-- 5: what is added is another snapshot than one that is held
add_stays : (tolerance : ℤ) (s : Snapshot) (st : State) (id : ℤ) → first_of (add_snapshot_checks tolerance s st) ≡ 0 → holds_snapshot st.metadata.snapshots id ≡ true → RecordStays id st (add_snapshot s st)
unfolding add_snapshot
add_stays tolerance s st id e h =
    let other : eq_z s.id id ≡ false = cases (eq_z s.id id) (λ t. absurd (true≢false (sym h ∙ (rw (numbers_told.equal s.id id t) at (add_new tolerance s st e))))) (λ f. f) in
    first_put numbers_ordered (λ (x : Snapshot). x.id) (λ (k : ℤ). eq_z k id) s st.metadata.snapshots other

-- 35: what they reach is not among those that go
remove_stays : (office : ℕ) (ids : List ℤ) (st : State) (id : ℤ) → any (is_needed office st.metadata) (held_snapshots ids st.metadata.snapshots) ≡ false → others_reach office st.metadata id ≡ true → RecordStays id st (without_snapshots ids st)
remove_stays office ids st id n h =
    let m : Metadata = st.metadata in
    let stays : is_in (held_snapshots ids m.snapshots) id ≡ false = cases (is_in (held_snapshots ids m.snapshots) id) (λ t. absurd (true≢false (sym (in_any (is_needed office m) (held_snapshots ids m.snapshots) id t (or_left (is_second office && is_logged m id) h)) ∙ n))) (λ f. f) in
    others_first (λ (s : Snapshot). s.id) ids m.snapshots id stays

checked_stays : (terms : Terms) (u : Update) (st : State) (id : ℤ) → is_others terms.office u st.metadata ≡ false → first_of (checks terms u st) ≡ 0 → holds_snapshot st.metadata.snapshots id ≡ true
    → others_reach terms.office st.metadata id ≡ true → RecordStays id st (effect terms u st)
unfolding is_others checks effect upgrade_format_version set_branch_snapshot
checked_stays terms (AssignUuid uuid) st id n e h r = view_stays id (assign_uuid_keeps st uuid)
checked_stays terms (UpgradeFormatVersion v) st id n e h r = by_test (RecordStays id st) (eqb v st.metadata.fields.version) (λ q. refl) (λ q. refl)
checked_stays terms (SetLocation l) st id n e h r = view_stays id (set_location_keeps st l)
checked_stays terms (AddSnapshot s) st id n e h r = add_stays terms.tolerance s st id e h
checked_stays terms (SetBranchSnapshot name s) st id n e h r =
    view_stays id (set_ref_keeps (add_snapshot s st) terms name (committed name s.id st.metadata.refs))
    ∙ add_stays terms.tolerance s st id (commit_adds terms.tolerance name s st e) h
checked_stays terms (RemoveSnapshots ids) st id n e h r = view_stays id (remove_snapshots_keeps ids st) ∙ remove_stays terms.office ids st id n r
checked_stays terms (SetRef name x) st id n e h r = view_stays id (set_ref_keeps st terms name x)
checked_stays terms (RemoveRef name) st id n e h r = view_stays id (remove_ref_keeps st name)
checked_stays terms (AddSchema o) st id n e h r = view_stays id (add_schema_keeps st o (offered_schema terms.offers o))
checked_stays terms (SetCurrentSchema x) st id n e h r = view_stays id (set_current_schema_keeps st x)
checked_stays terms (RemoveSchemas ids) st id n e h r = view_stays id (remove_schemas_keeps st ids)
checked_stays terms (AddSortOrder o) st id n e h r = view_stays id (add_sort_order_keeps st o)
checked_stays terms (SetDefaultSortOrder x) st id n e h r = view_stays id (set_default_sort_order_keeps st x)
checked_stays terms (SetStatistics which x) st id n e h r = view_stays id (set_statistics_keeps st which x)
checked_stays terms (RemoveStatistics which x) st id n e h r = view_stays id (remove_statistics_keeps st which x)
checked_stays terms (AddPartitionSpec o) st id n e h r = view_stays id (add_partition_spec_keeps st o (offered_spec terms.offers o))
checked_stays terms (SetDefaultPartitionSpec x) st id n e h r = view_stays id (set_default_partition_spec_keeps st x)
checked_stays terms (RemovePartitionSpecs ids) st id n e h r = view_stays id (remove_partition_specs_keeps st ids)
checked_stays terms (NotFormed counts) st id n e h r = refl

-- an accepted update leaves the record of every snapshot that the other office's refs reach
pub step_reach_stays : (terms : Terms) (u : Update) (st : State) → update_number terms u st ≡ 0 → Sound st.metadata → (id : ℤ) → others_reach terms.office st.metadata id ≡ true
    → record_of (effect terms u st).metadata.snapshots id ≡ record_of st.metadata.snapshots id
step_reach_stays terms u st e d id h = checked_stays terms u st id (accepted_own terms u st e) (accepted_checks terms u st e) (reached_held terms.office st.metadata d id h) h

-- ---- what is reached stays reached

-- where all that a snapshot reaches keeps its record, all of it is reached again
reach_stays : (before after : List Snapshot) → length before ≤ snapshot_room → length after ≤ snapshot_room → (start : ℤ)
    → ((id : ℤ) → is_in (reach before start) id ≡ true → record_of after id ≡ record_of before id) → (id : ℤ) → is_in (reach before start) id ≡ true → is_in (reach after start) id ≡ true
reach_stays before after few few' start alike id h =
    let k = reach_way before few start in
    let w : Way (parent_in after) start (reach before start) k.0 = way_agrees (parent_in before) (parent_in after) start (reach before start) k.0 k.1 (λ z q. parent_record after z ∙ ap parent_field (alike z q) ∙ sym (parent_record before z)) in
    way_reached after few' start (reach before start) k.0 w id h

-- ---- a run

-- from the metadata m to m' the other office's refs are the same, and all that they reached keeps its record
pub record OthersStay (office : ℕ) (m m' : Metadata) : Type 0 where
  pub sound : Sound m'
  pub refs : others_refs office m'.refs ≡ others_refs office m.refs
  pub records : (id : ℤ) → others_reach office m id ≡ true → record_of m'.snapshots id ≡ record_of m.snapshots id

pub others_here : (office : ℕ) (m : Metadata) → Sound m → OthersStay office m m
others_here office m d = record { sound = d; refs = refl; records = λ id h. refl }

-- so it is reached still
pub others_reach_on : (office : ℕ) (m m' : Metadata) → Sound m → OthersStay office m m' → (id : ℤ) → others_reach office m id ≡ true → others_reach office m' id ≡ true
others_reach_on office m m' d k id h =
    let f = any_found (λ (r : NamedRef). is_in (reach m.snapshots r.reference.snapshot) id) (others_refs office m.refs) h in
    let start : ℤ = f.0.reference.snapshot in
    let again : is_in (reach m'.snapshots start) id ≡ true = reach_stays m.snapshots m'.snapshots (snapshots_few m d) (snapshots_few m' k.sound) start (λ z q. k.records z (found_any (λ (r : NamedRef). is_in (reach m.snapshots r.reference.snapshot) z) (others_refs office m.refs) f.1 q)) id f.2 in
    rw k.refs (found_any (λ (r : NamedRef). is_in (reach m'.snapshots r.reference.snapshot) id) (others_refs office m.refs) f.1 again)

step_stays : (terms : Terms) (m : Metadata) → is_office terms.office ≡ true → Sound m → (u : Update) (st : State) → update_number terms u st ≡ 0 → OthersStay terms.office m st.metadata → OthersStay terms.office m (effect terms u st).metadata
step_stays terms m o d u st e k = record {
  sound = effect_sound terms u st o e k.sound;
  refs = step_others_refs terms u st k.sound (accepted_own terms u st e) ∙ k.refs;
  records = λ id h. step_reach_stays terms u st e k.sound id (others_reach_on terms.office m st.metadata d k id h) ∙ k.records id h;
}

-- the close changes neither snapshots nor refs
pub accepted_stays : (terms : Terms) (m : Metadata) (us : List Update) (m' : Metadata) (log : List Update) (expired : List FileEntry) → run terms m us ≡ Accepted m' log expired → OthersStay terms.office m m'
unfolding closed
accepted_stays terms m us m' log expired e =
    let k : Ends terms m' log expired m us = run_accepted terms m' log expired m us e in
    let office : ℕ = terms.office in
    let d : Sound m = accepted_start k in
    let s : OthersStay office m k.end.metadata = run_keeps terms (λ (st : State). OthersStay office m st.metadata) (step_stays terms m k.office d) us 0 (started m) k.end k.reached (others_here office m d) in
    let refs : others_refs office m'.refs ≡ others_refs office m.refs = subst (λ (x : Metadata). others_refs office x.refs ≡ others_refs office m.refs) k.closes.metadata s.refs in
    let records : (id : ℤ) → others_reach office m id ≡ true → record_of m'.snapshots id ≡ record_of m.snapshots id = subst (λ (x : Metadata). (id : ℤ) → others_reach office m id ≡ true → record_of x.snapshots id ≡ record_of m.snapshots id) k.closes.metadata s.records in
    record { sound = formed_sound m' (accepted_formed terms m us m' log expired e); refs = refs; records = records }

-- every snapshot that the other office's refs reach at the start is held at the end with an equal record
pub office_reach_stays : (terms : Terms) (m : Metadata) (us : List Update) (m' : Metadata) (log : List Update) (expired : List FileEntry) → run terms m us ≡ Accepted m' log expired
    → (id : ℤ) → others_reach terms.office m id ≡ true → HeldAlike m.snapshots m'.snapshots id
office_reach_stays terms m us m' log expired e id h =
    let d : Sound m = accepted_start (run_accepted terms m' log expired m us e) in
    held_alike m.snapshots m'.snapshots id (reached_held terms.office m d id h) ((accepted_stays terms m us m' log expired e).records id h)
