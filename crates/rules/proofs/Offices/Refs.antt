-- The other office's refs: an update that is not the other office's to make leaves them as they are, records and owners, in the same order.
use Prim.Native.Nat.{ℕ, ◌≤◌}
use mathlib.Core.Path.{◌≡◌, refl, sym, ap, ◌∙◌, subst}
use mathlib.Core.Bool.{Bool, true, false, not, ◌&&◌, true≢false}
use mathlib.Core.List.{List, [], ◌∷◌}
use lib.Dec.{eqb}
use lib.IntN.{ℤ}
use lib.ListN.{length}
use borrow.Author.Tests.{eq-eqb}
use borrow.Table.Steps.{cases}
use Rattle.rules.specs.Words.{eq_z, is_some, if_some, some_with, all, any, keep, is_empty, is_in, same_bytes, ascending, put}
use Rattle.rules.specs.Capacities.{snapshot_room, ref_room}
use Rattle.rules.specs.Names.{is_main, trimmed}
use Rattle.rules.specs.Offices.{is_office}
use Rattle.rules.specs.Register.{Snapshot, Reference, NamedRef, FileEntry, Metadata, Update, Terms, State}
use Rattle.rules.specs.Register.Outcome.{Accepted}
use Rattle.rules.specs.Register.Update.{AssignUuid, UpgradeFormatVersion, SetLocation, AddSnapshot, SetBranchSnapshot, RemoveSnapshots, SetRef, RemoveRef, AddSchema, SetCurrentSchema, RemoveSchemas, AddSortOrder, SetDefaultSortOrder, SetStatistics, RemoveStatistics, AddPartitionSpec, SetDefaultPartitionSpec, RemovePartitionSpecs, NotFormed}
use Rattle.rules.specs.Register.StatisticsTable.{Statistics, PartitionStatistics}
use Rattle.rules.specs.WellFormed.{snapshot_formed, ref_formed, snapshot_below, ref_below, snapshots_formed, refs_formed, points_in, refs_held, file_name_formed, metadata_formed}
use Rattle.rules.specs.Walk.{reach}
use Rattle.rules.specs.SingleUpdates.{assign_uuid, upgrade_format_version, set_location}
use Rattle.rules.specs.SnapshotUpdates.{add_snapshot, held_snapshots, other_snapshots, remove_snapshots}
use Rattle.rules.specs.RefUpdates.{has_name, ref_named, is_held_ref, owner_after, put_ref, set_ref, committed, set_branch_snapshot, remove_ref}
use Rattle.rules.specs.SchemaUpdates.{reused_schema, add_schema, chosen, set_current_schema, remove_schemas}
use Rattle.rules.specs.OrderUpdates.{reused_order, add_sort_order, set_default_sort_order}
use Rattle.rules.specs.Offers.{offered_schema, offered_spec}
use Rattle.rules.specs.StatisticsUpdates.{has_file_of, set_statistics, remove_statistics}
use Rattle.rules.specs.SpecUpdates.{reusing, reused_spec, spec_added, add_partition_spec, set_default_partition_spec, held_specs, remove_partition_specs}
use Rattle.rules.specs.Others.{is_second, is_others_ref, others_refs, names_others, is_logged, others_reach, is_needed, is_others}
use Rattle.rules.specs.Updates.{effect}
use Rattle.rules.specs.Close.{closed}
use Rattle.rules.specs.Run.{run_from, started, run}
use Rattle.rules.specs.Run.Ran.{Reached}
use Rattle.rules.proofs.Checks.{by_test, by_option, both, and_left, or_left, by_either, neither}
use Rattle.rules.proofs.Orders.{names_ordered, names_told_lem}
use Rattle.rules.proofs.Tables.{all_head, all_tail, all_keep, keep_among, keep_put, keep_without, table_parts_lem}
use Rattle.rules.proofs.Sound.Metadata.{Sound, formed_sound}
use Rattle.rules.proofs.Sound.Refs.{owner_is}
use Rattle.rules.proofs.Sound.Updates.{accepted_own, effect_sound}
use Rattle.rules.proofs.Sound.Accepted.{Ends, run_accepted}
use Rattle.rules.proofs.Sound.Run.{run_keeps}
use Rattle.rules.proofs.History.Lists.{in_any, stays_or_goes}
use Rattle.rules.proofs.Offices.Follow.{reach_start}

-- ---- the refs that an office may not touch stay

-- what an update leaves of the other office's refs
abbrev pub KeepsOthers : ℕ → State → State → Type 0
KeepsOthers office st st' = others_refs office st'.metadata.refs ≡ others_refs office st.metadata.refs

pub refs_ascending : (m : Metadata) → Sound m → ascending ref_below m.refs ≡ true
unfolding refs_formed
refs_ascending m k = (table_parts_lem ref_room ref_formed ref_below m.refs k.refs).2

module _ (office : ℕ) (name : List ℕ) (m : Metadata) (n : names_others office name m ≡ false) where
  -- the name's ref, where it is held, is the office's own
  none_others : some_with (is_others_ref office) (ref_named name m.refs) ≡ false
  none_others = (neither (is_second office && is_main name) (some_with (is_others_ref office) (ref_named name m.refs)) n).1

  put_others : (r : Reference) → others_refs office (put ref_below (record { name = name; owner = owner_after office name m.refs; reference = r }) m.refs) ≡ others_refs office m.refs
  put_others r =
      keep_put names_ordered (λ (x : NamedRef). x.name) names_told_lem (is_others_ref office) (record { name = name; owner = owner_after office name m.refs; reference = r }) m.refs
      (ap not (eq-eqb (owner_after office name m.refs) office (owner_is office name m n)))
      none_others

  without_others : Sound m → others_refs office (keep (λ r. not (has_name name r)) m.refs) ≡ others_refs office m.refs
  without_others k = keep_without names_ordered (λ (x : NamedRef). x.name) names_told_lem (is_others_ref office) name m.refs (refs_ascending m k) none_others

set_ref_others : (terms : Terms) (name : List ℕ) (r : Reference) (st : State) → names_others terms.office name st.metadata ≡ false → KeepsOthers terms.office st (set_ref terms name r st)
unfolding set_ref
set_ref_others terms name r st n =
    let office : ℕ = terms.office in
    by_test (KeepsOthers office st) (is_held_ref name r st.metadata.refs)
    (λ e. refl)
    (λ e. by_test (λ (x : State). KeepsOthers office st (put_ref office name r x)) (is_main name) (λ f. put_others office name st.metadata n r) (λ f. put_others office name st.metadata n r))

remove_ref_others : (office : ℕ) (name : List ℕ) (st : State) → Sound st.metadata → names_others office name st.metadata ≡ false → KeepsOthers office st (remove_ref name st)
unfolding remove_ref
remove_ref_others office name st k n =
    let gone : others_refs office (keep (λ r. not (has_name name r)) st.metadata.refs) ≡ others_refs office st.metadata.refs = without_others office name st.metadata n k in
    by_test (KeepsOthers office st) (is_main name) (λ e. gone) (λ e. by_test (KeepsOthers office st) (is_some (ref_named name st.metadata.refs)) (λ f. gone) (λ f. refl))

-- ---- no snapshot goes that the other office's refs name

module _ (ids : List ℤ) (l : List Snapshot) (few : length l ≤ snapshot_room) where
  -- a held snapshot that goes is in no ref's reach, so refs still point to held ones
  still_point : (rs : List NamedRef) → ((id : ℤ) → is_in (held_snapshots ids l) id ≡ true → any (λ (r : NamedRef). is_in (reach l r.reference.snapshot) id) rs ≡ false)
      → all (points_in l) rs ≡ true → all (points_in (other_snapshots ids l)) rs ≡ true
  still_point [] n h = refl
  still_point (r ∷ rs) n h =
      let id : ℤ = r.reference.snapshot in
      let reaches : ℤ → NamedRef → Bool = λ i x. is_in (reach l x.reference.snapshot) i in
      let here : points_in l r ≡ true = all_head (points_in l) r rs h in
      both
      (by_either (points_in (other_snapshots ids l) r) (is_in (held_snapshots ids l) id)
      (λ e. e)
      (λ e. absurd (true≢false (sym (reach_start l few id here) ∙ (neither (reaches id r) (any (reaches id) rs) (n id e)).0)))
      (stays_or_goes (λ (s : Snapshot). s.id) ids l id here))
      (still_point rs (λ i e. (neither (reaches i r) (any (reaches i) rs) (n i e)).1) (all_tail (points_in l) r rs h))

pub snapshots_few : (m : Metadata) → Sound m → length m.snapshots ≤ snapshot_room
unfolding snapshots_formed
snapshots_few m k = (table_parts_lem snapshot_room snapshot_formed snapshot_below m.snapshots k.snapshots).0

module _ (office : ℕ) (ids : List ℤ) (st : State) (k : Sound st.metadata) (n : any (is_needed office st.metadata) (held_snapshots ids st.metadata.snapshots) ≡ false) where
  -- none that goes is reached by the other's refs
  none_reached : (id : ℤ) → is_in (held_snapshots ids st.metadata.snapshots) id ≡ true → others_reach office st.metadata id ≡ false
  none_reached id e =
      cases (others_reach office st.metadata id)
      (λ t. absurd (true≢false (sym (in_any (is_needed office st.metadata) (held_snapshots ids st.metadata.snapshots) id e (or_left (is_second office && is_logged st.metadata id) t)) ∙ n)))
      (λ f. f)

  without_snapshots_others : others_refs office (keep (points_in (other_snapshots ids st.metadata.snapshots)) st.metadata.refs) ≡ others_refs office st.metadata.refs
  unfolding refs_held
  without_snapshots_others =
      keep_among (is_others_ref office) (points_in (other_snapshots ids st.metadata.snapshots)) st.metadata.refs
      (still_point ids st.metadata.snapshots (snapshots_few st.metadata k) (others_refs office st.metadata.refs) none_reached
      (all_keep (points_in st.metadata.snapshots) (is_others_ref office) st.metadata.refs k.refs_held))

  remove_snapshots_others : KeepsOthers office st (remove_snapshots ids st)
  unfolding remove_snapshots
  remove_snapshots_others = by_test (KeepsOthers office st) (is_empty (held_snapshots ids st.metadata.snapshots)) (λ e. without_snapshots_others) (λ e. without_snapshots_others)

-- ---- any update

pub step_others_refs : (terms : Terms) (u : Update) (st : State) → Sound st.metadata → is_others terms.office u st.metadata ≡ false → KeepsOthers terms.office st (effect terms u st)
unfolding effect is_others assign_uuid upgrade_format_version set_location add_snapshot set_branch_snapshot add_schema set_current_schema remove_schemas add_sort_order set_default_sort_order set_statistics remove_statistics spec_added add_partition_spec set_default_partition_spec remove_partition_specs
step_others_refs terms (AssignUuid uuid) st k n = by_test (KeepsOthers terms.office st) (same_bytes uuid st.metadata.fields.uuid) (λ q. refl) (λ q. refl)
step_others_refs terms (UpgradeFormatVersion v) st k n = by_test (KeepsOthers terms.office st) (eqb v st.metadata.fields.version) (λ q. refl) (λ q. refl)
step_others_refs terms (SetLocation location) st k n = by_test (KeepsOthers terms.office st) (same_bytes (trimmed location) st.metadata.fields.location) (λ q. refl) (λ q. refl)
step_others_refs terms (AddSnapshot s) st k n = refl
step_others_refs terms (SetBranchSnapshot name s) st k n = set_ref_others terms name (committed name s.id st.metadata.refs) (add_snapshot s st) n
step_others_refs terms (RemoveSnapshots ids) st k n = remove_snapshots_others terms.office ids st k n
step_others_refs terms (SetRef name r) st k n = set_ref_others terms name r st n
step_others_refs terms (RemoveRef name) st k n = remove_ref_others terms.office name st k n
step_others_refs terms (AddSchema o) st k n =
    by_option (KeepsOthers terms.office st) (reused_schema (offered_schema terms.offers o) st.metadata.schemas)
    (λ q. refl)
    (λ id q. by_test (KeepsOthers terms.office st) (some_with (eq_z id) st.added.schema) (λ e. refl) (λ e. refl))
step_others_refs terms (SetCurrentSchema id) st k n = by_test (KeepsOthers terms.office st) (eq_z (chosen id st.added.schema) st.metadata.fields.current_schema) (λ q. refl) (λ q. refl)
step_others_refs terms (RemoveSchemas ids) st k n = by_test (KeepsOthers terms.office st) (is_empty ids) (λ q. refl) (λ q. refl)
step_others_refs terms (AddSortOrder o) st k n =
    by_option (KeepsOthers terms.office st) (reused_order o st.metadata.orders)
    (λ q. refl)
    (λ id q. by_test (KeepsOthers terms.office st) (some_with (eq_z id) st.added.order) (λ e. refl) (λ e. refl))
step_others_refs terms (SetDefaultSortOrder id) st k n = by_test (KeepsOthers terms.office st) (eq_z (chosen id st.added.order) st.metadata.fields.default_order) (λ q. refl) (λ q. refl)
step_others_refs terms (SetStatistics Statistics f) st k n = refl
step_others_refs terms (SetStatistics PartitionStatistics f) st k n = refl
step_others_refs terms (RemoveStatistics Statistics id) st k n = by_test (KeepsOthers terms.office st) (has_file_of st.metadata.statistics id) (λ q. refl) (λ q. refl)
step_others_refs terms (RemoveStatistics PartitionStatistics id) st k n = by_test (KeepsOthers terms.office st) (has_file_of st.metadata.partition_statistics id) (λ q. refl) (λ q. refl)
step_others_refs terms (AddPartitionSpec o) st k n =
    by_option (KeepsOthers terms.office st) (reused_spec (reusing st.metadata.specs (offered_spec terms.offers o)) st.metadata.specs)
    (λ q. refl)
    (λ id q. by_test (KeepsOthers terms.office st) (some_with (eq_z id) st.added.spec) (λ e. refl) (λ e. refl))
step_others_refs terms (SetDefaultPartitionSpec id) st k n = by_test (KeepsOthers terms.office st) (eq_z (chosen id st.added.spec) st.metadata.fields.default_spec) (λ q. refl) (λ q. refl)
step_others_refs terms (RemovePartitionSpecs ids) st k n = by_test (KeepsOthers terms.office st) (is_empty (held_specs ids st.metadata.specs)) (λ q. refl) (λ q. refl)
step_others_refs terms (NotFormed counts) st k n = refl

-- ---- the run

-- a sound state, to which an office came with the other's refs as they were
pub record KeptSound (office : ℕ) (m : Metadata) (st : State) : Type 0 where
  pub sound : Sound st.metadata
  pub others : others_refs office st.metadata.refs ≡ others_refs office m.refs

pub run_kept_sound : (terms : Terms) (us : List Update) (m : Metadata) (st : State) → is_office terms.office ≡ true → Sound m → run_from terms us 0 (started m) ≡ Reached st → KeptSound terms.office m st
run_kept_sound terms us m st o k e =
    run_keeps terms (KeptSound terms.office m)
    (λ u x n p. record { sound = effect_sound terms u x o n p.sound; others = step_others_refs terms u x p.sound (accepted_own terms u x n) ∙ p.others })
    us 0 (started m) st e (record { sound = k; others = refl })

-- an accepted run starts from sound metadata
pub accepted_start : {terms : Terms} {m' : Metadata} {log : List Update} {expired : List FileEntry} {m : Metadata} {us : List Update} → Ends terms m' log expired m us → Sound m
accepted_start {terms} {m = m} k = formed_sound m (and_left (metadata_formed m) (if_some file_name_formed terms.file) k.formed)

-- the other office's refs are those of the start, records and owners, in the same order
pub office_refs_stay : (terms : Terms) (m : Metadata) (us : List Update) (m' : Metadata) (log : List Update) (expired : List FileEntry) → run terms m us ≡ Accepted m' log expired
    → others_refs terms.office m'.refs ≡ others_refs terms.office m.refs
unfolding closed
office_refs_stay terms m us m' log expired e =
    let k : Ends terms m' log expired m us = run_accepted terms m' log expired m us e in
    subst (λ (x : Metadata). others_refs terms.office x.refs ≡ others_refs terms.office m.refs) k.closes.metadata
    (run_kept_sound terms us m k.end k.office (accepted_start k) k.reached).others
