-- An accepted update keeps metadata sound: one theorem, by the lemma of each kind of update.
use mathlib.Core.Path.{◌≡◌, refl}
use mathlib.Core.Bool.{true, false, not}
use mathlib.Core.List.{List, [], ◌∷◌}
use borrow.Author.Tests.{not-false}
use Rattle.rules.specs.Words.{first_of, Check}
use Rattle.rules.specs.Replies.{update_not_formed, others_to_change}
use Rattle.rules.specs.Offices.{is_office}
use Rattle.rules.specs.Register.{Update, Terms, State}
use Rattle.rules.specs.Register.Update.{AssignUuid, UpgradeFormatVersion, SetLocation, AddSnapshot, SetBranchSnapshot, RemoveSnapshots, SetRef, RemoveRef, AddSchema, SetCurrentSchema, RemoveSchemas, AddSortOrder, SetDefaultSortOrder, SetStatistics, RemoveStatistics, AddPartitionSpec, SetDefaultPartitionSpec, RemovePartitionSpecs, NotFormed}
use Rattle.rules.specs.WellFormed.{name_formed, snapshot_formed, update_formed}
use Rattle.rules.specs.Offers.{offered_schema, offered_spec}
use Rattle.rules.specs.Others.{is_others}
use Rattle.rules.specs.Updates.{offers_formed, checks, update_number, effect}
use Rattle.rules.proofs.Checks.{and_left, and_right, Passed, passed, passed_before, passed_after}
use Rattle.rules.proofs.Sound.Metadata.{Sound}
use Rattle.rules.proofs.Sound.Singles.{assign_uuid_sound, upgrade_format_version_sound, set_location_sound}
use Rattle.rules.proofs.Sound.Snapshots.{add_snapshot_sound, remove_snapshots_sound}
use Rattle.rules.proofs.Sound.Refs.{set_ref_sound, set_branch_snapshot_sound, remove_ref_sound}
use Rattle.rules.proofs.Sound.Schemas.{offer_formed_lem, add_schema_sound, set_current_schema_sound, remove_schemas_sound}
use Rattle.rules.proofs.Sound.Orders.{add_sort_order_sound, set_default_sort_order_sound}
use Rattle.rules.proofs.Sound.Statistics.{set_statistics_sound, remove_statistics_sound}
use Rattle.rules.proofs.Sound.Specs.{spec_offer_formed_lem, add_partition_spec_sound, set_default_partition_spec_sound, remove_partition_specs_sound}

-- what is asked of an update before its own checks
abbrev form_checks : Terms → Update → State → List Check
form_checks terms u st = (not (update_formed u), update_not_formed) ∷ (not (offers_formed terms u), update_not_formed) ∷ (is_others terms.office u st.metadata, others_to_change) ∷ []

form_checks_passed : (terms : Terms) (u : Update) (st : State) → update_number terms u st ≡ 0 → Passed (form_checks terms u st)
unfolding update_number
form_checks_passed terms u st e = passed (form_checks terms u st) refl (passed_before (form_checks terms u st) (checks terms u st) e)

-- an accepted update is well formed, and so is what it offers; it is not the other office's, and none of its checks failed
pub accepted_form : (terms : Terms) (u : Update) (st : State) → update_number terms u st ≡ 0 → update_formed u ≡ true
accepted_form terms u st e = not-false (update_formed u) (form_checks_passed terms u st e).0

pub accepted_offers : (terms : Terms) (u : Update) (st : State) → update_number terms u st ≡ 0 → offers_formed terms u ≡ true
accepted_offers terms u st e = not-false (offers_formed terms u) (form_checks_passed terms u st e).1.0

pub accepted_own : (terms : Terms) (u : Update) (st : State) → update_number terms u st ≡ 0 → is_others terms.office u st.metadata ≡ false
accepted_own terms u st e = (form_checks_passed terms u st e).1.1.0

pub accepted_checks : (terms : Terms) (u : Update) (st : State) → update_number terms u st ≡ 0 → first_of (checks terms u st) ≡ 0
unfolding update_number
accepted_checks terms u st e = passed_after (form_checks terms u st) (checks terms u st) refl e

-- what a well-formed update of the office's own with no failed check does
checked_sound : (terms : Terms) (u : Update) (st : State) → is_office terms.office ≡ true → update_formed u ≡ true → offers_formed terms u ≡ true → is_others terms.office u st.metadata ≡ false
    → first_of (checks terms u st) ≡ 0 → Sound st.metadata → Sound (effect terms u st).metadata
unfolding update_formed offers_formed is_others checks effect
checked_sound terms (AssignUuid uuid) st o f g n e s = assign_uuid_sound st s uuid
checked_sound terms (UpgradeFormatVersion v) st o f g n e s = upgrade_format_version_sound st s v f
checked_sound terms (SetLocation l) st o f g n e s = set_location_sound st s l f
checked_sound terms (AddSnapshot x) st o f g n e s = add_snapshot_sound terms.tolerance x st f e s
checked_sound terms (SetBranchSnapshot name x) st o f g n e s = set_branch_snapshot_sound terms name x st o n (and_left (name_formed name) (snapshot_formed x) f) (and_right (name_formed name) (snapshot_formed x) f) e s
checked_sound terms (RemoveSnapshots ids) st o f g n e s = remove_snapshots_sound ids st s
checked_sound terms (SetRef name r) st o f g n e s = set_ref_sound terms name r st o n f e s
checked_sound terms (RemoveRef name) st o f g n e s = remove_ref_sound name st s
checked_sound terms (AddSchema x) st o f g n e s = add_schema_sound x (offered_schema terms.offers x) st (offer_formed_lem terms.offers x g) e s
checked_sound terms (SetCurrentSchema id) st o f g n e s = set_current_schema_sound id st e s
checked_sound terms (RemoveSchemas ids) st o f g n e s = remove_schemas_sound ids st e s
checked_sound terms (AddSortOrder x) st o f g n e s = add_sort_order_sound x st f e s
checked_sound terms (SetDefaultSortOrder id) st o f g n e s = set_default_sort_order_sound id st e s
checked_sound terms (SetStatistics which x) st o f g n e s = set_statistics_sound which x st f e s
checked_sound terms (RemoveStatistics which id) st o f g n e s = remove_statistics_sound which id st s
checked_sound terms (AddPartitionSpec x) st o f g n e s = add_partition_spec_sound x (offered_spec terms.offers x) st (spec_offer_formed_lem terms.offers x g) e s
checked_sound terms (SetDefaultPartitionSpec id) st o f g n e s = set_default_partition_spec_sound id st e s
checked_sound terms (RemovePartitionSpecs ids) st o f g n e s = remove_partition_specs_sound ids st e s
checked_sound terms (NotFormed counts) st o f g n e s = s

pub effect_sound : (terms : Terms) (u : Update) (st : State) → is_office terms.office ≡ true → update_number terms u st ≡ 0 → Sound st.metadata → Sound (effect terms u st).metadata
effect_sound terms u st o e s = checked_sound terms u st o (accepted_form terms u st e) (accepted_offers terms u st e) (accepted_own terms u st e) (accepted_checks terms u st e) s
