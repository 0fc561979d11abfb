-- Dropping the schema removals that name no schema changes nothing of what a run reads from its log.
use mathlib.Core.Path.{◌≡◌, refl}
use mathlib.Core.Bool.{false, not, true≢false, ◌||◌}
use mathlib.Core.List.{List, ◌++◌}
use mathlib.Core.Option.{none}
use lib.IntN.{ℤ}
use Rattle.rules.specs.Register.{Update}
use Rattle.rules.specs.Register.Update.{AssignUuid, UpgradeFormatVersion, SetLocation, AddSnapshot, SetBranchSnapshot, RemoveSnapshots, SetRef, RemoveRef, AddSchema, SetCurrentSchema, RemoveSchemas, AddSortOrder, SetDefaultSortOrder, SetStatistics, RemoveStatistics, AddPartitionSpec, SetDefaultPartitionSpec, RemovePartitionSpecs, NotFormed}
use Rattle.rules.specs.ChangeLog.{of_snapshots, addition, is_addition, logs_addition, main_target, logs_main, removal, is_snapshot_removal, logs_removal}
use Rattle.rules.specs.ChangeLog.OfSnapshots.{Nothing}
use Rattle.rules.specs.Replay.{is_empty_schema_removal, strip}
use Rattle.rules.proofs.Replay.Lists.{keep_append, keep_keep, any_append, any_kept, collect_kept}

-- ---- what is dropped says nothing of snapshots

dropped_says_nothing : (u : Update) → not (is_empty_schema_removal u) ≡ false → of_snapshots u ≡ Nothing
dropped_says_nothing (AssignUuid uuid) e = refl
dropped_says_nothing (UpgradeFormatVersion v) e = refl
dropped_says_nothing (SetLocation location) e = refl
dropped_says_nothing (AddSnapshot s) e = absurd (true≢false e)
dropped_says_nothing (SetBranchSnapshot name s) e = absurd (true≢false e)
dropped_says_nothing (RemoveSnapshots ids) e = absurd (true≢false e)
dropped_says_nothing (SetRef name r) e = absurd (true≢false e)
dropped_says_nothing (RemoveRef name) e = refl
dropped_says_nothing (AddSchema s) e = refl
dropped_says_nothing (SetCurrentSchema c) e = refl
dropped_says_nothing (RemoveSchemas ids) e = refl
dropped_says_nothing (AddSortOrder o) e = refl
dropped_says_nothing (SetDefaultSortOrder c) e = refl
dropped_says_nothing (SetStatistics which f) e = refl
dropped_says_nothing (RemoveStatistics which id) e = refl
dropped_says_nothing (AddPartitionSpec o) e = refl
dropped_says_nothing (SetDefaultPartitionSpec c) e = refl
dropped_says_nothing (RemovePartitionSpecs ids) e = refl
dropped_says_nothing (NotFormed counts) e = refl

dropped_adds_none : (id : ℤ) (u : Update) → not (is_empty_schema_removal u) ≡ false → is_addition id u ≡ false
dropped_adds_none id u e = rw (dropped_says_nothing u e, addition)

dropped_sets_no_main : (u : Update) → not (is_empty_schema_removal u) ≡ false → main_target u ≡ none
dropped_sets_no_main u e = rw (dropped_says_nothing u e, main_target)

dropped_removes_none : (u : Update) → not (is_empty_schema_removal u) ≡ false → is_snapshot_removal u ≡ false
dropped_removes_none u e = rw (dropped_says_nothing u e, removal)

-- ---- the three facts

pub strip_additions : (log : List Update) (id : ℤ) → logs_addition (strip log) id ≡ logs_addition log id
unfolding strip logs_addition
strip_additions log id = any_kept (is_addition id) (λ u. not (is_empty_schema_removal u)) log (dropped_adds_none id)

pub strip_mains : (log : List Update) → logs_main (strip log) ≡ logs_main log
unfolding strip logs_main
strip_mains log = collect_kept main_target (λ u. not (is_empty_schema_removal u)) log dropped_sets_no_main

pub strip_removals : (log : List Update) → logs_removal (strip log) ≡ logs_removal log
unfolding strip logs_removal
strip_removals log = any_kept is_snapshot_removal (λ u. not (is_empty_schema_removal u)) log dropped_removes_none

-- ---- strip itself

pub strip_append : (a b : List Update) → strip (a ++ b) ≡ strip a ++ strip b
unfolding strip
strip_append a b = keep_append (λ u. not (is_empty_schema_removal u)) a b

pub strip_strip : (log : List Update) → strip (strip log) ≡ strip log
unfolding strip
strip_strip log = keep_keep (λ u. not (is_empty_schema_removal u)) log

-- ---- two logs that add the same snapshots

abbrev pub SameAdditions : List Update → List Update → Type 0
SameAdditions a b = (id : ℤ) → logs_addition a id ≡ logs_addition b id

pub additions_append : (a b : List Update) (id : ℤ) → logs_addition (a ++ b) id ≡ logs_addition a id || logs_addition b id
unfolding logs_addition
additions_append a b id = any_append (is_addition id) a b

-- one goes on with entries, the other with the same entries stripped
pub go_on_alike : (l k e : List Update) → SameAdditions l k → SameAdditions (l ++ strip e) (k ++ e)
go_on_alike l k e h id = rw (additions_append l (strip e) id, additions_append k e id, strip_additions e id, h id)
