-- The run: document 01, "Numbers of the replies", last paragraph: "1, then 2, then updates in order, then the close; the first refusal ends the run."
-- Document 02, request (v): 26 "after 2, place 0"; request (xi): "39, after 26".
use Rattle.std.specs.Prelude.{ℕ, suc, Bool, cond, not, ◌&&◌, List, [], ◌∷◌, eqb, leb, length}
use Rattle.std.proofs.Math.Option.{none}
use Rattle.rules.specs.Words.{if_some, total, first_of, Check}
use Rattle.rules.specs.Replies.{accepted, start_not_formed, list_too_long, tolerance_outside, office_unknown}
use Rattle.rules.specs.Capacities.{list_room}
use Rattle.rules.specs.Window.{is_outside}
use Rattle.rules.specs.Offices.{is_office}
use Rattle.rules.specs.Register.{Metadata, Update, Terms, State, Outcome}
use Rattle.rules.specs.Register.Outcome.{Refused, Accepted}
use Rattle.rules.specs.Register.Update.{AssignUuid, UpgradeFormatVersion, SetLocation, AddSnapshot, SetBranchSnapshot, RemoveSnapshots, SetRef, RemoveRef, AddSchema, SetCurrentSchema, RemoveSchemas, AddSortOrder, SetDefaultSortOrder, SetStatistics, RemoveStatistics, AddPartitionSpec, SetDefaultPartitionSpec, RemovePartitionSpecs, NotFormed}
use Rattle.rules.specs.WellFormed.{metadata_formed, file_name_formed}
use Rattle.rules.specs.Others.{is_second}
use Rattle.rules.specs.Updates.{update_number, effect}
use Rattle.rules.specs.Close.{close_checks, closed, expired}

-- "The updates of a list count 1 each, a branch commit 2"
abbrev pub weight : Update → ℕ
weight (AssignUuid uuid) = 1
weight (UpgradeFormatVersion v) = 1
weight (SetLocation location) = 1
weight (AddSnapshot s) = 1
weight (SetBranchSnapshot name s) = 2
weight (RemoveSnapshots ids) = 1
weight (SetRef name r) = 1
weight (RemoveRef name) = 1
weight (AddSchema s) = 1
weight (SetCurrentSchema id) = 1
weight (RemoveSchemas ids) = 1
weight (AddSortOrder o) = 1
weight (SetDefaultSortOrder id) = 1
weight (SetStatistics which f) = 1
weight (RemoveStatistics which id) = 1
weight (AddPartitionSpec o) = 1
weight (SetDefaultPartitionSpec id) = 1
weight (RemovePartitionSpecs ids) = 1
weight (NotFormed counts) = counts

-- "the sum is at most 64"
unfoldable pub list_sum : List Update → ℕ
list_sum us = total weight us

-- where the updates of a run lead: a refusal with its number and place, or a state
pub data Ran : Type 0 where
  Stopped : ℕ → ℕ → Ran
  Reached : State → Ran

-- the updates in order, the first of them at a place
unfoldable pub run_from : Terms → List Update → ℕ → State → Ran
run_from terms [] place st = Reached st
run_from terms (u ∷ us) place st =
    cond (eqb (update_number terms u st) accepted)
    (run_from terms us (suc place) (effect terms u st))
    (Stopped (update_number terms u st) place)

-- nothing changed, nothing added, nothing logged yet
abbrev pub started : Metadata → State
started m = record { metadata = m; own = none; added = record { schema = none; order = none; spec = none }; log = [] }

-- the close of a state, by what a change log says of snapshots
unfoldable pub close : Terms → ℕ → List Update → State → Outcome
close terms place log st =
    cond (eqb (first_of (close_checks terms log st.metadata)) accepted)
    (Accepted (closed terms log st) st.log (expired terms st.metadata))
    (Refused (first_of (close_checks terms log st.metadata)) place)

-- the log that counts is the run's own, not the list that was given. Document 02, request (xi): "The close of an office 2 run leaves the snapshot log
-- unbuilt", as that of an empty log does
abbrev pub closing_log : Terms → State → List Update
closing_log terms st = cond (is_second terms.office) [] st.log

-- the place of a close "is the list's length"
abbrev pub close_ran : Terms → List Update → Ran → Outcome
close_ran terms us (Stopped number at) = Refused number at
close_ran terms us (Reached st) = close terms (length us) (closing_log terms st) st

-- 1: "starting metadata not well formed, current file's name too long"
abbrev pub start_formed : Terms → Metadata → Bool
start_formed terms m = metadata_formed m && if_some file_name_formed terms.file

-- what is asked before the first update
unfoldable pub start_checks : Terms → Metadata → List Update → List Check
start_checks terms m us =
    (not (start_formed terms m), start_not_formed)
    ∷ (not (leb (list_sum us) list_room), list_too_long)
    ∷ (is_outside terms.tolerance, tolerance_outside)
    ∷ (not (is_office terms.office), office_unknown)
    ∷ []

-- the place of 1, 2, 26 and 39 is 0
unfoldable pub run : Terms → Metadata → List Update → Outcome
run terms m us =
    cond (eqb (first_of (start_checks terms m us)) accepted)
    (close_ran terms us (run_from terms us 0 (started m)))
    (Refused (first_of (start_checks terms m us)) 0)
