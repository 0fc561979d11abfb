-- Statistics files: document 02, request (ii). One rule for both tables.
use Rattle.std.specs.Prelude.{Bool, cond, not, ◌&&◌, List, [], ◌∷◌, leb, ℤ, length}
use Rattle.rules.specs.Words.{eq_z, any, keep, put, Check}
use Rattle.rules.specs.Replies.{table_full}
use Rattle.rules.specs.Capacities.{statistics_room}
use Rattle.rules.specs.Register.{StatisticsFile, StatisticsTable, State, statistics_of, with_statistics, with_metadata, logged}
use Rattle.rules.specs.Register.Update.{SetStatistics, RemoveStatistics}
use Rattle.rules.specs.WellFormed.{statistics_below}

abbrev pub is_of : ℤ → StatisticsFile → Bool
is_of id f = eq_z f.snapshot id

-- the table has a file of the snapshot
abbrev pub has_file_of : List StatisticsFile → ℤ → Bool
has_file_of l id = any (is_of id) l

abbrev pub on_statistics : StatisticsTable → (List StatisticsFile → List StatisticsFile) → State → State
on_statistics which change st = with_metadata (with_statistics which (change (statistics_of which st.metadata)) st.metadata) st

-- "full table is 19". A snapshot that has a file needs no room; "the snapshot need not be held"
unfoldable pub set_statistics_checks : StatisticsTable → StatisticsFile → State → List Check
set_statistics_checks which f st =
    (not (has_file_of (statistics_of which st.metadata) f.snapshot) && leb statistics_room (length (statistics_of which st.metadata)), table_full) ∷ []

-- "Setting always replaces and logs"
unfoldable pub set_statistics : StatisticsTable → StatisticsFile → State → State
set_statistics which f st = logged (SetStatistics which f) (on_statistics which (put statistics_below f) st)

-- "removing logs only if present"
unfoldable pub remove_statistics : StatisticsTable → ℤ → State → State
remove_statistics which id st =
    cond (has_file_of (statistics_of which st.metadata) id)
    (logged (RemoveStatistics which id) (on_statistics which (keep (λ f. not (is_of id f))) st))
    st
