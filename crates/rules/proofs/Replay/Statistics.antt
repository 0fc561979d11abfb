-- The entries of statistics files replay: what was set is set again, and what was removed was there.
use mathlib.Core.Path.{◌≡◌, refl}
use mathlib.Core.Bool.{Bool, true, false, cond, not}
use lib.IntN.{ℤ}
use Rattle.rules.specs.Words.{keep}
use Rattle.rules.specs.Register.{StatisticsFile, StatisticsTable, Terms, State, statistics_of, logged}
use Rattle.rules.specs.Register.Update.{SetStatistics, RemoveStatistics}
use Rattle.rules.specs.Replay.{strip}
use Rattle.rules.specs.StatisticsUpdates.{is_of, has_file_of, on_statistics, set_statistics, remove_statistics}
use Rattle.rules.specs.Updates.{update_number, effect}
use Rattle.rules.proofs.Replay.Steps.{Replays, nothing, once}

pub set_statistics_replays : (terms : Terms) (which : StatisticsTable) (f : StatisticsFile) (st : State) → update_number terms (SetStatistics which f) st ≡ 0 → Replays terms 1 st (effect terms (SetStatistics which f) st)
unfolding effect set_statistics strip
set_statistics_replays terms which f st e = once terms (SetStatistics which f) st (set_statistics which f st) refl e refl (λ l h. refl)

pub remove_statistics_replays : (terms : Terms) (which : StatisticsTable) (id : ℤ) (st : State) → update_number terms (RemoveStatistics which id) st ≡ 0 → Replays terms 1 st (effect terms (RemoveStatistics which id) st)
unfolding effect remove_statistics strip
remove_statistics_replays terms which id st e = go (has_file_of (statistics_of which st.metadata) id) refl
  where
    removed : State
    removed = logged (RemoveStatistics which id) (on_statistics which (keep (λ f. not (is_of id f))) st)

    go : (t : Bool) → has_file_of (statistics_of which st.metadata) id ≡ t → Replays terms 1 st (cond t removed st)
    go true q = once terms (RemoveStatistics which id) st removed refl e refl (λ l h. rw q)
    go false q = nothing terms 1 st
