-- Setting and removing statistics files keeps metadata sound.
use Prim.Native.Nat.{◌<◌}
use mathlib.Core.Path.{◌≡◌, refl}
use mathlib.Core.Bool.{Bool, true, false, not}
use mathlib.Core.List.{List}
use lib.IntN.{ℤ}
use lib.ListN.{length}
use borrow.Author.Tests.{leb-false}
use borrow.Table.Steps.{cases}
use Rattle.rules.specs.Words.{first_of, keep, put}
use Rattle.rules.specs.Capacities.{statistics_room}
use Rattle.rules.specs.Register.{StatisticsFile, StatisticsTable, State, statistics_of}
use Rattle.rules.specs.WellFormed.{statistics_file_formed, statistics_below, statistics_formed}
use Rattle.rules.specs.StatisticsUpdates.{is_of, has_file_of, set_statistics_checks, set_statistics, remove_statistics}
use Rattle.rules.proofs.Checks.{by_test, passed}
use Rattle.rules.proofs.Orders.{numbers_ordered, numbers_told}
use Rattle.rules.proofs.Tables.{table_put, table_put_held, table_keep}
use Rattle.rules.proofs.Sound.Metadata.{Sound, SoundState, with_statistics_lem, statistics_formed_lem}

-- where 19 is not given and the snapshot has no file yet, there is room
pub set_room : (which : StatisticsTable) (f : StatisticsFile) (st : State) → first_of (set_statistics_checks which f st) ≡ 0 → has_file_of (statistics_of which st.metadata) f.snapshot ≡ false → length (statistics_of which st.metadata) < statistics_room
unfolding set_statistics_checks
set_room which f st e n =
    let l : List StatisticsFile = statistics_of which st.metadata in
    leb-false statistics_room (length l) (rw n at (passed (set_statistics_checks which f st) refl e).0)

pub set_statistics_sound : (which : StatisticsTable) (f : StatisticsFile) (st : State) → statistics_file_formed f ≡ true → first_of (set_statistics_checks which f st) ≡ 0 → Sound st.metadata → Sound (set_statistics which f st).metadata
unfolding set_statistics statistics_formed
set_statistics_sound which f st h e d =
    let l : List StatisticsFile = statistics_of which st.metadata in
    let k : statistics_formed (put statistics_below f l) ≡ true =
    cases (has_file_of l f.snapshot)
    (λ y. table_put_held numbers_ordered (λ (x : StatisticsFile). x.snapshot) statistics_room statistics_file_formed numbers_told f l y h (statistics_formed_lem st.metadata d which))
    (λ n. table_put numbers_ordered (λ (x : StatisticsFile). x.snapshot) statistics_room statistics_file_formed f l (set_room which f st e n) h (statistics_formed_lem st.metadata d which)) in
    with_statistics_lem st.metadata d which (put statistics_below f l) k

pub remove_statistics_sound : (which : StatisticsTable) (id : ℤ) (st : State) → Sound st.metadata → Sound (remove_statistics which id st).metadata
unfolding remove_statistics statistics_formed
remove_statistics_sound which id st d =
    let l : List StatisticsFile = statistics_of which st.metadata in
    let p : StatisticsFile → Bool = λ f. not (is_of id f) in
    by_test SoundState (has_file_of l id)
    (λ y. with_statistics_lem st.metadata d which (keep p l) (table_keep statistics_room statistics_file_formed statistics_below p l (statistics_formed_lem st.metadata d which)))
    (λ n. d)
