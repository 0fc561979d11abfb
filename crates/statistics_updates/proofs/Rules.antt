-- The rules of statistics files, of either table: the answer, and the table after it.
use Prim.Native.Nat.{ℕ, ◌<◌}
use mathlib.Core.Path.{◌≡◌, refl, ◌∙◌}
use mathlib.Core.Bool.{Bool, true, false, not, ◌&&◌, true≢false, false≢true}
use mathlib.Core.List.{List, [], ◌∷◌}
use borrow.Author.Tests.{leb-false}
use lib.Dec.{leb}
use lib.IntN.{ℤ}
use lib.ListN.{length}
use Rattle.records.specs.declared.update.TableUpdate.{TableUpdate}
use Rattle.rules.specs.Words.{first_of, put, Check}
use Rattle.rules.specs.Replies.{table_full}
use Rattle.rules.specs.Capacities.{statistics_room}
use Rattle.rules.specs.Register.{StatisticsFile, StatisticsTable, State, statistics_of, with_statistics, with_metadata}
use Rattle.rules.specs.Register.StatisticsTable.{Statistics, PartitionStatistics}
use Rattle.rules.specs.Register.Update.{SetStatistics, RemoveStatistics}
use Rattle.rules.specs.WellFormed.{statistics_below}
use Rattle.rules.specs.StatisticsUpdates.{has_file_of, set_statistics_checks, set_statistics, remove_statistics}
use Rattle.rules.specs.Kinds.{laid_update}
use Rattle.rules.proofs.Checks.{passed}
use Rattle.builder.specs.declared.builder.TableMetadataBuilder.{TableMetadataBuilder}
use Rattle.builder.specs.Pieces.{laid_builder, Stepped}

-- the builder holds nothing of the tables
same_builder : (which : StatisticsTable) (l : List StatisticsFile) (st : State) → laid_builder st ≡ laid_builder (with_metadata (with_statistics which l st.metadata) st)
unfolding laid_builder
same_builder Statistics l st = refl
same_builder PartitionStatistics l st = refl

-- ---- setting

-- 19
abbrev pub one : Bool → ℕ → List Check
one held count = (not held && leb statistics_room count, table_full) ∷ []

pub number_is : (which : StatisticsTable) (f : StatisticsFile) (st : State) {held : Bool} {count : ℕ} → held ≡ has_file_of (statistics_of which st.metadata) f.snapshot → count ≡ length (statistics_of which st.metadata)
    → first_of (one held count) ≡ first_of (set_statistics_checks which f st)
unfolding set_statistics_checks
number_is which f st h n = rw (h, n)

pub has_room : (held : Bool) (count : ℕ) → first_of (one held count) ≡ 0 → held ≡ false → count < statistics_room
has_room held count z e = leb-false statistics_room count (rw e at (passed (one held count) refl z).0)

pub set_steps : (which : StatisticsTable) (f : StatisticsFile) (st : State) {b : TableMetadataBuilder} {e : TableUpdate} → b ≡ laid_builder st → e ≡ laid_update (SetStatistics which f) → Stepped st (set_statistics which f st) true b e
unfolding set_statistics laid_builder
set_steps which f st p q =
    record {
      took = λ _. record { builder = p ∙ same_builder which (put statistics_below f (statistics_of which st.metadata)) st; update = SetStatistics which f; log = refl; laid = q };
      left = λ n. absurd (true≢false n);
    }

pub set_table : (which : StatisticsTable) (f : StatisticsFile) (st : State) → statistics_of which (set_statistics which f st).metadata ≡ put statistics_below f (statistics_of which st.metadata)
unfolding set_statistics
set_table Statistics f st = refl
set_table PartitionStatistics f st = refl

-- ---- removing

pub remove_steps : (which : StatisticsTable) (id : ℤ) (st : State) {b : TableMetadataBuilder} {e : TableUpdate} (held : Bool) → has_file_of (statistics_of which st.metadata) id ≡ held → b ≡ laid_builder st → e ≡ laid_update (RemoveStatistics which id)
    → Stepped st (remove_statistics which id st) held b e
unfolding remove_statistics laid_builder
remove_steps which id st true h p q = record { took = λ _. record { builder = p ∙ rw h (same_builder which _ st); update = RemoveStatistics which id; log = rw h; laid = q }; left = λ n. absurd (true≢false n) }
remove_steps which id st false h p q = record { took = λ n. absurd (false≢true n); left = λ _. rw h }
