-- An update of statistics files, read and laid out, of either table.
use mathlib.Core.Path.{◌≡◌, ◌∙◌}
use mathlib.Core.Bool.{true, ◌||◌}
use borrow.Author.Tests.{eqb-true}
use lib.Dec.{eqb}
use Rattle.records.specs.declared.update.TableUpdate.{TableUpdate}
use Rattle.rules.specs.Register.{StatisticsTable}
use Rattle.rules.specs.Register.StatisticsTable.{Statistics, PartitionStatistics}
use Rattle.rules.specs.Register.Update.{SetStatistics, RemoveStatistics}
use Rattle.rules.specs.WellFormed.{update_formed}
use Rattle.rules.specs.Layout.{read_statistics_file}
use Rattle.rules.specs.Kinds.{is_tidy_update, read_kind, read_update, laid_update, setting_kind_lem, removing_kind, set_statistics_kind, set_partition_statistics_kind}
use Rattle.rules.proofs.Checks.{by_either}
use Rattle.tables.specs.Laid.{LaidStatisticsFile}
use Rattle.builder.proofs.Entries.{of_kind_lem, read_kind_lem, formed_kind}
use Rattle.builder.proofs.Given.{given_statistics_file}

module _ (u : TableUpdate) (e : is_tidy_update u ≡ true) where
  pub set_read : (which : StatisticsTable) → u.kind ≡ setting_kind_lem which → read_update u ≡ SetStatistics which (read_statistics_file u.statistics.file)
  set_read Statistics q = read_kind_lem u e 14 q
  set_read PartitionStatistics q = read_kind_lem u e 16 q

  pub set_laid : LaidStatisticsFile u.statistics.file → (which : StatisticsTable) → u.kind ≡ setting_kind_lem which → u ≡ laid_update (SetStatistics which (read_statistics_file u.statistics.file))
  unfolding laid_update
  set_laid h Statistics q = of_kind_lem u e 14 q ∙ rw h.back
  set_laid h PartitionStatistics q = of_kind_lem u e 16 q ∙ rw h.back

  pub file_laid : update_formed (read_kind u) ≡ true → (eqb u.kind set_statistics_kind || eqb u.kind set_partition_statistics_kind) ≡ true → LaidStatisticsFile u.statistics.file
  unfolding update_formed
  file_laid f =
      by_either (eqb u.kind set_statistics_kind) (eqb u.kind set_partition_statistics_kind)
      (λ t. given_statistics_file u e (formed_kind u e 14 (eqb-true u.kind set_statistics_kind t) f))
      (λ t. given_statistics_file u e (formed_kind u e 16 (eqb-true u.kind set_partition_statistics_kind t) f))

  pub remove_read : (which : StatisticsTable) → u.kind ≡ removing_kind which → read_update u ≡ RemoveStatistics which u.statistics.removed.0
  remove_read Statistics q = read_kind_lem u e 15 q
  remove_read PartitionStatistics q = read_kind_lem u e 17 q

  pub remove_laid : (which : StatisticsTable) → u.kind ≡ removing_kind which → u ≡ laid_update (RemoveStatistics which u.statistics.removed.0)
  unfolding laid_update
  remove_laid Statistics q = of_kind_lem u e 15 q
  remove_laid PartitionStatistics q = of_kind_lem u e 17 q
