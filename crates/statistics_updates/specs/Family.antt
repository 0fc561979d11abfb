-- The updates of statistics files together, of either table: what one of them decides, and the table after it.
use Rattle.std.specs.Prelude.{◌≤◌, ◌≡◌, Bool, true, cond, not, ◌||◌, eqb}
use Rattle.records.specs.declared.statistics.StatisticsFiles.{StatisticsFiles}
use Rattle.records.specs.declared.update.TableUpdate.{TableUpdate}
use Rattle.rules.specs.Words.{keep, put}
use Rattle.rules.specs.Register.{StatisticsTable, Terms, State, statistics_of}
use Rattle.rules.specs.WellFormed.{statistics_below}
use Rattle.rules.specs.StatisticsUpdates.{is_of}
use Rattle.rules.specs.Updates.{effect}
use Rattle.rules.specs.Layout.{read_statistics_file, read_statistics, laid_statistics}
use Rattle.rules.specs.Kinds.{read_update, set_statistics_kind, set_partition_statistics_kind, setting_kind_lem, removing_kind}
use Rattle.builder.specs.declared.builder.TableMetadataBuilder.{TableMetadataBuilder}
use Rattle.builder.specs.declared.decision.Decision.{Decision}
use Rattle.builder.specs.Pieces.{laid_builder}
use Rattle.builder.specs.Answers.{Decides}
use Rattle.statistics_updates.specs.Files.{NewFile}

abbrev pub is_setting : TableUpdate → Bool
is_setting u = eqb u.kind set_statistics_kind || eqb u.kind set_partition_statistics_kind

-- an update of a table
abbrev pub Within : StatisticsTable → TableUpdate → Type 0
Within which u = (setting_kind_lem which ≤ u.kind) × (u.kind ≤ removing_kind which)

-- the table after an update that is not refused
unfoldable pub files_after : StatisticsFiles → TableUpdate → Decision → StatisticsFiles
files_after t u d =
    cond (is_setting u)
    (cond d.grows (laid_statistics (put statistics_below (read_statistics_file d.entry.statistics.file) (read_statistics t))) t)
    (laid_statistics (keep (λ x. not (is_of u.statistics.removed.0 x)) (read_statistics t)))

-- an update of a table, decided: the answer, the table after it, and that a file to put can be put
pub record FilesDecided (b : TableMetadataBuilder) (t : StatisticsFiles) (u : TableUpdate) (d : Decision) : Type 0 where
  pub answers : (which : StatisticsTable) (terms : Terms) (st : State) → Within which u → b ≡ laid_builder st → t ≡ laid_statistics (statistics_of which st.metadata) → Decides terms u st d
  pub table : (which : StatisticsTable) (terms : Terms) (st : State) → Within which u → t ≡ laid_statistics (statistics_of which st.metadata) → d.number ≡ 0 → files_after t u d ≡ laid_statistics (statistics_of which (effect terms (read_update u) st).metadata)
  pub new : is_setting u ≡ true → d.grows ≡ true → NewFile t d.entry.statistics.file
