-- Statistics files: what a setting decides, of either table, and that its file can be put.
use Rattle.std.specs.Prelude.{◌<◌, ◌≡◌, true, false, cond}
use Rattle.records.specs.declared.statistics.StatisticsFile.{StatisticsFile}
use Rattle.records.specs.declared.statistics.StatisticsFiles.{StatisticsFiles}
use Rattle.records.specs.declared.update.TableUpdate.{TableUpdate}
use Rattle.rules.specs.Words.{put}
use Rattle.rules.specs.Capacities.{statistics_room}
use Rattle.rules.specs.Register.{StatisticsTable, Terms, State, statistics_of}
use Rattle.rules.specs.WellFormed.{statistics_below}
use Rattle.rules.specs.StatisticsUpdates.{has_file_of}
use Rattle.rules.specs.Updates.{effect}
use Rattle.rules.specs.Layout.{read_statistics_file, read_statistics, laid_statistics}
use Rattle.rules.specs.Kinds.{read_update, setting_kind_lem}
use Rattle.tables.specs.Laid.{LaidStatisticsFile}
use Rattle.builder.specs.declared.builder.TableMetadataBuilder.{TableMetadataBuilder}
use Rattle.builder.specs.declared.decision.Decision.{Decision}
use Rattle.builder.specs.Pieces.{laid_builder}
use Rattle.builder.specs.Answers.{Decides}

-- a file that can be put into a table: laid out, and with room for it if its snapshot has none
pub record NewFile (t : StatisticsFiles) (f : StatisticsFile) : Type 0 where
  pub laid : LaidStatisticsFile f
  pub room : has_file_of (read_statistics t) f.snapshot_id.0 ≡ false → t.count < statistics_room

-- a setting, decided: the answer, the table after it, and that a file to put can be put
pub record FileDecided (b : TableMetadataBuilder) (t : StatisticsFiles) (u : TableUpdate) (d : Decision) : Type 0 where
  pub answers : (which : StatisticsTable) (terms : Terms) (st : State) → u.kind ≡ setting_kind_lem which → b ≡ laid_builder st → t ≡ laid_statistics (statistics_of which st.metadata) → Decides terms u st d
  pub table : (which : StatisticsTable) (terms : Terms) (st : State) → u.kind ≡ setting_kind_lem which → d.number ≡ 0 → statistics_of which (effect terms (read_update u) st).metadata ≡ cond d.grows (put statistics_below (read_statistics_file d.entry.statistics.file) (statistics_of which st.metadata)) (statistics_of which st.metadata)
  pub new : d.grows ≡ true → NewFile t d.entry.statistics.file
