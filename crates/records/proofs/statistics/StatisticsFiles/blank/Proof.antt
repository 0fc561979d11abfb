-- Every slot of the table is the record that `StatisticsFile::blank` gives.
use Rattle.records.specs.Blanks.{no_statistics_files}
use Rattle.records.proofs.statistics.StatisticsFiles.blank.Statement.{statement}
use Rattle.records.proofs.statistics.StatisticsFiles.blank.Tie as tie

pub blank_spec : {M : Type 1} → statement M
unfolding no_statistics_files
blank_spec = tie.close (tie.spec (λ c κs. tt) (λ c. cc))
