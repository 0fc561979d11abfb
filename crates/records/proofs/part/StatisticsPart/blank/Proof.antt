-- The file is the one that `StatisticsFile::blank` gives, and the id is 0.
use Rattle.records.specs.Blanks.{no_statistics_part}
use Rattle.records.proofs.part.StatisticsPart.blank.Statement.{statement}
use Rattle.records.proofs.part.StatisticsPart.blank.Tie as tie

pub blank_spec : {M : Type 1} → statement M
unfolding no_statistics_part
blank_spec = tie.close (tie.spec (λ c κs. tt) (λ c. cc))
