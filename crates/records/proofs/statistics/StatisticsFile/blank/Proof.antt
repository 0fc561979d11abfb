-- The path is the one that `Text::blank` gives, and both numbers are 0.
use Rattle.records.proofs.statistics.StatisticsFile.blank.Statement.{statement}
use Rattle.records.proofs.statistics.StatisticsFile.blank.Tie as tie

pub blank_spec : {M : Type 1} → statement M
blank_spec = tie.close (tie.spec (λ c κs. tt) (λ c. cc))
