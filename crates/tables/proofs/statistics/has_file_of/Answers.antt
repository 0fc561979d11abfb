use Rattle.rules.specs.StatisticsUpdates.{is_of}
use Rattle.tables.proofs.Spans.{run_any}
use Rattle.tables.proofs.Each.{tidy_statistics}
use Rattle.tables.proofs.statistics.has_file_of.Goals as goal

pub returns : goal.returns
returns c = run_any (tidy_statistics c.requires) (is_of c.args.id.0) (rw c.snapshot_key.ensures at c.holds_key.ensures)
