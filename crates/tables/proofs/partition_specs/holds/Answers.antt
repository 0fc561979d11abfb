use Rattle.rules.specs.WellFormed.{has_spec}
use Rattle.tables.proofs.Spans.{run_any}
use Rattle.tables.proofs.Each.{tidy_partition_specs}
use Rattle.tables.proofs.partition_specs.holds.Goals as goal

pub returns : goal.returns
returns c = run_any (tidy_partition_specs c.requires) (has_spec c.args.id.0) (rw c.spec_key.ensures.result_value at c.holds_key.ensures)
