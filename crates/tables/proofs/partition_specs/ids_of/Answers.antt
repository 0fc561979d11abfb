use Rattle.tables.proofs.Spans.{run_keys}
use Rattle.tables.proofs.Each.{tidy_partition_specs}
use Rattle.tables.proofs.partition_specs.ids_of.Goals as goal

pub returns-clause-value : goal.returns-clause-value
returns-clause-value c = run_keys (tidy_partition_specs c.requires) (λ x. x.id) c.keys_of.ensures.value
