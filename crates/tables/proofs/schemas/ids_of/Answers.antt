use Rattle.tables.proofs.Spans.{run_keys}
use Rattle.tables.proofs.Each.{tidy_schemas}
use Rattle.tables.proofs.schemas.ids_of.Goals as goal

pub returns-clause-value : goal.returns-clause-value
returns-clause-value c = run_keys (tidy_schemas c.requires) (λ x. x.id) c.keys_of.ensures.value
