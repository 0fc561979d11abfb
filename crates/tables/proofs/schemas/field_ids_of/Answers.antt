use Rattle.tables.proofs.Spans.{run_keys}
use Rattle.tables.proofs.Each.{tidy_schema}
use Rattle.tables.proofs.schemas.field_ids_of.Goals as goal

pub returns-clause-value : goal.returns-clause-value
returns-clause-value c = run_keys (tidy_schema c.requires) (λ f. f.id) c.keys_of.ensures.value
