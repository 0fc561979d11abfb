use Rattle.rules.specs.WellFormed.{has_schema}
use Rattle.tables.proofs.Spans.{run_any}
use Rattle.tables.proofs.Each.{tidy_schemas}
use Rattle.tables.proofs.schemas.holds.Goals as goal

pub returns : goal.returns
returns c = run_any (tidy_schemas c.requires) (has_schema c.args.id.0) (rw c.schema_key.ensures.result_value at c.holds_key.ensures)
