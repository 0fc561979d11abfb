use Rattle.std.proofs.Common.{ap, ◌∙◌}
use Rattle.rules.specs.Words.{is_in}
use Rattle.tables.proofs.Spans.{run_holds, map_same}
use Rattle.tables.proofs.Each.{tidy_schema_ids}
use Rattle.tables.proofs.ids.has_schema.Goals as goal

pub returns : goal.returns
returns c = (rw c.schema_key.ensures.result_value at c.holds_key.ensures) ∙ run_holds (tidy_schema_ids c.requires) (λ z. z) c.args.id.0 ∙ ap (λ l. is_in l c.args.id.0) (map_same _)
