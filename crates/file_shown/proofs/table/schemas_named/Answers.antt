use Rattle.std.proofs.Common.{refl}
use Rattle.rules.specs.Layout.{read_schema}
use Rattle.file_rule.specs.Export.{schema_texts}
use Rattle.file_shown.proofs.Looked.{looked}
use Rattle.file_shown.proofs.table.schemas_named.Goals as goal

pub returns : goal.returns
returns c = looked schema_texts read_schema c.args.t.items c.args.t.count c.all_items.ensures c.blank.ensures (λ x. refl)
