use Rattle.rules.specs.Layout.{read_schema}
use Rattle.file_rule.specs.Files.{schema_text}
use Rattle.file_text.proofs.Lists.{table}
use Rattle.file_tables.proofs.table.put_schemas.Goals as goal

pub returns : goal.returns
returns c = table schema_text read_schema c.args.t.items c.args.t.count c.put_items.ensures c.blank.ensures
