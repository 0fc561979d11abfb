use Rattle.rules.specs.Layout.{read_schema_field}
use Rattle.file_rule.specs.Files.{field_text}
use Rattle.file_text.proofs.Lists.{table}
use Rattle.file_tables.proofs.table.put_fields.Goals as goal

pub returns : goal.returns
returns c = table field_text read_schema_field c.args.t.items c.args.t.count c.put_items.ensures c.blank.ensures
