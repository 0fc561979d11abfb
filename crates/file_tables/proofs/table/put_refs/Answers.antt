use Rattle.rules.specs.Layout.{read_ref}
use Rattle.file_rule.specs.Files.{ref_text}
use Rattle.file_text.proofs.Lists.{table}
use Rattle.file_tables.proofs.table.put_refs.Goals as goal

pub returns : goal.returns
returns c = table ref_text read_ref c.args.t.items c.args.t.count c.put_items.ensures c.blank.ensures
