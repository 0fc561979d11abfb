-- It is put where it is wanted.
use Rattle.std.proofs.Common.{arith, ap}
use Rattle.rules.specs.Layout.{read_schemas}
use Rattle.file_rule.specs.Files.{schema_text, schema_by_id}
use Rattle.file_text.proofs.Pieces.{then, is, wanted, unwanted}
use Rattle.file_tables.proofs.Texts.{current_is}
use Rattle.file_tables.proofs.file.put_current_schema.Goals as goal

pub returns-then-wanted : goal.returns-then-wanted
returns-then-wanted c =
    wanted _ c.if-wanted.true (is (then c.put-named.ensures c.put_schema.ensures) (current_is (schema_text (schema_by_id c.args.id.0 (read_schemas c.args.t))) (ap schema_text c.schema_by_id.ensures)))

pub returns : goal.returns
returns c = unwanted _ _ c.if-wanted.false (omega arith)
