-- The members one behind the other.
use Rattle.rules.specs.Layout.{read_schemas}
use Rattle.file_text.proofs.Pieces.{then, is}
use Rattle.file_tables.proofs.Texts.{schemas_is}
use Rattle.file_tables.proofs.file.put_schemas_part.Goals as goal

pub returns : goal.returns
returns c =
    is (then (then (then c.put_current_schema-at.ensures c.put-at.ensures) c.put_schemas-at.ensures) c.put_number.ensures) (schemas_is c.args.f (read_schemas c.args.t) c.of_schema.ensures)
