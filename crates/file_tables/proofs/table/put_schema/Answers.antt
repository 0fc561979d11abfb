-- The members one behind the other.
use Rattle.file_text.proofs.Pieces.{then, is}
use Rattle.file_tables.proofs.Texts.{schema_is}
use Rattle.file_tables.proofs.table.put_schema.Goals as goal

pub returns : goal.returns
returns c =
    is (then (then (then c.put-at.ensures c.put_fields-at.ensures) c.put_number-at.ensures) c.put.ensures) (schema_is c.args.s c.of_schema.ensures)
