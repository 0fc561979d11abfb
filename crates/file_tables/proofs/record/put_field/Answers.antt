-- The members one behind the other.
use Rattle.file_text.proofs.Pieces.{then, is}
use Rattle.file_tables.proofs.Texts.{field_is}
use Rattle.file_tables.proofs.record.put_field.Goals as goal

pub returns : goal.returns
returns c =
    is (then (then c.put_number-at.ensures c.put_name-at.ensures) c.put_either.ensures) (field_is c.args.f c.of_field.ensures)
