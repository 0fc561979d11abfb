-- The members one behind the other.
use Rattle.file_text.proofs.Pieces.{then, is}
use Rattle.file_tables.proofs.Texts.{partition_field_is}
use Rattle.file_tables.proofs.record.put_partition_field.Goals as goal

pub returns : goal.returns
returns c =
    is (then (then (then (then (then c.put_number-at.ensures c.put_number-at-2.ensures) c.put_name-at.ensures) c.put-at.ensures) c.put_transform-at.ensures) c.put.ensures) (partition_field_is c.args.f c.of_field.ensures c.of_held_field.ensures)
