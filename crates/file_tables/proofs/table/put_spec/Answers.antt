-- The members one behind the other.
use Rattle.file_text.proofs.Pieces.{then, is}
use Rattle.file_tables.proofs.Texts.{spec_is}
use Rattle.file_tables.proofs.table.put_spec.Goals as goal

pub returns : goal.returns
returns c =
    is (then (then (then c.put_number-at.ensures c.put-at.ensures) c.put_partition_fields-at.ensures) c.put.ensures) (spec_is c.args.s c.of_spec.ensures)
