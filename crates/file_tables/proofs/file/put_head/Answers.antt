-- The members one behind the other.
use Rattle.file_text.proofs.Pieces.{then, is}
use Rattle.file_tables.proofs.Texts.{head_is}
use Rattle.file_tables.proofs.file.put_head.Goals as goal

pub returns : goal.returns
returns c =
    is (then (then (then (then (then c.put_natural-at.ensures c.put_uuid-at.ensures) c.put_text-at.ensures) c.put_number-at.ensures) c.put_number-at-2.ensures) c.put_number.ensures) (head_is c.args.f c.of_sequence.ensures c.of_time.ensures c.of_field.ensures)
