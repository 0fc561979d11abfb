-- The members one behind the other.
use Rattle.file_text.proofs.Pieces.{then, is}
use Rattle.file_tables.proofs.Texts.{reference_is}
use Rattle.file_tables.proofs.record.put_reference.Goals as goal

pub returns : goal.returns
returns c =
    is (then (then (then (then (then c.put_number-at.ensures c.put_either-at.ensures) c.put_number-at-2.ensures) c.put_number-at-3.ensures) c.put_number-at-4.ensures) c.put.ensures) (reference_is c.args.f c.of_snapshot.ensures c.of_min.ensures c.of_age.ensures c.of_age-2.ensures)
