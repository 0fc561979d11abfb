-- The members one behind the other.
use Rattle.file_text.proofs.Pieces.{then, is}
use Rattle.file_tables.proofs.Texts.{file_entry_is}
use Rattle.file_tables.proofs.record.put_file_entry.Goals as goal

pub returns : goal.returns
returns c =
    is (then (then c.put_text-at.ensures c.put_number-at.ensures) c.put.ensures) (file_entry_is c.args.e c.of_time.ensures)
