-- The members one behind the other.
use Rattle.file_text.proofs.Pieces.{then, is}
use Rattle.file_tables.proofs.Texts.{log_entry_is}
use Rattle.file_tables.proofs.record.put_log_entry.Goals as goal

pub returns : goal.returns
returns c =
    is (then (then c.put_number-at.ensures c.put_number-at-2.ensures) c.put.ensures) (log_entry_is c.args.e c.of_snapshot.ensures c.of_time.ensures)
