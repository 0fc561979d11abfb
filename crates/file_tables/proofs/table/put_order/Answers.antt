-- The members one behind the other.
use Rattle.file_text.proofs.Pieces.{then, is}
use Rattle.file_tables.proofs.Texts.{order_is}
use Rattle.file_tables.proofs.table.put_order.Goals as goal

pub returns : goal.returns
returns c =
    is (then (then (then c.put_number-at.ensures c.put-at.ensures) c.put_sort_fields-at.ensures) c.put.ensures) (order_is c.args.o c.of_order.ensures)
