-- The members one behind the other.
use Rattle.rules.specs.Layout.{read_refs, read_sort_orders, read_statistics}
use Rattle.file_text.proofs.Pieces.{then, is}
use Rattle.file_tables.proofs.Texts.{tail_is}
use Rattle.file_tables.proofs.file.put_tail.Goals as goal

pub returns : goal.returns
returns c =
    is (then (then (then (then (then (then (then (then (then (then (then c.put-at.ensures c.put_orders-at.ensures) c.put_number-at.ensures) c.put-at-2.ensures) c.put_refs-at.ensures) c.put-at-3.ensures) c.put_files-at.ensures) c.put-at-4.ensures) c.put_files-at-2.ensures) c.put-at-5.ensures) c.put_natural-at.ensures) c.put.ensures) (tail_is c.args.f (read_sort_orders c.args.orders) (read_refs c.args.refs) (read_statistics c.args.files) (read_statistics c.args.others) c.of_order.ensures)
