-- An order that can be put is put; otherwise the table is as it was.
use Rattle.order_updates.proofs.orders_after.Statement.{statement}
use Rattle.order_updates.proofs.orders_after.Tie as tie

pub orders_after_spec : {M : Type 1} → statement M
orders_after_spec =
    tie.close
    (tie.spec
    (λ c κs. let n = c.requires.1 c.if-d.true in
    (c.requires.0, (n.laid, (n.room, n.new))))
    (λ c. rw c.if-d.true c.put.ensures)
    (λ c. rw c.if-d.false))
