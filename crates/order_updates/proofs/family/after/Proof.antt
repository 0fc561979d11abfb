-- The table is the one of its kind's arm.
use borrow.Author.Tests.{ne_eqb}
use Rattle.order_updates.specs.Family.{orders_after}
use Rattle.order_updates.proofs.family.after.Statement.{statement}
use Rattle.order_updates.proofs.family.after.Tie as tie

returns : tie.Need-returns-then-kind-eq-ADD_SORT_ORDER
unfolding orders_after
returns c = rw c.if-kind-eq-ADD_SORT_ORDER.true c.orders_after.ensures

returns_2 : tie.Need-returns
unfolding orders_after
returns_2 c = rw (ne_eqb _ _ c.if-kind-eq-ADD_SORT_ORDER.false)

pub after_spec : {M : Type 1} → statement M
after_spec =
    tie.close
    (tie.spec
    (λ c κs. (c.requires.0, c.requires.1 c.if-kind-eq-ADD_SORT_ORDER.true))
    returns
    returns_2)
