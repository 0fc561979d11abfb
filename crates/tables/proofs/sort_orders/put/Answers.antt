-- It goes before the first order that is not below it; none has its id.
use Rattle.std.proofs.Common.{not, ap, ◌∙◌, refl}
use lib.Signed.{lt_z}
use Rattle.rules.specs.Layout.{read_sort_order, read_sort_orders, laid_sort_orders}
use Rattle.rules.proofs.Orders.{numbers_ordered, numbers_told}
use Rattle.tables.proofs.Search.{place_within}
use Rattle.tables.proofs.Put.{put_new}
use Rattle.tables.proofs.Spans.{run_place, inserted_laid}
use Rattle.tables.proofs.Each.{tidy_sort_orders, made_sort_orders}
use Rattle.tables.proofs.sort_orders.put.Goals as goal

pub insert-requires-clause-place : goal.insert-requires-clause-place
insert-requires-clause-place c =
    let h = tidy_sort_orders c.requires.laid_orders in
    place_within h (λ x. not (lt_z x.id c.args.o.order_id.0)) (run_place h (λ x. not (lt_z x.id c.args.o.order_id.0)) (rw c.order_key.ensures at c.place_of-at.ensures))

pub returns : goal.returns
returns c =
    let h = tidy_sort_orders c.requires.laid_orders in
    let at = run_place h (λ x. not (lt_z x.id c.args.o.order_id.0)) (rw c.order_key.ensures at c.place_of-at.ensures) in
    inserted_laid made_sort_orders h c.requires.laid_order.back (place_within h (λ x. not (lt_z x.id c.args.o.order_id.0)) at) c.requires.count_bound c.insert.ensures refl
    ∙ ap laid_sort_orders (put_new numbers_ordered numbers_told (λ x. x.id) (read_sort_order c.args.o) (read_sort_orders c.args.t) at c.requires.order_id_value)
