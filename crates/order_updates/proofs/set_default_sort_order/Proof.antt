-- The answer is that of the choice, and the entry is the update with the id that the choice logs.
use mathlib.Core.Path.{ap}
use borrow.Author.Rules.{rules}
use Rattle.records.specs.declared.update.TableUpdate.{TableUpdate}
use Rattle.rules.specs.Updates.{offers_formed, checks, effect}
use Rattle.rules.specs.Kinds.{with_sort_orders_part, with_sort_order_id}
use Rattle.builder.proofs.Steps.{entry_as}
use Rattle.builder.proofs.Entries.{of_kind_lem, read_kind_lem}
use Rattle.order_updates.proofs.set_default_sort_order.Statement.{statement}
use Rattle.order_updates.proofs.set_default_sort_order.Tie as tie

returns : tie.Need-returns
unfolding checks offers_formed effect
returns c terms st p q =
    let x = c.before.before.before in
    let u = x.args.u in
    rw (c.decided.ensures, read_kind_lem u x.requires.1.0 13 x.requires.1.1) (entry_as (x.order_choice-x.ensures st p q) (ap (λ (y : TableUpdate). with_sort_orders_part (with_sort_order_id x.order_choice-x.result.order_id y.sort_orders) y) (of_kind_lem u x.requires.1.0 13 x.requires.1.1)))

pub set_default_sort_order_spec : {M : Type 1} → statement M
set_default_sort_order_spec = tie.close (tie.spec (λ c κs. search rules) (λ c κs. search rules) returns)
