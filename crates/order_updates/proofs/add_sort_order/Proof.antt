-- The answer and the table are those of the addition, and the entry is the update with the order that the addition gives.
use mathlib.Core.Path.{◌≡◌, ap}
use Rattle.records.specs.declared.update.TableUpdate.{TableUpdate}
use Rattle.rules.specs.WellFormed.{update_formed}
use Rattle.rules.specs.Updates.{offers_formed, checks, effect}
use Rattle.rules.specs.Kinds.{read_update, read_kind, with_sort_orders_part, with_sort_order}
use Rattle.tables.specs.Laid.{LaidOrder}
use Rattle.builder.proofs.Steps.{entry_as}
use Rattle.builder.proofs.Entries.{by_kind, of_kind_lem, read_kind_lem, formed_kind}
use Rattle.builder.proofs.Given.{given_order}
use Rattle.order_updates.proofs.add_sort_order.Statement.{statement}
use Rattle.order_updates.proofs.add_sort_order.Tie as tie

-- the update, of kind 12
module _ (s : tie.Start) where
  as_kind : s.args.u ≡ by_kind 12 s.args.u
  as_kind = of_kind_lem s.args.u s.requires.1.1.1.0 12 s.requires.1.1.1.1.1

  read : read_update s.args.u ≡ read_kind (by_kind 12 s.args.u)
  read = read_kind_lem s.args.u s.requires.1.1.1.0 12 s.requires.1.1.1.1.1

  offered : LaidOrder s.args.u.sort_orders.added
  unfolding update_formed
  offered = given_order s.args.u s.requires.1.1.1.0 (formed_kind s.args.u s.requires.1.1.1.0 12 s.requires.1.1.1.1.1 s.requires.1.1.1.1.0)

returns : tie.Need-returns
unfolding checks offers_formed effect
returns c =
    let x = c.before.before in
    let s = x.before.before.before in
    let a = x.order_addition-x in
    record {
      answers = λ terms st p r q. rw (read s) (entry_as (a.ensures.answers st p r q) (ap (λ (y : TableUpdate). with_sort_orders_part (with_sort_order a.result.order y.sort_orders) y) (as_kind s)));
      table = λ terms st q z. rw (read s) (a.ensures.table st q z);
      new = λ g. record { laid = a.ensures.laid; room = a.ensures.room g; new = a.ensures.new g };
    }

pub add_sort_order_spec : {M : Type 1} → statement M
add_sort_order_spec =
    tie.close
    (tie.spec
    (λ c κs. let s = c.before.before in
    (s.requires.1.0, (s.requires.1.1.0, (s.requires.0, offered s))))
    returns)
