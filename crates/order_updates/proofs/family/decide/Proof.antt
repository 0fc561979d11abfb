-- Each kind is decided by its own function; the last is the one that the bounds leave.
use native.Mathlib.Omega.{arith}
use mathlib.Core.Path.{◌≡◌}
use borrow.Author.Rules.{rules}
use Rattle.rules.specs.Kinds.{read_update, set_default_sort_order_kind}
use Rattle.builder.proofs.Entries.{read_kind_lem}
use Rattle.order_updates.proofs.Tables.{orders_grown, orders_same}
use Rattle.order_updates.proofs.family.decide.Statement.{statement}
use Rattle.order_updates.proofs.family.decide.Tie as tie

chooses : (c : tie.Else-kind-eq-ADD_SORT_ORDER) → c.args.u.kind ≡ set_default_sort_order_kind
chooses c = omega (arith, c.requires.1.1.1.1.1.0, c.requires.1.1.1.1.1.1, c.if-kind-eq-ADD_SORT_ORDER.false)

returns : tie.Need-returns-then-kind-eq-ADD_SORT_ORDER
returns c =
    let D = c.add_sort_order.ensures in
    record {
      answers = D.answers;
      table = λ terms st h z. orders_grown c.args.u c.add_sort_order.result terms st h c.if-kind-eq-ADD_SORT_ORDER.true (D.table terms st h z);
      new = λ _. D.new;
    }

returns_2 : tie.Need-returns
returns_2 c =
    let u = c.args.u in
    record {
      answers = λ terms st p _ q. c.set_default_sort_order.ensures terms st p q;
      table = λ terms st h z. orders_same u c.set_default_sort_order.result terms st h (chooses c.before) (read_update u) u.sort_orders.chosen.0 (read_kind_lem u c.requires.1.1.1.0 13 (chooses c.before));
      new = λ k. absurd (c.if-kind-eq-ADD_SORT_ORDER.false k);
    }

pub decide_spec : {M : Type 1} → statement M
decide_spec =
    tie.close
    (tie.spec
    (λ c κs. let p = c.requires.1 in (c.requires.0, (p.0, (p.1.0, (p.1.1.0, (p.1.1.1.0, c.if-kind-eq-ADD_SORT_ORDER.true))))))
    returns
    (λ c κs. let p = c.requires.1 in (p.0, (p.1.1.0, chooses c)))
    returns_2)
