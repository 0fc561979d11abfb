-- The members one behind the other.
use mathlib.Core.Path.{◌∙◌}
use borrow.Author.Rules.{rules}
use Rattle.file_text.proofs.Pieces.{then, is}
use Rattle.log_writer.proofs.Texts.{add_order_is}
use Rattle.rules.specs.Layout.{read_sort_order}
use Rattle.log_writer.proofs.update.put_add_order.Statement.{statement}
use Rattle.log_writer.proofs.update.put_add_order.Tie as tie

pub put_add_order_spec : {M : Type 1} → statement M
put_add_order_spec =
    tie.close
    (tie.spec
    (λ c κs. search rules)
    (λ c κs. search rules)
    (λ c κs. search rules)
    (λ c. c.put.auto.buffer ∙ c.put_order-at.auto.buffer ∙ c.put-at.auto.buffer)
    (λ c. let a = c.args in is (then (then c.put-at.ensures c.put_order-at.ensures) c.put.ensures) (add_order_is (read_sort_order a.o))))
