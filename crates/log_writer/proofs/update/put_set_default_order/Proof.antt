-- The members one behind the other.
use mathlib.Core.Path.{◌∙◌}
use borrow.Author.Rules.{rules}
use Rattle.file_text.proofs.Pieces.{then, is}
use Rattle.log_writer.proofs.Texts.{default_order_is}
use Rattle.log_writer.proofs.update.put_set_default_order.Statement.{statement}
use Rattle.log_writer.proofs.update.put_set_default_order.Tie as tie

pub put_set_default_order_spec : {M : Type 1} → statement M
put_set_default_order_spec =
    tie.close
    (tie.spec
    (λ c κs. search rules)
    (λ c κs. search rules)
    (λ c κs. search rules)
    (λ c. c.put.auto.buffer ∙ c.put_number-at.auto.buffer)
    (λ c. let a = c.args in is (then c.put_number-at.ensures c.put.ensures) (default_order_is a.id.0 c.of_order.ensures)))
