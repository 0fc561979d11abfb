-- The members one behind the other.
use mathlib.Core.Path.{◌∙◌}
use borrow.Author.Rules.{rules}
use Rattle.file_text.proofs.Pieces.{then, is}
use Rattle.log_writer.proofs.Texts.{remove_ref_is}
use Rattle.rules.specs.Layout.{read_name}
use Rattle.log_writer.proofs.update.put_remove_ref.Statement.{statement}
use Rattle.log_writer.proofs.update.put_remove_ref.Tie as tie

pub put_remove_ref_spec : {M : Type 1} → statement M
put_remove_ref_spec =
    tie.close
    (tie.spec
    (λ c κs. search rules)
    (λ c κs. search rules)
    (λ c. c.put.auto.buffer ∙ c.put_name-at.auto.buffer)
    (λ c. let a = c.args in is (then c.put_name-at.ensures c.put.ensures) (remove_ref_is (read_name a.name))))
