-- The members one behind the other.
use mathlib.Core.Path.{◌∙◌}
use borrow.Author.Rules.{rules}
use Rattle.file_text.proofs.Pieces.{then, is}
use Rattle.log_writer.proofs.Texts.{upgrade_is}
use Rattle.log_writer.proofs.update.put_upgrade.Statement.{statement}
use Rattle.log_writer.proofs.update.put_upgrade.Tie as tie

pub put_upgrade_spec : {M : Type 1} → statement M
put_upgrade_spec =
    tie.close
    (tie.spec
    (λ c κs. search rules)
    (λ c κs. search rules)
    (λ c. c.put.auto.buffer ∙ c.put_natural-at.auto.buffer)
    (λ c. let a = c.args in is (then c.put_natural-at.ensures c.put.ensures) (upgrade_is a.version)))
