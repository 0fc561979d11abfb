-- The members one behind the other.
use mathlib.Core.Path.{◌∙◌}
use borrow.Author.Rules.{rules}
use Rattle.file_text.proofs.Pieces.{then, is}
use Rattle.log_writer.proofs.Texts.{location_is}
use Rattle.rules.specs.Layout.{read_text}
use Rattle.log_writer.proofs.update.put_set_location.Statement.{statement}
use Rattle.log_writer.proofs.update.put_set_location.Tie as tie

pub put_set_location_spec : {M : Type 1} → statement M
put_set_location_spec =
    tie.close
    (tie.spec
    (λ c κs. search rules)
    (λ c κs. search rules)
    (λ c. c.put.auto.buffer ∙ c.put_text-at.auto.buffer)
    (λ c. let a = c.args in is (then c.put_text-at.ensures c.put.ensures) (location_is (read_text a.location))))
