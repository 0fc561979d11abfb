-- The members one behind the other.
use mathlib.Core.Path.{◌∙◌}
use borrow.Author.Rules.{rules}
use Rattle.file_text.proofs.Pieces.{then, is}
use Rattle.log_writer.proofs.Texts.{spec_is}
use Rattle.log_writer.proofs.spec.put_spec.Statement.{statement}
use Rattle.log_writer.proofs.spec.put_spec.Tie as tie

pub put_spec_spec : {M : Type 1} → statement M
put_spec_spec =
    tie.close
    (tie.spec
    (λ c κs. search rules)
    (λ c κs. search rules)
    (λ c κs. search rules)
    (λ c κs. search rules)
    (λ c κs. search rules)
    (λ c. c.put.auto.buffer ∙ c.put_fields-at.auto.buffer ∙ c.put-at.auto.buffer ∙ c.put_number-at.auto.buffer)
    (λ c. let a = c.args in is (then (then (then c.put_number-at.ensures c.put-at.ensures) c.put_fields-at.ensures) c.put.ensures) (spec_is a.s c.of_spec.ensures)))
