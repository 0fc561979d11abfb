-- The members one behind the other.
use mathlib.Core.Path.{◌∙◌}
use borrow.Author.Rules.{rules}
use Rattle.file_text.proofs.Pieces.{then, is}
use Rattle.log_writer.proofs.Texts.{set_ref_is}
use Rattle.rules.specs.Layout.{read_name}
use Rattle.log_writer.proofs.update.put_set_ref.Statement.{statement}
use Rattle.log_writer.proofs.update.put_set_ref.Tie as tie

pub put_set_ref_spec : {M : Type 1} → statement M
put_set_ref_spec =
    tie.close
    (tie.spec
    (λ c κs. search rules)
    (λ c κs. search rules)
    (λ c κs. search rules)
    (λ c κs. search rules)
    (λ c κs. search rules)
    (λ c κs. search rules)
    (λ c κs. search rules)
    (λ c κs. search rules)
    (λ c κs. search rules)
    (λ c κs. search rules)
    (λ c κs. search rules)
    (λ c. c.put.auto.buffer ∙ c.put_number-at-4.auto.buffer ∙ c.put_number-at-3.auto.buffer ∙ c.put_number-at-2.auto.buffer ∙ c.put_number-at.auto.buffer ∙ c.put_either-at.auto.buffer ∙ c.put_name-at.auto.buffer)
    (λ c. let a = c.args in is (then (then (then (then (then (then c.put_name-at.ensures c.put_either-at.ensures) c.put_number-at.ensures) c.put_number-at-2.ensures) c.put_number-at-3.ensures) c.put_number-at-4.ensures) c.put.ensures) (set_ref_is (read_name a.name) a.f c.of_snapshot.ensures c.of_min.ensures c.of_age.ensures c.of_age-2.ensures)))
