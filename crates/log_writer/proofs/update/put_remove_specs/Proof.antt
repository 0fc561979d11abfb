-- The members one behind the other.
use mathlib.Core.Path.{◌∙◌}
use borrow.Author.Rules.{rules}
use Rattle.file_text.proofs.Pieces.{then, is}
use Rattle.log_writer.proofs.Texts.{remove_specs_is}
use Rattle.rules.specs.Layout.{read_spec_ids}
use Rattle.log_writer.proofs.update.put_remove_specs.Statement.{statement}
use Rattle.log_writer.proofs.update.put_remove_specs.Tie as tie

pub put_remove_specs_spec : {M : Type 1} → statement M
put_remove_specs_spec =
    tie.close
    (tie.spec
    (λ c κs. search rules)
    (λ c κs. search rules)
    (λ c κs. search rules)
    (λ c. c.put.auto.buffer ∙ c.put_spec_ids-at.auto.buffer ∙ c.put-at.auto.buffer)
    (λ c. let a = c.args in is (then (then c.put-at.ensures c.put_spec_ids-at.ensures) c.put.ensures) (remove_specs_is (read_spec_ids a.ids))))
