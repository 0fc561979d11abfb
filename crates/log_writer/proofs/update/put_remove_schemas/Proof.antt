-- The members one behind the other.
use mathlib.Core.Path.{◌∙◌}
use borrow.Author.Rules.{rules}
use Rattle.file_text.proofs.Pieces.{then, is}
use Rattle.log_writer.proofs.Texts.{remove_schemas_is}
use Rattle.rules.specs.Layout.{read_schema_ids}
use Rattle.log_writer.proofs.update.put_remove_schemas.Statement.{statement}
use Rattle.log_writer.proofs.update.put_remove_schemas.Tie as tie

pub put_remove_schemas_spec : {M : Type 1} → statement M
put_remove_schemas_spec =
    tie.close
    (tie.spec
    (λ c κs. search rules)
    (λ c κs. search rules)
    (λ c κs. search rules)
    (λ c. c.put.auto.buffer ∙ c.put_schema_ids-at.auto.buffer ∙ c.put-at.auto.buffer)
    (λ c. let a = c.args in is (then (then c.put-at.ensures c.put_schema_ids-at.ensures) c.put.ensures) (remove_schemas_is (read_schema_ids a.ids))))
