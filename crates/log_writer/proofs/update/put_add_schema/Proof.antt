-- What is offered, where it is well formed.
use native.Mathlib.Omega.{arith}
use mathlib.Core.Path.{sym, ◌∙◌}
use borrow.Author.Rules.{rules}
use Rattle.rules.specs.Layout.{read_schema_offer}
use Rattle.file_text.proofs.Pieces.{nothing, then, is}
use Rattle.log_writer.proofs.Texts.{schema_written, schema_left_out}
use Rattle.log_writer.proofs.Named.{schema_read}
use Rattle.log_writer.proofs.update.put_add_schema.Statement.{statement}
use Rattle.log_writer.proofs.update.put_add_schema.Tie as tie

pub put_add_schema_spec : {M : Type 1} → statement M
put_add_schema_spec =
    tie.close
    (tie.spec
    (λ c κs. search rules)
    (λ c κs. search rules)
    (λ c κs. search rules)
    (λ c κs. search rules)
    (λ c. c.put.auto.buffer ∙ c.put_schema-at.auto.buffer ∙ c.put-at.auto.buffer)
    (λ c. let a = c.args in
    let h = c.schema-offered.ensures in
    let t = c.if-offered.true in
    is (then (then c.put-at.ensures c.put_schema-at.ensures) c.put.ensures) (schema_written a.offers.now (read_schema_offer a.o) (sym h.formed ∙ t) (schema_read a.offers.now (read_schema_offer a.o) c.schema-offered.result h t)))
    (λ c. let a = c.args in is (nothing (omega arith)) (schema_left_out a.offers.now (read_schema_offer a.o) (sym c.schema-offered.ensures.formed ∙ c.if-offered.false))))
