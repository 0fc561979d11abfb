-- What is offered, where it is well formed.
use native.Mathlib.Omega.{arith}
use mathlib.Core.Path.{sym, ◌∙◌}
use borrow.Author.Rules.{rules}
use Rattle.rules.specs.Layout.{read_spec_offer}
use Rattle.file_text.proofs.Pieces.{nothing, then, is}
use Rattle.log_writer.proofs.Texts.{spec_written, spec_left_out}
use Rattle.log_writer.proofs.Named.{spec_read}
use Rattle.log_writer.proofs.update.put_add_spec.Statement.{statement}
use Rattle.log_writer.proofs.update.put_add_spec.Tie as tie

pub put_add_spec_spec : {M : Type 1} → statement M
put_add_spec_spec =
    tie.close
    (tie.spec
    (λ c κs. search rules)
    (λ c κs. search rules)
    (λ c κs. search rules)
    (λ c κs. search rules)
    (λ c. c.put.auto.buffer ∙ c.put_spec-at.auto.buffer ∙ c.put-at.auto.buffer)
    (λ c. let a = c.args in
    let h = c.spec-offered.ensures in
    let t = c.if-offered.true in
    is (then (then c.put-at.ensures c.put_spec-at.ensures) c.put.ensures) (spec_written a.offers.now (read_spec_offer a.o) (sym h.formed ∙ t) (spec_read a.offers.now (read_spec_offer a.o) c.spec-offered.result h t)))
    (λ c. let a = c.args in is (nothing (omega arith)) (spec_left_out a.offers.now (read_spec_offer a.o) (sym c.spec-offered.ensures.formed ∙ c.if-offered.false))))
