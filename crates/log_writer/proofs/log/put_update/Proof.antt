-- An update that is not tidy reads as one of which nothing is written.
use native.Mathlib.Omega.{arith}
use mathlib.Core.Path.{sym, ◌∙◌}
use borrow.Author.Rules.{rules}
use Rattle.file_text.proofs.Pieces.{nothing, is}
use Rattle.log_writer.proofs.Tidy.{tidy_text, untidy_text}
use Rattle.log_writer.proofs.log.put_update.Statement.{statement}
use Rattle.log_writer.proofs.log.put_update.Tie as tie

pub put_update_spec : {M : Type 1} → statement M
put_update_spec =
    tie.close
    (tie.spec
    (λ c κs. search rules)
    (λ c κs. search rules)
    (λ c. search rules)
    (λ c. let a = c.args in is c.put_kind.ensures (tidy_text a.offers.now a.u (sym c.is_tidy.ensures ∙ c.if-is_tidy.true)))
    (λ c. let a = c.args in is (nothing (omega arith)) (untidy_text a.offers.now a.u (sym c.is_tidy.ensures ∙ c.if-is_tidy.false))))
