-- What is kept of it.
use mathlib.Core.Path.{ap, ◌∙◌}
use borrow.Author.Rules.{rules}
use Rattle.rules.specs.Layout.{laid_text}
use Rattle.file_records.proofs.Said.{read_short}
use Rattle.file_records.proofs.text.text_at.Statement.{statement}
use Rattle.file_records.proofs.text.text_at.Tie as tie

pub text_at_spec : {M : Type 1} → statement M
text_at_spec =
    tie.close
    (tie.spec
    (λ c κs. search rules)
    (λ c κs. read_short _ _ _ _ _ c.read-len.ensures)
    (λ c. c.text_of.ensures ∙ ap laid_text c.read-len.ensures))
