-- By the word.
use mathlib.Core.Path.{sym, ◌∙◌}
use borrow.Author.Rules.{rules}
use Rattle.file_records.proofs.text.choice.Statement.{statement}
use Rattle.file_records.proofs.text.choice.Tie as tie

pub choice_spec : {M : Type 1} → statement M
choice_spec =
    tie.close
    (tie.spec
    (λ c κs. search rules)
    (λ c κs. search rules)
    (λ c. rw (← c.read-len.ensures, sym c.is_word.ensures ∙ c.if-is_word.true))
    (λ c. rw (← c.read-len.ensures, sym c.is_word.ensures ∙ c.if-is_word.false)))
