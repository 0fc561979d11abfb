-- What is kept of it, where it is not too long.
use mathlib.Core.Path.{ap, ◌∙◌}
use borrow.Author.Rules.{rules}
use Rattle.rules.specs.Layout.{laid_name}
use Rattle.file_records.proofs.Said.{no_name_lem, a_name_lem}
use Rattle.file_records.proofs.text.name_at.Statement.{statement}
use Rattle.file_records.proofs.text.name_at.Tie as tie

none : tie.Need-returns-then-len-gt-NAME
unfolding laid_name
none c = c.blank.ensures ∙ ap laid_name (no_name_lem _ _ _ _ _ c.read-len.ensures c.if-len-gt-NAME.true)

pub name_at_spec : {M : Type 1} → statement M
name_at_spec =
    tie.close
    (tie.spec
    (λ c κs. search rules)
    (λ c κs. search rules)
    none
    (λ c κs. search rules)
    (λ c. c.name_of.ensures ∙ ap laid_name (a_name_lem _ _ _ _ _ c.read-len.ensures c.if-len-gt-NAME.false)))
