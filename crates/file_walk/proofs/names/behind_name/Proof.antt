-- A colon, or none.
use mathlib.Core.Path.{sym, ◌∙◌}
use borrow.Author.Rules.{rules}
use Rattle.file_walk.specs.Named.{behind_name}
use Rattle.file_walk.proofs.names.behind_name.Statement.{statement}
use Rattle.file_walk.proofs.names.behind_name.Tie as tie

pub behind_name_spec : {M : Type 1} → statement M
unfolding behind_name
behind_name_spec =
    tie.close
    (tie.spec
    (λ c κs. search rules)
    (λ c. rw (sym c.is_mark.ensures ∙ c.if-is_mark.true))
    (λ c κs. search rules)
    (λ c κs. search rules)
    (λ c. c.stop.ensures ∙ rw (c.stop_place.ensures, sym c.is_mark.ensures ∙ c.if-is_mark.false)))
