-- By the token.
use mathlib.Core.Path.{sym, ◌∙◌}
use borrow.Author.Rules.{rules}
use Rattle.file_walk.specs.Members.{after_colon}
use Rattle.file_walk.proofs.name.after_colon.Statement.{statement}
use Rattle.file_walk.proofs.name.after_colon.Tie as tie

pub after_colon_spec : {M : Type 1} → statement M
unfolding after_colon
after_colon_spec =
    tie.close
    (tie.spec
    (λ c κs. search rules)
    (λ c κs. search rules)
    (λ c. rw (sym c.is_mark.ensures ∙ c.if-is_mark.true, c.next_skip.ensures))
    (λ c κs. search rules)
    (λ c κs. search rules)
    (λ c. c.stop.ensures ∙ rw (sym c.is_mark.ensures ∙ c.if-is_mark.false, c.stop_place.ensures)))
