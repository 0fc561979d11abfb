-- Broken off behind its quotation mark, or not.
use borrow.Author.Tests.{eq-eqb, ne_eqb}
use mathlib.Core.Path.{◌∙◌}
use borrow.Author.Rules.{rules}
use Rattle.file_walk.proofs.names.no_name_place.Statement.{statement}
use Rattle.file_walk.proofs.names.no_name_place.Tie as tie

pub no_name_place_spec : {M : Type 1} → statement M
no_name_place_spec =
    tie.close
    (tie.spec
    (λ c κs. search rules)
    (λ c. c.stop_place.ensures ∙ rw (ne_eqb _ _ c.if-t-ne-BROKEN.true))
    (λ c κs. search rules)
    (λ c. c.stop_place-then-t-ne34.ensures ∙ rw (eq-eqb _ _ c.if-t-ne-BROKEN.false, ne_eqb _ _ c.if-t-ne34.true))
    (λ c. rw (eq-eqb _ _ c.if-t-ne-BROKEN.false, eq-eqb _ _ c.if-t-ne34.false)))
