-- Nothing of the value, or something.
use mathlib.Core.Path.{◌∙◌}
use borrow.Author.Rules.{rules}
use borrow.Author.Tests.{eq-eqb, ne_eqb}
use native.Mathlib.Numerals.{add-one}
use Rattle.file_cells.specs.Filled.{put_value}
use Rattle.file_walk.proofs.names.put_name.Statement.{statement}
use Rattle.file_walk.proofs.names.put_name.Tie as tie

pub put_name_spec : {M : Type 1} → statement M
unfolding put_value
put_name_spec =
    tie.close
    (tie.spec
    (λ c. search rules)
    (λ c κs. search rules)
    (λ c. c.put_value.ensures ∙ rw (ne_eqb _ _ c.if-seat-ne-MISSING.true, add-one c.args.place))
    (λ c. rw (eq-eqb _ _ c.if-seat-ne-MISSING.false)))
