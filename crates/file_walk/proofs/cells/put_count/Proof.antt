-- Where it was closed, and something is counted.
use mathlib.Core.Path.{◌∙◌}
use borrow.Author.Rules.{rules}
use native.Mathlib.Numerals.{add-one}
use borrow.Author.Tests.{eq-eqb, ne_eqb}
use Rattle.file_cells.specs.Filled.{put_count}
use Rattle.file_walk.proofs.cells.put_count.Statement.{statement}
use Rattle.file_walk.proofs.cells.put_count.Tie as tie

pub put_count_spec : {M : Type 1} → statement M
unfolding put_count
put_count_spec =
    tie.close
    (tie.spec
    (λ c. search rules)
    (λ c κs. search rules)
    (λ c. c.put.ensures ∙ rw (eq-eqb _ _ c.if-seat-eq-READ.true, ne_eqb _ _ c.if-each-ne0.true, add-one c.args.seat.count))
    (λ c. rw (eq-eqb _ _ c.if-seat-eq-READ.true, eq-eqb _ _ c.if-each-ne0.false))
    (λ c. rw (ne_eqb _ _ c.if-seat-eq-READ.false)))
