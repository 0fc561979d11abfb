-- Its fault, and its cells.
use mathlib.Core.Path.{◌∙◌}
use borrow.Author.Rules.{rules}
use borrow.Author.Tests.{eq-eqb, ne_eqb}
use Rattle.file_walk.proofs.Scalars.{held}
use Rattle.file_walk.proofs.scalar.hold.Statement.{statement}
use Rattle.file_walk.proofs.scalar.hold.Tie as tie

pub hold_spec : {M : Type 1} → statement M
hold_spec =
    tie.close
    (tie.spec
    (λ c κs. search rules)
    (λ c κs. search rules)
    (λ c κs. search rules)
    (λ c. search rules)
    (λ c κs. search rules)
    (λ c κs. search rules)
    (λ c. let a = c.args in held a.kept.now a.want a.schema a.base a.t a.seat a.cells.now c.fault.result c.own_place.result 0 c.refuse-s.result _ c.fault.ensures c.own_place.ensures c.refuse-s.ensures (c.put_value.ensures ∙ rw (ne_eqb _ _ c.if-want-ne0.true, c.size_kept.ensures)))
    (λ c. let a = c.args in held a.kept.now a.want a.schema a.base a.t a.seat a.cells.now c.fault.result c.own_place.result 0 c.refuse-s.result _ c.fault.ensures c.own_place.ensures c.refuse-s.ensures (rw (eq-eqb _ _ c.if-want-ne0.false))))
