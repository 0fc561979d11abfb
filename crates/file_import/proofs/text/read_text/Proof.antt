-- The value, and what stands behind it.
use native.Mathlib.Omega.{arith}
use borrow.Author.Rules.{rules}
use Rattle.file_import.proofs.Reading.{file_meant, broken_off, nothing_behind, something_behind}
use Rattle.file_import.proofs.text.read_text.Statement.{statement}
use Rattle.file_import.proofs.text.read_text.Tie as tie

value_requires : tie.Need-value-seat-requires
value_requires c κs = record { meant = file_meant; shallow = omega arith; low = omega arith; fits = omega arith }

returns : tie.Need-returns-then-seat-ne-READ
returns c = broken_off _ _ _ _ _ c.value-seat.ensures.is c.if-seat-ne-READ.true

returns_2 : tie.Need-returns-then-behind-eq-END
returns_2 c =
    let t = c.before.before in
    let e = t.before.before in
    nothing_behind _ _ _ _ _ e.value-seat.ensures.is e.if-seat-ne-READ.false _ _ t.next-behind.ensures c.if-behind-eq-END.true

returns_3 : tie.Need-returns
returns_3 c =
    let i = c.before in
    let t = i.before.before in
    let e = t.before.before in
    something_behind _ _ _ _ _ e.value-seat.ensures.is e.if-seat-ne-READ.false _ _ t.next-behind.ensures i.if-behind-eq-END.false _ c.refuse.ensures

pub read_text_spec : {M : Type 1} → statement M
read_text_spec = tie.close (tie.spec value_requires returns (λ c κs. search rules) returns_2 (λ c κs. search rules) returns_3)
