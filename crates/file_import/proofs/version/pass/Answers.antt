-- A value that is passed over, and the comma behind it.
use Rattle.std.proofs.Common.{sym, ◌∙◌, arith, rules}
use Rattle.file_import.proofs.Passing.{value_none, value_whole, no_lexeme, no_comma, a_comma_lem, is_going, still_fits, anything_meant}
use Rattle.file_import.proofs.version.pass.Goals as goal

pub value-seat-requires : goal.value-seat-requires
value-seat-requires c = record { meant = anything_meant; shallow = omega arith; low = omega arith; fits = c.requires }

pub returns-then-seat-ne-READ : goal.returns-then-seat-ne-READ
returns-then-seat-ne-READ c = value_none c.value-seat.ensures c.if-seat-ne-READ.true

pub returns-then-comma-ne-WHOLE : goal.returns-then-comma-ne-WHOLE
returns-then-comma-ne-WHOLE c = no_lexeme _ _ _ _ c.next-comma.ensures c.if-comma-ne-WHOLE.true ∙ sym (value_whole c.value-seat.ensures c.if-seat-ne-READ.false)

pub returns-then-comma-ne44 : goal.returns-then-comma-ne44
returns-then-comma-ne44 c = no_comma _ _ _ _ c.next-comma.ensures c.if-comma-ne-WHOLE.false c.if-comma-ne44.true ∙ sym (value_whole c.value-seat.ensures c.if-seat-ne-READ.false)

pub returns : goal.returns
returns c =
    record {
      goes = a_comma_lem _ _ _ _ c.next-comma.ensures c.if-comma-ne-WHOLE.false c.if-comma-ne44.false ∙ sym (value_whole c.value-seat.ensures c.if-seat-ne-READ.false);
      later = omega (arith, c.value-seat.ensures.later c.if-seat-ne-READ.false, is_going _ _ _ _ c.next-comma.ensures c.if-comma-ne-WHOLE.false);
      fits = still_fits _ _ _ _ c.next-comma.ensures c.if-comma-ne-WHOLE.false;
    }
