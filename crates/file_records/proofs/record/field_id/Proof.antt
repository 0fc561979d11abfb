-- The id, or the position.
use Prim.Native.Nat.{◌+◌}
use mathlib.Core.Path.{sym, ◌∙◌}
use native.Mathlib.Omega.{arith}
use borrow.Author.Rules.{rules, sfits_of}
use mir.Facts.{to_z-of_z, to_z_pos}
use mir.Syntax.{w32}
use Rattle.file_records.specs.Decoded.{maybe_narrow_at}
use Rattle.file_records.proofs.record.field_id.Statement.{statement}
use Rattle.file_records.proofs.record.field_id.Tie as tie

given : tie.Need-returns-then-is_there
unfolding maybe_narrow_at
given c =
    let t = sym c.is_there.ensures ∙ c.if-is_there.true in
    to_z-of_z {w = w32} (sfits_of c.struct_told-1.given.0.1) ∙ c.narrow_number-z.ensures ∙ rw t

left_out : tie.Need-returns
unfolding maybe_narrow_at
left_out c = rw (sym c.is_there.ensures ∙ c.if-is_there.false) (to_z_pos w32 {n = 1000 + c.args.position} (omega arith))

pub field_id_spec : {M : Type 1} → statement M
field_id_spec =
    tie.close
    (tie.spec
    (λ c κs. search rules)
    (λ c κs. search rules)
    given
    (λ c. search rules)
    (λ c. search rules)
    left_out)
