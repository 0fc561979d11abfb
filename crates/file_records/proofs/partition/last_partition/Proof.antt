-- That of the file, where it is there.
use mathlib.Core.Path.{sym, ◌∙◌}
use borrow.Author.Rules.{rules, sfits_of}
use mir.Facts.{to_z-of_z}
use mir.Syntax.{w32}
use Rattle.file_records.specs.Decoded.{maybe_narrow_at}
use Rattle.file_records.proofs.partition.last_partition.Statement.{statement}
use Rattle.file_records.proofs.partition.last_partition.Tie as tie

given : tie.Need-returns-then-is_there
unfolding maybe_narrow_at
given c =
    to_z-of_z {w = w32} (sfits_of c.struct_told-1.given.0.1) ∙ c.narrow_number-z.ensures ∙ rw (sym c.is_there.ensures ∙ c.if-is_there.true)

left_out : tie.Need-returns
unfolding maybe_narrow_at
left_out c = rw (sym c.is_there.ensures ∙ c.if-is_there.false) c.largest_id.ensures

pub last_partition_spec : {M : Type 1} → statement M
last_partition_spec = tie.close (tie.spec (λ c κs. search rules) (λ c κs. search rules) given (λ c κs. search rules) left_out)
