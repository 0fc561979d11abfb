-- Its id, and its fields.
use mathlib.Core.Path.{◌∙◌}
use borrow.Author.Rules.{rules, sfits_of}
use mir.Facts.{to_z-of_z}
use mir.Syntax.{w32}
use Rattle.file_records.specs.Decoded.{spec_at}
use Rattle.file_records.proofs.record.spec_at.Statement.{statement}
use Rattle.file_records.proofs.record.spec_at.Tie as tie

returns : tie.Need-returns
unfolding spec_at
returns c = rw (c.spec_of.ensures, to_z-of_z {w = w32} (sfits_of c.struct_told-1.given.0.1) ∙ c.narrow_number-id.ensures)

pub spec_at_spec : {M : Type 1} → statement M
spec_at_spec = tie.close (tie.spec (λ c κs. search rules) (λ c. search rules) (λ c κs. search rules) returns)
