-- Field by field.
use mathlib.Core.Path.{◌∙◌}
use borrow.Author.Rules.{rules, sfits_of}
use mir.Facts.{to_z-of_z}
use mir.Syntax.{w64}
use Rattle.file_records.specs.Decoded.{log_entry_at}
use Rattle.file_records.proofs.record.log_entry_at.Statement.{statement}
use Rattle.file_records.proofs.record.log_entry_at.Tie as tie

pub log_entry_at_spec : {M : Type 1} → statement M
unfolding log_entry_at
log_entry_at_spec =
    tie.close
    (tie.spec
    (λ c κs. search rules)
    (λ c. search rules)
    (λ c κs. search rules)
    (λ c. rw (to_z-of_z {w = w64} (sfits_of c.struct_told-1.given.0.1) ∙ c.number-id.ensures, to_z-of_z {w = w64} (sfits_of c.struct_told-2-1.given.0.1) ∙ c.number-time.ensures)))
