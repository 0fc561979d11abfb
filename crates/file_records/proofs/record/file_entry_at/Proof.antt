-- Field by field.
use mathlib.Core.Path.{◌∙◌}
use borrow.Author.Rules.{rules, sfits_of}
use mir.Facts.{to_z-of_z}
use mir.Syntax.{w64}
use Rattle.rules.specs.Layout.{laid_metadata_log_entry}
use Rattle.file_records.specs.Decoded.{file_entry_at}
use Rattle.file_records.proofs.record.file_entry_at.Statement.{statement}
use Rattle.file_records.proofs.record.file_entry_at.Tie as tie

pub file_entry_at_spec : {M : Type 1} → statement M
unfolding laid_metadata_log_entry file_entry_at
file_entry_at_spec =
    tie.close
    (tie.spec
    (λ c κs. search rules)
    (λ c. search rules)
    (λ c κs. search rules)
    (λ c. rw (c.text_at-metadata_file.ensures, to_z-of_z {w = w64} (sfits_of c.struct_told-1.given.0.1) ∙ c.number-time.ensures)))
