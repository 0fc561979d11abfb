-- Field by field.
use mathlib.Core.Path.{◌∙◌}
use borrow.Author.Rules.{rules, sfits_of}
use mir.Facts.{to_z-of_z}
use mir.Syntax.{w64}
use Rattle.rules.specs.Layout.{laid_statistics_file}
use Rattle.file_records.specs.Decoded.{statistics_at}
use Rattle.file_records.proofs.record.statistics_at.Statement.{statement}
use Rattle.file_records.proofs.record.statistics_at.Tie as tie

pub statistics_at_spec : {M : Type 1} → statement M
unfolding laid_statistics_file statistics_at
statistics_at_spec =
    tie.close
    (tie.spec
    (λ c κs. search rules)
    (λ c. search rules)
    (λ c κs. search rules)
    (λ c. search rules)
    (λ c κs. search rules)
    (λ c.
    rw (to_z-of_z {w = w64} (sfits_of c.struct_told-1.given.0.1) ∙ c.number-id.ensures, c.text_at-statistics_path.ensures, to_z-of_z {w = w64} (sfits_of c.struct_told-2-1.given.0.1) ∙ c.number-size.ensures)))
