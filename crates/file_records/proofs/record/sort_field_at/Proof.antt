-- Field by field.
use mathlib.Core.Path.{◌∙◌}
use borrow.Author.Rules.{rules, sfits_of}
use mir.Facts.{to_z-of_z}
use mir.Syntax.{w32}
use Rattle.file_records.specs.Decoded.{is_word_at, sort_field_at}
use Rattle.file_records.proofs.record.sort_field_at.Statement.{statement}
use Rattle.file_records.proofs.record.sort_field_at.Tie as tie

pub sort_field_at_spec : {M : Type 1} → statement M
unfolding is_word_at sort_field_at
sort_field_at_spec =
    tie.close
    (tie.spec
    (λ c. search rules)
    (λ c κs. search rules)
    (λ c. search rules)
    (λ c κs. search rules)
    (λ c. search rules)
    (λ c κs. search rules)
    (λ c.
    let b = c.before in
    rw (to_z-of_z {w = w32} (sfits_of c.struct_told-1.given.0.1) ∙ b.narrow_number-source.ensures, b.choice-direction.ensures, b.choice-nulls.ensures)))
