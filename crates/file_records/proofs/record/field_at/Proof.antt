-- Field by field.
use mathlib.Core.Path.{◌∙◌}
use borrow.Author.Rules.{rules, sfits_of}
use mir.Facts.{to_z-of_z}
use mir.Syntax.{w32}
use Rattle.rules.specs.Layout.{laid_schema_field}
use Rattle.file_records.specs.Decoded.{is_word_at, field_at}
use Rattle.file_records.proofs.record.field_at.Statement.{statement}
use Rattle.file_records.proofs.record.field_at.Tie as tie

pub field_at_spec : {M : Type 1} → statement M
unfolding laid_schema_field is_word_at field_at
field_at_spec =
    tie.close
    (tie.spec
    (λ c κs. search rules)
    (λ c. search rules)
    (λ c κs. search rules)
    (λ c. search rules)
    (λ c κs. search rules)
    (λ c.
    let k = c.before in
    rw (to_z-of_z {w = w32} (sfits_of c.struct_told-1.given.0.1) ∙ k.narrow_number-id.ensures, k.name_at-name.ensures, k.choice-field_type.ensures)))
