-- That of the single schema, or the chosen one.
use mathlib.Core.Path.{sym, ◌∙◌}
use borrow.Author.Rules.{rules, sfits_of}
use mir.Syntax.{w32}
use mir.Facts.{to_z-of_z}
use Rattle.file_records.specs.Decoded.{schema_at, current_schema_in}
use Rattle.file_records.proofs.fields.current_schema.Statement.{statement}
use Rattle.file_records.proofs.fields.current_schema.Tie as tie

pub current_schema_spec : {M : Type 1} → statement M
unfolding schema_at current_schema_in
current_schema_spec =
    tie.close
    (tie.spec
    (λ c κs. search rules)
    (λ c. search rules)
    (λ c κs. search rules)
    (λ c. rw (sym c.single_decides.ensures ∙ c.if-single_decides.true) (to_z-of_z {w = w32} (sfits_of c.struct_told-1.given.0.1) ∙ c.narrow_number-single.ensures))
    (λ c κs. search rules)
    (λ c. rw (sym c.single_decides.ensures ∙ c.if-single_decides.false) (to_z-of_z {w = w32} (sfits_of c.struct_told-2-1.given.0.1) ∙ c.narrow_number-z.ensures)))
