-- That of the single spec is 0.
use mathlib.Core.Path.{sym, ◌∙◌}
use borrow.Author.Rules.{rules, sfits_of}
use mir.Syntax.{w32}
use mir.Facts.{to_z-of_z}
use Rattle.file_records.specs.Decoded.{default_spec_in}
use Rattle.file_records.proofs.fields.default_spec.Statement.{statement}
use Rattle.file_records.proofs.fields.default_spec.Tie as tie

pub default_spec_spec : {M : Type 1} → statement M
unfolding default_spec_in
default_spec_spec =
    tie.close
    (tie.spec
    (λ c κs. search rules)
    (λ c. rw (sym c.single_decides.ensures ∙ c.if-single_decides.true))
    (λ c κs. search rules)
    (λ c. rw (sym c.single_decides.ensures ∙ c.if-single_decides.false) (to_z-of_z {w = w32} (sfits_of c.struct_told-1.given.0.1) ∙ c.narrow_number-z.ensures)))
