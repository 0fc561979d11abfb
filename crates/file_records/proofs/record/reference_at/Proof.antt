-- Field by field.
use mathlib.Core.Path.{◌∙◌}
use borrow.Author.Rules.{rules, sfits_of}
use mir.Syntax.{w32, w64}
use mir.Facts.{to_z-of_z}
use Rattle.file_records.proofs.Records.{reference_laid}
use Rattle.file_records.proofs.record.reference_at.Statement.{statement}
use Rattle.file_records.proofs.record.reference_at.Tie as tie

returns : tie.Need-returns
returns c =
    let t3 = c.before in
    let t2 = t3.before in
    let t1 = t2.before in
    let n3 = t1.before in
    let h3 = n3.before in
    let n2 = h3.before in
    let h2 = n2.before in
    let m = h2.before in
    let h1 = m.before in
    let k = h1.before in
    let n1 = k.before.before in
    reference_laid n1.args.bytes.now n1.args.cells.now n1.args.at
    (to_z-of_z {w = w64} (sfits_of t1.struct_told-1.given.0.1) ∙ n1.number-id.ensures)
    k.choice-kind.ensures
    h1.is_there-has_min.ensures
    (to_z-of_z {w = w32} (sfits_of t2.struct_told-2-1.given.0.1) ∙ m.narrow_number-min.ensures)
    h2.is_there-has_age.ensures
    (to_z-of_z {w = w64} (sfits_of t3.struct_told-3-1.given.0.1) ∙ n2.number-age.ensures)
    h3.is_there-has_ref_age.ensures
    (to_z-of_z {w = w64} (sfits_of c.struct_told-4-1.given.0.1) ∙ n3.number-ref_age.ensures)

pub reference_at_spec : {M : Type 1} → statement M
reference_at_spec =
    tie.close
    (tie.spec
    (λ c κs. search rules)
    (λ c. search rules)
    (λ c κs. search rules)
    (λ c. search rules)
    (λ c κs. search rules)
    (λ c. search rules)
    (λ c κs. search rules)
    (λ c. search rules)
    (λ c κs. search rules)
    (λ c. search rules)
    (λ c κs. search rules)
    (λ c. search rules)
    (λ c κs. search rules)
    (λ c. search rules)
    (λ c κs. search rules)
    returns)
