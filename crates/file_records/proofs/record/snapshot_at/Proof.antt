-- Field by field.
use mathlib.Core.Path.{◌∙◌}
use borrow.Author.Rules.{rules, sfits_of}
use mir.Syntax.{w64}
use mir.Facts.{to_z-of_z}
use Rattle.file_records.proofs.Records.{snapshot_laid}
use Rattle.file_records.proofs.record.snapshot_at.Statement.{statement}
use Rattle.file_records.proofs.record.snapshot_at.Tie as tie

returns : tie.Need-returns
returns c =
    let t3 = c.before in
    let t2 = t3.before in
    let t1 = t2.before in
    let r2 = t1.before in
    let r1 = r2.before in
    let h = r1.before in
    let n4 = h.before in
    let n3 = n4.before in
    let n2 = n3.before in
    let p = n2.before in
    let n1 = p.before in
    snapshot_laid n1.args.bytes.now n1.args.cells.now n1.args.at
    (to_z-of_z {w = w64} (sfits_of t1.struct_told-1.given.0.1) ∙ n1.number-id.ensures)
    p.is_there-has_parent.ensures
    (to_z-of_z {w = w64} (sfits_of t2.struct_told-2-1.given.0.1) ∙ n2.number-parent.ensures)
    (to_z-of_z {w = w64} (sfits_of t3.struct_told-3-1.given.0.1) ∙ n3.number-sequence.ensures)
    (to_z-of_z {w = w64} (sfits_of c.struct_told-4-1.given.0.1) ∙ n4.number-time.ensures)
    h.has_rows-has_rows.ensures
    r1.row_number-first.ensures
    r2.row_number-added.ensures

pub snapshot_at_spec : {M : Type 1} → statement M
snapshot_at_spec =
    tie.close
    (tie.spec
    (λ c κs. search rules)
    (λ c. search rules)
    (λ c κs. search rules)
    (λ c. search rules)
    (λ c κs. search rules)
    (λ c. search rules)
    (λ c κs. search rules)
    (λ c. search rules)
    (λ c κs. search rules)
    (λ c. search rules)
    (λ c. search rules)
    (λ c κs. search rules)
    (λ c. search rules)
    (λ c κs. search rules)
    (λ c. search rules)
    (λ c κs. search rules)
    returns)
