-- Field by field.
use Prim.Native.Nat.{◌≤◌}
use mathlib.Core.Path.{ap, ◌∙◌}
use native.Mathlib.Omega.{arith}
use borrow.Author.Rules.{rules, sfits_of}
use lib.IntN.{pos}
use mir.Facts.{to_z-of_z, to_z_pos}
use mir.Syntax.{w32}
use Rattle.json_members.specs.declared.bucket.Transform.{Transform}
use Rattle.file_records.proofs.Buckets.{buckets_small}
use Rattle.file_records.proofs.Parts.{partition_field_laid}
use Rattle.file_records.proofs.record.partition_field_at.Statement.{statement}
use Rattle.file_records.proofs.record.partition_field_at.Tie as tie

small : (c : tie.After-struct_known-1) → c.transform_at-transform.result.buckets ≤ 2147483647
small c = rw c.transform_at-transform.ensures (buckets_small _)

returns : tie.Need-returns
returns c =
    let t = c.before.before in
    let m = t.before in
    let f = m.before in
    let n = f.before in
    partition_field_laid n.args.bytes.now n.args.cells.now n.args.at n.args.position
    (to_z-of_z {w = w32} (sfits_of c.struct_told-1.given.0.1) ∙ n.narrow_number-source.ensures)
    f.field_id-field_id.ensures
    (to_z_pos w32 {n = t.transform_at-transform.result.buckets} (omega (arith, small c)) ∙ ap (λ (x : Transform). pos x.buckets) t.transform_at-transform.ensures)
    (ap (λ (x : Transform). x.kind) t.transform_at-transform.ensures)
    m.name_at-name.ensures

pub partition_field_at_spec : {M : Type 1} → statement M
partition_field_at_spec =
    tie.close
    (tie.spec
    (λ c κs. search rules)
    (λ c. search rules)
    (λ c κs. search rules)
    (λ c. search rules)
    (λ c κs. search rules)
    (λ c. search rules)
    (λ c κs. search rules)
    (λ c. sfits_of (omega (arith, small c)))
    returns)
