use Rattle.std.proofs.Common.{refl, ap, ◌∙◌, ℤ}
use Rattle.std.proofs.Math.Option.{Option}
use Rattle.rules.specs.SpecUpdates.{with_field_id}
use Rattle.rules.specs.Layout.{read_partition_field, laid_partition_field}
use Rattle.partitions.proofs.Numbered.{laid_new}
use Rattle.partitions.proofs.reuse.reuse_field_id.Goals as goal

pub returns-in-Some : goal.returns-in-Some
returns-in-Some c = laid_new c.args.f c.in-Some.field_id c.requires.laid_field refl ∙ ap (λ (o : Option ℤ). laid_partition_field (with_field_id o (read_partition_field c.args.f))) (rw c.if-f.false c.in-Some.ensures)
