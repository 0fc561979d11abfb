-- Each field in its slot.
use Rattle.std.proofs.Common.{◌≡◌, ℕ, ◌+◌, ◌*◌, ap, ◌∙◌, arith, rules}
use Rattle.records.specs.Blanks.{no_partition_spec}
use Rattle.records.specs.declared.partition.PartitionSpec.{PartitionSpec}
use Rattle.rules.specs.Layout.{laid_partition_field}
use Rattle.file_records.specs.Decoded.{partition_field_at}
use Rattle.file_records.specs.Positions.{placed}
use Rattle.file_records.proofs.Parts.{in_list_lem, spec_laid}
use Rattle.file_records.proofs.Filling.{filled}
use Rattle.file_records.proofs.record.spec_of.Goals as goal

pub returns : goal.returns
unfolding no_partition_spec
returns c =
    let a = c.args in
    spec_laid a.bytes.now a.cells.now a.list _ _ (omega arith) c.fill.new.slots a.id c.count_of-count.ensures.count
    (filled c.count_of-count.ensures.within (ap (λ (t : PartitionSpec). t.items) c.blank-spec.ensures) c.fill.ensures
    (λ i x b p.
    let made : x ≡ laid_partition_field (placed i (partition_field_at a.bytes.now a.cells.now (a.list + 1 + i * 8))) = search rules in
    made ∙ ap (λ (n : ℕ). laid_partition_field (placed i (partition_field_at a.bytes.now a.cells.now n))) (in_list_lem a.list i)))
