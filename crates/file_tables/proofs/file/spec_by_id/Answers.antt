-- The spec that is found, or one without fields.
use Rattle.std.proofs.Common.{◌≡◌, Bool, List, [], map, refl, ap, ◌∙◌, ℤ}
use mathlib.Core.Option.{Option, none, some}
use Rattle.records.specs.Blanks.{no_partition_field, no_partition_spec}
use Rattle.records.specs.declared.partition.PartitionField.{PartitionField}
use Rattle.records.specs.declared.partition.PartitionSpec.{PartitionSpec}
use Rattle.rules.specs.Words.{eq_z, first, or_else}
use Rattle.rules.specs.Register as plain
use Rattle.rules.specs.Layout.{counted, read_partition_field, read_partition_spec, read_partition_specs}
use Rattle.file_tables.proofs.Tables.{looked, none_counted}
use Rattle.file_tables.proofs.file.spec_by_id.Goals as goal

abbrev has : ℤ → plain.PartitionSpec → Bool
has id s = eq_z s.id id

abbrev fields_of : Option plain.PartitionSpec → List plain.PartitionField
fields_of none = []
fields_of (some s) = s.fields

without_fields : (s : PartitionSpec) → s ≡ no_partition_spec → (read_partition_spec s).fields ≡ []
unfolding no_partition_spec
without_fields s e = rw e (ap (λ (l : List PartitionField). map read_partition_field l) (none_counted no_partition_field no_partition_spec.items))

fields_or : (o : Option plain.PartitionSpec) (s : plain.PartitionSpec) → s.fields ≡ [] → (or_else o s).fields ≡ fields_of o
fields_or none s e = e
fields_or (some x) s e = refl

pub returns : goal.returns
returns c =
    let t = c.args.t in
    ap (λ (s : PartitionSpec). (read_partition_spec s).fields) c.unwrap_or.ensures
    ∙ ap (λ (s : plain.PartitionSpec). s.fields)
    (looked (has c.args.id.0) read_partition_spec c.find_item-held.result c.blank-2.result (counted no_partition_spec t.items t.count) (rw c.blank.ensures at c.find_item-held.ensures))
    ∙ fields_or (first (has c.args.id.0) (read_partition_specs t)) (read_partition_spec c.blank-2.result) (without_fields c.blank-2.result c.blank-2.ensures)
