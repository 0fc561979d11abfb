-- The state's pieces, as the code is given them: the columns of the current schema, and the table.
use mathlib.Core.Path.{◌≡◌, sym, ap, ◌∙◌}
use mathlib.Core.List.{List, []}
use mathlib.Core.Option.{Option, none, some}
use Rattle.records.specs.declared.partition.PartitionSpecs.{PartitionSpecs}
use Rattle.records.specs.declared.schema.Schema.{Schema}
use Rattle.rules.specs.Register as plain
use Rattle.rules.specs.SpecUpdates.{current_fields}
use Rattle.rules.specs.Layout.{read_schema, read_partition_specs, laid_partition_specs}
use Rattle.rules.proofs.Slots.Reread.{reread_partition_specs}
use Rattle.builder.specs.Pieces.{IsCurrent}

abbrev fields_of : Option plain.Schema → List plain.SchemaField
fields_of o = elim o [ none ↦ [] | some s ↦ s.fields ]

pub columns : (m : plain.Metadata) (s : Schema) → IsCurrent m s → (read_schema s).fields ≡ current_fields m
columns m s r = sym (ap fields_of r)

pub specs_read : (l : List plain.PartitionSpec) {t : PartitionSpecs} → t ≡ laid_partition_specs l → read_partition_specs t ≡ l
specs_read l q = ap read_partition_specs q ∙ reread_partition_specs l
