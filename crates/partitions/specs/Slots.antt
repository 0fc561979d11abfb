-- Slots that are in use: each is laid out from what is read of it.
use Rattle.std.specs.Prelude.{ℕ, ◌<◌, ◌≡◌, Bool, List, length, get_or}
use Rattle.records.specs.declared.partition.PartitionField.{PartitionField}
use Rattle.records.specs.declared.partition.PartitionSpec.{PartitionSpec}
use Rattle.records.specs.declared.schema.Schema.{Schema}
use Rattle.records.specs.declared.schema.SchemaField.{SchemaField}
use Rattle.rules.specs.Register as plain
use Rattle.rules.specs.Layout.{read_schema_field, laid_schema_field, read_partition_field, laid_partition_field}
use Rattle.tables.specs.Laid.{LaidSchema, LaidSpec}

abbrev pub LaidField : PartitionField → Type 0
LaidField f = laid_partition_field (read_partition_field f) ≡ f

abbrev pub LaidFields : List PartitionField → Type 0
LaidFields l = (k : ℕ) (d : PartitionField) → k < length l → LaidField (get_or l k d)

abbrev pub LaidSpecSlots : List PartitionSpec → Type 0
LaidSpecSlots l = (k : ℕ) (d : PartitionSpec) → k < length l → LaidSpec (get_or l k d)

abbrev pub LaidColumn : SchemaField → Type 0
LaidColumn f = laid_schema_field (read_schema_field f) ≡ f

abbrev pub LaidColumns : List SchemaField → Type 0
LaidColumns l = (k : ℕ) (d : SchemaField) → k < length l → LaidColumn (get_or l k d)

abbrev pub LaidSchemaSlots : List Schema → Type 0
LaidSchemaSlots l = (k : ℕ) (d : Schema) → k < length l → LaidSchema (get_or l k d)

-- what a test of two fields answers is what a relation says of what is read of them
abbrev pub Told : (PartitionField → PartitionField → Bool → Type 0) → (plain.PartitionField → plain.PartitionField → Bool) → Type 0
Told answers same = (x y : PartitionField) (r : Bool) → LaidField x → LaidField y → answers x y r → r ≡ same (read_partition_field x) (read_partition_field y)
