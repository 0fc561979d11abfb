-- The names of fields that are laid out.
use Rattle.std.proofs.Common.{◌≡◌, ap}
use Rattle.records.specs.declared.text.Name.{Name}
use Rattle.records.specs.declared.schema.SchemaField.{SchemaField}
use Rattle.records.specs.declared.partition.PartitionField.{PartitionField}
use Rattle.rules.specs.Words.{same_bytes}
use Rattle.rules.specs.Layout.{read_name, laid_name, laid_schema_field, laid_partition_field}
use Rattle.equality.specs.Same.{same_name}
use Rattle.equality.proofs.Told.{names_alike}
use Rattle.partitions.specs.Slots.{LaidColumn, LaidField}

pub column_name : {f : SchemaField} → LaidColumn f → laid_name (read_name f.name) ≡ f.name
unfolding laid_schema_field
column_name h = ap (λ (f : SchemaField). f.name) h

pub field_name : {f : PartitionField} → LaidField f → laid_name (read_name f.name) ≡ f.name
unfolding laid_partition_field
field_name h = ap (λ (f : PartitionField). f.name) h

-- a name beside that of a column or of a field
pub column_named : (f : SchemaField) (n : Name) → LaidColumn f → laid_name (read_name n) ≡ n → same_name f.name n ≡ same_bytes (read_name f.name) (read_name n)
column_named f n h e = names_alike f.name n (column_name h) e

pub field_named : (f : PartitionField) (n : Name) → LaidField f → laid_name (read_name n) ≡ n → same_name f.name n ≡ same_bytes (read_name f.name) (read_name n)
field_named f n h e = names_alike f.name n (field_name h) e
