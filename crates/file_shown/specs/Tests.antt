-- What is asked of one record of a table.
use Rattle.std.specs.Prelude.{Bool, not, eqb, pos}
use Rattle.rules.specs.Words.{is_some, eq_z}
use Rattle.rules.specs.Register.{Snapshot, NamedRef, FileEntry, SchemaField, PartitionField}
use Rattle.file_rule.specs.Export.{is_utf8}

abbrev pub ref_named : NamedRef → Bool
ref_named r = is_utf8 r.name

abbrev pub owner_shown : NamedRef → Bool
owner_shown r = eqb r.owner 1

abbrev pub entry_named : FileEntry → Bool
entry_named e = is_utf8 e.file

abbrev pub field_named : SchemaField → Bool
field_named f = is_utf8 f.name

abbrev pub partition_named : PartitionField → Bool
partition_named f = is_utf8 f.name

abbrev pub sequence_zero : Snapshot → Bool
sequence_zero s = eq_z s.sequence.0 (pos 0)

abbrev pub rows_none : Snapshot → Bool
rows_none s = not (is_some s.rows)
