-- An id that may be absent, as the rules have it.
use Rattle.std.specs.Prelude.{Option, Some, None, ℤ}
use Rattle.std.proofs.Math.Option as plain
use Rattle.std.proofs.Math.Option.{none, some}
use Rattle.records.specs.declared.counters.FieldId.{FieldId}

abbrev pub read_id : Option FieldId → plain.Option ℤ
read_id None = none
read_id (Some id) = some id.0
