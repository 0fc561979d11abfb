-- Two fields of a spec that have one id.
use Rattle.std.specs.Prelude.{Bool}
use Rattle.rules.specs.Words.{eq_z, some_with}
use Rattle.rules.specs.Register.{PartitionField}

abbrev pub same_id : PartitionField → PartitionField → Bool
same_id a b = some_with (λ x. some_with (eq_z x) b.id) a.id
