-- A partition field with the id that its position gives it where it has none.
use Rattle.std.specs.Prelude.{ℕ, ◌+◌, pos}
use Rattle.std.proofs.Math.Option.{some}
use Rattle.rules.specs.Words.{or_else}
use Rattle.rules.specs.Register.{PartitionField}

abbrev pub placed : ℕ → PartitionField → PartitionField
placed n f = record { source = f.source; id = some (or_else f.id (pos (1000 + n))); transform = f.transform; buckets = f.buckets; name = f.name }
