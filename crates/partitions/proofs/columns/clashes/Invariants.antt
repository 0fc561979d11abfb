use Rattle.std.proofs.Common.{◌≡◌, map, drop}
use Rattle.rules.specs.Words.{any}
use Rattle.rules.specs.SpecUpdates.{clashes_with}
use Rattle.rules.specs.Layout.{read_schema_field, read_schema, read_partition_field}
use Rattle.partitions.proofs.columns.clashes.Given as goal

abbrev pub invariant-loop-column : goal.invariant-loop-column
invariant-loop-column l = any (clashes_with (read_partition_field l.field)) (read_schema l.fn.schema).fields ≡ any (clashes_with (read_partition_field l.field)) (map read_schema_field (drop l.column-index l.column-items))
