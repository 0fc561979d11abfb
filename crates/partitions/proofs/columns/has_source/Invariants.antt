use Rattle.std.proofs.Common.{◌≡◌, map, drop}
use Rattle.rules.specs.Words.{any}
use Rattle.rules.specs.SpecUpdates.{is_source}
use Rattle.rules.specs.Layout.{read_schema_field, read_schema, read_partition_field}
use Rattle.partitions.proofs.columns.has_source.Given as goal

abbrev pub invariant-loop-column : goal.invariant-loop-column
invariant-loop-column l = any (is_source (read_partition_field l.field)) (read_schema l.fn.schema).fields ≡ any (is_source (read_partition_field l.field)) (map read_schema_field (drop l.column-index l.column-items))
