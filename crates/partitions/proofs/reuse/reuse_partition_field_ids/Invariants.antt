-- The fields before `i` have their given or reused ids, and the others stay as they are.
use Rattle.std.proofs.Common.{◌≡◌, map}
use Rattle.records.specs.Blanks.{no_partition_field}
use Rattle.rules.specs.Capacities.{partition_field_room}
use Rattle.rules.specs.Layout.{read_partition_field, laid_partition_field, read_partition_specs}
use Rattle.partitions.proofs.Overwritten.{overwritten}
use Rattle.partitions.proofs.Reused.{reused_as}
use Rattle.partitions.proofs.reuse.reuse_partition_field_ids.Given as goal

abbrev pub invariant-loop-i : goal.invariant-loop-i
invariant-loop-i l = l.items ≡ overwritten laid_partition_field partition_field_room no_partition_field (map (reused_as (read_partition_specs l.fn.t)) (map read_partition_field l.fields)) (map read_partition_field l.fields) l.i
