use Rattle.std.proofs.Common.{◌≡◌, ◌+◌, Bool, ◌&&◌, not, map, drop}
use Rattle.rules.specs.Register as plain
use Rattle.rules.specs.Words.{any, unequal_by}
use Rattle.rules.specs.Layout.{read_partition_field}
use Rattle.partitions.specs.Slots.{Told}
use Rattle.partitions.proofs.repeats.none_alike.Given as goal

abbrev pub invariant-loop-y : goal.invariant-loop-y
invariant-loop-y g l =
    (same : plain.PartitionField → plain.PartitionField → Bool)
    → Told (goal.F-post g l.alike) same
    → unequal_by same (map read_partition_field l.fields)
    ≡ (not (any (same (read_partition_field l.x)) (map read_partition_field (drop l.y-index l.y-items))) && unequal_by same (map read_partition_field (drop (l.i + 1) l.fields)))

abbrev pub invariant-loop-i : goal.invariant-loop-i
invariant-loop-i g l =
    (same : plain.PartitionField → plain.PartitionField → Bool)
    → Told (goal.F-post g l.alike) same
    → unequal_by same (map read_partition_field l.fields) ≡ unequal_by same (map read_partition_field (drop l.i l.fields))
