use Rattle.std.proofs.Common.{◌≡◌, map, drop}
use Rattle.rules.specs.Words.{lesser, smallest}
use Rattle.rules.specs.SpecUpdates.{like_ids}
use Rattle.rules.specs.Layout.{read_partition_field, read_partition_spec}
use Rattle.partitions.specs.Options.{read_id}
use Rattle.partitions.proofs.reuse.smallest_in.Given as goal

abbrev pub invariant-loop-old : goal.invariant-loop-old
invariant-loop-old l = smallest (like_ids (read_partition_spec l.fn.spec).fields (read_partition_field l.f)) ≡ lesser (read_id l.best) (smallest (like_ids (map read_partition_field (drop l.old-index l.old-items)) (read_partition_field l.f)))
