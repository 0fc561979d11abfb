use Rattle.std.proofs.Common.{◌≡◌, map, drop}
use Rattle.rules.specs.Words.{lesser, smallest}
use Rattle.rules.specs.SpecUpdates.{like_ids, fields_of_all}
use Rattle.rules.specs.Layout.{read_partition_field, read_partition_spec, read_partition_specs}
use Rattle.partitions.specs.Options.{read_id}
use Rattle.partitions.proofs.reuse.smallest_like.Given as goal

abbrev pub invariant-loop-spec : goal.invariant-loop-spec
invariant-loop-spec l = smallest (like_ids (fields_of_all (read_partition_specs l.fn.t)) (read_partition_field l.f)) ≡ lesser (read_id l.best) (smallest (like_ids (fields_of_all (map read_partition_spec (drop l.spec-index l.spec-items))) (read_partition_field l.f)))
