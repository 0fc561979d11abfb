use Rattle.std.proofs.Common.{◌≡◌, ◌+◌, pos, drop}
use Rattle.rules.specs.SpecUpdates.{is_sequential, first_partition_id}
use Rattle.partitions.proofs.fresh.counts_up.Given as goal

abbrev pub invariant-loop-id : goal.invariant-loop-id
invariant-loop-id l =
    (l.wanted.0 ≡ pos (1000 + l.id-index))
    × (is_sequential first_partition_id l.ids ≡ is_sequential l.wanted.0 (drop l.id-index l.ids))
