use Rattle.std.proofs.Common.{◌≡◌, ◌+◌, drop}
use Rattle.rules.specs.Words.{same_list}
use Rattle.rules.specs.Partitions.{same_partition}
use Rattle.rules.specs.Layout.{read_partition_spec}
use Rattle.search.specs.Places.{index_of}
use Rattle.tables.proofs.partition_specs.find_equal.Given as goal

abbrev pub invariant-loop-i : goal.invariant-loop-i
invariant-loop-i l =
    index_of (λ x. same_list same_partition (read_partition_spec x).fields (read_partition_spec l.s).fields) l.held-items
    ≡ l.i + index_of (λ x. same_list same_partition (read_partition_spec x).fields (read_partition_spec l.s).fields) (drop l.i l.held-items)
