use Rattle.std.proofs.Common.{◌≡◌, ℕ, ◌≤◌, ◌++◌, SFits, pos, map, take, drop, length, get_or}
use Rattle.std.specs.Int.{w32}
use Rattle.rules.specs.Register.{PartitionField}
use Rattle.rules.specs.Words.{collect}
use Rattle.rules.specs.Partitions.{partition_ids}
use Rattle.rules.specs.Layout.{read_partition_field, read_partition_spec}
use Rattle.partitions.specs.Gathered.{laid_ids}
use Rattle.partitions.proofs.fresh.given_ids.Given as goal

abbrev pub invariant-loop-field : goal.invariant-loop-field
invariant-loop-field l =
    record {
      laid : l.given ≡ laid_ids (take l.given.count l.given.ids);
      value : partition_ids (read_partition_spec l.fn.p) ≡ take l.given.count l.given.ids ++ collect (λ (f : PartitionField). f.id) (map read_partition_field (drop l.field-index l.field-items));
      short : l.given.count ≤ l.field-index;
      fits : (k : ℕ) → SFits w32 (get_or l.given.ids k (pos 0));
    }
