use Rattle.std.proofs.Common.{arith}
use Rattle.records.specs.Blanks.{no_partition_spec}
use Rattle.rules.specs.WellFormed.{spec_formed}
use Rattle.rules.specs.Blanks.{is_tidy_partition_spec, is_blank_partition_spec, is_tidy_partition_specs}
use Rattle.rules.specs.Capacities.{spec_room}
use Rattle.rules.specs.Layout.{read_partition_spec}
use Rattle.formed.proofs.Gathered.{found_read}
use Rattle.formed.proofs.slots.spec_keys.Goals as goal

pub returns : goal.returns
unfolding is_tidy_partition_specs
returns c =
    let t = c.args.t in
    found_read read_partition_spec is_tidy_partition_spec spec_formed is_blank_partition_spec (λ x. x.id) no_partition_spec spec_room t.count t.items (omega arith) c.keys.ensures
