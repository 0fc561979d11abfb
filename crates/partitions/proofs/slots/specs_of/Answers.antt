use Rattle.tables.proofs.Each.{partition_specs, spec_at_lem}
use Rattle.tables.specs.Laid.{LaidSpec}
use Rattle.partitions.proofs.Lent.{in_use, of_lent}
use Rattle.partitions.proofs.slots.specs_of.Goals as goal

pub returns-clause-laid : goal.returns-clause-laid
returns-clause-laid c = λ k d b. of_lent partition_specs c.args.specs.now k d b LaidSpec (spec_at_lem c.requires k d (in_use partition_specs c.args.specs.now k d b))
