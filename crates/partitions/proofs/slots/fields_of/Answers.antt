use Rattle.tables.proofs.Each.{partition_fields, tidy_partition_spec}
use Rattle.partitions.proofs.Lent.{lent_back}
use Rattle.partitions.proofs.slots.fields_of.Goals as goal

pub returns-clause-laid : goal.returns-clause-laid
returns-clause-laid c = λ k d b. lent_back partition_fields c.args.spec.now k d b (tidy_partition_spec c.requires)
