use Rattle.tables.proofs.Each.{schema_fields, tidy_schema}
use Rattle.partitions.proofs.Lent.{lent_back}
use Rattle.partitions.proofs.slots.columns_of.Goals as goal

pub returns-clause-laid : goal.returns-clause-laid
returns-clause-laid c = λ k d b. lent_back schema_fields c.args.schema.now k d b (tidy_schema c.requires)
