use Rattle.tables.proofs.Each.{schemas, schema_at_lem}
use Rattle.tables.specs.Laid.{LaidSchema}
use Rattle.partitions.proofs.Lent.{in_use, of_lent}
use Rattle.partitions.proofs.slots.schemas_of.Goals as goal

pub returns-clause-laid : goal.returns-clause-laid
returns-clause-laid c = λ k d b. of_lent schemas c.args.schemas.now k d b LaidSchema (schema_at_lem c.requires k d (in_use schemas c.args.schemas.now k d b))
