-- It is asked of the numbers that count.
use Rattle.schema_updates.proofs.Lent.{size_found}
use Rattle.schema_updates.proofs.keys.has_size.Goals as goal

pub returns : goal.returns
returns c = size_found c.args.size c.contains.ensures.value
