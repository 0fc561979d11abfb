use Rattle.rules.specs.Layout.{laid_fields}
use Rattle.builder.specs.Pieces.{laid_builder}
use Rattle.ref_updates.proofs.without_current.Goals as goal

pub returns : goal.returns
unfolding laid_builder laid_fields
returns c st e = rw e
