-- The version itself, or a value that is passed over.
use Rattle.file_import.proofs.version.take_value.Goals as goal

pub returns-then-found : goal.returns-then-found
returns-then-found c = rw c.if-found.true c.version_at.ensures

pub returns : goal.returns
returns c = rw c.if-found.false c.pass.ensures
