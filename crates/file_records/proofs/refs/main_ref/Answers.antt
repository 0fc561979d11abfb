-- Its name, and where it points.
use Rattle.rules.specs.Layout.{laid_reference, laid_ref}
use Rattle.file_records.proofs.refs.main_ref.Goals as goal

pub returns : goal.returns
unfolding laid_reference laid_ref
returns c = rw (c.blank-reference.ensures, c.main_name.ensures)
