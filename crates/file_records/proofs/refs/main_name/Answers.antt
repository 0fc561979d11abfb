-- Its four bytes.
use Rattle.std.proofs.Common.{refl}
use Rattle.rules.specs.Layout.{laid_name}
use Rattle.file_records.proofs.refs.main_name.Goals as goal

pub returns : goal.returns
unfolding laid_name
returns c = rw c.copy_from_slice.ensures.after refl
