-- What is kept of it, and zeros behind it.
use Rattle.std.proofs.Common.{refl, arith}
use Rattle.file_records.proofs.Texts.{name_copied}
use Rattle.file_records.proofs.text.name_of.Goals as goal

pub returns : goal.returns
returns c = rw c.copy_from_slice.ensures.after (name_copied c.args.kept.now c.args.len (omega arith) refl)
