-- The slots up to `i` have what they shall have, and the others what they had.
use Rattle.std.proofs.Common.{map}
use Rattle.records.specs.Blanks.{no_metadata_log_entry}
use Rattle.rules.specs.Layout.{laid_metadata_log_entry, read_metadata_log}
use Rattle.close.proofs.Moved.{Moved}
use Rattle.close.proofs.files.moved.Given as goal

abbrev pub invariant-loop-i : goal.invariant-loop-i
invariant-loop-i l = Moved 128 no_metadata_log_entry (map laid_metadata_log_entry (read_metadata_log l.fn.log)) l.gone l.i l.log.items
