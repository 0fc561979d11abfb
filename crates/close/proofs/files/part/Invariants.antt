-- The entries so far, and blanks after them.
use Rattle.std.proofs.Common.{◌≡◌, take}
use Rattle.records.specs.Blanks.{no_metadata_log_entry}
use Rattle.rules.specs.Capacities.{metadata_log_room}
use Rattle.rules.specs.Layout.{pad}
use Rattle.close.proofs.files.part.Given as goal

abbrev pub invariant-loop-i : goal.invariant-loop-i
invariant-loop-i l = l.part.items ≡ pad metadata_log_room no_metadata_log_entry (take l.i l.entry-items)
