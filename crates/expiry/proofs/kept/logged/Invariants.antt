use Rattle.std.proofs.Common.{◌≡◌, take}
use Rattle.rules.specs.Layout.{read_snapshot_log}
use Rattle.expiry.specs.Answer.{no_reason}
use Rattle.expiry.specs.Found.{slotted}
use Rattle.expiry.proofs.Logged.{told}
use Rattle.expiry.proofs.kept.logged.Given as goal

abbrev pub invariant-loop-entry : goal.invariant-loop-entry
invariant-loop-entry l = l.stays ≡ slotted no_reason (told (take l.entry-index (read_snapshot_log l.fn.log))) l.ids
