-- From `i` on no entry's snapshot is missing.
use Rattle.std.proofs.Common.{◌≡◌, false, drop}
use Rattle.rules.specs.Words.{any}
use Rattle.rules.specs.Layout.{read_snapshot_log}
use Rattle.close.specs.Facts.{is_gone}
use Rattle.close.proofs.history.after_last_missing.Given as goal

abbrev pub invariant-loop-i : goal.invariant-loop-i
invariant-loop-i l = any (is_gone l.ids) (drop l.i (read_snapshot_log l.fn.log)) ≡ false
