-- No more is read than there are slots.
use Rattle.std.proofs.Common.{length, ◌-◌, ◌≤◌}
use Rattle.named_files.proofs.whole.fill.Given as goal

abbrev pub invariant-loop-done : goal.invariant-loop-done
invariant-loop-done l = l.done ≤ length l.text

abbrev pub decreases-loop-done : goal.decreases-loop-done
decreases-loop-done l = length l.initial.text - l.done
