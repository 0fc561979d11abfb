-- From the start on the numbers that were looked at are taken.
use Rattle.std.proofs.Math.IntN.{suc_ℤ}
use Rattle.partitions.proofs.Free.{Passed}
use Rattle.partitions.proofs.fresh.next_free.Given as goal

abbrev pub invariant-loop : goal.invariant-loop
invariant-loop l = Passed l.taken (suc_ℤ l.fn.after.0) l.key.0 l.index
