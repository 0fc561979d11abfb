-- The first difference is that of the slots which are left.
use Rattle.std.proofs.Common.{◌≡◌, drop}
use Rattle.compare.specs.First.{unlike}
use Rattle.compare.proofs.table.compare_tables.Given as goal

abbrev pub invariant-loop-i : goal.invariant-loop-i
invariant-loop-i g l = unlike (g.T.PartialEq.eq) 0 l.a l.b l.a_count l.b_count ≡ unlike (g.T.PartialEq.eq) l.i (drop l.i l.a) (drop l.i l.b) l.a_count l.b_count
