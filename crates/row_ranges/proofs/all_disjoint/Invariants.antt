-- Each two are disjoint exactly if each two of those that are left are.
use Rattle.std.proofs.Common.{◌≡◌, drop, map}
use Rattle.rules.specs.Words.{each_pair}
use Rattle.rules.specs.Layout.{read_snapshot}
use Rattle.rules.specs.Rows.{rows_disjoint}
use Rattle.row_ranges.proofs.all_disjoint.Given as goal

abbrev pub invariant-loop-i : goal.invariant-loop-i
invariant-loop-i l = each_pair rows_disjoint (map read_snapshot l.snapshots) ≡ each_pair rows_disjoint (map read_snapshot (drop l.i l.snapshots))
