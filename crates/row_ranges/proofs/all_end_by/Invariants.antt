-- All end by it exactly if those that are left do.
use Rattle.std.proofs.Common.{◌≡◌, drop, map}
use Rattle.rules.specs.Words.{all}
use Rattle.rules.specs.Layout.{read_snapshot}
use Rattle.rules.specs.Rows.{rows_end_by}
use Rattle.row_ranges.proofs.all_end_by.Given as goal

abbrev pub invariant-loop-s : goal.invariant-loop-s
invariant-loop-s l = all (rows_end_by l.next.0) (map read_snapshot l.snapshots) ≡ all (rows_end_by l.next.0) (map read_snapshot (drop l.s-index l.snapshots))
