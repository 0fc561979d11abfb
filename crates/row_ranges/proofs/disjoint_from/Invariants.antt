-- The range is disjoint from all exactly if it is from those that are left.
use Rattle.std.proofs.Common.{◌≡◌, drop, map}
use Rattle.rules.specs.Words.{all}
use Rattle.rules.specs.Layout.{read_snapshot}
use Rattle.rules.specs.Rows.{rows_disjoint}
use Rattle.row_ranges.proofs.disjoint_from.Given as goal

abbrev pub invariant-loop-b : goal.invariant-loop-b
invariant-loop-b l =
    all (rows_disjoint (read_snapshot l.a)) (map read_snapshot l.others) ≡ all (rows_disjoint (read_snapshot l.a)) (map read_snapshot (drop l.b-index l.others))
