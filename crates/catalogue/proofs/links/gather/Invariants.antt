-- The records so far are linked, and linking the others gives the answer.
use Rattle.std.proofs.Common.{◌≡◌, drop, map}
use Rattle.rules.specs.Layout.{read_snapshot}
use Rattle.catalogue.specs.Links.{link_all, gathered}
use Rattle.catalogue.proofs.links.gather.Given as goal

abbrev pub invariant-loop-snapshot : goal.invariant-loop-snapshot
invariant-loop-snapshot l = link_all l.links (map read_snapshot (drop l.snapshot-index l.snapshots)) ≡ gathered (map read_snapshot l.snapshots)
