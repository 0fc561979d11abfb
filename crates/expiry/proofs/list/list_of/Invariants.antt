use Rattle.std.proofs.Common.{◌≡◌, map, take}
use Rattle.records.specs.Blanks.{no_update}
use Rattle.rules.specs.Capacities.{list_room}
use Rattle.rules.specs.Walk.{snapshot_ids}
use Rattle.rules.specs.Layout.{pad, read_refs, read_snapshots}
use Rattle.rules.specs.Kinds.{laid_update}
use Rattle.expiry.specs.List.{list_of}
use Rattle.expiry.proofs.list.list_of.Given as goal

abbrev pub invariant-loop-place : goal.invariant-loop-place
invariant-loop-place l = l.items ≡ pad list_room no_update (take l.place (map laid_update (list_of (read_refs l.refs_gone) (snapshot_ids (read_snapshots l.gone)))))
