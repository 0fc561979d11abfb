-- Up to `i`, the ids of the fields stand in the offer.
use Rattle.std.proofs.Common.{◌≡◌, map, take}
use Rattle.records.specs.Blanks.{no_offered_id}
use Rattle.rules.specs.Capacities.{partition_field_room}
use Rattle.rules.specs.Layout.{pad}
use Rattle.partitions.proofs.Offered.{id_in}
use Rattle.partitions.proofs.offer.logged_offer.Given as goal

abbrev pub invariant-loop-i : goal.invariant-loop-i
invariant-loop-i l = l.ids ≡ pad partition_field_room no_offered_id (take l.i (map id_in l.fields))
