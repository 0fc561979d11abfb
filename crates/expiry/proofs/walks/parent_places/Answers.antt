use Rattle.std.proofs.Common.{◌≡◌, pos, get_or, length, arith}
use borrow.Author.Rules.{sfits_of}
use mir.Facts.{to_z-of_z}
use lib.ListN.{length-map}
use Rattle.rules.specs.Capacities.{snapshot_room}
use Rattle.tables.proofs.Keyed.{pad_more}
use Rattle.expiry.specs.Found.{place_in, parent_places}
use Rattle.expiry.proofs.Slots.{map_at}
use Rattle.expiry.proofs.walks.parent_places.Goals as goal

pub loop-i-preserved : goal.loop-i-preserved
loop-i-preserved c =
    let ids = c.args.ids.now in
    let parents = c.args.parents.now in
    let long : length (parent_places ids parents) ≡ length parents = length-map parents (place_in ids) in
    let e : c.position_ascending.result ≡ place_in ids (get_or parents c.loop-i.i (pos 0)) = rw (to_z-of_z (sfits_of c.position_ascending-arg-1.given)) at c.position_ascending.ensures in
    rw (c.loop-i.invariant, e, ← map_at 0 (place_in ids) (pos 0) parents c.loop-i.i c.loop-i-test.true)
    (pad_more snapshot_room c.loop-i.i 0 0 (parent_places ids parents) (omega (arith, long, c.loop-i-test.true)) (omega (arith, long, c.requires.room, c.requires.pairs)))
