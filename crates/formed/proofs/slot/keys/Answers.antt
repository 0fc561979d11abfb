use Rattle.std.proofs.Common.{◌≡◌, ◌≤◌, ◌∙◌, ◌&&◌, ap, sym, length, leb, map, pos, w64, to_z, of_z, arith, rules, true}
use Rattle.std.proofs.lemmas.Grind.{common_steps}
use borrow.Author.Tests.{leb-true}
use lib.ListN.{length-map, get_or-map}
use lib.Seq.{take_all}
use Rattle.rules.specs.Capacities.{snapshot_room}
use Rattle.rules.specs.Blanks.{tidy_slots}
use Rattle.rules.specs.Layout.{pad}
use Rattle.rules.proofs.Checks.{and_left}
use Rattle.tables.proofs.Keyed.{pad_more}
use Rattle.formed.proofs.Filled.{slots_done}
use Rattle.formed.proofs.Gathered.{unpadded}
use Rattle.formed.proofs.slot.keys.Goals as goal

pub loop-i-preserved : goal.loop-i-preserved
loop-i-preserved g c =
    let key = g.T.Keyed.key_of in
    let items = c.args.items.now in
    let i = c.loop-i.i in
    let x = c.index-items-i.result in
    let same = get_or-map key items i x ∙ sym c.key.ensures in
    let z : to_z w64 (of_z w64 c.key.result) ≡ c.key.result = search rules in
    record {
      found = grind (arith, common_steps);
      gathered = rw (z, c.loop-i.invariant.gathered, ← same) (pad_more snapshot_room i (pos 0) (key x) (map key items) (simp length-map (omega arith)) (simp length-map (omega arith)));
    }

pub returns : goal.returns
returns g c =
    let l = c.loop-i in
    let n = c.args.count in
    let items = c.args.items.now in
    let keys = map g.T.Keyed.key_of items in
    let test = tidy_slots g.row.N g.T.Slot.used g.T.Slot.blank items n in
    let done : l.filled ≡ (leb n g.row.N && test) = slots_done g.T.Slot.used g.T.Slot.blank g.row.N n l.i items (leb n g.row.N) (omega arith) (omega arith) l.invariant.found in
    let long : length keys ≤ l.i = simp length-map (omega arith) in
    let all : l.ids ≡ pad snapshot_room (pos 0) keys = l.invariant.gathered ∙ ap (pad snapshot_room (pos 0)) (take_all l.i keys long) in
    unpadded n keys (λ (y : (leb n g.row.N && test) ≡ true). simp length-map (omega (arith, leb-true n g.row.N (and_left (leb n g.row.N) test y)))) (rw (done, all) at c.told.ensures)
