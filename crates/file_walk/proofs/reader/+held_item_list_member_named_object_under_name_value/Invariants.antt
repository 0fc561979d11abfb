-- The readers of a value, of a list and of an object, each by the one below it: the measure falls with the brackets that may still be opened.
use Prim.Native.Nat.{◌+◌, ◌*◌, ◌-◌}
use lib.ListN.{length}
use Rattle.file_walk.proofs.ListWalks.{Listing, left}
use Rattle.file_walk.proofs.ObjectWalks.{Membering}
use Rattle.file_walk.proofs.NamedWalks.{Naming}
use Rattle.file_walk.proofs.reader.+held_item_list_member_named_object_under_name_value.Given as goal

abbrev pub decreases-held : goal.decreases-held
decreases-held l = 4 * (17 - l.depth) + 2

abbrev pub decreases-item : goal.decreases-item
decreases-item l = 4 * (17 - l.depth) + 1

abbrev pub decreases-list : goal.decreases-list
decreases-list l = 4 * (17 - l.depth) + 2

abbrev pub decreases-member : goal.decreases-member
decreases-member l = 4 * (17 - l.depth) + 1

abbrev pub decreases-named : goal.decreases-named
decreases-named l = 4 * (17 - l.depth) + 2

abbrev pub decreases-object : goal.decreases-object
decreases-object l = 4 * (17 - l.depth) + 3

abbrev pub decreases-under_name : goal.decreases-under_name
decreases-under_name l = 4 * (17 - l.depth) + 1

abbrev pub decreases-value : goal.decreases-value
decreases-value l = 4 * (17 - l.depth)

abbrev pub invariant-held-loop-s : goal.invariant-held-loop-s
invariant-held-loop-s l = Membering l.bytes l.version l.kind l.inner l.base l.depth l.initial.s l.initial.cells l.s l.cells l.seen

abbrev pub decreases-held-loop-s : goal.decreases-held-loop-s
decreases-held-loop-s l = left (length l.bytes) l.s

abbrev pub invariant-list-loop-s : goal.invariant-list-loop-s
invariant-list-loop-s l = Listing l.bytes l.version l.each l.room l.schema l.base l.depth l.first l.initial.s l.initial.cells l.s l.cells

abbrev pub decreases-list-loop-s : goal.decreases-list-loop-s
decreases-list-loop-s l = left (length l.bytes) l.s

abbrev pub invariant-named-loop-s : goal.invariant-named-loop-s
invariant-named-loop-s l = Naming l.bytes l.version l.each l.room l.schema l.base l.depth l.first l.initial.s l.initial.cells l.s l.cells l.places

abbrev pub decreases-named-loop-s : goal.decreases-named-loop-s
decreases-named-loop-s l = left (length l.bytes) l.s
