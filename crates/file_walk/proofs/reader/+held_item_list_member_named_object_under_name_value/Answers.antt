-- The readers of a value, of a list and of an object, each by the one below it.
use Prim.Native.Nat.{ℕ, ◌+◌}
use mathlib.Core.Path.{refl, sym, ap, ◌∙◌}
use lib.Dec.{eqb}
use lib.ListN.{length}
use native.Mathlib.Omega.{arith}
use borrow.Author.Tests.{ne_eqb}
use Rattle.json_rule.specs.Defects.{stands_at}
use Rattle.file_cells.specs.Wants.{stands_at_schema}
use Rattle.file_walk.specs.declared.seat.Seat.{Seat}
use Rattle.file_walk.specs.Seats.{refused}
use Rattle.file_walk.specs.Outcomes.{misplaced_number}
use Rattle.file_walk.proofs.ListWalks.{fewer, listing_more, list_begins, list_ends, may_turn, may_item, item_ends, item_goes}
use Rattle.file_walk.proofs.MemberWalks.{member_cut, may_value, member_ends, member_goes}
use Rattle.file_walk.proofs.NamedWalks.{naming_begins, naming_more, naming_ends, may_name, plain_named, may_value as may_named_value, named_ends, named_goes}
use Rattle.file_walk.proofs.ObjectWalks.{membering_more, may_member, object_begins, object_ends}
use Rattle.file_walk.proofs.Rows.{offset_small}
use Rattle.file_walk.proofs.ValueSteps.{mark_first}
use Rattle.file_walk.proofs.ValueWalks.{deep_list, deep_object, may_enter, by_list, by_object, by_scalar}
use Rattle.file_walk.proofs.Wanted.{room_small}
use Rattle.file_walk.proofs.reader.+held_item_list_member_named_object_under_name_value.Goals as goal

pub held-loop-s-init : goal.held-loop-s-init
held-loop-s-init t c =
    object_begins c.args.bytes.now c.args.version c.args.want c.args.schema c.args.base c.args.depth c.args.first c.args.seat c.args.cells.now c.requires.0 c.requires.1 c.record_of-kind.result c.inner_place-inner.result c.record_of-kind.ensures c.inner_place-inner.ensures c.placed.result (c.placed.ensures ∙ ap (λ (k : ℕ). refused (misplaced_number c.args.want k) (stands_at (stands_at_schema c.args.want) c.args.schema c.args.first) c.args.seat) c.record_flag.ensures) c.next-t.result _ c.next-t.ensures c.begun-s.result c.begun-s.ensures _ refl

pub held-member-s-requires : goal.held-member-s-requires
held-member-s-requires t c =
    (omega (arith, c.decreases), may_member c.args.bytes.now c.args.version c.record_of-kind.result c.args.want c.inner_place-inner.result c.args.base c.args.depth c.args.seat _ _ c.loop-s.s _ _ c.requires.0 c.loop-s.invariant c.loop-s-test.true)

pub held-loop-s-smaller : goal.held-loop-s-smaller
held-loop-s-smaller t c =
    fewer (length c.args.bytes.now) c.loop-s.s c.member-s.result c.loop-s-test.true c.member-s.ensures.later c.member-s.ensures.fits

pub held-loop-s-preserved : goal.held-loop-s-preserved
held-loop-s-preserved t c =
    membering_more c.args.bytes.now c.args.version c.record_of-kind.result c.inner_place-inner.result c.args.base c.args.depth _ _ c.loop-s.s _ _ c.member-s.result _ _ c.loop-s.invariant c.loop-s-test.true c.member-s.ensures

pub held-returns : goal.held-returns
held-returns t c =
    object_ends c.args.bytes.now c.args.version c.args.want c.args.schema c.args.base c.args.depth c.args.first c.args.seat c.args.cells.now c.requires.0 c.requires.1 c.record_of-kind.result c.inner_place-inner.result c.record_of-kind.ensures c.inner_place-inner.ensures c.placed.result (c.placed.ensures ∙ ap (λ (k : ℕ). refused (misplaced_number c.args.want k) (stands_at (stands_at_schema c.args.want) c.args.schema c.args.first) c.args.seat) c.record_flag.ensures) c.next-t.result _ c.next-t.ensures c.begun-s.result c.begun-s.ensures c.loop-s.s _ _ c.refuse.result c.loop-s.invariant c.loop-s-test.false (c.refuse.ensures ∙ ap (λ (k : ℕ). refused k c.args.first c.loop-s.s) c.lack_number.ensures)

pub item-value-v-requires : goal.item-value-v-requires
item-value-v-requires t c =
    (omega (arith, c.decreases), may_item c.args.bytes.now c.args.each c.args.room c.args.base c.args.depth c.args.seat c.item_cells-place.result c.requires c.item_cells-place.ensures)

pub item-returns-then-s-ne-READ : goal.item-returns-then-s-ne-READ
item-returns-then-s-ne-READ t c =
    item_ends c.args.bytes.now c.args.version c.args.each c.args.room c.args.schema c.args.base c.args.depth c.args.first c.args.seat c.args.cells.now c.requires c.item_cells-place.result c.item_cells-place.ensures c.value-v.result _ c.value-v.ensures c.counted-s.result c.counted-s.ensures c.if-s-ne-READ.true

pub item-returns : goal.item-returns
item-returns t c =
    item_goes c.args.bytes.now c.args.version c.args.each c.args.room c.args.schema c.args.base c.args.depth c.args.first c.args.seat c.args.cells.now c.requires c.item_cells-place.result c.item_cells-place.ensures c.value-v.result _ c.value-v.ensures c.counted-s.result c.counted-s.ensures c.if-s-ne-READ.false c.next-t.result _ c.next-t.ensures c.after_one.result c.after_one.ensures

pub list-loop-s-init : goal.list-loop-s-init
list-loop-s-init t c =
    list_begins c.args.bytes.now c.args.version c.args.want c.args.schema c.args.base c.args.depth c.args.first c.args.seat c.args.cells.now c.requires c.item_of-each.result c.room_of-room.result c.item_of-each.ensures c.room_of-room.ensures c.placed.result c.placed.ensures c.next-t.result _ c.next-t.ensures c.begun-s.result c.begun-s.ensures

pub list-item-s-requires : goal.list-item-s-requires
list-item-s-requires t c =
    (omega (arith, c.decreases), may_turn c.args.bytes.now c.args.version c.args.want c.args.schema c.args.base c.args.depth c.args.first c.args.seat c.item_of-each.result c.room_of-room.result _ _ c.loop-s.s _ c.requires c.item_of-each.ensures c.room_of-room.ensures c.loop-s.invariant)

pub list-loop-s-smaller : goal.list-loop-s-smaller
list-loop-s-smaller t c =
    fewer (length c.args.bytes.now) c.loop-s.s c.item-s.result c.loop-s-test.true c.item-s.ensures.later c.item-s.ensures.fits

pub list-loop-s-preserved : goal.list-loop-s-preserved
list-loop-s-preserved t c =
    listing_more c.args.bytes.now c.args.version c.item_of-each.result c.room_of-room.result c.args.schema c.args.base c.args.depth c.args.first _ _ c.loop-s.s _ c.item-s.result _ c.loop-s.invariant c.loop-s-test.true c.item-s.ensures

pub list-put_count-requires : goal.list-put_count-requires
list-put_count-requires t c =
    omega (arith, c.loop-s.invariant.counts, c.room_of-room.ensures, room_small c.args.want)

pub list-returns : goal.list-returns
list-returns t c =
    list_ends c.args.bytes.now c.args.version c.args.want c.args.schema c.args.base c.args.depth c.args.first c.args.seat c.args.cells.now c.requires c.item_of-each.result c.room_of-room.result c.item_of-each.ensures c.room_of-room.ensures c.placed.result c.placed.ensures c.next-t.result _ c.next-t.ensures c.begun-s.result c.begun-s.ensures c.loop-s.s _ _ _ c.loop-s.invariant c.loop-s-test.false refl c.put_count.ensures

pub member-returns-then-e-ne-GOES_ON : goal.member-returns-then-e-ne-GOES_ON
member-returns-then-e-ne-GOES_ON t c =
    member_cut c.args.bytes.now c.args.version c.args.kind c.args.schema c.args.base c.args.depth c.args.seat c.args.cells.now c.args.seen.now c.name-e.result _ c.name-e.ensures c.if-e-ne-GOES_ON.true

pub member-overflow_add-base : goal.member-overflow_add-base
member-overflow_add-base t c =
    let m = c.requires in rw c.offset_of.ensures (record { fits = omega (arith, offset_small c.name-e.result.spot, m.low, m.shallow) })

pub member-value-v-requires : goal.member-value-v-requires
member-value-v-requires t c =
    (omega (arith, c.decreases), may_value c.args.bytes.now c.args.version c.args.base c.args.depth c.args.seat c.name-e.result c.want_of.result _ c.requires c.name-e.ensures.fits c.want_of.ensures (ap (λ (k : ℕ). c.args.base + k) c.offset_of.ensures))

pub member-returns-then-s-ne-READ : goal.member-returns-then-s-ne-READ
member-returns-then-s-ne-READ t c =
    member_ends c.args.bytes.now c.args.version c.args.kind c.args.schema c.args.base c.args.depth c.args.seat c.args.cells.now c.args.seen.now c.name-e.result _ c.name-e.ensures c.if-e-ne-GOES_ON.false c.want_of.result _ c.want_of.ensures (ap (λ (k : ℕ). c.args.base + k) c.offset_of.ensures) c.value-v.result _ c.value-v.ensures c.settled-s.result c.settled-s.ensures c.if-s-ne-READ.true

pub member-returns : goal.member-returns
member-returns t c =
    member_goes c.args.bytes.now c.args.version c.args.kind c.args.schema c.args.base c.args.depth c.args.seat c.args.cells.now c.args.seen.now c.name-e.result _ c.name-e.ensures c.if-e-ne-GOES_ON.false c.want_of.result _ c.want_of.ensures (ap (λ (k : ℕ). c.args.base + k) c.offset_of.ensures) c.value-v.result _ c.value-v.ensures c.settled-s.result c.settled-s.ensures c.if-s-ne-READ.false c.next-t.result _ c.next-t.ensures c.after_one.result c.after_one.ensures

pub named-loop-s-init : goal.named-loop-s-init
named-loop-s-init t c =
    naming_begins c.args.bytes.now c.args.version c.args.want c.args.schema c.args.base c.args.depth c.args.first c.args.seat c.args.cells.now c.requires c.named_of-each.result c.room_of-room.result c.named_of-each.ensures c.room_of-room.ensures c.next-t.result _ c.next-t.ensures c.begun-s.result c.begun-s.ensures _

pub named-under_name-s-requires : goal.named-under_name-s-requires
named-under_name-s-requires t c =
    (omega (arith, c.decreases), may_name c.args.bytes.now c.args.version c.args.want c.args.schema c.args.base c.args.depth c.args.first c.args.seat c.args.cells.now c.requires c.named_of-each.result c.room_of-room.result c.named_of-each.ensures c.room_of-room.ensures c.next-t.result _ c.next-t.ensures c.begun-s.result c.begun-s.ensures c.loop-s.s _ _ c.loop-s.invariant)

pub named-loop-s-smaller : goal.named-loop-s-smaller
named-loop-s-smaller t c =
    fewer (length c.args.bytes.now) c.loop-s.s c.under_name-s.result c.loop-s-test.true c.under_name-s.ensures.later c.under_name-s.ensures.fits

pub named-loop-s-preserved : goal.named-loop-s-preserved
named-loop-s-preserved t c =
    naming_more c.args.bytes.now c.args.version c.named_of-each.result c.room_of-room.result c.args.schema c.args.base c.args.depth c.args.first c.begun-s.result c.args.cells.now c.loop-s.s _ _ c.under_name-s.result _ _ (plain_named c.args.bytes.now c.args.version c.args.want c.args.schema c.args.base c.args.depth c.args.first c.args.seat c.args.cells.now c.requires c.named_of-each.result c.room_of-room.result c.named_of-each.ensures c.room_of-room.ensures c.next-t.result _ c.next-t.ensures c.begun-s.result c.begun-s.ensures) c.loop-s.invariant c.loop-s-test.true c.under_name-s.ensures

pub named-put_count-requires : goal.named-put_count-requires
named-put_count-requires t c =
    omega (arith, c.loop-s.invariant.counts, c.room_of-room.ensures, room_small c.args.want)

pub named-returns : goal.named-returns
named-returns t c =
    naming_ends c.args.bytes.now c.args.version c.args.want c.args.schema c.args.base c.args.depth c.args.first c.args.seat c.args.cells.now c.requires c.named_of-each.result c.room_of-room.result c.named_of-each.ensures c.room_of-room.ensures c.next-t.result _ c.next-t.ensures c.begun-s.result c.begun-s.ensures c.loop-s.s _ _ _ _ c.loop-s.invariant c.loop-s-test.false refl c.put_count.ensures

pub object-held-requires : goal.object-held-requires
object-held-requires t c =
    (omega (arith, c.decreases), (c.requires.0, sym c.named_of.ensures ∙ c.if-named_of-eq0.true))

pub object-named-requires : goal.object-named-requires
object-named-requires t c =
    (omega (arith, c.decreases), record { enter = c.requires.0; before = c.requires.1; named = ap (λ (k : ℕ). eqb k 0) (sym c.named_of.ensures) ∙ ne_eqb _ _ c.if-named_of-eq0.false })

pub under_name-value-v-requires : goal.under_name-value-v-requires
under_name-value-v-requires t c =
    (omega (arith, c.decreases), may_named_value c.args.bytes.now c.args.each c.args.room c.args.base c.args.depth c.args.first c.args.seat c.requires c.args.places.now c.read_name-u.result _ c.read_name-u.ensures c.if-u-ne-GOES_ON.false c.named_cells-spot.result c.named_cells-spot.ensures)

pub under_name-returns-then-s-ne-READ : goal.under_name-returns-then-s-ne-READ
under_name-returns-then-s-ne-READ t c =
    named_ends c.args.bytes.now c.args.version c.args.each c.args.room c.args.schema c.args.base c.args.depth c.args.first c.args.seat c.args.cells.now c.args.places.now c.requires c.read_name-u.result _ c.read_name-u.ensures c.if-u-ne-GOES_ON.false c.named_cells-spot.result c.named_cells-spot.ensures c.value-v.result _ c.value-v.ensures _ c.put_name.ensures c.counted-s.result c.counted-s.ensures c.if-s-ne-READ.true

pub under_name-returns : goal.under_name-returns
under_name-returns t c =
    named_goes c.args.bytes.now c.args.version c.args.each c.args.room c.args.schema c.args.base c.args.depth c.args.first c.args.seat c.args.cells.now c.args.places.now c.requires c.read_name-u.result _ c.read_name-u.ensures c.if-u-ne-GOES_ON.false c.named_cells-spot.result c.named_cells-spot.ensures c.value-v.result _ c.value-v.ensures _ c.put_name.ensures c.counted-s.result c.counted-s.ensures c.if-s-ne-READ.false c.next-t.result _ c.next-t.ensures c.after_one.result c.after_one.ensures

pub value-returns-then-depth-ge-DEEPEST : goal.value-returns-then-depth-ge-DEEPEST
value-returns-then-depth-ge-DEEPEST t c =
    deep_list c.args.bytes.now c.args.version c.args.want c.args.schema c.args.base c.args.depth c.args.seat c.args.cells.now c.requires c.next-t.result _ c.next-t.ensures c.too_deep.result (sym c.is_mark.ensures ∙ c.if-is_mark.true) c.if-depth-ge-DEEPEST.true c.too_deep.ensures

pub value-list-requires : goal.value-list-requires
value-list-requires t c =
    (omega (arith, c.decreases, c.if-depth-ge-DEEPEST.false), may_enter c.args.bytes.now c.args.version c.args.want c.args.schema c.args.base c.args.depth c.args.seat c.args.cells.now c.requires c.next-t.result _ c.next-t.ensures 91 c.entered.result (sym c.is_mark.ensures ∙ c.if-is_mark.true) c.if-depth-ge-DEEPEST.false c.entered.ensures)

pub value-returns-then-is_mark : goal.value-returns-then-is_mark
value-returns-then-is_mark t c =
    by_list c.args.bytes.now c.args.version c.args.want c.args.schema c.args.base c.args.depth c.args.seat c.args.cells.now c.requires c.next-t.result _ c.next-t.ensures c.entered.result c.list.result _ (sym c.is_mark.ensures ∙ c.if-is_mark.true) c.if-depth-ge-DEEPEST.false c.entered.ensures c.list.ensures

pub value-returns-then-depth-ge-DEEPEST-2 : goal.value-returns-then-depth-ge-DEEPEST-2
value-returns-then-depth-ge-DEEPEST-2 t c =
    deep_object c.args.bytes.now c.args.version c.args.want c.args.schema c.args.base c.args.depth c.args.seat c.args.cells.now c.requires c.next-t.result _ c.next-t.ensures c.too_deep-then-depth-ge-DEEPEST-2.result (sym c.is_mark.ensures ∙ c.if-is_mark.false) (sym c.is_mark-2.ensures ∙ c.if-is_mark-2.true) c.if-depth-ge-DEEPEST-2.true c.too_deep-then-depth-ge-DEEPEST-2.ensures

pub value-object-requires : goal.value-object-requires
value-object-requires t c =
    (omega (arith, c.decreases, c.if-depth-ge-DEEPEST-2.false), (may_enter c.args.bytes.now c.args.version c.args.want c.args.schema c.args.base c.args.depth c.args.seat c.args.cells.now c.requires c.next-t.result _ c.next-t.ensures 123 c.entered-then-is_mark-2.result (sym c.is_mark-2.ensures ∙ c.if-is_mark-2.true) c.if-depth-ge-DEEPEST-2.false c.entered-then-is_mark-2.ensures, omega (arith, mark_first c.args.bytes.now 0 c.args.seat.from c.next-t.result _ c.next-t.ensures 123 (sym c.is_mark-2.ensures ∙ c.if-is_mark-2.true), ap (λ (y : Seat). y.from) c.entered-then-is_mark-2.ensures)))

pub value-returns-then-is_mark-2 : goal.value-returns-then-is_mark-2
value-returns-then-is_mark-2 t c =
    by_object c.args.bytes.now c.args.version c.args.want c.args.schema c.args.base c.args.depth c.args.seat c.args.cells.now c.requires c.next-t.result _ c.next-t.ensures c.entered-then-is_mark-2.result c.object.result _ (sym c.is_mark.ensures ∙ c.if-is_mark.false) (sym c.is_mark-2.ensures ∙ c.if-is_mark-2.true) c.if-depth-ge-DEEPEST-2.false c.entered-then-is_mark-2.ensures c.object.ensures

pub value-returns : goal.value-returns
value-returns t c =
    by_scalar c.args.bytes.now c.args.version c.args.want c.args.schema c.args.base c.args.depth c.args.seat c.args.cells.now c.requires c.next-t.result _ c.next-t.ensures c.scalar.result _ (sym c.is_mark.ensures ∙ c.if-is_mark.false) (sym c.is_mark-2.ensures ∙ c.if-is_mark-2.false) c.scalar.ensures
