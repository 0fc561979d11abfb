-- An update that is closed is stored, if there is room.
use mathlib.Core.Path.{sym}
use native.Mathlib.Omega.{arith}
use borrow.Author.Rules.{rules}
use Rattle.json_list.specs.Listing.{work}
use Rattle.json_list.proofs.Feeds.{room_for, stored, passed}
use Rattle.json_list.proofs.last.store_last.Statement.{statement}
use Rattle.json_list.proofs.last.store_last.Tie as tie

mul_u : tie.Need-offset_bounds-more-place
mul_u c =
    omega (arith, room_for c.args.done c.place_of-place.result c.is_stored.result c.is_stored.ensures c.if-is_stored.true)

element_set_from_u : tie.Need-bounds-more-place
element_set_from_u c =
    room_for c.args.done c.place_of-place.result c.is_stored.result c.is_stored.ensures c.if-is_stored.true

returns : tie.Need-returns-then-is_stored
returns c =
    let a = c.args in
    sym (stored (work a.judge.now a.numbers.now a.texts.now) a.list a.offered a.offers.now a.done c.place_of-place.result c.is_stored.result c.place_of-place.ensures c.is_stored.ensures c.if-is_stored.true c.update_of-u.result c.append_offer-end.new.offers c.append_offer-end.result c.update_of-u.ensures c.append_offer-end.ensures.0 c.append_offer-end.ensures.1)

returns_2 : tie.Need-returns
returns_2 c =
    let a = c.args in
    sym (passed (work a.judge.now a.numbers.now a.texts.now) a.list a.offered a.offers.now a.done c.place_of-place.result c.is_stored.result c.place_of-place.ensures c.is_stored.ensures c.if-is_stored.false)

pub store_last_spec : {M : Type 1} → statement M
store_last_spec =
    tie.close
    (tie.spec
    (λ c κs. search rules)
    (λ c κs. search rules)
    (λ c κs. search rules)
    mul_u
    element_set_from_u
    (λ c κs. search rules)
    returns
    returns_2)
