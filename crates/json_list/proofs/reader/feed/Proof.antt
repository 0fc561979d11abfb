-- A part is read update by update.
use mathlib.Core.Path.{◌≡◌, refl, ◌∙◌}
use native.Mathlib.Omega.{arith}
use borrow.Author.Rules.{rules}
use lib.ListN.{length, take}
use Rattle.json_machine.specs.Lexing.{reading}
use Rattle.json_list.specs.Listing.{work, listing, with_item}
use Rattle.json_list.specs.Turns.{turn_of}
use Rattle.json_list.specs.Parts.{left, onward}
use Rattle.json_list.proofs.Feeds.{room_for, stored, passed, reads_to, part_long, part_fits, part_fed}
use Rattle.json_list.proofs.reader.feed.Statement.{statement}
use Rattle.json_list.proofs.reader.feed.Tie as tie

abbrev invariant_loop : tie.invariant-loop-run
invariant_loop part offers₀ before n kept₀ judge₀ numbers₀ texts₀ list₀ offered₀ run₀ offers kept judge numbers texts list offered run =
    onward before (take n part) run₀.at (reading run₀.lexer kept₀) (listing (work judge₀ numbers₀ texts₀) list₀ offered₀ offers₀)
    ≡ onward before (take n part) run.at (reading run.lexer kept) (listing (work judge numbers texts) list offered offers)

abbrev decreases_loop : tie.decreases-loop-run
decreases_loop part offers₀ before n kept₀ judge₀ numbers₀ texts₀ list₀ offered₀ run₀ offers kept judge numbers texts list offered run =
    left (length (take n part)) run.at (reading run.lexer kept)

slice_aggregate_read_on : tie.Need-slice_bounds-read_on-end invariant_loop decreases_loop
slice_aggregate_read_on c =
    let a = c.args in
    part_long a.reader.before a.part.now c.reach-n.result c.reach-n.ensures.0

read_on_requires : tie.Need-read_on-run-requires invariant_loop decreases_loop
read_on_requires c κs =
    let a = c.args in
    part_fits a.reader.before a.part.now c.reach-n.result c.reach-n.ensures.0 c.loop-run.run.at c.loop-run-test.true

mul_u : tie.Need-offset_bounds-list-place invariant_loop decreases_loop
mul_u c =
    omega (arith, room_for c.read_on-run.result.done c.place_of-place.result c.is_stored.result c.is_stored.ensures c.if-is_stored.true)

element_set_from_u : tie.Need-bounds-list-place invariant_loop decreases_loop
element_set_from_u c =
    room_for c.read_on-run.result.done c.place_of-place.result c.is_stored.result c.is_stored.ensures c.if-is_stored.true

loop_less : tie.Need-loop-run-smaller-then-is_stored invariant_loop decreases_loop
loop_less c = c.read_on-run.ensures.less

loop_again : tie.Need-loop-run-preserved-then-is_stored invariant_loop decreases_loop
loop_again c =
    let a = c.args in
    let y = turn_of c.read_on-run.result c.read_on-run.new.kept (work c.read_on-run.new.judge c.read_on-run.new.numbers c.read_on-run.new.texts) in
    let u = c.update_of-u in
    let p = c.place_of-place in
    c.loop-run.invariant
    ∙ reads_to a.reader.before (take c.reach-n.result a.part.now) (reading c.loop-run.run.lexer c.loop-run.kept) (work c.loop-run.judge c.loop-run.numbers c.loop-run.texts) c.loop-run.run.at y c.read_on-run.ensures c.loop-run.list c.loop-run.offered c.loop-run.offers
    (listing y.work (with_item p.result u.result c.loop-run.list) c.append_offer-offered.result c.append_offer-offered.new.offers)
    (stored y.work c.loop-run.list c.loop-run.offered c.loop-run.offers c.read_on-run.result.done p.result c.is_stored.result p.ensures c.is_stored.ensures c.if-is_stored.true u.result c.append_offer-offered.new.offers c.append_offer-offered.result u.ensures c.append_offer-offered.ensures.0 c.append_offer-offered.ensures.1)

loop_less_2 : tie.Need-loop-run-smaller invariant_loop decreases_loop
loop_less_2 c = c.read_on-run.ensures.less

loop_again_2 : tie.Need-loop-run-preserved invariant_loop decreases_loop
loop_again_2 c =
    let a = c.args in
    let y = turn_of c.read_on-run.result c.read_on-run.new.kept (work c.read_on-run.new.judge c.read_on-run.new.numbers c.read_on-run.new.texts) in
    let p = c.place_of-place in
    c.loop-run.invariant
    ∙ reads_to a.reader.before (take c.reach-n.result a.part.now) (reading c.loop-run.run.lexer c.loop-run.kept) (work c.loop-run.judge c.loop-run.numbers c.loop-run.texts) c.loop-run.run.at y c.read_on-run.ensures c.loop-run.list c.loop-run.offered c.loop-run.offers
    (listing y.work c.loop-run.list c.loop-run.offered c.loop-run.offers)
    (passed y.work c.loop-run.list c.loop-run.offered c.loop-run.offers c.read_on-run.result.done p.result c.is_stored.result p.ensures c.is_stored.ensures c.if-is_stored.false)

add_t17 : tie.Need-overflow_add-result invariant_loop decreases_loop
add_t17 c =
    omega (arith, c.reach-n.ensures.1)

returns : tie.Need-returns invariant_loop decreases_loop
returns c =
    let a = c.args in
    part_fed a.reader.before a.part.now c.reach-n.result c.reach-n.ensures.0 a.reader.lexer a.reader.kept (listing (work a.reader.judge a.reader.numbers a.reader.texts) a.reader.list a.reader.offered a.offers.now) c.run_of-run.result c.run_of-run.ensures c.loop-run.run.at (reading c.loop-run.run.lexer c.loop-run.kept) (listing (work c.loop-run.judge c.loop-run.numbers c.loop-run.texts) c.loop-run.list c.loop-run.offered c.loop-run.offers) c.loop-run-test.false c.loop-run.invariant

pub feed_spec : {M : Type 1} → statement M
feed_spec =
    tie.close
    (tie.spec
    invariant_loop
    decreases_loop
    (λ c κs. search rules)
    (λ c κs. search rules)
    (λ c. refl)
    slice_aggregate_read_on
    read_on_requires
    (λ c κs. search rules)
    (λ c κs. search rules)
    (λ c κs. search rules)
    mul_u
    element_set_from_u
    (λ c κs. search rules)
    loop_less
    loop_again
    loop_less_2
    loop_again_2
    add_t17
    returns)
