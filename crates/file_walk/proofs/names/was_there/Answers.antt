-- A place of the slice is that of all.
use Rattle.std.proofs.Common.{◌≡◌, true, false, get_or, add-one, sym, ◌∙◌, arith}
use Rattle.std.proofs.lemmas.List.{get_or-take, length-take}
use Rattle.rules.specs.Words.{same_bytes, some_with}
use Rattle.json_members.specs.Kept.{front}
use Rattle.file_walk.specs.Named.{name_at}
use Rattle.file_walk.proofs.NamedNames.{names_none, names_miss, names_found}
use Rattle.file_walk.proofs.names.was_there.Goals as goal

pub loop-place-init : goal.loop-place-init
loop-place-init c = names_none c.args.bytes.now c.args.places.now (front c.args.len c.args.kept.now)

pub returns-then-is_again : goal.returns-then-is_again
returns-then-is_again c =
    let a = c.args in
    let said : some_with (same_bytes (front a.len a.kept.now)) (name_at a.bytes.now (get_or a.places.now c.loop-place.place-index 0)) ≡ true = rw (← get_or-take a.count a.places.now c.loop-place.place-index 0 (omega (arith, length-take a.count a.places.now))) (sym c.is_again.ensures ∙ c.if-is_again.true) in
    sym (names_found a.bytes.now a.places.now (front a.len a.kept.now) c.loop-place.place-index a.count (omega (arith, length-take a.count a.places.now)) said)

pub loop-place-preserved : goal.loop-place-preserved
loop-place-preserved c =
    let a = c.args in
    let said : some_with (same_bytes (front a.len a.kept.now)) (name_at a.bytes.now (get_or a.places.now c.loop-place.place-index 0)) ≡ false = rw (← get_or-take a.count a.places.now c.loop-place.place-index 0 (omega (arith, length-take a.count a.places.now))) (sym c.is_again.ensures ∙ c.if-is_again.false) in
    rw (add-one c.loop-place.place-index) (names_miss a.bytes.now a.places.now (front a.len a.kept.now) c.loop-place.place-index c.loop-place.invariant said)

pub returns : goal.returns
returns c =
    let a = c.args in
    let all : c.loop-place.place-index ≡ a.count = omega (arith, length-take a.count a.places.now) in
    sym (rw all at c.loop-place.invariant)
