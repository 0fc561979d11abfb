-- If there is room.
use borrow.Author.Rules.{rules}
use Rattle.json_store.proofs.Appended.{no_room, appended}
use Rattle.json_store.proofs.offer.append_offer.Statement.{statement}
use Rattle.json_store.proofs.offer.append_offer.Tie as tie

returns : tie.Need-returns-then-place-len
returns c =
    let a = c.args in
    let o = c.offer_length-len.ensures in
    rw (← c.kind_of-kind.ensures) (no_room c.kind_of-kind.result a.place a.numbers.now a.texts.now _ o.0 o.1 a.offers.now c.if-place-len.true)

returns_2 : tie.Need-returns
returns_2 c =
    let e = c.before.before in
    let a = e.args in
    let o = e.offer_length-len.ensures in
    rw (← e.kind_of-kind.ensures)
    (appended e.kind_of-kind.result a.place a.numbers.now a.texts.now _ o.0 o.1 a.offers.now _ _ e.offer_at-from.ensures e.if-place-len.false c.copy_offer.ensures)

pub append_offer_spec : {M : Type 1} → statement M
append_offer_spec =
    tie.close
    (tie.spec
    (λ c κs. search rules)
    (λ c κs. search rules)
    (λ c κs. search rules)
    (λ c. search rules)
    returns
    (λ c κs. search rules)
    (λ c. search rules)
    returns_2)
