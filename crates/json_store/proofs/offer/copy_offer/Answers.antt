-- The bytes are stored where the offer stands.
use Rattle.std.proofs.Common.{◌≡◌, ◌+◌, ◌-◌, ◌∙◌, arith}
use Rattle.json_store.specs.Puts.{part}
use Rattle.json_store.proofs.Stores.{part_length, put_stored, cut_part}
use Rattle.json_store.proofs.offer.copy_offer.Goals as goal

pub returns : goal.returns
returns c =
    let a = c.args in
    let texts = a.texts.now in
    let e : a.place + a.len - a.place ≡ a.len = omega arith in
    let v : c.copy_from_slice.new.self ≡ part a.from a.len texts = c.copy_from_slice.ensures.after ∙ cut_part a.from a.len texts (omega arith) in
    rw (e, v) (put_stored a.place a.len a.offers.now (part a.from a.len texts) (part_length a.from a.len texts) (omega arith))
