-- The bytes are stored in front, and what stood behind them stays.
use Rattle.std.proofs.Common.{◌≡◌, ◌+◌, ◌∙◌, arith}
use Rattle.json_store.specs.Puts.{part}
use Rattle.json_store.proofs.Stores.{part_length, put_stored, cut_part}
use Rattle.json_store.proofs.record.copy_text.Goals as goal

pub returns-clause-after : goal.returns-clause-after
returns-clause-after c =
    let a = c.args in
    let n = c.min-len.result in
    let texts = a.texts.now in
    let v : c.copy_from_slice.new.self ≡ part (a.at + 1) n texts = c.copy_from_slice.ensures.after ∙ cut_part (a.at + 1) n texts (omega (arith, c.min-len.ensures)) in
    rw v (put_stored 0 n a.bytes.now (part (a.at + 1) n texts) (part_length (a.at + 1) n texts) (omega (arith, c.min-len.ensures)))
