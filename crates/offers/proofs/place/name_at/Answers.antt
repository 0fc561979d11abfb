-- All bytes behind the length are copied.
use Rattle.std.proofs.Common.{ℕ, ◌≡◌, ◌+◌, ◌-◌, take, ap, ◌∙◌, arith}
use Rattle.std.proofs.Math.Seq.{take_all}
use Rattle.rules.specs.Offers.{bytes_after}
use Rattle.offers.proofs.Named.{name_room_lem, copied}
use Rattle.offers.proofs.place.name_at.Goals as goal

pub returns : goal.returns
returns c =
    let at = c.args.at in
    let bs = c.args.bytes.now in
    let r = c.requires in
    let e : at + 1 + 32 - (at + 1) ≡ 32 = omega arith in
    let all = c.copy_from_slice.ensures.after ∙ ap (λ (k : ℕ). take k (bytes_after at bs)) e ∙ take_all 32 (bytes_after at bs) (omega (arith, name_room_lem at bs r.bytes_len)) in
    (λ j. record { bytes = c.copy_from_slice.new.self; len = c.count.ensures.0 j }) ∙ copied at bs r.bytes_value r.bytes_len all
