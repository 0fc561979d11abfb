-- All that are there are 0.
use Rattle.std.proofs.Common.{ℕ, ◌≡◌, length, replicate, sym, ap, ◌∙◌, arith}
use Rattle.json_list.proofs.States.{zeroing_all}
use Rattle.json_list.proofs.reader.blank_offers.Goals as goal

pub returns : goal.returns
returns c =
    let offers = c.args.offers.now in
    let n : length offers ≡ 77824 = omega arith in
    c.fill.ensures.after (λ y e. e) ∙ ap (λ (k : ℕ). replicate k 0) n ∙ sym (zeroing_all 77824 offers n)
