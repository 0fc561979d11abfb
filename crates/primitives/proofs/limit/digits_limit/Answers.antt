-- A digit that there is no room for: all that follows leaves the number too large.
use Rattle.std.proofs.Common.{◌≡◌, ◌+◌, ◌-◌, true, get_or, drop, sym, ◌∙◌, refl, arith, rules}
use Rattle.rules.specs.Limit.{is_digit}
use Rattle.primitives.proofs.Digits.{one_digit, too_large_lem}
use Rattle.primitives.proofs.limit.digits_limit.Goals as goal

pub returns-in-None : goal.returns-in-None
returns-in-None c =
    let bs = c.args.digits.now in
    let i = c.loop-byte.byte-index in
    let number = c.loop-byte.number in
    let e : is_digit (get_or bs i 0) ≡ true = search rules in
    sym (c.loop-byte.invariant.1 ∙ one_digit number bs i (omega arith) (get_or bs i 0 - 48) refl e ∙ too_large_lem _ (drop (i + 1) bs) c.in-None.ensures)
