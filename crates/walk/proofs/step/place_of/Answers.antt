-- No other place than the one that is tried first holds an equal id.
use Rattle.std.proofs.Common.{◌≡◌, pos, get_or, ◌-◌, sym, rules, arith}
use Rattle.walk.proofs.Places.{place_at}
use Rattle.walk.proofs.step.place_of.Goals as goal

pub returns-then-ids-last : goal.returns-then-ids-last
returns-then-ids-last c =
    let e : get_or c.args.ids.now (c.args.last - 1) (pos 0) ≡ c.args.id = search rules in
    sym (rw e at (place_at c.args.ids.now (c.args.last - 1) c.requires.unequal (omega arith)))
