-- The order of the names is that of what is left of them.
use Rattle.std.proofs.Common.{◌≡◌, length, drop}
use Rattle.rules.specs.Names.{name_below}
use Rattle.primitives.proofs.names.name_below.Given as goal

abbrev pub invariant-loop-x : goal.invariant-loop-x
invariant-loop-x l = name_below l.a l.b ≡ name_below (drop (length l.yielded) l.a) (drop (length l.yielded) l.b)
