-- The test of the two numbers is that of their bits.
use Rattle.std.proofs.Common.{rules}
use Rattle.search.proofs.Bits.{eq_bits}
use Rattle.walk.proofs.step.is_excluded.Goals as goal

pub returns-in-Some : goal.returns-in-Some
returns-in-Some c = rw c.in-Some.is (eq_bits c.args.id c.in-Some.end c.ranges.id (search rules))

pub returns-in-None : goal.returns-in-None
returns-in-None c = rw c.in-None.is
