use Rattle.std.proofs.Common.{◌≡◌, ◌+◌, drop}
use Rattle.equality.specs.Same.{same_name}
use Rattle.search.specs.Places.{index_of}
use Rattle.tables.proofs.refs.find.Given as goal

abbrev pub invariant-loop-i : goal.invariant-loop-i
invariant-loop-i l = index_of (λ x. same_name x.name l.name) l.held-items ≡ l.i + index_of (λ x. same_name x.name l.name) (drop l.i l.held-items)
