use Rattle.std.proofs.Common.{◌≡◌, ◌+◌, drop, not}
use Rattle.rules.specs.Names.{name_below}
use Rattle.rules.specs.Layout.{read_name}
use Rattle.search.specs.Places.{index_of}
use Rattle.tables.proofs.refs.place.Given as goal

abbrev pub invariant-loop-i : goal.invariant-loop-i
invariant-loop-i l =
    index_of (λ x. not (name_below (read_name x.name) (read_name l.name))) l.held-items
    ≡ l.i + index_of (λ x. not (name_below (read_name x.name) (read_name l.name))) (drop l.i l.held-items)
