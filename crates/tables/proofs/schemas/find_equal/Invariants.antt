use Rattle.std.proofs.Common.{◌≡◌, ◌+◌, drop}
use Rattle.rules.specs.Words.{same_list}
use Rattle.rules.specs.SchemaUpdates.{same_schema_field}
use Rattle.rules.specs.Layout.{read_schema}
use Rattle.search.specs.Places.{index_of}
use Rattle.tables.proofs.schemas.find_equal.Given as goal

abbrev pub invariant-loop-i : goal.invariant-loop-i
invariant-loop-i l =
    index_of (λ x. same_list same_schema_field (read_schema x).fields (read_schema l.s).fields) l.held-items
    ≡ l.i + index_of (λ x. same_list same_schema_field (read_schema x).fields (read_schema l.s).fields) (drop l.i l.held-items)
