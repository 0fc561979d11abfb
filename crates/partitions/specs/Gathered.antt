-- The ids that the fields of a spec have, as the slots in which they are answered.
use Rattle.std.specs.Prelude.{List, ℤ, pos, length}
use Rattle.rules.specs.Capacities.{partition_field_room}
use Rattle.rules.specs.Layout.{pad}
use Rattle.partitions.specs.declared.fresh.GivenIds.{GivenIds}

-- these ids, and zeros after them
abbrev pub laid_ids : List ℤ → GivenIds
laid_ids ids = record { ids = pad partition_field_room (pos 0) ids; count = length ids }
