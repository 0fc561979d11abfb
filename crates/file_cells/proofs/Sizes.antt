-- The size of each record is the sum over its members, and the members' numbers follow each other.
use Prim.Native.Nat.{ℕ, ◌+◌}
use mathlib.Core.Path.{◌≡◌, refl}
use lib.ListN.{length}
use Rattle.file_rule.specs.Tables.{FileKind, TheFile, HeldSnapshot, HeldSchema, HeldField, HeldSpec, HeldPartitionField, HeldOrder, HeldSortField, HeldRef, HeldLogEntry, HeldFileEntry, HeldStatistics, HeldPartitionStatistics, rows_of}
use Rattle.file_cells.specs.Cells.{kind_size, sizes_of, size_of, offset_at}

pub sizes : (k : FileKind) → kind_size k ≡ sizes_of (rows_of k)
unfolding size_of
sizes TheFile = refl
sizes HeldSnapshot = refl
sizes HeldSchema = refl
sizes HeldField = refl
sizes HeldSpec = refl
sizes HeldPartitionField = refl
sizes HeldOrder = refl
sizes HeldSortField = refl
sizes HeldRef = refl
sizes HeldLogEntry = refl
sizes HeldFileEntry = refl
sizes HeldStatistics = refl
sizes HeldPartitionStatistics = refl

-- ---- the members of the file begin here

some_offsets : (offset_at 8 ≡ 273) × (offset_at 15 ≡ 5596) × (offset_at 20 ≡ 8466) × (offset_at 23 ≡ 9045) × (offset_at 24 ≡ 0) × (offset_at 35 ≡ 259) × (offset_at 68 ≡ 4) × (offset_at 69 ≡ 0)
unfolding offset_at size_of
some_offsets = (refl, refl, refl, refl, refl, refl, refl, refl)
