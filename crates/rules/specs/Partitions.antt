-- Partition fields: document 02, request (ix), "transforms identity, year, month, day and bucket", and the public table format, "Partition Transforms".
use Rattle.std.specs.Prelude.{ℕ, Bool, ◌&&◌, ◌||◌, List, map, eqb, leb, ℤ}
use Rattle.rules.specs.Words.{eq_z, any, collect, same_bytes}
use Rattle.rules.specs.Register.{PartitionField, PartitionSpec}

abbrev pub identity : ℕ
identity = 1

abbrev pub year : ℕ
year = 2

abbrev pub month : ℕ
month = 3

abbrev pub day : ℕ
day = 4

abbrev pub bucket : ℕ
bucket = 5

-- one of year, month and day
abbrev pub is_time : ℕ → Bool
is_time t = leb year t && leb t day

-- the transforms are equal; two buckets are where their numbers are
abbrev pub same_transform : PartitionField → PartitionField → Bool
same_transform a b = eqb a.transform b.transform && eq_z a.buckets b.buckets

-- all of the two fields is equal but their ids
abbrev pub same_partition : PartitionField → PartitionField → Bool
same_partition a b = eq_z a.source b.source && same_transform a b && same_bytes a.name b.name

-- of two fields of one spec one is redundant: they have one source, and their transforms are equal or both of year, month and day
unfoldable pub is_redundant : PartitionField → PartitionField → Bool
is_redundant a b = eq_z a.source b.source && (same_transform a b || (is_time a.transform && is_time b.transform))

abbrev pub partition_names : PartitionSpec → List (List ℕ)
partition_names s = map (λ (f : PartitionField). f.name) s.fields

-- the ids of the fields that have one
abbrev pub partition_ids : PartitionSpec → List ℤ
partition_ids s = collect (λ (f : PartitionField). f.id) s.fields

abbrev pub spec_ids : List PartitionSpec → List ℤ
spec_ids l = map (λ (s : PartitionSpec). s.id) l

-- the spec is held
abbrev pub holds_spec : List PartitionSpec → ℤ → Bool
holds_spec l id = any (λ (s : PartitionSpec). eq_z s.id id) l
