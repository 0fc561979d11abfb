-- Where things stand that are held of an open update.
use Rattle.std.specs.Prelude.{ℕ}

-- ---- among the numbers: each has a magnitude, and its sign so far behind it

-- one for each spot; behind the spots the number of a bucket
abbrev pub buckets_at : ℕ
buckets_at = 63

-- the elements of the three lists of ids
abbrev pub snapshot_ids_at : ℕ
snapshot_ids_at = 64

abbrev pub schema_ids_at : ℕ
schema_ids_at = 80

abbrev pub spec_ids_at : ℕ
spec_ids_at = 96

-- three of each sort field: its source, its direction, its place for nulls
abbrev pub sorts_at : ℕ
sorts_at = 112

-- of each partition field its id, and whether it is given
abbrev pub partition_ids_at : ℕ
partition_ids_at = 136

abbrev pub given_at : ℕ
given_at = 144

abbrev pub signs_at : ℕ
signs_at = 152

abbrev pub numbers_room : ℕ
numbers_room = 304

-- ---- among the texts: a location or a name has its length in front

abbrev pub uuid_at : ℕ
uuid_at = 0

abbrev pub location_at : ℕ
location_at = 16

abbrev pub ref_name_at : ℕ
ref_name_at = 113

-- the name of the open field, of a schema or of a partition spec
abbrev pub field_name_at : ℕ
field_name_at = 146

-- the fields of a schema that were closed, and those of a partition spec, in the bytes in which they are offered
abbrev pub fields_at : ℕ
fields_at = 179

abbrev pub partitions_at : ℕ
partitions_at = 1395

abbrev pub texts_room : ℕ
texts_room = 1731
