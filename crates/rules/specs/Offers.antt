-- What an update offers. The fields of an offered schema or partition spec stand among the bytes that a run is given beside its list, and the update says where
-- and how many. They are the same bytes for the list and for its change log, so an entry of the log says what its update said.
use Rattle.std.specs.Prelude.{ℕ, zero, suc, ◌+◌, ◌*◌, Bool, ◌&&◌, List, [], ◌∷◌, map, leb, ℤ, pos, length, take, drop, get_or}
use Rattle.std.proofs.Math.Option.{Option}
use Rattle.rules.specs.Words.{all, pair_up}
use Rattle.rules.specs.Capacities.{largest_field_id, field_bytes, partition_bytes, name_room}
use Rattle.rules.specs.Blanks.{is_zero}
use Rattle.rules.specs.Register.{SchemaField, Schema, SchemaOffer, PartitionField, PartitionSpec, SpecOffer}
use Rattle.rules.specs.WellFormed.{schema_formed, offered_spec_formed}

-- ---- what is read from a place on

-- four bytes, the lowest first
abbrev pub number_at : ℕ → List ℕ → ℕ
number_at i bs = get_or bs i 0 + 256 * (get_or bs (i + 1) 0 + 256 * (get_or bs (i + 2) 0 + 256 * get_or bs (i + 3) 0))

-- ids and numbers of buckets have 32 bits, and are not below 0
abbrev pub is_number_at : ℕ → List ℕ → Bool
is_number_at i bs = leb (number_at i bs) largest_field_id

-- a name: one byte of its length, and 32 of its bytes and of what follows them
abbrev pub length_at : ℕ → List ℕ → ℕ
length_at i bs = get_or bs i 0

abbrev pub bytes_after : ℕ → List ℕ → List ℕ
bytes_after i bs = drop (i + 1) bs

abbrev pub name_at : ℕ → List ℕ → List ℕ
name_at i bs = take (length_at i bs) (bytes_after i bs)

-- the name has its bytes
abbrev pub fits_at : ℕ → List ℕ → Bool
fits_at i bs = leb (length_at i bs) name_room

-- "Unused .. name bytes are zero"
abbrev pub rest_zero_at : ℕ → List ℕ → Bool
rest_zero_at i bs = all is_zero (drop (length_at i bs) (bytes_after i bs))

-- so many fields of so many bytes, one after the other
abbrev pub pieces_of : ℕ → ℕ → List ℕ → List (List ℕ)
pieces_of size zero bs = []
pieces_of size (suc n) bs = take size bs ∷ pieces_of size n (drop size bs)

-- ---- schemas

-- the bytes of a field: four of its id, one of its type, one of its name's length, and those of its name
abbrev pub number_of : List ℕ → ℕ
number_of bs = number_at 0 bs

abbrev pub offered_type : List ℕ → ℕ
offered_type bs = get_or bs 4 0

abbrev pub offered_field : List ℕ → SchemaField
offered_field bs = record { id = pos (number_of bs); field_type = offered_type bs; name = name_at 5 bs }

abbrev pub is_tidy_field : List ℕ → Bool
is_tidy_field bs = is_number_at 0 bs && fits_at 5 bs && rest_zero_at 5 bs

abbrev pub fields_of : ℕ → List ℕ → List (List ℕ)
fields_of n bs = pieces_of field_bytes n bs

abbrev pub offered_fields : List ℕ → SchemaOffer → List (List ℕ)
offered_fields offers o = fields_of o.count (drop o.at offers)

unfoldable pub offered_schema : List ℕ → SchemaOffer → Schema
offered_schema offers o = record { id = o.id; fields = map offered_field (offered_fields offers o) }

-- all of its bytes are there, and say a field each
unfoldable pub is_tidy_offer : List ℕ → SchemaOffer → Bool
is_tidy_offer offers o = leb (o.at + o.count * field_bytes) (length offers) && all is_tidy_field (offered_fields offers o)

-- "An update is well formed if its kind, lengths, .. and numbers keep the same bounds"
unfoldable pub offer_formed : List ℕ → SchemaOffer → Bool
offer_formed offers o = is_tidy_offer offers o && schema_formed (offered_schema offers o)

-- ---- partition specs

-- the bytes of a field: four of its source's id, one of its transform, four of the number of its buckets, one of its name's length, and those of its name;
-- its own id stands in the offer
abbrev pub offered_partition : List ℕ → Option ℤ → PartitionField
offered_partition bs id = record { source = pos (number_at 0 bs); id = id; transform = get_or bs 4 0; buckets = pos (number_at 5 bs); name = name_at 9 bs }

abbrev pub is_tidy_partition : List ℕ → Bool
is_tidy_partition bs = is_number_at 0 bs && is_number_at 5 bs && fits_at 9 bs && rest_zero_at 9 bs

abbrev pub partitions_of : ℕ → List ℕ → List (List ℕ)
partitions_of n bs = pieces_of partition_bytes n bs

-- as many as it has ids
abbrev pub offered_partitions : List ℕ → SpecOffer → List (List ℕ)
offered_partitions offers o = partitions_of (length o.ids) (drop o.at offers)

unfoldable pub offered_spec : List ℕ → SpecOffer → PartitionSpec
offered_spec offers o = record { id = o.id; fields = pair_up offered_partition (offered_partitions offers o) o.ids }

-- all of its bytes are there, and say a field each
unfoldable pub is_tidy_spec : List ℕ → SpecOffer → Bool
is_tidy_spec offers o = leb (o.at + length o.ids * partition_bytes) (length offers) && all is_tidy_partition (offered_partitions offers o)

-- an offered spec need not be one that can be held: 31 says what stands against that
unfoldable pub spec_offer_formed : List ℕ → SpecOffer → Bool
spec_offer_formed offers o = is_tidy_spec offers o && offered_spec_formed (offered_spec offers o)
