-- The update that is made of what is held, and what it offers.
use Rattle.std.specs.Prelude.{ℕ, zero, suc, ◌+◌, ◌*◌, Bool, cond, List, [], ◌∷◌, map, eqb, leb, ℤ, pos, get_or, length}
use Rattle.std.proofs.Math.Option.{Option, none, some}
use Rattle.std.proofs.lemmas.List.Edits.{sets}
use Rattle.records.specs.Blanks.{no_update}
use Rattle.records.specs.declared.update.TableUpdate.{TableUpdate}
use Rattle.rules.specs.Register.{RowRange, Snapshot, Reference, SchemaOffer, SortField, SortOrder, SpecOffer, Update}
use Rattle.rules.specs.Register.Update.{AssignUuid, UpgradeFormatVersion, SetLocation, AddSnapshot, RemoveSnapshots, SetRef, RemoveRef, AddSchema, SetCurrentSchema, RemoveSchemas, AddSortOrder, SetDefaultSortOrder, AddPartitionSpec, SetDefaultPartitionSpec, RemovePartitionSpecs}
use Rattle.rules.specs.Kinds.{laid_update, assign_uuid_kind, upgrade_format_version_kind, set_location_kind, add_snapshot_kind, remove_snapshots_kind, set_ref_kind, remove_ref_kind, add_schema_kind, set_current_schema_kind, remove_schemas_kind, add_sort_order_kind, set_default_sort_order_kind, add_partition_spec_kind, set_default_partition_spec_kind, remove_partition_specs_kind}
use Rattle.json_members.specs.Slots.{kind_in, seen_in}
use Rattle.json_store.specs.Places.{snapshot_ids_at, schema_ids_at, spec_ids_at, sorts_at, partition_ids_at, given_at, uuid_at, location_at, ref_name_at, fields_at, partitions_at}
use Rattle.json_store.specs.Numbers.{magnitude_at, number_at, narrow_at, byte_at, count_at}
use Rattle.json_store.specs.Puts.{part}

-- 0 to so many, without the last
abbrev pub counted_up : ℕ → ℕ → List ℕ
counted_up i zero = []
counted_up i (suc n) = i ∷ counted_up (suc i) n

-- one for each of so many
abbrev pub each : {A : Type 0} → (ℕ → A) → ℕ → List A
each f n = map f (counted_up 0 n)

-- a text with its length in front, of at most so many bytes
unfoldable pub text_in : ℕ → ℕ → List ℕ → List ℕ
text_in room place texts = part (suc place) (cond (leb (get_or texts place 0) room) (get_or texts place 0) room) texts

-- the id of a partition field, if it is given
unfoldable pub partition_id_in : List ℕ → ℕ → Option ℤ
partition_id_in numbers i = cond (eqb (magnitude_at numbers (given_at + i)) 1) (some (narrow_at numbers (partition_ids_at + i))) none

-- by the slots of the judge, which tell what was seen, and by the numbers
module _ (slots numbers : List ℕ) where
  -- the number of a member, if it was seen; 0 where it was not
  abbrev pub maybe_at : ℕ → Option ℤ
  maybe_at spot = cond (seen_in slots spot) (some (number_at numbers spot)) none

  abbrev pub maybe_narrow_at : ℕ → Option ℤ
  maybe_narrow_at spot = cond (seen_in slots spot) (some (narrow_at numbers spot)) none

  abbrev pub or_zero_at : ℕ → ℤ
  or_zero_at spot = cond (seen_in slots spot) (number_at numbers spot) (pos 0)

  abbrev pub or_zero_narrow_at : ℕ → ℤ
  or_zero_narrow_at spot = cond (seen_in slots spot) (narrow_at numbers spot) (pos 0)

  abbrev pub rows_in : Option RowRange
  rows_in = cond (seen_in slots 31) (some (record { first = record { 0 = magnitude_at numbers 31 }; added = magnitude_at numbers 32 })) none

  unfoldable pub snapshot_in : Snapshot
  snapshot_in = record { id = number_at numbers 27; parent = maybe_at 28; sequence = record { 0 = or_zero_at 29 }; time = number_at numbers 30; rows = rows_in }

  unfoldable pub reference_in : Reference
  reference_in =
      record {
        snapshot = number_at numbers 11;
        kind = byte_at numbers 10;
        min_snapshots = maybe_narrow_at 12;
        max_snapshot_age = maybe_at 13;
        max_ref_age = maybe_at 14;
      }

  unfoldable pub schema_offer_in : ℕ → SchemaOffer
  schema_offer_in place = record { id = or_zero_narrow_at 37; at = place; count = count_at 32 numbers 38 }

  unfoldable pub spec_offer_in : ℕ → SpecOffer
  spec_offer_in place = record { id = or_zero_narrow_at 51; at = place; ids = each (partition_id_in numbers) (count_at 8 numbers 52) }

unfoldable pub sort_field_in : List ℕ → ℕ → SortField
sort_field_in numbers i = record { source = narrow_at numbers (sorts_at + i * 3); direction = byte_at numbers (sorts_at + i * 3 + 1); nulls = byte_at numbers (sorts_at + i * 3 + 2) }

unfoldable pub sort_order_in : List ℕ → SortOrder
sort_order_in numbers = record { id = number_at numbers 44; fields = each (sort_field_in numbers) (count_at 8 numbers 45) }

unfoldable pub snapshot_ids_in : List ℕ → List ℤ
snapshot_ids_in numbers = each (λ i. number_at numbers (snapshot_ids_at + i)) (count_at 16 numbers 8)

unfoldable pub schema_ids_in : List ℕ → List ℤ
schema_ids_in numbers = each (λ i. narrow_at numbers (schema_ids_at + i)) (count_at 16 numbers 18)

unfoldable pub spec_ids_in : List ℕ → List ℤ
spec_ids_in numbers = each (λ i. narrow_at numbers (spec_ids_at + i)) (count_at 16 numbers 23)

-- the update of a kind, whose offer begins at a place; none of another kind
unfoldable pub update_in : ℕ → ℕ → List ℕ → List ℕ → List ℕ → Option Update
update_in kind place slots numbers texts =
    cond (eqb kind assign_uuid_kind) (some (AssignUuid (part uuid_at 16 texts)))
    (cond (eqb kind upgrade_format_version_kind) (some (UpgradeFormatVersion (byte_at numbers 5)))
    (cond (eqb kind set_location_kind) (some (SetLocation (text_in 96 location_at texts)))
    (cond (eqb kind add_snapshot_kind) (some (AddSnapshot (snapshot_in slots numbers)))
    (cond (eqb kind remove_snapshots_kind) (some (RemoveSnapshots (snapshot_ids_in numbers)))
    (cond (eqb kind set_ref_kind) (some (SetRef (text_in 32 ref_name_at texts) (reference_in slots numbers)))
    (cond (eqb kind remove_ref_kind) (some (RemoveRef (text_in 32 ref_name_at texts)))
    (cond (eqb kind add_schema_kind) (some (AddSchema (schema_offer_in slots numbers place)))
    (cond (eqb kind set_current_schema_kind) (some (SetCurrentSchema (narrow_at numbers 17)))
    (cond (eqb kind remove_schemas_kind) (some (RemoveSchemas (schema_ids_in numbers)))
    (cond (eqb kind add_sort_order_kind) (some (AddSortOrder (sort_order_in numbers)))
    (cond (eqb kind set_default_sort_order_kind) (some (SetDefaultSortOrder (number_at numbers 20)))
    (cond (eqb kind add_partition_spec_kind) (some (AddPartitionSpec (spec_offer_in slots numbers place)))
    (cond (eqb kind set_default_partition_spec_kind) (some (SetDefaultPartitionSpec (narrow_at numbers 22)))
    (cond (eqb kind remove_partition_specs_kind) (some (RemovePartitionSpecs (spec_ids_in numbers)))
    none))))))))))))))

abbrev pub laid_or : Option Update → TableUpdate
laid_or none = no_update
laid_or (some u) = laid_update u

-- as a record
abbrev pub update_made : ℕ → List ℕ → List ℕ → List ℕ → TableUpdate
update_made place slots numbers texts = laid_or (update_in (kind_in slots) place slots numbers texts)

-- ---- what it offers

unfoldable pub offer_in : ℕ → List ℕ → List ℕ → List ℕ
offer_in kind numbers texts =
    cond (eqb kind add_schema_kind) (part fields_at (count_at 32 numbers 38 * 38) texts)
    (cond (eqb kind add_partition_spec_kind) (part partitions_at (count_at 8 numbers 52 * 42) texts)
    [])

-- there is room for so many more from a place on
unfoldable pub offer_fits : ℕ → List ℕ → Bool
offer_fits place bs = leb (place + length bs) 77824

-- the offers with these bytes, and where they end
abbrev pub offers_with : ℕ → List ℕ → List ℕ → List ℕ
offers_with place bs offers = cond (offer_fits place bs) (sets offers place bs) offers

abbrev pub offers_end : ℕ → List ℕ → ℕ
offers_end place bs = cond (offer_fits place bs) (place + length bs) place
