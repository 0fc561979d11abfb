-- The ids of fields, as they stand in an offer.
use Rattle.std.proofs.Common.{◌≡◌, ℕ, ◌<◌, ◌≤◌, refl, sym, ap, ◌∙◌, suc, ◌+◌, List, [], ◌∷◌, map, length, get_or, take, set, arith}
use lib.ListN.{length-map, get_or-map}
use lib.Seq.{take_all}
use Rattle.records.specs.Blanks.{no_offered_id}
use Rattle.records.specs.declared.partition.OfferedId.{OfferedId}
use Rattle.records.specs.declared.partition.PartitionField.{PartitionField}
use Rattle.records.specs.declared.partition.PartitionSpec.{PartitionSpec}
use Rattle.records.specs.declared.partition.SpecOffer.{SpecOffer}
use Rattle.rules.specs.Register as plain
use Rattle.rules.specs.Capacities.{partition_field_room}
use Rattle.rules.specs.SpecUpdates.{spec_offered_as}
use Rattle.rules.specs.Layout.{pad, laid_offered_id, read_partition_field, laid_partition_field, read_partition_spec, read_spec_offer, laid_spec_offer}
use Rattle.tables.proofs.Keyed.{pad_more}
use Rattle.partitions.specs.Slots.{LaidField, LaidFields}

-- a field's own flag and number
abbrev pub id_in : PartitionField → OfferedId
id_in f = record { given = f.has_id; id = f.field_id }

-- a field that is laid out from what is read of it has 0 behind a flag that is not set
id_back : (f : PartitionField) → LaidField f → laid_offered_id (read_partition_field f).id ≡ id_in f
unfolding laid_partition_field
id_back f e = ap id_in e

abbrev offered : plain.PartitionField → OfferedId
offered f = laid_offered_id f.id

ids_back : (fields : List PartitionField) → LaidFields fields → map id_in fields ≡ map laid_offered_id (map (λ (f : plain.PartitionField). f.id) (map read_partition_field fields))
ids_back [] h = refl
ids_back (f ∷ fields) h = λ i. sym (id_back f (h 0 f (omega arith))) i ∷ ids_back fields (λ k d b. h (suc k) d (omega arith)) i

pub offered_on : (fields : List PartitionField) (d : PartitionField) (i : ℕ) {ids : List OfferedId} → i < length fields → length fields ≤ partition_field_room
    → ids ≡ pad partition_field_room no_offered_id (take i (map id_in fields)) → set ids i (id_in (get_or fields i d)) ≡ pad partition_field_room no_offered_id (take (i + 1) (map id_in fields))
offered_on fields d i b w e = rw (e, ← get_or-map id_in fields i d) (pad_more partition_field_room i no_offered_id (id_in d) (map id_in fields) (rw (length-map fields id_in) b) (rw (length-map fields id_in) w))

pub offered_end : (p : PartitionSpec) (o : SpecOffer) (fields : List PartitionField) {ids : List OfferedId} (i : ℕ) → map read_partition_field fields ≡ (read_partition_spec p).fields → LaidFields fields → length fields ≡ p.count → length fields ≤ i
    → ids ≡ pad partition_field_room no_offered_id (take i (map id_in fields)) → record { spec_id = p.spec_id; at = o.at; count = p.count; ids = ids } ≡ laid_spec_offer (spec_offered_as (read_partition_spec p) (read_spec_offer o))
unfolding laid_spec_offer
offered_end p o fields {ids} i f h n b e =
    let t : take i (map id_in fields) ≡ map id_in fields = take_all i (map id_in fields) (omega (arith, length-map fields id_in)) in
    let q : ids ≡ pad partition_field_room no_offered_id (map laid_offered_id (map (λ (f : plain.PartitionField). f.id) (read_partition_spec p).fields)) =
    e ∙ ap (pad partition_field_room no_offered_id) (t ∙ ids_back fields h ∙ ap (λ (l : List plain.PartitionField). map laid_offered_id (map (λ (f : plain.PartitionField). f.id) l)) f) in
    let c : p.count ≡ length (map (λ (f : plain.PartitionField). f.id) (read_partition_spec p).fields) =
    sym (length-map (read_partition_spec p).fields (λ (f : plain.PartitionField). f.id) ∙ ap length (sym f) ∙ length-map fields read_partition_field ∙ n) in
    λ j. record { spec_id = p.spec_id; at = o.at; count = c j; ids = q j }
