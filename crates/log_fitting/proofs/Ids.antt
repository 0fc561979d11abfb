-- The ids of a removal and what an update offers fit a log, by what owning them tells.
use mathlib.Core.Path.{◌≡◌, refl}
use mathlib.Core.Bool.{true, ◌&&◌}
use mathlib.Core.List.{List}
use mir.Val.{Val}
use denote.Laws.{Is}
use denote.Struct.Declared.{row}
use Rattle.records.specs.Blanks.{no_snapshot_id, no_schema_id, no_spec_id, no_offered_id}
use Rattle.records.specs.declared.counters.SnapshotId.{SnapshotId}
use Rattle.records.specs.declared.counters.SchemaId.{SchemaId}
use Rattle.records.specs.declared.counters.SpecId.{SpecId}
use Rattle.records.specs.declared.snapshot.SnapshotIds.{SnapshotIds}
use Rattle.records.specs.declared.schema.SchemaIds.{SchemaIds}
use Rattle.records.specs.declared.partition.SpecIds.{SpecIds}
use Rattle.records.specs.declared.partition.OfferedId.{OfferedId}
use Rattle.records.specs.declared.partition.SpecOffer.{SpecOffer}
use Rattle.records.specs.contracts.counters.SnapshotId as snapshot_id
use Rattle.records.specs.contracts.counters.SchemaId as schema_id
use Rattle.records.specs.contracts.counters.SpecId as spec_id
use Rattle.records.specs.contracts.snapshot.SnapshotIds as snapshot_ids
use Rattle.records.specs.contracts.schema.SchemaIds as schema_ids
use Rattle.records.specs.contracts.partition.SpecIds as spec_ids
use Rattle.records.specs.contracts.partition.OfferedId as offeredId
use Rattle.records.specs.contracts.partition.SpecOffer as spec_offer
use Rattle.rules.specs.Words.{if_some, all}
use Rattle.rules.specs.Capacities.{removal_room, partition_field_room}
use Rattle.rules.specs.Layout.{read_snapshot_ids, read_schema_ids, read_spec_ids, read_offered_id, read_spec_offer}
use Rattle.rules.proofs.Checks.{both}
use Rattle.file_rule.specs.Fits.{fits32, fits64}
use Rattle.file_fitting.proofs.Slots.{number32, number64, given_fits, table_fits}

-- ---- the ids of a removal

pub snapshot_ids_fit : (t : SnapshotIds) (vs : List Val) → Is (row snapshot_ids.the_type) t vs → all fits64 (read_snapshot_ids t) ≡ true
snapshot_ids_fit t vs k =
    table_fits snapshot_id.the_type (λ (i : SnapshotId). i.0) fits64 (λ (i : SnapshotId) vs k. number64 i.0 k.1.1.0.1) no_snapshot_id refl removal_room t.count t.items k.0.0 k.1.1.0

pub schema_ids_fit : (t : SchemaIds) (vs : List Val) → Is (row schema_ids.the_type) t vs → all fits32 (read_schema_ids t) ≡ true
schema_ids_fit t vs k =
    table_fits schema_id.the_type (λ (i : SchemaId). i.0) fits32 (λ (i : SchemaId) vs k. number32 i.0 k.1.1.0.1) no_schema_id refl removal_room t.count t.items k.0.0 k.1.1.0

pub spec_ids_fit : (t : SpecIds) (vs : List Val) → Is (row spec_ids.the_type) t vs → all fits32 (read_spec_ids t) ≡ true
spec_ids_fit t vs k =
    table_fits spec_id.the_type (λ (i : SpecId). i.0) fits32 (λ (i : SpecId) vs k. number32 i.0 k.1.1.0.1) no_spec_id refl removal_room t.count t.items k.0.0 k.1.1.0

-- ---- a spec that is offered, with the ids that its fields are given

offered_id_fits : (i : OfferedId) (vs : List Val) → Is (row offeredId.the_type) i vs → if_some fits32 (read_offered_id i) ≡ true
offered_id_fits i vs k = given_fits fits32 i.given i.id.0 (number32 i.id.0 k.1.1.1.0.1.1.0.1)

pub spec_offer_fits : (o : SpecOffer) (vs : List Val) → Is (row spec_offer.the_type) o vs → (fits32 (read_spec_offer o).id && all (if_some fits32) (read_spec_offer o).ids) ≡ true
spec_offer_fits o vs k =
    both (number32 o.spec_id.0 k.1.1.0.1.1.0.1)
    (table_fits offeredId.the_type read_offered_id (if_some fits32) offered_id_fits no_offered_id refl partition_field_room o.count o.ids k.0.1.1.1.0 k.1.1.1.1.1.0)
