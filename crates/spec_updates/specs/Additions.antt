-- Adding a spec: the id of the one added last, a new spec with its fresh ids, and what an addition answers.
use Rattle.std.specs.Prelude.{ℕ, ◌<◌, ◌≡◌, Bool, true, cond, not, ◌&&◌, ◌||◌, List, [], ◌∷◌, ◌++◌, eqb, leb, ℤ, pos}
use Rattle.std.proofs.Math.Option.{Option}
use Rattle.std.specs.Int.Signed.{lt_z}
use Rattle.records.specs.Blanks.{no_partition_specs_part}
use Rattle.records.specs.declared.counters.SpecId.{SpecId}
use Rattle.records.specs.declared.partition.PartitionSpec.{PartitionSpec}
use Rattle.records.specs.declared.partition.PartitionSpecs.{PartitionSpecs}
use Rattle.records.specs.declared.partition.SpecOffer.{SpecOffer}
use Rattle.records.specs.declared.schema.Schema.{Schema}
use Rattle.records.specs.declared.update.TableUpdate.{TableUpdate}
use Rattle.rules.specs.Words.{larger, any, first_of, Check}
use Rattle.rules.specs.Replies.{ids_exhausted, table_full, ids_not_sequential}
use Rattle.rules.specs.Capacities.{spec_room, largest_field_id}
use Rattle.rules.specs.Register as plain
use Rattle.rules.specs.Register.{Terms, State}
use Rattle.rules.specs.Partitions.{partition_ids}
use Rattle.rules.specs.SpecUpdates.{fresh_of, completed, is_sequential, first_partition_id, reaches, spec_checks, spec_added}
use Rattle.rules.specs.Updates.{effect}
use Rattle.rules.specs.Layout.{given, read_partition_spec, laid_partition_spec, laid_partition_specs, read_spec_offer}
use Rattle.rules.specs.Kinds.{read_update, of_kind, with_partition_specs_part, with_spec_offer, add_partition_spec_kind}
use Rattle.tables.specs.Laid.{LaidSpec}
use Rattle.offers.specs.declared.OfferedSpec.{OfferedSpec}
use Rattle.offers.specs.Offered.{SpecOffered}
use Rattle.builder.specs.declared.builder.TableMetadataBuilder.{TableMetadataBuilder}
use Rattle.builder.specs.Pieces.{laid_builder, IsCurrent}
use Rattle.builder.specs.Answers.{Answers, Decides}
use Rattle.spec_updates.specs.declared.SpecsAnswer.{SpecsAnswer}
use Rattle.spec_updates.specs.declared.addition.SpecAdded.{SpecAdded}
use Rattle.spec_updates.specs.declared.addition.SpecCompleted.{SpecCompleted}

-- the id of the spec added last, where there is one
abbrev pub added_spec : TableMetadataBuilder → Option ℤ
added_spec b = given b.has_spec b.last_added_spec_id.0

-- a spec under another id
abbrev pub spec_under : SpecId → PartitionSpec → PartitionSpec
spec_under id p = record { spec_id = id; items = p.items; count = p.count }

-- the checks of a new spec: whether ids are exhausted, for it or for its fields, whether a table of version 1 gets ids out of sequence, and whether it is full
abbrev pub new_checks : ℤ → ℕ → Bool → ℕ → plain.PartitionSpec → List Check
new_checks last version over count p =
    (over || any (lt_z (pos largest_field_id)) (fresh_of last p), ids_exhausted)
    ∷ (eqb version 1 && not (is_sequential first_partition_id (partition_ids (completed last p))), ids_not_sequential)
    ∷ (leb spec_room count, table_full)
    ∷ []

-- the number, and where it is 0 the spec with its fresh ids, and the last partition id after it
pub record Completed (p : PartitionSpec) (last : ℤ) (version : ℕ) (over : Bool) (count : ℕ) (r : SpecCompleted) : Type 0 where
  pub checked : r.number ≡ first_of (new_checks last version over count (read_partition_spec p))
  pub says : r.number ≡ 0 → r.spec ≡ laid_partition_spec (completed last (read_partition_spec p))
  pub laid : LaidSpec r.spec
  pub raises : r.number ≡ 0 → r.last_partition_id.0 ≡ larger last (reaches (completed last (read_partition_spec p)))

-- of a spec with its given and reused ids: the answer, the table after it, and that a spec to put is laid out and has room
pub record SpecGrown (b : TableMetadataBuilder) (s : Schema) (t : PartitionSpecs) (p : PartitionSpec) (o : SpecOffer) (r : SpecAdded) : Type 0 where
  pub answers : (st : State) → b ≡ laid_builder st → IsCurrent st.metadata s → t ≡ laid_partition_specs st.metadata.specs → Answers (spec_checks (read_partition_spec p) st.metadata) st (spec_added (read_spec_offer o) (read_partition_spec p) st) r.number r.logs r.builder (with_partition_specs_part (with_spec_offer r.offer no_partition_specs_part) (of_kind add_partition_spec_kind))
  pub table : (st : State) → b ≡ laid_builder st → t ≡ laid_partition_specs st.metadata.specs → r.number ≡ 0 → (spec_added (read_spec_offer o) (read_partition_spec p) st).metadata.specs ≡ cond r.grows (st.metadata.specs ++ (read_partition_spec r.spec ∷ [])) st.metadata.specs
  pub put : r.grows ≡ true → LaidSpec r.spec × (t.count < spec_room)

-- an addition, decided: the answer, and the table after it
pub record SpecDecided (b : TableMetadataBuilder) (s : Schema) (t : PartitionSpecs) (offered : OfferedSpec) (u : TableUpdate) (r : SpecsAnswer) : Type 0 where
  pub answers : (terms : Terms) (st : State) → SpecOffered terms.offers (read_spec_offer u.partition_specs.added) offered → b ≡ laid_builder st → IsCurrent st.metadata s → t ≡ laid_partition_specs st.metadata.specs → Decides terms u st r.decision
  pub table : (terms : Terms) (st : State) → SpecOffered terms.offers (read_spec_offer u.partition_specs.added) offered → b ≡ laid_builder st → t ≡ laid_partition_specs st.metadata.specs → r.decision.number ≡ 0 → r.table ≡ laid_partition_specs (effect terms (read_update u) st).metadata.specs
