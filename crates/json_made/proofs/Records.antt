-- The records in an update: a snapshot, a ref, a schema, a sort order and a partition spec, each as what is held of its members says it.
use Prim.Native.Nat.{ℕ, ◌*◌}
use mathlib.Core.Path.{◌≡◌, refl}
use mathlib.Core.Bool.{true, cond}
use mathlib.Core.List.{List, map}
use lib.Dec.{eqb}
use lib.ListN.{length}
use Rattle.rules.specs.Words.{any, same_bytes}
use Rattle.rules.specs.WellFormed.{branch, tag}
use Rattle.rules.specs.Register.{PartitionField}
use Rattle.rules.specs.Kinds.{set_ref_kind}
use Rattle.json_rule.specs.Letters.{bytes}
use Rattle.json_rule.specs.Tree.{Members}
use Rattle.json_rule.specs.Records.{records_of, snapshot_of, reference_of, sort_field_of, order_of, field_of, schema_of, partition_field_of, spec_of, field_offer, partition_offer, all_bytes}
use Rattle.json_rule.specs.Shapes.{Kind, ASnapshot, ASchema, AnOrder, ASpec}
use Rattle.json_members.specs.Spots.{row_at, required_of}
use Rattle.json_members.specs.Rows.{span_of, through}
use Rattle.json_members.proofs.Names.{all_at}
use Rattle.json_store.specs.Places.{fields_at, partitions_at}
use Rattle.json_store.specs.Numbers.{byte_at, count_at}
use Rattle.json_store.specs.Puts.{part}
use Rattle.json_store.specs.Made.{each, partition_id_in, snapshot_in, reference_in, schema_offer_in, spec_offer_in, sort_field_in, sort_order_in}
use Rattle.json_store.specs.Stored.{member_at_lem, is_there, ValueHeld, Held, RecordHeld, SnapshotHeld, UpdateHeld}
use Rattle.json_made.proofs.Taken.{text_there, items_there, number_required, number_maybe, number_or_zero, range_maybe}

module _ (slots numbers texts : List ℕ) where
  -- a required member is there
  required_there : (kind : Kind) (ms : Members) → RecordHeld slots numbers texts kind ms → (spot : ℕ) → any (eqb spot) (required_of kind) ≡ true → is_there ms spot ≡ true
  required_there kind ms h spot e = all_at (is_there ms) (required_of kind) spot h.there e

  pub must_there : (kind : ℕ) (ms : Members) → UpdateHeld slots numbers texts kind ms
      → (spot : ℕ) → any (eqb spot) (through (span_of kind).first (span_of kind).must) ≡ true → is_there ms spot ≡ true
  must_there kind ms h spot e = all_at (is_there ms) (through (span_of kind).first (span_of kind).must) spot h.there e

  pub snapshot_made : (ms : Members) → SnapshotHeld slots numbers texts ms → snapshot_in slots numbers ≡ snapshot_of ms
  unfolding snapshot_in ValueHeld row_at
  snapshot_made ms h =
      let m = h.record_held.members in
      let there = required_there ASnapshot ms h.record_held in
      λ i. record {
        id = number_required _ _ (there 27 refl) (m 27 refl).value i;
        parent = number_maybe _ _ _ (m 28 refl).seen (m 28 refl).value i;
        sequence = record { 0 = number_or_zero _ _ _ (m 29 refl).seen (m 29 refl).value i };
        time = number_required _ _ (there 30 refl) (m 30 refl).value i;
        rows = range_maybe _ _ _ _ _ (m 31 refl).seen h.halves (m 31 refl).value (m 32 refl).value i;
      }

  -- the members of a ref are those of the update
  pub reference_made : (ms : Members) → UpdateHeld slots numbers texts set_ref_kind ms → reference_in slots numbers ≡ reference_of ms
  unfolding reference_in Held ValueHeld row_at span_of
  reference_made ms h =
      let m = h.members in
      λ i. record {
        snapshot = number_required _ _ (must_there set_ref_kind ms h 11 refl) (m 11 refl).value i;
        kind = text_there (λ t. byte_at numbers 10 ≡ cond (same_bytes t (bytes "branch")) branch tag) (member_at_lem 10 ms) (must_there set_ref_kind ms h 10 refl) (m 10 refl).value i;
        min_snapshots = number_maybe _ _ _ (m 12 refl).seen (m 12 refl).value i;
        max_snapshot_age = number_maybe _ _ _ (m 13 refl).seen (m 13 refl).value i;
        max_ref_age = number_maybe _ _ _ (m 14 refl).seen (m 14 refl).value i;
      }

  -- ---- a schema and its fields

  module _ (ms : Members) (h : RecordHeld slots numbers texts ASchema ms) where
    pub schema_made : (place : ℕ) → schema_offer_in slots numbers place ≡ record { id = (schema_of ms).id; at = place; count = length (schema_of ms).fields }
    unfolding schema_offer_in ValueHeld row_at
    schema_made place =
        let m = h.members in
        λ i. record {
          id = number_or_zero _ _ _ (m 37 refl).seen (m 37 refl).value i;
          at = place;
          count = items_there (λ xs. count_at 32 numbers 38 ≡ length (records_of field_of xs)) (member_at_lem 38 ms) (required_there ASchema ms h 38 refl) (λ x e. ((m 38 refl).value x e).count) i;
        }

    pub fields_offered : part fields_at (count_at 32 numbers 38 * 38) texts ≡ all_bytes field_offer (schema_of ms).fields
    unfolding ValueHeld row_at
    fields_offered =
        items_there (λ xs. part fields_at (count_at 32 numbers 38 * 38) texts ≡ all_bytes field_offer (records_of field_of xs)) (member_at_lem 38 ms)
        (required_there ASchema ms h 38 refl) (λ x e. ((h.members 38 refl).value x e).offer)

  -- ---- a sort order

  pub order_made : (ms : Members) → RecordHeld slots numbers texts AnOrder ms → sort_order_in numbers ≡ order_of ms
  unfolding sort_order_in ValueHeld row_at
  order_made ms h =
      let m = h.members in
      λ i. record {
        id = number_required _ _ (required_there AnOrder ms h 44 refl) (m 44 refl).value i;
        fields = items_there (λ xs. each (sort_field_in numbers) (count_at 8 numbers 45) ≡ records_of sort_field_of xs) (member_at_lem 45 ms) (required_there AnOrder ms h 45 refl) (m 45 refl).value i;
      }

  -- ---- a partition spec and its fields

  module _ (ms : Members) (h : RecordHeld slots numbers texts ASpec ms) where
    pub spec_made : (place : ℕ) → spec_offer_in slots numbers place ≡ record { id = (spec_of ms).id; at = place; ids = map (λ (f : PartitionField). f.id) (spec_of ms).fields }
    unfolding spec_offer_in ValueHeld row_at
    spec_made place =
        let m = h.members in
        λ i. record {
          id = number_or_zero _ _ _ (m 51 refl).seen (m 51 refl).value i;
          at = place;
          ids = items_there (λ xs. each (partition_id_in numbers) (count_at 8 numbers 52) ≡ map (λ (f : PartitionField). f.id) (records_of partition_field_of xs)) (member_at_lem 52 ms)
              (required_there ASpec ms h 52 refl) (λ x e. ((m 52 refl).value x e).ids) i;
        }

    pub partitions_offered : part partitions_at (count_at 8 numbers 52 * 42) texts ≡ all_bytes partition_offer (spec_of ms).fields
    unfolding ValueHeld row_at
    partitions_offered =
        items_there (λ xs. part partitions_at (count_at 8 numbers 52 * 42) texts ≡ all_bytes partition_offer (records_of partition_field_of xs)) (member_at_lem 52 ms)
        (required_there ASpec ms h 52 refl) (λ x e. ((h.members 52 refl).value x e).offer)
