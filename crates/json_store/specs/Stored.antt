-- What is stored of the members of an update, against the values that they have: of each member whether it was seen, and what is held of its value, in the form in
-- which the update is made of it.
use Rattle.std.specs.Prelude.{ℕ, ◌*◌, ◌≡◌, Bool, true, cond, List, [], ◌∷◌, map, eqb, pos, length}
use Rattle.std.proofs.Math.Option.{Option, some}
use Rattle.rules.specs.Words.{is_some, or_else, all, any, same_bytes}
use Rattle.rules.specs.WellFormed.{branch, tag}
use Rattle.rules.specs.Register.{PartitionField}
use Rattle.json_rule.specs.Letters.{bytes}
use Rattle.json_rule.specs.Tree.{Json, Members}
use Rattle.json_rule.specs.Members as said
use Rattle.json_rule.specs.Records.{numbers_of, records_of, uuid_of, field_of, sort_field_of, partition_field_of, field_offer, partition_offer, all_bytes}
use Rattle.json_rule.specs.Shapes.{Kind, ASnapshot, ASchema, AnOrder, ASpec}
use Rattle.json_members.specs.Slots.{seen_in}
use Rattle.json_members.specs.Spots.{name_at, spots_of, required_of}
use Rattle.json_members.specs.Rows.{span_of, through}
use Rattle.json_store.specs.Places.{uuid_at, location_at, ref_name_at, fields_at, partitions_at}
use Rattle.json_store.specs.Numbers.{magnitude_at, number_at, narrow_at, byte_at, count_at}
use Rattle.json_store.specs.Puts.{part}
use Rattle.json_store.specs.Made.{each, text_in, partition_id_in, sort_field_in, snapshot_ids_in, schema_ids_in, spec_ids_in}

-- ---- members

-- the value of the member of a spot
abbrev pub member_at_lem : ℕ → Members → Option Json
member_at_lem spot ms = said.value_of (name_at spot) ms

abbrev pub is_there : Members → ℕ → Bool
is_there ms spot = is_some (member_at_lem spot ms)

-- a member of an object: it was seen where it is there, and so much is held of its value
pub record MemberHeld (Held : ℕ → Json → Type 0) (slots : List ℕ) (ms : Members) (spot : ℕ) : Type 0 where
  pub seen : seen_in slots spot ≡ is_there ms spot
  pub value : (x : Json) → member_at_lem spot ms ≡ some x → Held spot x

-- ---- values that are no record

-- the text that a value is
abbrev pub said_text : Json → List ℕ
said_text x = or_else (said.text_in x) []

-- of 64 bits, of 32, and not below 0
abbrev pub wide_spots : List ℕ
wide_spots = 11 ∷ 13 ∷ 14 ∷ 20 ∷ 27 ∷ 28 ∷ 29 ∷ 30 ∷ 44 ∷ []

abbrev pub narrow_spots : List ℕ
narrow_spots = 12 ∷ 16 ∷ 17 ∷ 22 ∷ 37 ∷ 51 ∷ []

abbrev pub natural_spots : List ℕ
natural_spots = 31 ∷ 32 ∷ []

-- the fields of a schema: how many, and the bytes in which they are offered
pub record FieldsHeld (numbers texts : List ℕ) (x : Json) : Type 0 where
  pub count : count_at 32 numbers 38 ≡ length (records_of field_of (said.items_in x))
  pub offer : part fields_at (count_at 32 numbers 38 * 38) texts ≡ all_bytes field_offer (records_of field_of (said.items_in x))

-- those of a partition spec: their ids, and the bytes
pub record PartitionsHeld (numbers texts : List ℕ) (x : Json) : Type 0 where
  pub ids : each (partition_id_in numbers) (count_at 8 numbers 52) ≡ map (λ (f : PartitionField). f.id) (records_of partition_field_of (said.items_in x))
  pub offer : part partitions_at (count_at 8 numbers 52 * 42) texts ≡ all_bytes partition_offer (records_of partition_field_of (said.items_in x))

-- by its spot; of the others nothing is asked
unfoldable pub ValueHeld : List ℕ → List ℕ → ℕ → Json → Type 0
ValueHeld numbers texts spot x =
    cond (any (eqb spot) wide_spots) (said.number_in x ≡ some (number_at numbers spot))
    (cond (any (eqb spot) narrow_spots) (said.number_in x ≡ some (narrow_at numbers spot))
    (cond (any (eqb spot) natural_spots) (said.number_in x ≡ some (pos (magnitude_at numbers spot)))
    (cond (eqb spot 4) (part uuid_at 16 texts ≡ uuid_of (said_text x))
    (cond (eqb spot 5) (said.number_in x ≡ some (pos (byte_at numbers spot)))
    (cond (eqb spot 6) (text_in 96 location_at texts ≡ said_text x)
    (cond (eqb spot 8) (snapshot_ids_in numbers ≡ numbers_of (said.items_in x))
    (cond (eqb spot 9) (text_in 32 ref_name_at texts ≡ said_text x)
    (cond (eqb spot 10) (byte_at numbers spot ≡ cond (same_bytes (said_text x) (bytes "branch")) branch tag)
    (cond (eqb spot 18) (schema_ids_in numbers ≡ numbers_of (said.items_in x))
    (cond (eqb spot 23) (spec_ids_in numbers ≡ numbers_of (said.items_in x))
    (cond (eqb spot 38) (FieldsHeld numbers texts x)
    (cond (eqb spot 45) (each (sort_field_in numbers) (count_at 8 numbers 45) ≡ records_of sort_field_of (said.items_in x))
    (cond (eqb spot 52) (PartitionsHeld numbers texts x)
    Unit)))))))))))))

-- ---- records, and the update

module _ (slots numbers texts : List ℕ) where
  -- a snapshot, a schema, a sort order or a partition spec of which nothing is missing
  pub record RecordHeld (kind : Kind) (ms : Members) : Type 0 where
    pub members : (spot : ℕ) → any (eqb spot) (spots_of kind) ≡ true → MemberHeld (ValueHeld numbers texts) slots ms spot
    pub there : all (is_there ms) (required_of kind) ≡ true

  -- of a snapshot also both halves of a row range, or neither
  pub record SnapshotHeld (ms : Members) : Type 0 where
    pub record_held : RecordHeld ASnapshot ms
    pub halves : is_there ms 31 ≡ is_there ms 32

  -- the value of a member of an update
  unfoldable pub Held : ℕ → Json → Type 0
  Held spot x =
      cond (eqb spot 7) (SnapshotHeld (said.members_in x))
      (cond (eqb spot 15) (RecordHeld ASchema (said.members_in x))
      (cond (eqb spot 19) (RecordHeld AnOrder (said.members_in x))
      (cond (eqb spot 21) (RecordHeld ASpec (said.members_in x))
      (ValueHeld numbers texts spot x))))

  -- the members of an update of a kind: those of its row, of which none is missing
  pub record UpdateHeld (kind : ℕ) (ms : Members) : Type 0 where
    pub members : (spot : ℕ) → any (eqb spot) (through (span_of kind).first (span_of kind).last) ≡ true → MemberHeld Held slots ms spot
    pub there : all (is_there ms) (through (span_of kind).first (span_of kind).must) ≡ true
