-- The fields of a schema and of a partition spec, each two of which are apart as the code tests it: they are as the rule asks.
use Prim.Native.Nat.{ℕ, ◌-◌, ◌<◌}
use native.Mathlib.Omega.{arith}
use mathlib.Core.Path.{◌≡◌, refl, sym, ap, ap₂, ◌∙◌}
use mathlib.Core.Bool.{Bool, true, false, not, ◌&&◌, ◌||◌, and_assoc}
use mathlib.Core.List.{List, [], ◌∷◌, map, append-nil}
use borrow.Author.Tests.{leb-true, leb-false, eqb-true}
use borrow.Table.Steps.{cases}
use lib.Dec.{eqb, leb}
use lib.ListN.{length, take, replicate}
use lib.Seq.{take_all, take_at}
use Rattle.records.specs.declared.text.Name.{Name}
use Rattle.records.specs.declared.schema.SchemaField.{SchemaField}
use Rattle.records.specs.declared.partition.PartitionField.{PartitionField}
use Rattle.rules.specs.Words.{eq_z, is_some, all, each_pair, unequal_by, collect, same_bytes, unequal}
use Rattle.rules.specs.Capacities.{name_room}
use Rattle.rules.specs.WellFormed.{schema_field_formed}
use Rattle.rules.specs.Partitions.{is_redundant}
use Rattle.rules.specs.Blanks.{is_zero_z, is_tidy_name, is_tidy_schema_field, is_tidy_partition_field}
use Rattle.rules.specs.Layout.{pad, read_name, read_schema_field, read_partition_field}
use Rattle.rules.specs.Register as plain
use Rattle.rules.proofs.Checks.{and_left, and_right}
use Rattle.rules.proofs.Orders.{names_told_lem}
use Rattle.rules.proofs.Tables.{all_head, all_tail, all_read, pairs_read}
use Rattle.rules.proofs.Slots.Relaid.{flag_given, length_counted, bytes_back}
use Rattle.equality.specs.Same.{same_name}
use Rattle.equality.proofs.Told.{told_alike, ref_names_told}
use Rattle.formed.proofs.Pairs.{pairs_both, pairs_alike, read_unequal, alone}

-- ---- names that are tidy, also those of which more is read than they have bytes

abbrev named : List ℕ → Name
named l = record { bytes = take name_room (pad name_room 0 l); len = length l }

tidy_bytes : (t : Name) → is_tidy_name t ≡ true → take name_room (pad name_room 0 (read_name t)) ≡ t.bytes
tidy_bytes t e =
    let k : length t.bytes ≡ name_room = eqb-true _ _ (and_left (eqb (length t.bytes) name_room) _ e) in
    cases (leb t.len name_room)
    (λ y. rw (bytes_back name_room t.bytes t.len e (leb-true _ _ y)) (take_all name_room t.bytes (omega arith)))
    (λ n. let h : name_room < t.len = leb-false _ _ n in
    let z : name_room - length (read_name t) ≡ 0 = omega (arith, length_counted 0 t.bytes t.len) in
    rw (z, append-nil, take_all t.len t.bytes (omega arith)) (take_at t.bytes (replicate (t.len - length t.bytes) 0) name_room k))

-- they are the same exactly if the same is read of them
tidy_alike : (a b : Name) → is_tidy_name a ≡ true → is_tidy_name b ≡ true → same_name a b ≡ same_bytes (read_name a) (read_name b)
tidy_alike a b p q = told_alike read_name named ref_names_told names_told_lem a b (back a p) (back b q)
  where
    back : (t : Name) → is_tidy_name t ≡ true → named (read_name t) ≡ t
    back t e = let n : length (read_name t) ≡ t.len = length_counted 0 t.bytes t.len in λ i. record { bytes = tidy_bytes t e i; len = n i }

-- no two are the same by a key of what is read
twice_unequal : {A B K : Type 0} (same : K → K → Bool) (rd : A → B) (key : B → K) (l : List A) → each_pair (λ (x y : A). not (same (key (rd x)) (key (rd y)))) l ≡ unequal_by same (map key (map rd l))
twice_unequal same rd key l = sym (pairs_read rd (λ x y. not (same (key x) (key y))) l) ∙ read_unequal same key (map rd l)

-- ---- the fields of a schema

abbrev pub field_formed : SchemaField → Bool
field_formed f = schema_field_formed (read_schema_field f)

abbrev pub fields_apart : SchemaField → SchemaField → Bool
fields_apart a b = not (eq_z a.id.0 b.id.0) && not (same_name a.name b.name)

-- two tidy names differ exactly if what is read of them does
names_apart : (a b : Name) → is_tidy_name a ≡ true → is_tidy_name b ≡ true → not (same_name a b) ≡ not (same_bytes (read_name a) (read_name b))
names_apart a b p q = ap not (tidy_alike a b p q)

module _ (l : List SchemaField) (t : all is_tidy_schema_field l ≡ true) where
  abbrev formed : Bool
  formed = all schema_field_formed (map read_schema_field l)

  abbrev schema_ids : Bool
  schema_ids = unequal (map (λ (f : plain.SchemaField). f.id) (map read_schema_field l))

  abbrev schema_names : Bool
  schema_names = unequal_by same_bytes (map (λ (f : plain.SchemaField). f.name) (map read_schema_field l))

  -- first is what was found before the fields
  pub schema_fields_lem : (first : Bool) → (first && alone field_formed fields_apart l) ≡ (first && formed && schema_ids && schema_names)
  unfolding is_tidy_schema_field
  schema_fields_lem false = refl
  schema_fields_lem true =
      ap₂ ◌&&◌
      (sym (all_read read_schema_field schema_field_formed l))
      (pairs_both (λ a b. not (eq_z a.id.0 b.id.0)) (λ a b. not (same_name a.name b.name)) l
      ∙ ap₂ ◌&&◌
      (twice_unequal eq_z read_schema_field (λ f. f.id) l)
      (pairs_alike is_tidy_schema_field (λ a b. not (same_name a.name b.name)) (λ a b. not (same_bytes (read_name a.name) (read_name b.name))) (λ a b. names_apart a.name b.name) l t
      ∙ twice_unequal same_bytes read_schema_field (λ f. f.name) l))
      ∙ sym (and_assoc formed schema_ids schema_names)

-- ---- the fields of a partition spec that is held

abbrev pub partitions_apart : PartitionField → PartitionField → Bool
partitions_apart a b = not (same_name a.name b.name) && not (eq_z a.field_id.0 b.field_id.0) && not (is_redundant (read_partition_field a) (read_partition_field b))

abbrev pub has_id : PartitionField → Bool
has_id f = f.has_id

-- where every field has an id, those are the ids
ids_given : (l : List PartitionField) → all has_id l ≡ true → collect (λ (f : plain.PartitionField). f.id) (map read_partition_field l) ≡ map (λ (f : PartitionField). f.field_id.0) l
ids_given [] h = refl
ids_given (f ∷ l) h = rw (all_head has_id f l h, ids_given l (all_tail has_id f l h))

abbrev all_given : List plain.PartitionField → Bool
all_given l = all (λ (f : plain.PartitionField). is_some f.id) l

some_given : (l : List PartitionField) → all has_id l ≡ all_given (map read_partition_field l)
some_given l = sym (all_read read_partition_field (λ f. is_some f.id) l ∙ ap (λ (q : PartitionField → Bool). all q l) (λ i f. flag_given f.has_id f.field_id.0 i))

abbrev names_unequal : List plain.PartitionField → Bool
names_unequal l = unequal_by same_bytes (map (λ (f : plain.PartitionField). f.name) l)

abbrev ids_unequal : List plain.PartitionField → Bool
ids_unequal l = unequal (collect (λ (f : plain.PartitionField). f.id) l)

apart_parts : (l : List PartitionField) → all is_tidy_partition_field l ≡ true → all has_id l ≡ true → each_pair partitions_apart l ≡ (names_unequal (map read_partition_field l) && ids_unequal (map read_partition_field l) && unequal_by is_redundant (map read_partition_field l))
unfolding is_tidy_partition_field
apart_parts l t h =
    let name : PartitionField → PartitionField → Bool = λ a b. not (same_name a.name b.name) in
    let id : PartitionField → PartitionField → Bool = λ a b. not (eq_z a.field_id.0 b.field_id.0) in
    let redundant : PartitionField → PartitionField → Bool = λ a b. not (is_redundant (read_partition_field a) (read_partition_field b)) in
    pairs_both (λ a b. name a b && id a b) redundant l
    ∙ ap₂ ◌&&◌
    (pairs_both name id l
    ∙ ap₂ ◌&&◌
    (pairs_alike is_tidy_partition_field name (λ a b. not (same_bytes (read_name a.name) (read_name b.name))) (λ a b p q. names_apart a.name b.name (and_right (a.has_id || is_zero_z a.field_id.0) _ p) (and_right (b.has_id || is_zero_z b.field_id.0) _ q)) l t
    ∙ twice_unequal same_bytes read_partition_field (λ f. f.name) l)
    (read_unequal eq_z (λ (f : PartitionField). f.field_id.0) l ∙ ap unequal (sym (ids_given l h))))
    (read_unequal is_redundant read_partition_field l)

pub spec_fields_lem : (l : List PartitionField) → all is_tidy_partition_field l ≡ true
    → alone has_id partitions_apart l ≡ (all_given (map read_partition_field l) && names_unequal (map read_partition_field l) && ids_unequal (map read_partition_field l) && unequal_by is_redundant (map read_partition_field l))
spec_fields_lem l t =
    cases (all has_id l)
    (λ y. rw (y, sym (some_given l) ∙ y) (apart_parts l t y))
    (λ n. rw (n, sym (some_given l) ∙ n))
