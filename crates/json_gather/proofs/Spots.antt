-- Which members are lists, records or values.
use Prim.Native.Nat.{ℕ}
use mathlib.Core.Path.{◌≡◌, refl, sym, ap, ◌∙◌}
use mathlib.Core.Bool.{Bool, true, false, not, ◌||◌, true≢false}
use mathlib.Core.List.{List, [], ◌∷◌}
use mathlib.Core.Option.{Option, none, some}
use borrow.Author.Tests.{not-true}
use borrow.Table.Steps.{cases}
use lib.Dec.{eqb}
use Rattle.rules.specs.Words.{all, any, is_some}
use Rattle.json_rule.specs.Shapes.{Kind, AnUpdate, ASnapshot, ASchema, AField, AnOrder, ASortField, ASpec, APartitionField, Shape, Anything, TextUpTo, OneOf, NumberIn, No, AUuid, ATransform, ListUpTo, ARecord}
use Rattle.json_rule.specs.Defects.{listing_of, kind_of, is_anything}
use Rattle.json_members.specs.Spots.{row_at, shape_at, spots_of, value_at}
use Rattle.json_members.proofs.Cases.{done, ◌&◌, by_keys}
use Rattle.json_stands.proofs.Members.{is_member}
use Rattle.json_stands.proofs.Open.{Ids, snapshot_ids, schema_ids, spec_ids, Part, snapshot, schema, order, spec, Fields, schema_fields, order_fields, spec_fields}
use Rattle.json_gather.proofs.Footprints.{of_all, part_of}

-- ---- the value that is wanted of a member

some_or_none : {A : Type 0} {a : A} → ◌≡◌ {A = Option A} none (some a) → ⊥
some_or_none e = true≢false (sym (ap is_some e))

-- its own spot, where not anything may stand
pub value_spot : (m v : ℕ) → value_at m ≡ v → is_anything (shape_at v) ≡ false → m ≡ v
unfolding value_at row_at
value_spot m v e n =
    cases (is_anything (shape_at m))
    (λ t. let z : 0 ≡ v = rw t at e in absurd (true≢false (rw (sym z) at n)))
    (λ f. rw f at e)

pub value_any : (kind : Kind) (m : ℕ) → is_member kind m ≡ true → value_at m ≡ 0 → is_anything (shape_at m) ≡ true
unfolding value_at
value_any kind m i e =
    cases (is_anything (shape_at m)) (λ t. t)
    (λ f. let z : m ≡ 0 = rw f at e in absurd (true≢false (sym i ∙ (ap (is_member kind) z ∙ none_there kind))))
  where
    none_there : (kind : Kind) → is_member kind 0 ≡ false
    none_there AnUpdate = refl
    none_there ASnapshot = refl
    none_there ASchema = refl
    none_there AField = refl
    none_there AnOrder = refl
    none_there ASortField = refl
    none_there ASpec = refl
    none_there APartitionField = refl

-- a list, and a record, is not anything
pub list_something : (s : Shape) → is_some (listing_of s) ≡ true → is_anything s ≡ false
list_something Anything e = absurd (true≢false (sym e))
list_something (TextUpTo room) e = refl
list_something (OneOf words) e = refl
list_something (NumberIn least most) e = refl
list_something No e = refl
list_something AUuid e = refl
list_something ATransform e = refl
list_something (ListUpTo room each) e = refl
list_something (ARecord kind) e = refl

pub record_is : (s : Shape) (kind : Kind) → kind_of s ≡ some kind → s ≡ ARecord kind
record_is Anything kind e = absurd (some_or_none e)
record_is (TextUpTo room) kind e = absurd (some_or_none e)
record_is (OneOf words) kind e = absurd (some_or_none e)
record_is (NumberIn least most) kind e = absurd (some_or_none e)
record_is No kind e = absurd (some_or_none e)
record_is AUuid kind e = absurd (some_or_none e)
record_is ATransform kind e = absurd (some_or_none e)
record_is (ListUpTo room each) kind e = absurd (some_or_none e)
record_is (ARecord other) kind e = let q : other ≡ kind = cc in rw q

pub record_something : (s : Shape) (kind : Kind) → kind_of s ≡ some kind → is_anything s ≡ false
record_something s kind e = ap is_anything (record_is s kind e)

-- ---- lists

only_lists : (kind : Kind) (keys : List ℕ) (v : ℕ) → all (λ y. any (eqb y) keys || not (is_some (listing_of (shape_at y)))) (spots_of kind) ≡ true → is_member kind v ≡ true → is_some (listing_of (shape_at v)) ≡ true → any (eqb v) keys ≡ true
only_lists kind keys v a i e =
    cases (any (eqb v) keys) (λ t. t)
    (λ f. absurd (true≢false (sym e ∙ not-true (is_some (listing_of (shape_at v))) (rw f at (of_all (λ y. any (eqb y) keys || not (is_some (listing_of (shape_at y)))) (spots_of kind) v i a)))))

no_keys : (v : ℕ) → any (eqb v) [] ≡ true → ⊥
no_keys v e = true≢false (sym e)

-- the lists of an update are lists of ids
pub record IdsHere (v : ℕ) : Type 0 where
  pub each : Shape
  pub are : Ids v each

pub update_list_lem : (v : ℕ) → is_member AnUpdate v ≡ true → is_some (listing_of (shape_at v)) ≡ true → IdsHere v
unfolding row_at
update_list_lem v i e =
    by_keys (λ x. any (eqb x) (8 ∷ 18 ∷ 23 ∷ []) ≡ true → IdsHere x) (8 ∷ 18 ∷ 23 ∷ []) v
    ((λ _. record { each = _; are = snapshot_ids }) & (λ _. record { each = _; are = schema_ids }) & (λ _. record { each = _; are = spec_ids }) & done)
    (λ n t. absurd (true≢false (sym t ∙ n))) (only_lists AnUpdate (8 ∷ 18 ∷ 23 ∷ []) v refl i e)

-- those of a record are its fields
pub record FieldsHere (v : ℕ) (kind : Kind) : Type 0 where
  pub room : ℕ
  pub item : ℕ
  pub each : Kind
  pub are : Fields v room item each kind

pub part_list : {w : ℕ} {kind : Kind} → Part w kind → (v : ℕ) → is_member kind v ≡ true → is_some (listing_of (shape_at v)) ≡ true → FieldsHere v kind
unfolding row_at
part_list snapshot v i e = absurd (no_keys v (only_lists ASnapshot [] v refl i e))
part_list schema v i e =
    by_keys (λ x. any (eqb x) (38 ∷ []) ≡ true → FieldsHere x ASchema) (38 ∷ []) v ((λ _. record { room = _; item = _; each = _; are = schema_fields }) & done) (λ n t. absurd (true≢false (sym t ∙ n))) (only_lists ASchema (38 ∷ []) v refl i e)
part_list order v i e =
    by_keys (λ x. any (eqb x) (45 ∷ []) ≡ true → FieldsHere x AnOrder) (45 ∷ []) v ((λ _. record { room = _; item = _; each = _; are = order_fields }) & done) (λ n t. absurd (true≢false (sym t ∙ n))) (only_lists AnOrder (45 ∷ []) v refl i e)
part_list spec v i e =
    by_keys (λ x. any (eqb x) (52 ∷ []) ≡ true → FieldsHere x ASpec) (52 ∷ []) v ((λ _. record { room = _; item = _; each = _; are = spec_fields }) & done) (λ n t. absurd (true≢false (sym t ∙ n))) (only_lists ASpec (52 ∷ []) v refl i e)

pub field_list : {w room x : ℕ} {each kind : Kind} → Fields w room x each kind → (v : ℕ) → is_member each v ≡ true → is_some (listing_of (shape_at v)) ≡ true → ⊥
unfolding row_at
field_list schema_fields v i e = no_keys v (only_lists AField [] v refl i e)
field_list order_fields v i e = no_keys v (only_lists ASortField [] v refl i e)
field_list spec_fields v i e = no_keys v (only_lists APartitionField [] v refl i e)

-- ---- records

abbrev no_records : Kind → Bool
no_records kind = all (λ y. not (is_some (kind_of (shape_at y)))) (spots_of kind)

no_record : (outer : Kind) (v : ℕ) (kind : Kind) → no_records outer ≡ true → is_member outer v ≡ true → kind_of (shape_at v) ≡ some kind → ⊥
no_record outer v kind a i e = true≢false (sym (ap is_some e) ∙ not-true (is_some (kind_of (shape_at v))) (of_all (λ y. not (is_some (kind_of (shape_at y)))) (spots_of outer) v i a))

-- those of an update; a record and a field have none
pub update_record : (v : ℕ) (kind : Kind) → is_member AnUpdate v ≡ true → kind_of (shape_at v) ≡ some kind → Part v kind
update_record v kind i e = part_of v kind i (record_is (shape_at v) kind e)

pub part_record : {w : ℕ} {outer : Kind} → Part w outer → (v : ℕ) (kind : Kind) → is_member outer v ≡ true → kind_of (shape_at v) ≡ some kind → ⊥
unfolding row_at
part_record snapshot v kind i e = no_record ASnapshot v kind refl i e
part_record schema v kind i e = no_record ASchema v kind refl i e
part_record order v kind i e = no_record AnOrder v kind refl i e
part_record spec v kind i e = no_record ASpec v kind refl i e

pub field_record : {w room x : ℕ} {each outer : Kind} → Fields w room x each outer → (v : ℕ) (kind : Kind) → is_member each v ≡ true → kind_of (shape_at v) ≡ some kind → ⊥
unfolding row_at
field_record schema_fields v kind i e = no_record AField v kind refl i e
field_record order_fields v kind i e = no_record ASortField v kind refl i e
field_record spec_fields v kind i e = no_record APartitionField v kind refl i e
