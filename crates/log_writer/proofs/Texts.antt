-- The pieces of each update, one behind the other, are the rule's text of it.
use Prim.Native.Nat.{ℕ}
use mathlib.Core.Path.{◌≡◌, refl, sym, ap, ◌∙◌}
use mathlib.Core.Bool.{Bool, true, false, cond}
use mathlib.Core.List.{List, [], ◌∷◌, ◌++◌, append_assoc}
use mathlib.Core.Option.{none, some}
use lib.Dec.{eqb}
use lib.IntN.{ℤ}
use Rattle.records.specs.declared.reference.SnapshotReference.{SnapshotReference}
use Rattle.records.specs.declared.partition.PartitionField.{PartitionField}
use Rattle.records.specs.declared.partition.PartitionSpec.{PartitionSpec}
use Rattle.rules.specs.Register as plain
use Rattle.rules.specs.Register.Update.{AssignUuid, UpgradeFormatVersion, SetLocation, AddSnapshot, RemoveSnapshots, SetRef, RemoveRef, AddSchema, SetCurrentSchema, RemoveSchemas, AddSortOrder, SetDefaultSortOrder, AddPartitionSpec, SetDefaultPartitionSpec, RemovePartitionSpecs}
use Rattle.rules.specs.Offers.{offered_schema, offer_formed, offered_spec, spec_offer_formed}
use Rattle.rules.specs.Layout.{given, read_name, read_reference, read_partition_field, read_partition_spec}
use Rattle.json_rule.specs.Letters.{bytes}
use Rattle.json_rule.specs.Records.{Sent, SendsSchema, SendsSpec}
use Rattle.file_rule.specs.Written.{natural_text, number_text, quoted, word_text, items, also_if}
use Rattle.file_rule.specs.Files.{uuid_text, transform_text, snapshot_text, schema_text, order_text}
use Rattle.file_text.specs.Puts.{only_if}
use Rattle.file_tables.proofs.Texts.{also_if_lem, either}
use Rattle.log_rule.specs.LogText.{sent_in, partition_text, offered_spec_text, plain_text, sent_text, text_if, update_text, log_text}

-- ---- single members

pub uuid_is : (uuid : List ℕ) → bytes "{\"action\":\"assign-uuid\",\"uuid\":" ++ uuid_text uuid ++ bytes "}" ≡ plain_text (AssignUuid uuid)
unfolding plain_text
uuid_is uuid = refl

pub upgrade_is : (v : ℕ) → bytes "{\"action\":\"upgrade-format-version\",\"format-version\":" ++ natural_text v ++ bytes "}" ≡ plain_text (UpgradeFormatVersion v)
unfolding plain_text
upgrade_is v = refl

pub location_is : (location : List ℕ) → bytes "{\"action\":\"set-location\",\"location\":" ++ quoted location ++ bytes "}" ≡ plain_text (SetLocation location)
unfolding plain_text
location_is location = refl

pub remove_ref_is : (name : List ℕ) → bytes "{\"action\":\"remove-snapshot-ref\",\"ref-name\":" ++ quoted name ++ bytes "}" ≡ plain_text (RemoveRef name)
unfolding plain_text
remove_ref_is name = refl

pub current_schema_is : (id : ℤ) {a : ℤ} → a ≡ id → bytes "{\"action\":\"set-current-schema\",\"schema-id\":" ++ number_text a ++ bytes "}" ≡ plain_text (SetCurrentSchema id)
unfolding plain_text
current_schema_is id p = rw p

pub default_order_is : (id : ℤ) {a : ℤ} → a ≡ id → bytes "{\"action\":\"set-default-sort-order\",\"sort-order-id\":" ++ number_text a ++ bytes "}" ≡ plain_text (SetDefaultSortOrder id)
unfolding plain_text
default_order_is id p = rw p

pub default_spec_is : (id : ℤ) {a : ℤ} → a ≡ id → bytes "{\"action\":\"set-default-spec\",\"spec-id\":" ++ number_text a ++ bytes "}" ≡ plain_text (SetDefaultPartitionSpec id)
unfolding plain_text
default_spec_is id p = rw p

-- ---- lists

closed : (l : List ℕ) → l ++ bytes "]}" ≡ (l ++ (93 ∷ [])) ++ (125 ∷ [])
closed l = sym (append_assoc l (93 ∷ []) (125 ∷ []))

pub remove_snapshots_is : (ids : List ℤ) → bytes "{\"action\":\"remove-snapshots\",\"snapshot-ids\":[" ++ items number_text ids ++ bytes "]}" ≡ plain_text (RemoveSnapshots ids)
unfolding plain_text
remove_snapshots_is ids = ap (λ (l : List ℕ). bytes "{\"action\":\"remove-snapshots\",\"snapshot-ids\":[" ++ l) (closed (items number_text ids))

pub remove_schemas_is : (ids : List ℤ) → bytes "{\"action\":\"remove-schemas\",\"schema-ids\":[" ++ items number_text ids ++ bytes "]}" ≡ plain_text (RemoveSchemas ids)
unfolding plain_text
remove_schemas_is ids = ap (λ (l : List ℕ). bytes "{\"action\":\"remove-schemas\",\"schema-ids\":[" ++ l) (closed (items number_text ids))

pub remove_specs_is : (ids : List ℤ) → bytes "{\"action\":\"remove-partition-specs\",\"spec-ids\":[" ++ items number_text ids ++ bytes "]}" ≡ plain_text (RemovePartitionSpecs ids)
unfolding plain_text
remove_specs_is ids = ap (λ (l : List ℕ). bytes "{\"action\":\"remove-partition-specs\",\"spec-ids\":[" ++ l) (closed (items number_text ids))

-- ---- records

pub add_snapshot_is : (s : plain.Snapshot) → bytes "{\"action\":\"add-snapshot\",\"snapshot\":" ++ snapshot_text 3 s ++ bytes "}" ≡ plain_text (AddSnapshot s)
unfolding plain_text
add_snapshot_is s = refl

pub add_order_is : (o : plain.SortOrder) → bytes "{\"action\":\"add-sort-order\",\"sort-order\":" ++ order_text o ++ bytes "}" ≡ plain_text (AddSortOrder o)
unfolding plain_text
add_order_is o = refl

pub set_ref_is : (name : List ℕ) (f : SnapshotReference) {a b c d : ℤ} → a ≡ f.snapshot_id.0 → b ≡ f.min_snapshots_to_keep.0 → c ≡ f.max_snapshot_age_ms.0 → d ≡ f.max_ref_age_ms.0
    → bytes "{\"action\":\"set-snapshot-ref\",\"ref-name\":" ++ quoted name ++ cond (eqb f.kind 1) (bytes ",\"type\":\"branch\"") (bytes ",\"type\":\"tag\"") ++ (bytes ",\"snapshot-id\":" ++ number_text a)
    ++ only_if f.has_min (bytes ",\"min-snapshots-to-keep\":" ++ number_text b) ++ only_if f.has_age (bytes ",\"max-snapshot-age-ms\":" ++ number_text c) ++ only_if f.has_ref_age (bytes ",\"max-ref-age-ms\":" ++ number_text d) ++ bytes "}"
    ≡ plain_text (SetRef name (read_reference f))
unfolding plain_text
set_ref_is name f p q r t =
    rw (
      p,
      q,
      r,
      t,
      either (eqb f.kind 1) (bytes ",\"type\":") (word_text "branch") (word_text "tag"),
      also_if_lem f.has_min "min-snapshots-to-keep" f.min_snapshots_to_keep.0,
      also_if_lem f.has_age "max-snapshot-age-ms" f.max_snapshot_age_ms.0,
      also_if_lem f.has_ref_age "max-ref-age-ms" f.max_ref_age_ms.0,
    )

-- ---- what is offered

-- what is sent where a test holds
sent_if : (x : Sent) (f : Bool) → f ≡ true → sent_text x ≡ text_if (cond f (some x) none)
sent_if x f e = sym (ap (λ (b : Bool). text_if (cond b (some x) none)) e)

nothing_if : (x : Sent) (f : Bool) → f ≡ false → [] ≡ text_if (cond f (some x) none)
nothing_if x f e = sym (ap (λ (b : Bool). text_if (cond b (some x) none)) e)

-- a schema that is well formed, and one that is not
module _ (offers : List ℕ) (o : plain.SchemaOffer) where
  pub schema_written : {s : plain.Schema} → offer_formed offers o ≡ true → s ≡ offered_schema offers o → bytes "{\"action\":\"add-schema\",\"schema\":" ++ schema_text s ++ bytes "}" ≡ update_text offers (AddSchema o)
  unfolding sent_in
  schema_written e p = ap (λ (x : plain.Schema). sent_text (SendsSchema x)) p ∙ sent_if (SendsSchema (offered_schema offers o)) (offer_formed offers o) e

  pub schema_left_out : offer_formed offers o ≡ false → [] ≡ update_text offers (AddSchema o)
  unfolding sent_in
  schema_left_out e = nothing_if (SendsSchema (offered_schema offers o)) (offer_formed offers o) e

-- the same of a spec
module _ (offers : List ℕ) (o : plain.SpecOffer) where
  pub spec_written : {s : plain.PartitionSpec} → spec_offer_formed offers o ≡ true → s ≡ offered_spec offers o → bytes "{\"action\":\"add-spec\",\"spec\":" ++ offered_spec_text s ++ bytes "}" ≡ update_text offers (AddPartitionSpec o)
  unfolding sent_in
  spec_written e p = ap (λ (x : plain.PartitionSpec). sent_text (SendsSpec x)) p ∙ sent_if (SendsSpec (offered_spec offers o)) (spec_offer_formed offers o) e

  pub spec_left_out : spec_offer_formed offers o ≡ false → [] ≡ update_text offers (AddPartitionSpec o)
  unfolding sent_in
  spec_left_out e = nothing_if (SendsSpec (offered_spec offers o)) (spec_offer_formed offers o) e

pub field_is : (f : PartitionField) {a b : ℤ} → a ≡ f.source_id.0 → b ≡ f.field_id.0
    → bytes "{\"source-id\":" ++ number_text a ++ only_if f.has_id (bytes ",\"field-id\":" ++ number_text b) ++ (bytes ",\"name\":" ++ quoted (read_name f.name)) ++ bytes ",\"transform\":" ++ transform_text f.transform f.buckets.0 ++ bytes "}"
    ≡ partition_text (read_partition_field f)
unfolding partition_text
field_is f p q =
    rw (p, q, also_if_lem f.has_id "field-id" f.field_id.0)
    (ap (λ (l : List ℕ). l ++ (125 ∷ []))
    (append_assoc (bytes "{\"source-id\":" ++ number_text f.source_id.0 ++ also_if "field-id" number_text (given f.has_id f.field_id.0) ++ (bytes ",\"name\":" ++ quoted (read_name f.name))) (bytes ",\"transform\":") (transform_text f.transform f.buckets.0)))

grouped : (x f i a e : List ℕ) → x ++ f ++ i ++ (a ++ e) ≡ x ++ (f ++ (i ++ a)) ++ e
grouped x f i a e = simp append_assoc

pub spec_is : (s : PartitionSpec) {a : ℤ} → a ≡ s.spec_id.0
    → bytes "{\"spec-id\":" ++ number_text a ++ bytes ",\"fields\":[" ++ items partition_text (read_partition_spec s).fields ++ bytes "]}" ≡ offered_spec_text (read_partition_spec s)
unfolding offered_spec_text
spec_is s p = rw p (grouped (bytes "{\"spec-id\":" ++ number_text s.spec_id.0) (bytes ",\"fields\":[") (items partition_text (read_partition_spec s).fields) (93 ∷ []) (125 ∷ []))

-- ---- the log

pub log_is : (offers : List ℕ) (log : List plain.Update) → bytes "[" ++ items (update_text offers) log ++ bytes "]" ≡ log_text log offers
unfolding log_text
log_is offers log = refl
