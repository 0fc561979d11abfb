-- Each update that can be sent: the object that is written of it is read back as that update.
use Prim.Native.Nat.{ℕ, ◌≤◌}
use native.Mathlib.Omega.{arith}
use Prim.Native.String.{String}
use mathlib.Core.Path.{◌≡◌, refl, ◌∙◌, ap}
use mathlib.Core.Bool.{Bool, true, false, cond, ◌&&◌, false≢true}
use mathlib.Core.List.{List, [], ◌∷◌}
use mathlib.Core.Option.{none, some}
use lib.Dec.{eqb, leb}
use lib.IntN.{ℤ, pos}
use lib.ListN.{length}
use borrow.Author.Tests.{eqb-true, leb-true, le-leb}
use Rattle.rules.specs.Words.{all, same_bytes}
use Rattle.rules.specs.Capacities.{name_room, location_room, removal_room}
use Rattle.rules.specs.WellFormed.{branch, tag, kind_formed}
use Rattle.rules.specs.Register.{Snapshot, Reference, Schema, SortOrder, PartitionSpec, Update}
use Rattle.rules.specs.Register.Update.{AssignUuid, UpgradeFormatVersion, SetLocation, AddSnapshot, SetBranchSnapshot, RemoveSnapshots, SetRef, RemoveRef, AddSchema, SetCurrentSchema, RemoveSchemas, AddSortOrder, SetDefaultSortOrder, SetStatistics, RemoveStatistics, AddPartitionSpec, SetDefaultPartitionSpec, RemovePartitionSpecs, NotFormed}
use Rattle.rules.proofs.Checks.{parts, both, and_left, and_right}
use Rattle.json_rule.specs.Letters.{bytes}
use Rattle.json_rule.specs.Tree.{no_member}
use Rattle.json_rule.specs.Members.{members_in, members_by}
use Rattle.json_rule.specs.Records.{Sent, Plain, SendsSchema, SendsSpec, natural_of, uuid_of, numbers_of, snapshot_of, reference_of, schema_of, order_of, spec_of}
use Rattle.json_rule.specs.Shapes.{TextUpTo, OneOf, AUuid, i32, i64, u8, update_rows}
use Rattle.file_rule.specs.Written.{natural_text, number_text, quoted, escaped_byte, word_text, list_text, also, also_if}
use Rattle.file_rule.specs.Files.{uuid_text, uuid_from, snapshot_text, schema_text, order_text}
use Rattle.file_rule.specs.Export.{is_utf8}
use Rattle.file_rule.specs.Fits.{fits32, fits64, uuid_fits, snapshot_fits, reference_fits}
use Rattle.file_round.proofs.Documents.{Document, bytes_of, tree_at, members_at}
use Rattle.file_round.proofs.Numbers.{Fitting, number_token}
use Rattle.file_round.proofs.Texts.{text_token_lem}
use Rattle.file_round.proofs.Plain.{is_byte, uuid_back, uuid_text_lem, uuid_utf8, uuid_formed}
use Rattle.file_round.proofs.Fields.{Field, field, field_if, entries_of, number, quotation, object, group_text, ValuesGood, number_by_lem, number_or0_lem, text_by_lem, items_by_lem, pieces_fields, Only, looked}
use Rattle.file_round.proofs.Scalars as scalars
use Rattle.file_round.proofs.Scalars.{three, good32, good64, fitting32, fitting64, fine32, fine64, number_fine, text_fine, word_fine, uuid_fine, optional32_fine, optional32_good, optional32_fits, optional_good, optional_fits}
use Rattle.file_round.proofs.Snapshots.{snapshot_show, snapshot_shown}
use Rattle.file_round.proofs.Schemas.{schema_show, schema_ok, schema_shown, order_show, order_ok, order_shown}
use Rattle.file_round.proofs.Refs as refs
use Rattle.file_round.proofs.Refs.{kind_word, kind_is, kind_utf8, kind_made, min_text, max_text, age_text, type_text}
use Rattle.file_round.proofs.Lists.{documents, listing}
use Rattle.log_rule.specs.LogText.{plain_text, sent_text, ref_members, offered_spec_text}
use Rattle.log_round.proofs.Objects.{ValuesFine, single_fine, optional_fine}
use Rattle.log_round.proofs.Listed.{list_fine, numbers_written, numbers_good, numbers_made}
use Rattle.log_round.proofs.Records.{snapshot_fine, schema_fine, order_fine}
use Rattle.log_round.proofs.Specs.{spec_show, spec_ok, spec_shown}
use Rattle.log_round.proofs.Actions.{with_action, Shown, action_shown}

-- ---- the fields of each

abbrev pub ref_fields : List ℕ → Reference → List Field
ref_fields name r =
    field "ref-name" (quotation name)
    ∷ field "type" (quotation (kind_word r.kind))
    ∷ field "snapshot-id" (number r.snapshot)
    ∷ field_if "min-snapshots-to-keep" number r.min_snapshots
    ∷ field_if "max-snapshot-age-ms" number r.max_snapshot_age
    ∷ field_if "max-ref-age-ms" number r.max_ref_age
    ∷ []

abbrev pub plain_fields : Update → List Field
plain_fields (AssignUuid uuid) = with_action "assign-uuid" (field "uuid" (quotation (uuid_from 0 uuid)) ∷ [])
plain_fields (UpgradeFormatVersion v) = with_action "upgrade-format-version" (field "format-version" (number (pos v)) ∷ [])
plain_fields (SetLocation location) = with_action "set-location" (field "location" (quotation location) ∷ [])
plain_fields (AddSnapshot s) = with_action "add-snapshot" (field "snapshot" (snapshot_show 3 s) ∷ [])
plain_fields (SetBranchSnapshot name s) = []
plain_fields (RemoveSnapshots ids) = with_action "remove-snapshots" (field "snapshot-ids" (listing number ids) ∷ [])
plain_fields (SetRef name r) = with_action "set-snapshot-ref" (ref_fields name r)
plain_fields (RemoveRef name) = with_action "remove-snapshot-ref" (field "ref-name" (quotation name) ∷ [])
plain_fields (AddSchema o) = []
plain_fields (SetCurrentSchema id) = with_action "set-current-schema" (field "schema-id" (number id) ∷ [])
plain_fields (RemoveSchemas ids) = with_action "remove-schemas" (field "schema-ids" (listing number ids) ∷ [])
plain_fields (AddSortOrder o) = with_action "add-sort-order" (field "sort-order" (order_show o) ∷ [])
plain_fields (SetDefaultSortOrder id) = with_action "set-default-sort-order" (field "sort-order-id" (number id) ∷ [])
plain_fields (SetStatistics which f) = []
plain_fields (RemoveStatistics which id) = []
plain_fields (AddPartitionSpec o) = []
plain_fields (SetDefaultPartitionSpec id) = with_action "set-default-spec" (field "spec-id" (number id) ∷ [])
plain_fields (RemovePartitionSpecs ids) = with_action "remove-partition-specs" (field "spec-ids" (listing number ids) ∷ [])
plain_fields (NotFormed counts) = []

abbrev pub sent_fields : Sent → List Field
sent_fields (Plain u) = plain_fields u
sent_fields (SendsSchema s) = with_action "add-schema" (field "schema" (schema_show s) ∷ [])
sent_fields (SendsSpec s) = with_action "add-spec" (field "spec" (spec_show s) ∷ [])

-- ---- which can be sent

abbrev name_ok : List ℕ → Bool
name_ok name = leb (length name) name_room && is_utf8 name

abbrev pub plain_ok : Update → Bool
plain_ok (AssignUuid uuid) = uuid_fits uuid
plain_ok (UpgradeFormatVersion v) = leb v 255
plain_ok (SetLocation location) = leb (length location) location_room && is_utf8 location
plain_ok (AddSnapshot s) = snapshot_fits s
plain_ok (SetBranchSnapshot name s) = false
plain_ok (RemoveSnapshots ids) = leb (length ids) removal_room && all fits64 ids
plain_ok (SetRef name r) = name_ok name && kind_formed r && reference_fits r
plain_ok (RemoveRef name) = name_ok name
plain_ok (AddSchema o) = false
plain_ok (SetCurrentSchema id) = fits32 id
plain_ok (RemoveSchemas ids) = leb (length ids) removal_room && all fits32 ids
plain_ok (AddSortOrder o) = order_ok o
plain_ok (SetDefaultSortOrder id) = fits64 id
plain_ok (SetStatistics which f) = false
plain_ok (RemoveStatistics which id) = false
plain_ok (AddPartitionSpec o) = false
plain_ok (SetDefaultPartitionSpec id) = fits32 id
plain_ok (RemovePartitionSpecs ids) = leb (length ids) removal_room && all fits32 ids
plain_ok (NotFormed counts) = false

abbrev pub sent_ok : Sent → Bool
sent_ok (Plain u) = plain_ok u
sent_ok (SendsSchema s) = schema_ok s
sent_ok (SendsSpec s) = spec_ok s

-- ---- one by one

abbrev SentShown : Sent → Type 0
SentShown s = Shown s (sent_text s) (sent_fields s)

uuid_shown : (uuid : List ℕ) → uuid_fits uuid ≡ true → SentShown (Plain (AssignUuid uuid))
unfolding plain_text is_utf8 quoted escaped_byte bytes_of
uuid_shown uuid h =
    let k : all is_byte uuid ≡ true = and_right (eqb (length uuid) 16) (all is_byte uuid) h in
    let n : length uuid ≡ 16 = eqb-true (length uuid) 16 (and_left (eqb (length uuid) 16) (all is_byte uuid) h) in
    let fs = field "uuid" (quotation (uuid_from 0 uuid)) ∷ [] in
    action_shown "assign-uuid" _ fs refl refl (Plain (AssignUuid uuid)) (also "uuid" (uuid_text uuid)) (ap (λ t. also "uuid" t) (uuid_text_lem uuid k)) (text_token_lem (uuid_from 0 uuid) (uuid_utf8 uuid k), tt)
    (single_fine 3 false AUuid (quoted (uuid_from 0 uuid)) (uuid_fine 3 false (uuid_from 0 uuid) (uuid_formed uuid n k)), tt)
    (λ place. ap (λ t. Plain (AssignUuid (uuid_of t))) (text_by_lem "uuid" (with_action "assign-uuid" fs) place (uuid_from 0 uuid) (refl, refl)) ∙ ap (λ u. Plain (AssignUuid u)) (uuid_back 0 uuid k))

version_shown : (v : ℕ) → leb v 255 ≡ true → SentShown (Plain (UpgradeFormatVersion v))
unfolding plain_text is_utf8 quoted escaped_byte bytes_of number_text
version_shown v h =
    let n : v ≤ 255 = leb-true v 255 h in
    let f : Fitting (pos v) = omega arith in
    let fs = field "format-version" (number (pos v)) ∷ [] in
    action_shown "upgrade-format-version" _ fs refl refl (Plain (UpgradeFormatVersion v)) (also "format-version" (natural_text v)) refl (number_token (pos v) f, tt)
    (single_fine 3 false u8 (number_text (pos v)) (number_fine 3 false (pos 0) (pos 255) (pos v) (both (le-leb 0 v (omega arith)) h) f), tt)
    (λ place. ap (λ z. Plain (UpgradeFormatVersion (natural_of z))) (number_or0_lem "format-version" (with_action "upgrade-format-version" fs) place (pos v) (refl, refl) f))

location_shown : (location : List ℕ) → (leb (length location) location_room && is_utf8 location) ≡ true → SentShown (Plain (SetLocation location))
unfolding plain_text is_utf8 quoted escaped_byte bytes_of
location_shown location h =
    let fs = field "location" (quotation location) ∷ [] in
    action_shown "set-location" _ fs refl refl (Plain (SetLocation location)) (also "location" (quoted location)) refl (text_token_lem location (and_right (leb (length location) location_room) (is_utf8 location) h), tt)
    (single_fine 3 false (TextUpTo location_room) (quoted location) (text_fine 3 false location_room location (and_left (leb (length location) location_room) (is_utf8 location) h)), tt)
    (λ place. ap (λ t. Plain (SetLocation t)) (text_by_lem "location" (with_action "set-location" fs) place location (refl, refl)))

remove_ref_shown : (name : List ℕ) → name_ok name ≡ true → SentShown (Plain (RemoveRef name))
unfolding plain_text is_utf8 quoted escaped_byte bytes_of
remove_ref_shown name h =
    let fs = field "ref-name" (quotation name) ∷ [] in
    action_shown "remove-snapshot-ref" _ fs refl refl (Plain (RemoveRef name)) (also "ref-name" (quoted name)) refl (text_token_lem name (and_right (leb (length name) name_room) (is_utf8 name) h), tt)
    (single_fine 3 false (TextUpTo name_room) (quoted name) (text_fine 3 false name_room name (and_left (leb (length name) name_room) (is_utf8 name) h)), tt)
    (λ place. ap (λ t. Plain (RemoveRef t)) (text_by_lem "ref-name" (with_action "remove-snapshot-ref" fs) place name (refl, refl)))

-- ---- chosen ids

current_schema_shown : (id : ℤ) → fits32 id ≡ true → SentShown (Plain (SetCurrentSchema id))
unfolding plain_text is_utf8 quoted escaped_byte bytes_of
current_schema_shown id h =
    let fs = field "schema-id" (number id) ∷ [] in
    action_shown "set-current-schema" _ fs refl refl (Plain (SetCurrentSchema id)) (also "schema-id" (number_text id)) refl (good32 id h, tt)
    (single_fine 3 false i32 (number_text id) (fine32 3 false id h), tt)
    (λ place. ap (λ z. Plain (SetCurrentSchema z)) (number_or0_lem "schema-id" (with_action "set-current-schema" fs) place id (refl, refl) (fitting32 id h)))

default_order_shown : (id : ℤ) → fits64 id ≡ true → SentShown (Plain (SetDefaultSortOrder id))
unfolding plain_text is_utf8 quoted escaped_byte bytes_of
default_order_shown id h =
    let fs = field "sort-order-id" (number id) ∷ [] in
    action_shown "set-default-sort-order" _ fs refl refl (Plain (SetDefaultSortOrder id)) (also "sort-order-id" (number_text id)) refl (good64 id h, tt)
    (single_fine 3 false i64 (number_text id) (fine64 3 false id h), tt)
    (λ place. ap (λ z. Plain (SetDefaultSortOrder z)) (number_or0_lem "sort-order-id" (with_action "set-default-sort-order" fs) place id (refl, refl) (fitting64 id h)))

default_spec_shown : (id : ℤ) → fits32 id ≡ true → SentShown (Plain (SetDefaultPartitionSpec id))
unfolding plain_text is_utf8 quoted escaped_byte bytes_of
default_spec_shown id h =
    let fs = field "spec-id" (number id) ∷ [] in
    action_shown "set-default-spec" _ fs refl refl (Plain (SetDefaultPartitionSpec id)) (also "spec-id" (number_text id)) refl (good32 id h, tt)
    (single_fine 3 false i32 (number_text id) (fine32 3 false id h), tt)
    (λ place. ap (λ z. Plain (SetDefaultPartitionSpec z)) (number_or0_lem "spec-id" (with_action "set-default-spec" fs) place id (refl, refl) (fitting32 id h)))

-- ---- removals

remove_snapshots_shown : (ids : List ℤ) → (leb (length ids) removal_room && all fits64 ids) ≡ true → SentShown (Plain (RemoveSnapshots ids))
unfolding plain_text is_utf8 quoted escaped_byte bytes_of
remove_snapshots_shown ids h =
    let n = and_left (leb (length ids) removal_room) (all fits64 ids) h in
    let k = and_right (leb (length ids) removal_room) (all fits64 ids) h in
    let fs = field "snapshot-ids" (listing number ids) ∷ [] in
    action_shown "remove-snapshots" _ fs refl refl (Plain (RemoveSnapshots ids)) (also "snapshot-ids" (list_text number_text ids)) (ap (λ t. also "snapshot-ids" t) (numbers_written fits64 fitting64 ids k))
    ((refl, numbers_good fits64 fitting64 3 ids k), tt)
    (list_fine i64 number fits64 (λ z e. single_fine 3 false i64 (number_text z) (fine64 3 false z e)) removal_room ids k n, tt)
    (λ place. let l = items_by_lem "snapshot-ids" (with_action "remove-snapshots" fs) place (documents number ids) (refl, refl) in
    ap (λ xs. Plain (RemoveSnapshots (numbers_of xs))) l.1 ∙ ap (λ x. Plain (RemoveSnapshots x)) (numbers_made fits64 fitting64 ids k l.0))

remove_schemas_shown : (ids : List ℤ) → (leb (length ids) removal_room && all fits32 ids) ≡ true → SentShown (Plain (RemoveSchemas ids))
unfolding plain_text is_utf8 quoted escaped_byte bytes_of
remove_schemas_shown ids h =
    let n = and_left (leb (length ids) removal_room) (all fits32 ids) h in
    let k = and_right (leb (length ids) removal_room) (all fits32 ids) h in
    let fs = field "schema-ids" (listing number ids) ∷ [] in
    action_shown "remove-schemas" _ fs refl refl (Plain (RemoveSchemas ids)) (also "schema-ids" (list_text number_text ids)) (ap (λ t. also "schema-ids" t) (numbers_written fits32 fitting32 ids k))
    ((refl, numbers_good fits32 fitting32 3 ids k), tt)
    (list_fine i32 number fits32 (λ z e. single_fine 3 false i32 (number_text z) (fine32 3 false z e)) removal_room ids k n, tt)
    (λ place. let l = items_by_lem "schema-ids" (with_action "remove-schemas" fs) place (documents number ids) (refl, refl) in
    ap (λ xs. Plain (RemoveSchemas (numbers_of xs))) l.1 ∙ ap (λ x. Plain (RemoveSchemas x)) (numbers_made fits32 fitting32 ids k l.0))

remove_specs_shown : (ids : List ℤ) → (leb (length ids) removal_room && all fits32 ids) ≡ true → SentShown (Plain (RemovePartitionSpecs ids))
unfolding plain_text is_utf8 quoted escaped_byte bytes_of
remove_specs_shown ids h =
    let n = and_left (leb (length ids) removal_room) (all fits32 ids) h in
    let k = and_right (leb (length ids) removal_room) (all fits32 ids) h in
    let fs = field "spec-ids" (listing number ids) ∷ [] in
    action_shown "remove-partition-specs" _ fs refl refl (Plain (RemovePartitionSpecs ids)) (also "spec-ids" (list_text number_text ids)) (ap (λ t. also "spec-ids" t) (numbers_written fits32 fitting32 ids k))
    ((refl, numbers_good fits32 fitting32 3 ids k), tt)
    (list_fine i32 number fits32 (λ z e. single_fine 3 false i32 (number_text z) (fine32 3 false z e)) removal_room ids k n, tt)
    (λ place. let l = items_by_lem "spec-ids" (with_action "remove-partition-specs" fs) place (documents number ids) (refl, refl) in
    ap (λ xs. Plain (RemovePartitionSpecs (numbers_of xs))) l.1 ∙ ap (λ x. Plain (RemovePartitionSpecs x)) (numbers_made fits32 fitting32 ids k l.0))

-- ---- records

-- the members of a record under a name
record_by : (name : String) (fs : List Field) (place : ℕ) (d : Document) → Only (bytes name) fs (some d) → (p : ℕ) × (members_by name (members_at place (entries_of fs)) ≡ members_in (tree_at p d))
record_by name fs place d h = let l = looked (bytes name) fs (some d) h place in (l.0, ap (λ o. elim o [ none ↦ no_member | some x ↦ members_in x ]) l.1)

add_snapshot_shown : (s : Snapshot) → snapshot_fits s ≡ true → SentShown (Plain (AddSnapshot s))
unfolding plain_text is_utf8 quoted escaped_byte
add_snapshot_shown s h =
    let k = snapshot_shown three s (both h refl) in
    let fs = field "snapshot" (snapshot_show 3 s) ∷ [] in
    action_shown "add-snapshot" _ fs refl refl (Plain (AddSnapshot s)) (also "snapshot" (snapshot_text 3 s)) (ap (λ t. also "snapshot" t) k.written) (k.good, tt) (snapshot_fine s h, tt)
    (λ place. let l = record_by "snapshot" (with_action "add-snapshot" fs) place (snapshot_show 3 s) (refl, refl) in
    ap (λ ms. Plain (AddSnapshot (snapshot_of ms))) l.1 ∙ ap (λ x. Plain (AddSnapshot x)) (k.made l.0))

add_order_shown : (o : SortOrder) → order_ok o ≡ true → SentShown (Plain (AddSortOrder o))
unfolding plain_text is_utf8 quoted escaped_byte
add_order_shown o h =
    let k = order_shown three o h in
    let fs = field "sort-order" (order_show o) ∷ [] in
    action_shown "add-sort-order" _ fs refl refl (Plain (AddSortOrder o)) (also "sort-order" (order_text o)) (ap (λ t. also "sort-order" t) k.written) (k.good, tt) (order_fine o h, tt)
    (λ place. let l = record_by "sort-order" (with_action "add-sort-order" fs) place (order_show o) (refl, refl) in
    ap (λ ms. Plain (AddSortOrder (order_of ms))) l.1 ∙ ap (λ x. Plain (AddSortOrder x)) (k.made l.0))

add_schema_shown : (s : Schema) → schema_ok s ≡ true → SentShown (SendsSchema s)
unfolding is_utf8 quoted escaped_byte
add_schema_shown s h =
    let k = schema_shown 2 (omega arith) three s h in
    let fs = field "schema" (schema_show s) ∷ [] in
    action_shown "add-schema" _ fs refl refl (SendsSchema s) (also "schema" (schema_text s)) (ap (λ t. also "schema" t) k.written) (k.good, tt) (schema_fine s h, tt)
    (λ place. let l = record_by "schema" (with_action "add-schema" fs) place (schema_show s) (refl, refl) in
    ap (λ ms. SendsSchema (schema_of ms)) l.1 ∙ ap SendsSchema (k.made l.0))

add_spec_shown : (s : PartitionSpec) → spec_ok s ≡ true → SentShown (SendsSpec s)
unfolding is_utf8 quoted escaped_byte
add_spec_shown s h =
    let k = spec_shown s h in
    let fs = field "spec" (spec_show s) ∷ [] in
    action_shown "add-spec" _ fs refl refl (SendsSpec s) (also "spec" (offered_spec_text s)) (ap (λ t. also "spec" t) k.written) (k.good, tt) (k.fine, tt)
    (λ place. let l = record_by "spec" (with_action "add-spec" fs) place (spec_show s) (refl, refl) in
    ap (λ ms. SendsSpec (spec_of ms)) l.1 ∙ ap SendsSpec (k.made l.0))

-- ---- refs

abbrev ref_groups : Reference → List (List Field)
ref_groups r =
    (field "type" (quotation (kind_word r.kind)) ∷ [])
    ∷ (field "snapshot-id" (number r.snapshot) ∷ [])
    ∷ (field_if "min-snapshots-to-keep" number r.min_snapshots ∷ [])
    ∷ (field_if "max-snapshot-age-ms" number r.max_snapshot_age ∷ [])
    ∷ (field_if "max-ref-age-ms" number r.max_ref_age ∷ [])
    ∷ []

ref_written : (name : List ℕ) (r : Reference) → ref_members name r ≡ group_text (ref_fields name r)
unfolding quoted escaped_byte bytes_of
ref_written name r =
    pieces_fields (also "ref-name" (quoted name))
    (also "type" (cond (eqb r.kind branch) (word_text "branch") (word_text "tag"))
    ∷ also "snapshot-id" (number_text r.snapshot)
    ∷ also_if "min-snapshots-to-keep" number_text r.min_snapshots
    ∷ also_if "max-snapshot-age-ms" number_text r.max_snapshot_age
    ∷ also_if "max-ref-age-ms" number_text r.max_ref_age
    ∷ [])
    (field "ref-name" (quotation name) ∷ []) (ref_groups r) refl (type_text (eqb r.kind branch), (refl, (min_text r.min_snapshots, (max_text r.max_snapshot_age, (age_text r.max_ref_age, tt)))))

module _ (name : List ℕ) (r : Reference) (n : name_ok name ≡ true) (f : kind_formed r ≡ true) (b : refs.Bounds r) where
  abbrev fs : List Field
  fs = with_action "set-snapshot-ref" (ref_fields name r)

  ref_made : (place : ℕ) → reference_of (members_at place (entries_of fs)) ≡ r
  ref_made place =
      λ i.
      record {
        snapshot = number_or0_lem "snapshot-id" fs place r.snapshot (refl, refl) (fitting64 r.snapshot b.snapshot) i;
        kind = (ap (λ w. cond (same_bytes w (bytes "branch")) branch tag) (text_by_lem "type" fs place (kind_word r.kind) (refl, refl)) ∙ kind_made r f) i;
        min_snapshots = number_by_lem "min-snapshots-to-keep" fs place r.min_snapshots (refl, refl) (optional32_fits r.min_snapshots b.least) i;
        max_snapshot_age = number_by_lem "max-snapshot-age-ms" fs place r.max_snapshot_age (refl, refl) (optional_fits r.max_snapshot_age b.age) i;
        max_ref_age = number_by_lem "max-ref-age-ms" fs place r.max_ref_age (refl, refl) (optional_fits r.max_ref_age b.ref_age) i;
      }

  ref_good : ValuesGood 2 (ref_fields name r)
  ref_good = (
    text_token_lem name (and_right (leb (length name) name_room) (is_utf8 name) n),
    (
      text_token_lem (kind_word r.kind) (kind_utf8 (eqb r.kind branch)),
      (good64 r.snapshot b.snapshot, (optional32_good 2 r.min_snapshots b.least, (optional_good 2 r.max_snapshot_age b.age, (optional_good 2 r.max_ref_age b.ref_age, tt)))),
    ),
  )

  ref_fine : ValuesFine update_rows (ref_fields name r)
  ref_fine = (
    single_fine 3 false (TextUpTo name_room) (quoted name) (text_fine 3 false name_room name (and_left (leb (length name) name_room) (is_utf8 name) n)),
    (
      single_fine 3 false (OneOf (bytes "branch" ∷ bytes "tag" ∷ [])) (quoted (kind_word r.kind)) (word_fine 3 false (bytes "branch" ∷ bytes "tag" ∷ []) (kind_word r.kind) (kind_is (eqb r.kind branch))),
      (
        single_fine 3 false i64 (number_text r.snapshot) (fine64 3 false r.snapshot b.snapshot),
        (
          optional_fine 3 false i32 number_text r.min_snapshots (optional32_fine 3 r.min_snapshots b.least),
          (
            optional_fine 3 false i64 number_text r.max_snapshot_age (scalars.optional_fine 3 r.max_snapshot_age b.age),
            (optional_fine 3 false i64 number_text r.max_ref_age (scalars.optional_fine 3 r.max_ref_age b.ref_age), tt),
          ),
        ),
      ),
    ),
  )

  set_ref_shown : SentShown (Plain (SetRef name r))
  unfolding plain_text is_utf8 quoted escaped_byte
  set_ref_shown =
      action_shown "set-snapshot-ref" _ (ref_fields name r) refl refl (Plain (SetRef name r)) (ref_members name r) (ref_written name r) ref_good ref_fine
      (λ place. ap (λ t. Plain (SetRef t (reference_of (members_at place (entries_of fs))))) (text_by_lem "ref-name" fs place name (refl, refl)) ∙ ap (λ x. Plain (SetRef name x)) (ref_made place))

-- ---- all of them

plain_shown : (u : Update) → plain_ok u ≡ true → SentShown (Plain u)
plain_shown (AssignUuid uuid) h = uuid_shown uuid h
plain_shown (UpgradeFormatVersion v) h = version_shown v h
plain_shown (SetLocation location) h = location_shown location h
plain_shown (AddSnapshot s) h = add_snapshot_shown s h
plain_shown (SetBranchSnapshot name s) h = absurd (false≢true h)
plain_shown (RemoveSnapshots ids) h = remove_snapshots_shown ids h
plain_shown (SetRef name r) h =
    let k = parts (name_ok name) (kind_formed r ∷ reference_fits r ∷ []) h in
    set_ref_shown name r k.0 k.1.0 (refs.bounds r k.1.1.0)
plain_shown (RemoveRef name) h = remove_ref_shown name h
plain_shown (AddSchema o) h = absurd (false≢true h)
plain_shown (SetCurrentSchema id) h = current_schema_shown id h
plain_shown (RemoveSchemas ids) h = remove_schemas_shown ids h
plain_shown (AddSortOrder o) h = add_order_shown o h
plain_shown (SetDefaultSortOrder id) h = default_order_shown id h
plain_shown (SetStatistics which f) h = absurd (false≢true h)
plain_shown (RemoveStatistics which id) h = absurd (false≢true h)
plain_shown (AddPartitionSpec o) h = absurd (false≢true h)
plain_shown (SetDefaultPartitionSpec id) h = default_spec_shown id h
plain_shown (RemovePartitionSpecs ids) h = remove_specs_shown ids h
plain_shown (NotFormed counts) h = absurd (false≢true h)

pub sent_shown : (s : Sent) → sent_ok s ≡ true → Shown s (sent_text s) (sent_fields s)
sent_shown (Plain u) h = plain_shown u h
sent_shown (SendsSchema s) h = add_schema_shown s h
sent_shown (SendsSpec s) h = add_spec_shown s h
