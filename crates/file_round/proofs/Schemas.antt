-- Schemas and sort orders as they are written in a file, and read back.
use Prim.Native.Nat.{ℕ, zero, suc, ◌≤◌}
use native.Mathlib.Omega.{arith}
use mathlib.Core.Path.{◌≡◌, refl, ◌∙◌, sym, ap}
use mathlib.Core.Bool.{Bool, true, false, cond, ◌&&◌}
use mathlib.Core.List.{List, [], ◌∷◌}
use mathlib.Core.Option.{some}
use lib.Dec.{eqb, leb}
use lib.ListN.{length}
use borrow.Author.Tests.{eqb-true, leb-true, lt-leb}
use Rattle.rules.specs.Words.{all, same_bytes}
use Rattle.rules.specs.Capacities.{name_room, schema_field_room, sort_field_room}
use Rattle.rules.specs.Register.{SchemaField, Schema, SortField, SortOrder}
use Rattle.rules.specs.WellFormed.{long, timestamp, at_least_one, field_type_formed, name_formed, schema_field_formed, sort_field_formed}
use Rattle.rules.proofs.Checks.{parts, and_left, and_right, by_either}
use Rattle.json_rule.specs.Letters.{bytes}
use Rattle.json_rule.specs.Lexemes.{is_space, is_digit, letters, part_of}
use Rattle.json_rule.specs.Tree.{deepest, is_scalar}
use Rattle.json_rule.specs.Members.{is_one_of}
use Rattle.json_rule.specs.Records.{records_of, field_of, schema_of, sort_field_of, order_of}
use Rattle.json_rule.specs.Shapes.{No}
use Rattle.file_rule.specs.Tables.{Single, OfKind, HeldField, HeldSchema, HeldSortField, HeldOrder, rows_in, row_in}
use Rattle.file_rule.specs.FileDefects.{defects}
use Rattle.file_rule.specs.Written.{quoted, escaped_byte, number_text, word_text, list_text, also}
use Rattle.file_rule.specs.Files.{field_text, schema_text, sort_field_text, order_text}
use Rattle.file_rule.specs.Export.{is_utf8}
use Rattle.file_rule.specs.Fits.{fits32, fits64, field_fits, sort_field_fits}
use Rattle.file_round.proofs.Documents.{Document, Token, bytes_of, Good, past, tree_at, members_at}
use Rattle.file_round.proofs.Texts.{text_token_lem}
use Rattle.file_round.proofs.Fields.{entries_of, group_text, Field, field, number, quotation, object, names_fine, ValuesFine, FineIn, fields_good, object_fine, object_pieces, number_or0_lem, text_by_lem, items_by_lem}
use Rattle.file_round.proofs.Scalars.{Version, one, two, three, good32, good64, fitting32, fitting64, fine32, fine64, text_fine, word_fine}
use Rattle.file_round.proofs.Lists.{Shown, documents, listing, list_written, list_good, list_fine, list_made}

-- a depth at which brackets may stand
pub shallow : (depth : ℕ) → depth ≤ 8 → leb deepest depth ≡ false
shallow depth h = lt-leb deepest depth (omega arith)

-- ---- fields

abbrev pub type_word : Bool → List ℕ
type_word isLong = cond isLong (bytes "long") (bytes "timestamp")

abbrev pub false_token : Document
false_token = Token (bytes "false")

abbrev pub column_fields : SchemaField → List Field
column_fields f = field "id" (number f.id) ∷ field "name" (quotation f.name) ∷ field "required" false_token ∷ field "type" (quotation (type_word (eqb f.field_type long))) ∷ []

abbrev pub column_show : SchemaField → Document
column_show f = object (column_fields f)

false_good : Good 0 false_token
unfolding is_space is_digit part_of letters is_scalar
false_good = (record { begins = refl; no_space = refl; ends = λ rest e. refl }, refl, refl, refl)

pub false_fine : (version : ℕ) → FineIn version true (Single No) (some false_token)
unfolding defects tree_at
false_fine version schema place = refl

type_text : (b : Bool) → also "type" (cond b (word_text "long") (word_text "timestamp")) ≡ group_text (field "type" (quotation (type_word b)) ∷ [])
unfolding quoted escaped_byte bytes_of
type_text true = refl
type_text false = refl

pub type_is : (b : Bool) → is_one_of (bytes "long" ∷ bytes "timestamp" ∷ []) (type_word b) ≡ true
type_is true = refl
type_is false = refl

type_utf8 : (b : Bool) → is_utf8 (type_word b) ≡ true
unfolding is_utf8
type_utf8 true = refl
type_utf8 false = refl

type_made : (t : ℕ) → field_type_formed t ≡ true → cond (same_bytes (type_word (eqb t long)) (bytes "long")) long timestamp ≡ t
type_made t h =
    by_either (eqb t long) (eqb t timestamp) (λ p. ap (λ b. cond (same_bytes (type_word b) (bytes "long")) long timestamp) p ∙ sym (eqb-true t long p))
    (λ p. let e : t ≡ timestamp = eqb-true t timestamp p in ap (λ k. cond (same_bytes (type_word (eqb k long)) (bytes "long")) long timestamp) e ∙ sym e) h

abbrev pub column_ok : SchemaField → Bool
column_ok f = schema_field_formed f && field_fits f && is_utf8 f.name

pub record ColumnBounds (f : SchemaField) : Type 0 where
  pub id : fits32 f.id ≡ true
  pub kind : field_type_formed f.field_type ≡ true
  pub name : leb (length f.name) name_room ≡ true
  pub is_text : is_utf8 f.name ≡ true

pub column_bounds : (f : SchemaField) → column_ok f ≡ true → ColumnBounds f
column_bounds f h =
    let k = parts (schema_field_formed f) (field_fits f ∷ is_utf8 f.name ∷ []) h in
    let l = parts (at_least_one f.id) (field_type_formed f.field_type ∷ name_formed f.name ∷ []) k.0 in
    record { id = k.1.0; kind = l.1.0; name = l.1.1.0; is_text = k.1.1.0 }

module _ (f : SchemaField) (b : ColumnBounds f) where
  column_written : field_text f ≡ bytes_of (column_show f)
  unfolding field_text quoted escaped_byte bytes_of
  column_written =
      object_pieces "id" (number f.id) (also "name" (quoted f.name) ∷ also "required" (bytes "false") ∷ also "type" (cond (eqb f.field_type long) (word_text "long") (word_text "timestamp")) ∷ [])
      ((field "name" (quotation f.name) ∷ []) ∷ (field "required" false_token ∷ []) ∷ (field "type" (quotation (type_word (eqb f.field_type long))) ∷ []) ∷ [])
      (refl, (refl, (type_text (eqb f.field_type long), tt)))

  column_names : {version : ℕ} → Version version → names_fine version HeldField (column_fields f) ≡ true
  unfolding rows_in row_in
  column_names one = refl
  column_names two = refl
  column_names three = refl

  columns : (version : ℕ) → ValuesFine version (rows_in 1 HeldField) (column_fields f)
  unfolding rows_in row_in
  columns version =
      (fine32 version false f.id b.id, (text_fine version false name_room f.name b.name, (false_fine version, (word_fine version true (bytes "long" ∷ bytes "timestamp" ∷ []) (type_word (eqb f.field_type long)) (type_is (eqb f.field_type long)), tt))))

  column_values : {version : ℕ} → Version version → ValuesFine version (rows_in version HeldField) (column_fields f)
  unfolding rows_in row_in
  column_values one = columns 1
  column_values two = columns 2
  column_values three = columns 3

  column_good : (depth : ℕ) → depth ≤ 8 → Good depth (column_show f)
  unfolding is_utf8
  column_good depth h =
      (shallow depth h, fields_good (suc depth) (column_fields f) refl (good32 f.id b.id, (text_token_lem f.name b.is_text, (false_good, (text_token_lem (type_word (eqb f.field_type long)) (type_utf8 (eqb f.field_type long)), tt)))))

  column_made : (place : ℕ) → field_of (members_at place (entries_of (column_fields f))) ≡ f
  column_made place =
      λ i.
      record {
        id = number_or0_lem "id" (column_fields f) place f.id (refl, refl) (fitting32 f.id b.id) i;
        field_type = (ap (λ w. cond (same_bytes w (bytes "long")) long timestamp) (text_by_lem "type" (column_fields f) place (type_word (eqb f.field_type long)) (refl, refl)) ∙ type_made f.field_type b.kind) i;
        name = text_by_lem "name" (column_fields f) place f.name (refl, refl) i;
      }

pub column_shown : (depth : ℕ) → depth ≤ 8 → {version : ℕ} → Version version → (f : SchemaField) → column_ok f ≡ true → Shown version depth (OfKind HeldField) field_of field_text column_show f
unfolding tree_at
column_shown depth d {version} v f h =
    let b = column_bounds f h in
    record { written = column_written f b; good = column_good f b depth d; fine = object_fine version HeldField (column_fields f) (column_names f b v) (column_values f b v); made = λ place. column_made f b (past place (123 ∷ [])) }

-- ---- schemas

abbrev pub schema_fields : Schema → List Field
schema_fields s = field "type" (quotation (bytes "struct")) ∷ field "fields" (listing column_show s.fields) ∷ field "schema-id" (number s.id) ∷ []

abbrev pub schema_show : Schema → Document
schema_show s = object (schema_fields s)

abbrev pub schema_ok : Schema → Bool
schema_ok s = fits32 s.id && leb (length s.fields) schema_field_room && all column_ok s.fields

module _ (depth : ℕ) (d : depth ≤ 6) {version : ℕ} (v : Version version) (s : Schema) (i : fits32 s.id ≡ true) (n : leb (length s.fields) schema_field_room ≡ true) (c : all column_ok s.fields ≡ true) where
  each : (f : SchemaField) → column_ok f ≡ true → Shown version (suc (suc depth)) (OfKind HeldField) field_of field_text column_show f
  each f h = column_shown (suc (suc depth)) (omega arith) v f h

  schema_written : schema_text s ≡ bytes_of (schema_show s)
  unfolding schema_text quoted escaped_byte bytes_of
  schema_written =
      object_pieces "type" (quotation (bytes "struct")) (also "fields" (list_text field_text s.fields) ∷ also "schema-id" (number_text s.id) ∷ [])
      ((field "fields" (listing column_show s.fields) ∷ []) ∷ (field "schema-id" (number s.id) ∷ []) ∷ [])
      (ap (λ t. also "fields" t) (list_written version (suc (suc depth)) (OfKind HeldField) field_of field_text column_show column_ok each s.fields c), (refl, tt))

  schema_names_lem : {w : ℕ} → Version w → names_fine w HeldSchema (schema_fields s) ≡ true
  unfolding rows_in row_in
  schema_names_lem one = refl
  schema_names_lem two = refl
  schema_names_lem three = refl

  schema_fields_lem : ValuesFine version (rows_in 1 HeldSchema) (schema_fields s)
  unfolding rows_in row_in
  schema_fields_lem =
      (word_fine version false (bytes "struct" ∷ []) (bytes "struct") refl, (list_fine version (suc (suc depth)) (OfKind HeldField) field_of field_text column_show column_ok each schema_field_room s.fields c n, (fine32 version false s.id i, tt)))

  schema_values : {w : ℕ} → Version w → ValuesFine version (rows_in w HeldSchema) (schema_fields s)
  unfolding rows_in row_in
  schema_values one = schema_fields_lem
  schema_values two = schema_fields_lem
  schema_values three = schema_fields_lem

  schema_good : Good depth (schema_show s)
  unfolding is_utf8
  schema_good =
      (shallow depth (omega arith), fields_good (suc depth) (schema_fields s) refl (text_token_lem (bytes "struct") refl, ((shallow (suc depth) (omega arith), list_good version (suc (suc depth)) (OfKind HeldField) field_of field_text column_show column_ok each s.fields c), (good32 s.id i, tt))))

  schema_made : (place : ℕ) → schema_of (members_at place (entries_of (schema_fields s))) ≡ s
  schema_made place =
      let k = items_by_lem "fields" (schema_fields s) place (documents column_show s.fields) (refl, refl) in
      λ j.
      record {
        id = number_or0_lem "schema-id" (schema_fields s) place s.id (refl, refl) (fitting32 s.id i) j;
        fields = (ap (λ xs. records_of field_of xs) k.1 ∙ list_made version (suc (suc depth)) (OfKind HeldField) field_of field_text column_show column_ok each s.fields c k.0) j;
      }

pub schema_shown : (depth : ℕ) → depth ≤ 6 → {version : ℕ} → Version version → (s : Schema) → schema_ok s ≡ true → Shown version depth (OfKind HeldSchema) schema_of schema_text schema_show s
unfolding tree_at
schema_shown depth d {version} v s h =
    let k = parts (fits32 s.id) (leb (length s.fields) schema_field_room ∷ all column_ok s.fields ∷ []) h in
    record {
      written = schema_written depth d v s k.0 k.1.0 k.1.1.0;
      good = schema_good depth d v s k.0 k.1.0 k.1.1.0;
      fine = object_fine version HeldSchema (schema_fields s) (schema_names_lem depth d v s k.0 k.1.0 k.1.1.0 v) (schema_values depth d v s k.0 k.1.0 k.1.1.0 v);
      made = λ place. schema_made depth d v s k.0 k.1.0 k.1.1.0 (past place (123 ∷ []));
    }

-- ---- fields of a sort order

abbrev pub direction_word : Bool → List ℕ
direction_word ascends = cond ascends (bytes "asc") (bytes "desc")

abbrev pub nulls_word : Bool → List ℕ
nulls_word first = cond first (bytes "nulls-first") (bytes "nulls-last")

abbrev pub sort_fields : SortField → List Field
sort_fields f =
    field "transform" (quotation (bytes "identity"))
    ∷ field "source-id" (number f.source)
    ∷ field "direction" (quotation (direction_word (eqb f.direction 0)))
    ∷ field "null-order" (quotation (nulls_word (eqb f.nulls 0)))
    ∷ []

abbrev pub sort_show : SortField → Document
sort_show f = object (sort_fields f)

direction_text : (b : Bool) → also "direction" (cond b (word_text "asc") (word_text "desc")) ≡ group_text (field "direction" (quotation (direction_word b)) ∷ [])
unfolding quoted escaped_byte bytes_of
direction_text true = refl
direction_text false = refl

nulls_text : (b : Bool) → also "null-order" (cond b (word_text "nulls-first") (word_text "nulls-last")) ≡ group_text (field "null-order" (quotation (nulls_word b)) ∷ [])
unfolding quoted escaped_byte bytes_of
nulls_text true = refl
nulls_text false = refl

pub direction_is : (b : Bool) → is_one_of (bytes "asc" ∷ bytes "desc" ∷ []) (direction_word b) ≡ true
direction_is true = refl
direction_is false = refl

pub nulls_is : (b : Bool) → is_one_of (bytes "nulls-first" ∷ bytes "nulls-last" ∷ []) (nulls_word b) ≡ true
nulls_is true = refl
nulls_is false = refl

direction_utf8 : (b : Bool) → is_utf8 (direction_word b) ≡ true
unfolding is_utf8
direction_utf8 true = refl
direction_utf8 false = refl

nulls_utf8 : (b : Bool) → is_utf8 (nulls_word b) ≡ true
unfolding is_utf8
nulls_utf8 true = refl
nulls_utf8 false = refl

direction_made : (n : ℕ) → leb n 1 ≡ true → cond (same_bytes (direction_word (eqb n 0)) (bytes "asc")) 0 1 ≡ n
direction_made zero h = refl
direction_made (suc zero) h = refl
direction_made (suc (suc n)) h = absurd (let k : suc (suc n) ≤ 1 = leb-true (suc (suc n)) 1 h in omega arith)

nulls_made : (n : ℕ) → leb n 1 ≡ true → cond (same_bytes (nulls_word (eqb n 0)) (bytes "nulls-first")) 0 1 ≡ n
nulls_made zero h = refl
nulls_made (suc zero) h = refl
nulls_made (suc (suc n)) h = absurd (let k : suc (suc n) ≤ 1 = leb-true (suc (suc n)) 1 h in omega arith)

abbrev pub sort_field_ok : SortField → Bool
sort_field_ok f = sort_field_formed f && sort_field_fits f

pub record SortBounds (f : SortField) : Type 0 where
  pub source : fits32 f.source ≡ true
  pub direction : leb f.direction 1 ≡ true
  pub nulls : leb f.nulls 1 ≡ true

pub sort_bounds : (f : SortField) → sort_field_ok f ≡ true → SortBounds f
sort_bounds f h =
    let k = parts (at_least_one f.source) (leb f.direction 1 ∷ leb f.nulls 1 ∷ []) (and_left (sort_field_formed f) (sort_field_fits f) h) in
    record { source = and_right (sort_field_formed f) (sort_field_fits f) h; direction = k.1.0; nulls = k.1.1.0 }

module _ (f : SortField) (b : SortBounds f) where
  sort_written : sort_field_text f ≡ bytes_of (sort_show f)
  unfolding sort_field_text quoted escaped_byte bytes_of
  sort_written =
      object_pieces "transform" (quotation (bytes "identity"))
      (also "source-id" (number_text f.source) ∷ also "direction" (cond (eqb f.direction 0) (word_text "asc") (word_text "desc")) ∷ also "null-order" (cond (eqb f.nulls 0) (word_text "nulls-first") (word_text "nulls-last")) ∷ [])
      ((field "source-id" (number f.source) ∷ []) ∷ (field "direction" (quotation (direction_word (eqb f.direction 0))) ∷ []) ∷ (field "null-order" (quotation (nulls_word (eqb f.nulls 0))) ∷ []) ∷ [])
      (refl, (direction_text (eqb f.direction 0), (nulls_text (eqb f.nulls 0), tt)))

  sort_names : {version : ℕ} → Version version → names_fine version HeldSortField (sort_fields f) ≡ true
  unfolding rows_in row_in
  sort_names one = refl
  sort_names two = refl
  sort_names three = refl

  sorts : (version : ℕ) → ValuesFine version (rows_in 1 HeldSortField) (sort_fields f)
  unfolding rows_in row_in
  sorts version =
      (word_fine version false (bytes "identity" ∷ []) (bytes "identity") refl, (fine32 version false f.source b.source, (word_fine version false (bytes "asc" ∷ bytes "desc" ∷ []) (direction_word (eqb f.direction 0)) (direction_is (eqb f.direction 0)), (word_fine version false (bytes "nulls-first" ∷ bytes "nulls-last" ∷ []) (nulls_word (eqb f.nulls 0)) (nulls_is (eqb f.nulls 0)), tt))))

  sort_values : {version : ℕ} → Version version → ValuesFine version (rows_in version HeldSortField) (sort_fields f)
  unfolding rows_in row_in
  sort_values one = sorts 1
  sort_values two = sorts 2
  sort_values three = sorts 3

  sort_good : Good 4 (sort_show f)
  unfolding is_utf8
  sort_good =
      (refl, fields_good 5 (sort_fields f) refl (text_token_lem (bytes "identity") refl, (good32 f.source b.source, (text_token_lem (direction_word (eqb f.direction 0)) (direction_utf8 (eqb f.direction 0)), (text_token_lem (nulls_word (eqb f.nulls 0)) (nulls_utf8 (eqb f.nulls 0)), tt)))))

  sort_made : (place : ℕ) → sort_field_of (members_at place (entries_of (sort_fields f))) ≡ f
  sort_made place =
      λ i.
      record {
        source = number_or0_lem "source-id" (sort_fields f) place f.source (refl, refl) (fitting32 f.source b.source) i;
        direction = (ap (λ w. cond (same_bytes w (bytes "asc")) 0 1) (text_by_lem "direction" (sort_fields f) place (direction_word (eqb f.direction 0)) (refl, refl)) ∙ direction_made f.direction b.direction) i;
        nulls = (ap (λ w. cond (same_bytes w (bytes "nulls-first")) 0 1) (text_by_lem "null-order" (sort_fields f) place (nulls_word (eqb f.nulls 0)) (refl, refl)) ∙ nulls_made f.nulls b.nulls) i;
      }

pub sort_shown : {version : ℕ} → Version version → (f : SortField) → sort_field_ok f ≡ true → Shown version 4 (OfKind HeldSortField) sort_field_of sort_field_text sort_show f
unfolding tree_at
sort_shown {version} v f h =
    let b = sort_bounds f h in
    record { written = sort_written f b; good = sort_good f b; fine = object_fine version HeldSortField (sort_fields f) (sort_names f b v) (sort_values f b v); made = λ place. sort_made f b (past place (123 ∷ [])) }

-- ---- sort orders

abbrev pub order_fields : SortOrder → List Field
order_fields o = field "order-id" (number o.id) ∷ field "fields" (listing sort_show o.fields) ∷ []

abbrev pub order_show : SortOrder → Document
order_show o = object (order_fields o)

abbrev pub order_ok : SortOrder → Bool
order_ok o = fits64 o.id && leb (length o.fields) sort_field_room && all sort_field_ok o.fields

module _ {version : ℕ} (v : Version version) (o : SortOrder) (i : fits64 o.id ≡ true) (n : leb (length o.fields) sort_field_room ≡ true) (c : all sort_field_ok o.fields ≡ true) where
  order_written : order_text o ≡ bytes_of (order_show o)
  unfolding order_text quoted escaped_byte bytes_of
  order_written =
      object_pieces "order-id" (number o.id) (also "fields" (list_text sort_field_text o.fields) ∷ []) ((field "fields" (listing sort_show o.fields) ∷ []) ∷ [])
      (ap (λ t. also "fields" t) (list_written version 4 (OfKind HeldSortField) sort_field_of sort_field_text sort_show sort_field_ok (sort_shown v) o.fields c), tt)

  order_names : {w : ℕ} → Version w → names_fine w HeldOrder (order_fields o) ≡ true
  unfolding rows_in row_in
  order_names one = refl
  order_names two = refl
  order_names three = refl

  order_fields_lem : ValuesFine version (rows_in 1 HeldOrder) (order_fields o)
  unfolding rows_in row_in
  order_fields_lem = (fine64 version false o.id i, (list_fine version 4 (OfKind HeldSortField) sort_field_of sort_field_text sort_show sort_field_ok (sort_shown v) sort_field_room o.fields c n, tt))

  order_values : {w : ℕ} → Version w → ValuesFine version (rows_in w HeldOrder) (order_fields o)
  unfolding rows_in row_in
  order_values one = order_fields_lem
  order_values two = order_fields_lem
  order_values three = order_fields_lem

  order_good : Good 2 (order_show o)
  unfolding is_utf8
  order_good = (refl, fields_good 3 (order_fields o) refl (good64 o.id i, ((refl, list_good version 4 (OfKind HeldSortField) sort_field_of sort_field_text sort_show sort_field_ok (sort_shown v) o.fields c), tt)))

  order_made : (place : ℕ) → order_of (members_at place (entries_of (order_fields o))) ≡ o
  order_made place =
      let k = items_by_lem "fields" (order_fields o) place (documents sort_show o.fields) (refl, refl) in
      λ j.
      record {
        id = number_or0_lem "order-id" (order_fields o) place o.id (refl, refl) (fitting64 o.id i) j;
        fields = (ap (λ xs. records_of sort_field_of xs) k.1 ∙ list_made version 4 (OfKind HeldSortField) sort_field_of sort_field_text sort_show sort_field_ok (sort_shown v) o.fields c k.0) j;
      }

pub order_shown : {version : ℕ} → Version version → (o : SortOrder) → order_ok o ≡ true → Shown version 2 (OfKind HeldOrder) order_of order_text order_show o
unfolding tree_at
order_shown {version} v o h =
    let k = parts (fits64 o.id) (leb (length o.fields) sort_field_room ∷ all sort_field_ok o.fields ∷ []) h in
    record {
      written = order_written v o k.0 k.1.0 k.1.1.0;
      good = order_good v o k.0 k.1.0 k.1.1.0;
      fine = object_fine version HeldOrder (order_fields o) (order_names v o k.0 k.1.0 k.1.1.0 v) (order_values v o k.0 k.1.0 k.1.1.0 v);
      made = λ place. order_made v o k.0 k.1.0 k.1.1.0 (past place (123 ∷ []));
    }
