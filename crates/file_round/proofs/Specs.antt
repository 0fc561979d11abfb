-- Partition specs as they are written in a file, and read back.
use Prim.Native.Nat.{ℕ, suc, ◌+◌, ◌≤◌}
use native.Mathlib.Omega.{arith}
use mathlib.Core.Path.{◌≡◌, refl, ◌∙◌, ap}
use mathlib.Core.Bool.{Bool, true, false, ◌&&◌, false≢true}
use mathlib.Core.List.{List, [], ◌∷◌}
use mathlib.Core.Option.{Option, none, some}
use lib.Dec.{leb}
use lib.IntN.{ℤ, pos, negsuc}
use lib.ListN.{length}
use lib.Signed.{le_z}
use Rattle.rules.specs.Words.{is_some, if_some, or_else, all}
use Rattle.rules.specs.Capacities.{name_room, partition_field_room}
use Rattle.rules.specs.Register.{PartitionField, PartitionSpec}
use Rattle.rules.specs.WellFormed.{at_least_one, name_formed, transform_formed, partition_field_formed}
use Rattle.rules.proofs.Checks.{parts, and_left, and_right}
use Rattle.json_rule.specs.Records.{transform_of, buckets_of, partition_field_of}
use Rattle.file_rule.specs.Tables.{OfKind, HeldPartitionField, HeldSpec, rows_in, row_in}
use Rattle.file_rule.specs.Import.{with_position, spec_fields_of, spec_of}
use Rattle.file_rule.specs.Written.{quoted, escaped_byte, number_text, list_text, also}
use Rattle.file_rule.specs.Files.{transform_text, partition_field_text, spec_text}
use Rattle.file_rule.specs.Export.{is_utf8}
use Rattle.file_rule.specs.Fits.{fits32, partition_field_fits}
use Rattle.file_round.proofs.Documents.{Document, bytes_of, Good, past, tree_at, members_at}
use Rattle.file_round.proofs.Texts.{text_token_lem}
use Rattle.file_round.proofs.Plain.{Written, transform_word, transform_written}
use Rattle.file_round.proofs.Fields.{entries_of, Field, field, number, quotation, object, names_fine, ValuesFine, fields_good, object_fine, object_pieces, number_or0_lem, number_by_lem, text_by_lem, items_by_lem}
use Rattle.file_round.proofs.Scalars.{Version, one, two, three, sym_some, good32, fitting32, fine32, text_fine, transform_fine}
use Rattle.file_round.proofs.Schemas.{shallow}
use Rattle.file_round.proofs.Lists.{Shown, documents, listing, list_written, list_good, list_fine, list_made}

-- ---- fields

abbrev pub id_of : PartitionField → ℤ
id_of f = or_else f.id (pos 0)

abbrev pub word_of : PartitionField → List ℕ
word_of f = transform_word f.transform f.buckets

abbrev pub part_fields : PartitionField → List Field
part_fields f =
    field "source-id" (number f.source)
    ∷ field "field-id" (number (id_of f))
    ∷ field "name" (quotation f.name)
    ∷ field "transform" (quotation (word_of f))
    ∷ []

abbrev pub part_show : PartitionField → Document
part_show f = object (part_fields f)

abbrev pub part_ok : PartitionField → Bool
part_ok f = partition_field_formed f && is_some f.id && partition_field_fits f && is_utf8 f.name

record Bounds (f : PartitionField) : Type 0 where
  source : fits32 f.source ≡ true
  is_there : is_some f.id ≡ true
  id : fits32 (id_of f) ≡ true
  name : leb (length f.name) name_room ≡ true
  is_text : is_utf8 f.name ≡ true
  word : Written f.transform f.buckets (word_of f)

id_fits : (o : Option ℤ) → is_some o ≡ true → if_some fits32 o ≡ true → fits32 (or_else o (pos 0)) ≡ true
id_fits none h k = absurd (false≢true h)
id_fits (some z) h k = k

bounds : (f : PartitionField) → part_ok f ≡ true → Bounds f
bounds f h =
    let k = parts (partition_field_formed f) (is_some f.id ∷ partition_field_fits f ∷ is_utf8 f.name ∷ []) h in
    let l = parts (at_least_one f.source) (if_some at_least_one f.id ∷ transform_formed f.transform f.buckets ∷ leb 1 (length f.name) ∷ name_formed f.name ∷ []) k.0 in
    let m = parts (fits32 f.source) (if_some fits32 f.id ∷ fits32 f.buckets ∷ []) k.1.1.0 in
    record {
      source = m.0;
      is_there = k.1.0;
      id = id_fits f.id k.1.0 m.1.0;
      name = l.1.1.1.1.0;
      is_text = k.1.1.1.0;
      word = transform_written f.transform f.buckets l.1.1.0 (and_right (le_z (negsuc 2147483647) f.buckets) (le_z f.buckets (pos 2147483647)) m.1.1.0);
    }

there_again : (o : Option ℤ) → is_some o ≡ true → some (or_else o (pos 0)) ≡ o
there_again none h = absurd (false≢true h)
there_again (some z) h = refl

module _ (f : PartitionField) (b : Bounds f) where
  part_written : partition_field_text f ≡ bytes_of (part_show f)
  unfolding partition_field_text quoted escaped_byte bytes_of
  part_written =
      object_pieces "source-id" (number f.source) (also "field-id" (number_text (id_of f)) ∷ also "name" (quoted f.name) ∷ also "transform" (transform_text f.transform f.buckets) ∷ [])
      ((field "field-id" (number (id_of f)) ∷ []) ∷ (field "name" (quotation f.name) ∷ []) ∷ (field "transform" (quotation (word_of f)) ∷ []) ∷ [])
      (refl, (refl, (ap (λ t. also "transform" t) b.word.written, tt)))

  part_names : {version : ℕ} → Version version → names_fine version HeldPartitionField (part_fields f) ≡ true
  unfolding rows_in row_in
  part_names one = refl
  part_names two = refl
  part_names three = refl

  values : (version : ℕ) → ValuesFine version (rows_in 1 HeldPartitionField) (part_fields f)
  unfolding rows_in row_in
  values version =
      (fine32 version false f.source b.source, (fine32 version false (id_of f) b.id, (text_fine version false name_room f.name b.name, (transform_fine version false (word_of f) b.word.formed, tt))))

  part_values : {version : ℕ} → Version version → ValuesFine version (rows_in version HeldPartitionField) (part_fields f)
  unfolding rows_in row_in
  part_values one = values 1
  part_values two = values 2
  part_values three = values 3

  part_good : (depth : ℕ) → depth ≤ 8 → Good depth (part_show f)
  unfolding is_utf8
  part_good depth h =
      (shallow depth h, fields_good (suc depth) (part_fields f) refl (good32 f.source b.source, (good32 (id_of f) b.id, (text_token_lem f.name b.is_text, (text_token_lem (word_of f) b.word.is_text, tt)))))

  part_made : (place : ℕ) → partition_field_of (members_at place (entries_of (part_fields f))) ≡ f
  part_made place =
      λ i.
      record {
        source = number_or0_lem "source-id" (part_fields f) place f.source (refl, refl) (fitting32 f.source b.source) i;
        id = (number_by_lem "field-id" (part_fields f) place (some (id_of f)) (refl, refl) (λ z e. rw (sym_some (id_of f) z e) (fitting32 (id_of f) b.id)) ∙ there_again f.id b.is_there) i;
        transform = (ap transform_of (text_by_lem "transform" (part_fields f) place (word_of f) (refl, refl)) ∙ b.word.kind) i;
        buckets = (ap buckets_of (text_by_lem "transform" (part_fields f) place (word_of f) (refl, refl)) ∙ b.word.buckets) i;
        name = text_by_lem "name" (part_fields f) place f.name (refl, refl) i;
      }

pub part_shown : (depth : ℕ) → depth ≤ 8 → {version : ℕ} → Version version → (f : PartitionField) → part_ok f ≡ true → Shown version depth (OfKind HeldPartitionField) partition_field_of partition_field_text part_show f
unfolding tree_at
part_shown depth d {version} v f h =
    let b = bounds f h in
    record { written = part_written f b; good = part_good f b depth d; fine = object_fine version HeldPartitionField (part_fields f) (part_names f b v) (part_values f b v); made = λ place. part_made f b (past place (123 ∷ [])) }

-- ---- specs

-- one that is held has an id, so its position says nothing
position : (n : ℕ) (l : List PartitionField) → all part_ok l ≡ true → with_position n l ≡ l
position n [] h = refl
position n (f ∷ l) h =
    ap (λ x. record { source = f.source; id = x; transform = f.transform; buckets = f.buckets; name = f.name } ∷ with_position (suc n) l) (there f.id (bounds f (and_left (part_ok f) (all part_ok l) h)).is_there)
    ∙ ap (λ x. f ∷ x) (position (suc n) l (and_right (part_ok f) (all part_ok l) h))
  where
    there : (o : Option ℤ) → is_some o ≡ true → some (or_else o (pos (1000 + n))) ≡ o
    there none k = absurd (false≢true k)
    there (some z) k = refl

abbrev pub spec_fields : PartitionSpec → List Field
spec_fields s = field "spec-id" (number s.id) ∷ field "fields" (listing part_show s.fields) ∷ []

abbrev pub spec_show : PartitionSpec → Document
spec_show s = object (spec_fields s)

abbrev pub spec_ok : PartitionSpec → Bool
spec_ok s = fits32 s.id && leb (length s.fields) partition_field_room && all part_ok s.fields

module _ {version : ℕ} (v : Version version) (s : PartitionSpec) (i : fits32 s.id ≡ true) (n : leb (length s.fields) partition_field_room ≡ true) (c : all part_ok s.fields ≡ true) where
  each : (f : PartitionField) → part_ok f ≡ true → Shown version 4 (OfKind HeldPartitionField) partition_field_of partition_field_text part_show f
  each f h = part_shown 4 (omega arith) v f h

  spec_written : spec_text s ≡ bytes_of (spec_show s)
  unfolding spec_text quoted escaped_byte bytes_of
  spec_written =
      object_pieces "spec-id" (number s.id) (also "fields" (list_text partition_field_text s.fields) ∷ []) ((field "fields" (listing part_show s.fields) ∷ []) ∷ [])
      (ap (λ t. also "fields" t) (list_written version 4 (OfKind HeldPartitionField) partition_field_of partition_field_text part_show part_ok each s.fields c), tt)

  spec_names : {w : ℕ} → Version w → names_fine w HeldSpec (spec_fields s) ≡ true
  unfolding rows_in row_in
  spec_names one = refl
  spec_names two = refl
  spec_names three = refl

  spec_fields_lem : ValuesFine version (rows_in 1 HeldSpec) (spec_fields s)
  unfolding rows_in row_in
  spec_fields_lem = (fine32 version false s.id i, (list_fine version 4 (OfKind HeldPartitionField) partition_field_of partition_field_text part_show part_ok each partition_field_room s.fields c n, tt))

  spec_values : {w : ℕ} → Version w → ValuesFine version (rows_in w HeldSpec) (spec_fields s)
  unfolding rows_in row_in
  spec_values one = spec_fields_lem
  spec_values two = spec_fields_lem
  spec_values three = spec_fields_lem

  spec_good : Good 2 (spec_show s)
  unfolding is_utf8
  spec_good = (refl, fields_good 3 (spec_fields s) refl (good32 s.id i, ((refl, list_good version 4 (OfKind HeldPartitionField) partition_field_of partition_field_text part_show part_ok each s.fields c), tt)))

  spec_made : (place : ℕ) → spec_of (members_at place (entries_of (spec_fields s))) ≡ s
  spec_made place =
      let k = items_by_lem "fields" (spec_fields s) place (documents part_show s.fields) (refl, refl) in
      λ j.
      record {
        id = number_or0_lem "spec-id" (spec_fields s) place s.id (refl, refl) (fitting32 s.id i) j;
        fields = (ap spec_fields_of k.1 ∙ ap (λ l. with_position 0 l) (list_made version 4 (OfKind HeldPartitionField) partition_field_of partition_field_text part_show part_ok each s.fields c k.0) ∙ position 0 s.fields c) j;
      }

pub spec_shown : {version : ℕ} → Version version → (s : PartitionSpec) → spec_ok s ≡ true → Shown version 2 (OfKind HeldSpec) spec_of spec_text spec_show s
unfolding tree_at
spec_shown {version} v s h =
    let k = parts (fits32 s.id) (leb (length s.fields) partition_field_room ∷ all part_ok s.fields ∷ []) h in
    record {
      written = spec_written v s k.0 k.1.0 k.1.1.0;
      good = spec_good v s k.0 k.1.0 k.1.1.0;
      fine = object_fine version HeldSpec (spec_fields s) (spec_names v s k.0 k.1.0 k.1.1.0 v) (spec_values v s k.0 k.1.0 k.1.1.0 v);
      made = λ place. spec_made v s k.0 k.1.0 k.1.1.0 (past place (123 ∷ []));
    }
