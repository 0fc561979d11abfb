-- Partition specs as they are offered: written with the ids that their fields have, and read back.
use Prim.Native.Nat.{ℕ}
use mathlib.Core.Path.{◌≡◌, refl, ◌∙◌, ap}
use mathlib.Core.Bool.{Bool, true, false, ◌&&◌}
use mathlib.Core.List.{List, [], ◌∷◌}
use mathlib.Core.Option.{Option, none, some}
use lib.Dec.{leb}
use lib.IntN.{ℤ, pos, negsuc}
use lib.ListN.{length}
use lib.Signed.{le_z}
use Rattle.rules.specs.Words.{if_some, all}
use Rattle.rules.specs.Capacities.{name_room, partition_field_room}
use Rattle.rules.specs.Register.{PartitionField, PartitionSpec}
use Rattle.rules.specs.WellFormed.{at_least_one, name_formed, transform_formed, partition_field_formed}
use Rattle.rules.proofs.Checks.{parts, and_right}
use Rattle.json_rule.specs.Members.{members_in}
use Rattle.json_rule.specs.Records.{records_of, transform_of, buckets_of, partition_field_of, spec_of}
use Rattle.json_rule.specs.Shapes.{ASpec, APartitionField, TextUpTo, ATransform, ARecord, i32, rows_of}
use Rattle.json_rule.specs.Defects.{required_names}
use Rattle.file_rule.specs.Written.{quoted, escaped_byte, number_text, list_text, also, also_if}
use Rattle.file_rule.specs.Files.{transform_text}
use Rattle.file_rule.specs.Export.{is_utf8}
use Rattle.file_rule.specs.Fits.{fits32, partition_field_fits}
use Rattle.file_round.proofs.Documents.{Document, bytes_of, Good, past, tree_at, members_at}
use Rattle.file_round.proofs.Texts.{text_token_lem}
use Rattle.file_round.proofs.Plain.{Written, transform_written}
use Rattle.file_round.proofs.Fields.{entries_of, group_text, Field, field, field_if, number, quotation, object, fields_good, object_pieces, number_or0_lem, number_by_lem, text_by_lem, items_by_lem}
use Rattle.file_round.proofs.Scalars.{good32, optional32_fine, optional32_good, optional32_fits, fitting32, fine32, text_fine, transform_fine}
use Rattle.file_round.proofs.Specs.{word_of}
use Rattle.file_round.proofs.Lists.{documents, listing, each_written, each_good, each_made}
use Rattle.log_rule.specs.LogText.{partition_text, offered_spec_text}
use Rattle.log_round.proofs.Objects.{Fine, single_fine, optional_fine, object_fine}
use Rattle.log_round.proofs.Listed.{list_fine}

-- ---- fields

abbrev pub part_fields : PartitionField → List Field
part_fields f =
    field "source-id" (number f.source)
    ∷ field_if "field-id" number f.id
    ∷ field "name" (quotation f.name)
    ∷ field "transform" (quotation (word_of f))
    ∷ []

abbrev pub part_show : PartitionField → Document
part_show f = object (part_fields f)

abbrev pub part_ok : PartitionField → Bool
part_ok f = partition_field_formed f && partition_field_fits f && is_utf8 f.name

record Bounds (f : PartitionField) : Type 0 where
  source : fits32 f.source ≡ true
  id : if_some fits32 f.id ≡ true
  name : leb (length f.name) name_room ≡ true
  is_text : is_utf8 f.name ≡ true
  word : Written f.transform f.buckets (word_of f)

bounds : (f : PartitionField) → part_ok f ≡ true → Bounds f
bounds f h =
    let k = parts (partition_field_formed f) (partition_field_fits f ∷ is_utf8 f.name ∷ []) h in
    let l = parts (at_least_one f.source) (if_some at_least_one f.id ∷ transform_formed f.transform f.buckets ∷ leb 1 (length f.name) ∷ name_formed f.name ∷ []) k.0 in
    let m = parts (fits32 f.source) (if_some fits32 f.id ∷ fits32 f.buckets ∷ []) k.1.0 in
    record {
      source = m.0;
      id = m.1.0;
      name = l.1.1.1.1.0;
      is_text = k.1.1.0;
      word = transform_written f.transform f.buckets l.1.1.0 (and_right (le_z (negsuc 2147483647) f.buckets) (le_z f.buckets (pos 2147483647)) m.1.1.0);
    }

id_text : (o : Option ℤ) → also_if "field-id" number_text o ≡ group_text (field_if "field-id" number o ∷ [])
unfolding quoted escaped_byte bytes_of
id_text none = refl
id_text (some z) = refl

module _ (f : PartitionField) (b : Bounds f) where
  part_written : partition_text f ≡ bytes_of (part_show f)
  unfolding partition_text quoted escaped_byte bytes_of
  part_written =
      object_pieces "source-id" (number f.source) (also_if "field-id" number_text f.id ∷ also "name" (quoted f.name) ∷ also "transform" (transform_text f.transform f.buckets) ∷ [])
      ((field_if "field-id" number f.id ∷ []) ∷ (field "name" (quotation f.name) ∷ []) ∷ (field "transform" (quotation (word_of f)) ∷ []) ∷ [])
      (id_text f.id, (refl, (ap (λ t. also "transform" t) b.word.written, tt)))

  part_good : Good 4 (part_show f)
  unfolding is_utf8
  part_good =
      (refl, fields_good 5 (part_fields f) refl (good32 f.source b.source, (optional32_good 5 f.id b.id, (text_token_lem f.name b.is_text, (text_token_lem (word_of f) b.word.is_text, tt)))))

  part_fine : Fine false (ARecord APartitionField) (some (part_show f))
  part_fine =
      object_fine APartitionField (part_fields f) (required_names (rows_of APartitionField)) (record { foreign = λ place. refl; needs = λ place. refl }) refl refl (
        single_fine 3 false i32 (number_text f.source) (fine32 3 false f.source b.source),
        (
          optional_fine 3 false i32 number_text f.id (optional32_fine 3 f.id b.id),
          (
            single_fine 3 false (TextUpTo name_room) (quoted f.name) (text_fine 3 false name_room f.name b.name),
            (single_fine 3 false ATransform (quoted (word_of f)) (transform_fine 3 false (word_of f) b.word.formed), tt),
          ),
        ),
      )

  part_made : (place : ℕ) → partition_field_of (members_at place (entries_of (part_fields f))) ≡ f
  part_made place =
      λ i.
      record {
        source = number_or0_lem "source-id" (part_fields f) place f.source (refl, refl) (fitting32 f.source b.source) i;
        id = number_by_lem "field-id" (part_fields f) place f.id (refl, refl) (optional32_fits f.id b.id) i;
        transform = (ap transform_of (text_by_lem "transform" (part_fields f) place (word_of f) (refl, refl)) ∙ b.word.kind) i;
        buckets = (ap buckets_of (text_by_lem "transform" (part_fields f) place (word_of f) (refl, refl)) ∙ b.word.buckets) i;
        name = text_by_lem "name" (part_fields f) place f.name (refl, refl) i;
      }

-- ---- specs

abbrev pub spec_fields : PartitionSpec → List Field
spec_fields s = field "spec-id" (number s.id) ∷ field "fields" (listing part_show s.fields) ∷ []

abbrev pub spec_show : PartitionSpec → Document
spec_show s = object (spec_fields s)

abbrev pub spec_ok : PartitionSpec → Bool
spec_ok s = fits32 s.id && leb (length s.fields) partition_field_room && all part_ok s.fields

pub record SpecShown (s : PartitionSpec) : Type 0 where
  pub written : offered_spec_text s ≡ bytes_of (spec_show s)
  pub good : Good 2 (spec_show s)
  pub fine : Fine false (ARecord ASpec) (some (spec_show s))
  pub made : (place : ℕ) → spec_of (members_in (tree_at place (spec_show s))) ≡ s

module _ (s : PartitionSpec) (i : fits32 s.id ≡ true) (n : leb (length s.fields) partition_field_room ≡ true) (c : all part_ok s.fields ≡ true) where
  spec_written : offered_spec_text s ≡ bytes_of (spec_show s)
  unfolding offered_spec_text quoted escaped_byte bytes_of
  spec_written =
      object_pieces "spec-id" (number s.id) (also "fields" (list_text partition_text s.fields) ∷ []) ((field "fields" (listing part_show s.fields) ∷ []) ∷ [])
      (ap (λ t. also "fields" t) (each_written partition_text part_show part_ok (λ f h. part_written f (bounds f h)) s.fields c), tt)

  spec_good : Good 2 (spec_show s)
  unfolding is_utf8
  spec_good = (refl, fields_good 3 (spec_fields s) refl (good32 s.id i, ((refl, each_good 4 part_show part_ok (λ f h. part_good f (bounds f h)) s.fields c), tt)))

  spec_fine : Fine false (ARecord ASpec) (some (spec_show s))
  spec_fine =
      object_fine ASpec (spec_fields s) (required_names (rows_of ASpec)) (record { foreign = λ place. refl; needs = λ place. refl }) refl refl (
        single_fine 3 false i32 (number_text s.id) (fine32 3 false s.id i),
        (list_fine (ARecord APartitionField) part_show part_ok (λ f h. part_fine f (bounds f h)) partition_field_room s.fields c n, tt),
      )

  spec_made : (place : ℕ) → spec_of (members_at place (entries_of (spec_fields s))) ≡ s
  unfolding tree_at
  spec_made place =
      let k = items_by_lem "fields" (spec_fields s) place (documents part_show s.fields) (refl, refl) in
      λ j.
      record {
        id = number_or0_lem "spec-id" (spec_fields s) place s.id (refl, refl) (fitting32 s.id i) j;
        fields = (ap (λ xs. records_of partition_field_of xs) k.1 ∙ each_made partition_field_of part_show part_ok (λ f h p. part_made f (bounds f h) (past p (123 ∷ []))) s.fields c k.0) j;
      }

pub spec_shown : (s : PartitionSpec) → spec_ok s ≡ true → SpecShown s
unfolding tree_at
spec_shown s h =
    let k = parts (fits32 s.id) (leb (length s.fields) partition_field_room ∷ all part_ok s.fields ∷ []) h in
    record { written = spec_written s k.0 k.1.0 k.1.1.0; good = spec_good s k.0 k.1.0 k.1.1.0; fine = spec_fine s k.0 k.1.0 k.1.1.0; made = λ place. spec_made s k.0 k.1.0 k.1.1.0 (past place (123 ∷ [])) }
