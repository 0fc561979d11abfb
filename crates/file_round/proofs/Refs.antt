-- Refs as they are written in a file, under names of their own, and read back.
use Prim.Native.Nat.{ℕ, suc, ◌<◌}
use native.Mathlib.Omega.{arith}
use mathlib.Core.Path.{◌≡◌, refl, ◌∙◌, sym, ap, subst}
use mathlib.Core.Bool.{Bool, true, false, cond, not, ◌&&◌, ◌||◌, false≢true, and-false}
use mathlib.Core.List.{List, [], ◌∷◌, ◌++◌, append_assoc}
use mathlib.Core.Option.{Option, none, some}
use lib.Dec.{eqb, leb, ltb}
use lib.IntN.{ℤ}
use lib.ListN.{length}
use lib.Signed.{non_neg}
use borrow.Author.Tests.{eqb-true, ltb-true, not-true, ne_eqb}
use Rattle.rules.specs.Words.{is_some, if_some, or_else, all, same_bytes, ascending}
use Rattle.rules.specs.Capacities.{name_room, ref_room}
use Rattle.rules.specs.Names.{name_below}
use Rattle.rules.specs.Register.{Reference, NamedRef}
use Rattle.rules.specs.WellFormed.{branch, tag, kind_formed, retention_formed, reference_formed, ref_formed, owner_formed, name_formed, ref_below}
use Rattle.rules.proofs.Checks.{parts, both, and_left, and_right, by_either}
use Rattle.json_rule.specs.Letters.{bytes}
use Rattle.json_rule.specs.Lexemes.{Lexeme}
use Rattle.json_rule.specs.Values.{text_of}
use Rattle.json_rule.specs.Tree.{Defect, over_capacity}
use Rattle.json_rule.specs.Members.{is_one_of}
use Rattle.json_rule.specs.Records.{reference_of}
use Rattle.json_rule.specs.Defects.{not_published, unless, text_defects, with_name}
use Rattle.file_rule.specs.Tables.{OfKind, ByName, HeldRef, rows_in, row_in}
use Rattle.file_rule.specs.FileDefects.{defects, named_defects, own_name_defects, is_repeated, members_count}
use Rattle.file_rule.specs.Import.{refs_of}
use Rattle.file_rule.specs.Written.{quoted, escaped_byte, number_text, word_text, also, also_if, items, more_items, object_text}
use Rattle.file_rule.specs.Files.{reference_text, ref_text}
use Rattle.file_rule.specs.Export.{is_utf8}
use Rattle.file_rule.specs.Fits.{fits32, fits64, reference_fits, ref_fits}
use Rattle.file_round.proofs.Documents.{Document, Record, Entries, no_entry, entry, bytes_of, bytes_of_entries, bytes_of_members, Good, GoodEntries, lexeme_of, past, behind, tree_at, members_at}
use Rattle.file_round.proofs.Texts.{text_token_lem, text_lexeme, text_read_lem}
use Rattle.file_round.proofs.Fields.{entries_of, group_text, flat, Field, field, field_if, number, quotation, object, names_fine, ValuesFine, FineIn, fields_good, object_fine, object_pieces, number_by_lem, number_or0_lem, text_by_lem}
use Rattle.file_round.proofs.Scalars.{Version, one, two, three, good64, optional_fine, optional_good, optional_fits, optional32_fine, optional32_good, optional32_fits, fitting64, fine64, word_fine}

-- ---- references

abbrev pub kind_word : ℕ → List ℕ
kind_word k = cond (eqb k branch) (bytes "branch") (bytes "tag")

abbrev pub reference_groups : Reference → List (List Field)
reference_groups r =
    (field "type" (quotation (kind_word r.kind)) ∷ [])
    ∷ (field_if "min-snapshots-to-keep" number r.min_snapshots ∷ [])
    ∷ (field_if "max-snapshot-age-ms" number r.max_snapshot_age ∷ [])
    ∷ (field_if "max-ref-age-ms" number r.max_ref_age ∷ [])
    ∷ []

abbrev pub reference_fields : Reference → List Field
reference_fields r = field "snapshot-id" (number r.snapshot) ∷ flat (reference_groups r)

abbrev pub reference_show : Reference → Document
reference_show r = object (reference_fields r)

pub min_text : (o : Option ℤ) → also_if "min-snapshots-to-keep" number_text o ≡ group_text (field_if "min-snapshots-to-keep" number o ∷ [])
unfolding quoted escaped_byte bytes_of
min_text none = refl
min_text (some z) = refl

pub max_text : (o : Option ℤ) → also_if "max-snapshot-age-ms" number_text o ≡ group_text (field_if "max-snapshot-age-ms" number o ∷ [])
unfolding quoted escaped_byte bytes_of
max_text none = refl
max_text (some z) = refl

pub age_text : (o : Option ℤ) → also_if "max-ref-age-ms" number_text o ≡ group_text (field_if "max-ref-age-ms" number o ∷ [])
unfolding quoted escaped_byte bytes_of
age_text none = refl
age_text (some z) = refl

pub type_text : (b : Bool) → also "type" (cond b (word_text "branch") (word_text "tag")) ≡ group_text (field "type" (quotation (cond b (bytes "branch") (bytes "tag"))) ∷ [])
unfolding quoted escaped_byte bytes_of
type_text true = refl
type_text false = refl

pub record Bounds (r : Reference) : Type 0 where
  pub snapshot : fits64 r.snapshot ≡ true
  pub least : if_some fits32 r.min_snapshots ≡ true
  pub age : if_some fits64 r.max_snapshot_age ≡ true
  pub ref_age : if_some fits64 r.max_ref_age ≡ true

pub bounds : (r : Reference) → reference_fits r ≡ true → Bounds r
unfolding reference_fits
bounds r h =
    let k = parts (fits64 r.snapshot) (if_some fits32 r.min_snapshots ∷ if_some fits64 r.max_snapshot_age ∷ if_some fits64 r.max_ref_age ∷ []) h in
    record { snapshot = k.0; least = k.1.0; age = k.1.1.0; ref_age = k.1.1.1.0 }

pub kind_is : (b : Bool) → is_one_of (bytes "branch" ∷ bytes "tag" ∷ []) (cond b (bytes "branch") (bytes "tag")) ≡ true
kind_is true = refl
kind_is false = refl

pub kind_utf8 : (b : Bool) → is_utf8 (cond b (bytes "branch") (bytes "tag")) ≡ true
unfolding is_utf8
kind_utf8 true = refl
kind_utf8 false = refl

pub kind_made : (r : Reference) → kind_formed r ≡ true → cond (same_bytes (kind_word r.kind) (bytes "branch")) branch tag ≡ r.kind
kind_made r h =
    by_either (eqb r.kind branch) (eqb r.kind tag && not (is_some r.min_snapshots) && not (is_some r.max_snapshot_age))
    (λ p. ap (λ b. cond (same_bytes (cond b (bytes "branch") (bytes "tag")) (bytes "branch")) branch tag) p ∙ sym (eqb-true r.kind branch p))
    (λ p. let e : r.kind ≡ tag = eqb-true r.kind tag (parts (eqb r.kind tag) (not (is_some r.min_snapshots) ∷ not (is_some r.max_snapshot_age) ∷ []) p).0 in
    ap (λ k. cond (same_bytes (kind_word k) (bytes "branch")) branch tag) e ∙ sym e)
    h

ref_rows_lem : {version : ℕ} → Version version → rows_in version HeldRef ≡ rows_in 1 HeldRef
unfolding rows_in row_in
ref_rows_lem one = refl
ref_rows_lem two = refl
ref_rows_lem three = refl

module _ (r : Reference) (b : Bounds r) where
  reference_written : reference_text r ≡ bytes_of (reference_show r)
  unfolding reference_text quoted escaped_byte bytes_of
  reference_written =
      object_pieces "snapshot-id" (number r.snapshot)
      (also "type" (cond (eqb r.kind branch) (word_text "branch") (word_text "tag")) ∷ also_if "min-snapshots-to-keep" number_text r.min_snapshots ∷ also_if "max-snapshot-age-ms" number_text r.max_snapshot_age ∷ also_if "max-ref-age-ms" number_text r.max_ref_age ∷ [])
      (reference_groups r) (type_text (eqb r.kind branch), (min_text r.min_snapshots, (max_text r.max_snapshot_age, (age_text r.max_ref_age, tt))))

  reference_names : {version : ℕ} → Version version → names_fine version HeldRef (reference_fields r) ≡ true
  unfolding rows_in row_in
  reference_names one = refl
  reference_names two = refl
  reference_names three = refl

  reference_values : {version : ℕ} → Version version → ValuesFine version (rows_in version HeldRef) (reference_fields r)
  unfolding rows_in row_in
  reference_values {version} v =
      subst (λ rows. ValuesFine version rows (reference_fields r)) (sym (ref_rows_lem v))
      (fine64 version false r.snapshot b.snapshot, (word_fine version false (bytes "branch" ∷ bytes "tag" ∷ []) (kind_word r.kind) (kind_is (eqb r.kind branch)), (optional32_fine version r.min_snapshots b.least, (optional_fine version r.max_snapshot_age b.age, (optional_fine version r.max_ref_age b.ref_age, tt)))))

  reference_good : (depth : ℕ) → GoodEntries depth (entries_of (reference_fields r))
  unfolding is_utf8
  reference_good depth =
      fields_good depth (reference_fields r) refl
      (good64 r.snapshot b.snapshot, (text_token_lem (kind_word r.kind) (kind_utf8 (eqb r.kind branch)), (optional32_good depth r.min_snapshots b.least, (optional_good depth r.max_snapshot_age b.age, (optional_good depth r.max_ref_age b.ref_age, tt)))))

  reference_made : kind_formed r ≡ true → (place : ℕ) → reference_of (members_at place (entries_of (reference_fields r))) ≡ r
  reference_made h place =
      λ i.
      record {
        snapshot = number_or0_lem "snapshot-id" fs place r.snapshot (refl, refl) (fitting64 r.snapshot b.snapshot) i;
        kind = (ap (λ w. cond (same_bytes w (bytes "branch")) branch tag) (text_by_lem "type" fs place (kind_word r.kind) (refl, refl)) ∙ kind_made r h) i;
        min_snapshots = number_by_lem "min-snapshots-to-keep" fs place r.min_snapshots (refl, refl) (optional32_fits r.min_snapshots b.least) i;
        max_snapshot_age = number_by_lem "max-snapshot-age-ms" fs place r.max_snapshot_age (refl, refl) (optional_fits r.max_snapshot_age b.age) i;
        max_ref_age = number_by_lem "max-ref-age-ms" fs place r.max_ref_age (refl, refl) (optional_fits r.max_ref_age b.ref_age) i;
      }
    where
      fs : List Field
      fs = reference_fields r

-- ---- refs

-- what a file shows of it is all of it
abbrev pub ref_ok : NamedRef → Bool
ref_ok r = ref_formed r && ref_fits r && eqb r.owner 1 && is_utf8 r.name

record RefBounds (r : NamedRef) : Type 0 where
  name : leb (length r.name) name_room ≡ true
  is_text : is_utf8 r.name ≡ true
  kind : kind_formed r.reference ≡ true
  owner : r.owner ≡ 1
  reference : Bounds r.reference

ref_bounds : (r : NamedRef) → ref_ok r ≡ true → RefBounds r
ref_bounds r h =
    let k = parts (ref_formed r) (ref_fits r ∷ eqb r.owner 1 ∷ is_utf8 r.name ∷ []) h in
    let f = parts (name_formed r.name) (reference_formed r.reference ∷ owner_formed r ∷ []) k.0 in
    record {
      name = f.0;
      is_text = k.1.1.1.0;
      kind = (parts (non_neg r.reference.snapshot) (kind_formed r.reference ∷ retention_formed r.reference ∷ []) f.1.0).1.0;
      owner = eqb-true r.owner 1 k.1.1.0;
      reference = bounds r.reference k.1.0;
    }

abbrev pub ref_entries : List NamedRef → Entries
ref_entries [] = no_entry
ref_entries (r ∷ l) = entry r.name (reference_show r.reference) (ref_entries l)

abbrev pub refs_show : List NamedRef → Document
refs_show l = Record (ref_entries l)

ref_text_lem : (r : NamedRef) (more : List ℕ) → RefBounds r → ref_text r ++ more ≡ quoted r.name ++ (58 ∷ bytes_of (reference_show r.reference) ++ more)
unfolding ref_text
ref_text_lem r more b = append_assoc (quoted r.name) (58 ∷ reference_text r.reference) more ∙ ap (λ t. quoted r.name ++ (58 ∷ t ++ more)) (reference_written r.reference b.reference)

more_refs : (l : List NamedRef) → all ref_ok l ≡ true → more_items ref_text l ≡ bytes_of_members (ref_entries l)
unfolding bytes_of
more_refs [] h = refl
more_refs (r ∷ l) h =
    ap (λ t. 44 ∷ t) (ref_text_lem r (more_items ref_text l) (ref_bounds r (and_left (ref_ok r) (all ref_ok l) h)))
    ∙ ap (λ t. 44 ∷ quoted r.name ++ (58 ∷ bytes_of (reference_show r.reference) ++ t)) (more_refs l (and_right (ref_ok r) (all ref_ok l) h))

all_refs : (l : List NamedRef) → all ref_ok l ≡ true → items ref_text l ≡ bytes_of_entries (ref_entries l)
unfolding bytes_of
all_refs [] h = refl
all_refs (r ∷ l) h =
    ref_text_lem r (more_items ref_text l) (ref_bounds r (and_left (ref_ok r) (all ref_ok l) h))
    ∙ ap (λ t. quoted r.name ++ (58 ∷ bytes_of (reference_show r.reference) ++ t)) (more_refs l (and_right (ref_ok r) (all ref_ok l) h))

pub refs_written : (l : List NamedRef) → all ref_ok l ≡ true → object_text (items ref_text l) ≡ bytes_of (refs_show l)
unfolding bytes_of
refs_written l h = ap object_text (all_refs l h)

entries_good : (l : List NamedRef) → all ref_ok l ≡ true → GoodEntries 2 (ref_entries l)
entries_good [] h = tt
entries_good (r ∷ l) h =
    let b = ref_bounds r (and_left (ref_ok r) (all ref_ok l) h) in
    (text_lexeme r.name b.is_text, (refl, reference_good r.reference b.reference 3), entries_good l (and_right (ref_ok r) (all ref_ok l) h))

pub refs_good : (l : List NamedRef) → all ref_ok l ≡ true → Good 1 (refs_show l)
refs_good l h = (refl, entries_good l h)

-- names that ascend are unequal
below_other : (a b : List ℕ) → name_below a b ≡ true → same_bytes b a ≡ false
below_other [] [] h = absurd (false≢true h)
below_other [] (b ∷ bs) h = refl
below_other (a ∷ xs) [] h = refl
below_other (a ∷ xs) (b ∷ ys) h =
    by_either (ltb a b) (eqb a b && name_below xs ys) (λ p. let k : a < b = ltb-true a b p in rw (ne_eqb b a (λ e. omega arith)))
    (λ p. rw (below_other xs ys (and_right (eqb a b) (name_below xs ys) p)) (and-false (eqb b a))) h

-- none of them is among those
abbrev unseen : List (List ℕ) → List NamedRef → Bool
unseen seen l = all (λ (r : NamedRef). not (is_one_of seen r.name)) l

unseen_more : (seen : List (List ℕ)) (r : NamedRef) (l : List NamedRef) → all (ref_below r) l ≡ true → unseen seen l ≡ true → unseen (r.name ∷ seen) l ≡ true
unseen_more seen r [] h k = refl
unseen_more seen r (x ∷ l) h k =
    both (ap (λ b. not (b || is_one_of seen x.name)) (below_other r.name x.name (and_left (ref_below r x) (all (ref_below r) l) h)) ∙ and_left (not (is_one_of seen x.name)) (unseen seen l) k)
    (unseen_more seen r l (and_right (ref_below r x) (all (ref_below r) l) h) (and_right (not (is_one_of seen x.name)) (unseen seen l) k))

module _ {version : ℕ} (v : Version version) where
  own_name : (seen : List (List ℕ)) (name : List ℕ) (place : ℕ) → leb (length name) name_room ≡ true → is_one_of seen name ≡ false → own_name_defects seen (lexeme_of place (quoted name)) ≡ []
  own_name seen name place h k =
      ap (λ o. text_defects name_room place o ++ unless (not (is_repeated seen o)) place not_published) (text_read_lem place name)
      ∙ ap (λ b. unless b place over_capacity ++ unless (not (is_one_of seen name)) place not_published) h
      ∙ ap (λ b. unless (not b) place not_published) k

  refs_fine_from : (schema : ℕ) (seen : List (List ℕ)) (l : List NamedRef) (place : ℕ) → all ref_ok l ≡ true → ascending ref_below l ≡ true → unseen seen l ≡ true → named_defects version schema (OfKind HeldRef) seen (members_at place (ref_entries l)) ≡ []
  unfolding defects tree_at
  refs_fine_from schema seen [] place h a u = refl
  refs_fine_from schema seen (r ∷ l) place h a u =
      ap (λ d. d ++ defects version schema false (OfKind HeldRef) (tree_at inner (reference_show r.reference)) ++ rest (text_of t)) (own_name seen r.name place b.name fresh)
      ∙ ap (λ d. d ++ rest (text_of t)) (object_fine version HeldRef (reference_fields r.reference) (reference_names r.reference b.reference v) (reference_values r.reference b.reference v) schema inner)
      ∙ ap rest (text_read_lem place r.name)
      ∙ refs_fine_from schema (r.name ∷ seen) l next (and_right (ref_ok r) (all ref_ok l) h) (and_right (all (ref_below r) l) (ascending ref_below l) a) (unseen_more seen r l (and_left (all (ref_below r) l) (ascending ref_below l) a) (and_right (not (is_one_of seen r.name)) (unseen seen l) u))
    where
      b : RefBounds r
      b = ref_bounds r (and_left (ref_ok r) (all ref_ok l) h)

      fresh : is_one_of seen r.name ≡ false
      fresh = not-true (is_one_of seen r.name) (and_left (not (is_one_of seen r.name)) (unseen seen l) u)

      t : Lexeme
      t = lexeme_of place (quoted r.name)

      inner : ℕ
      inner = past (past place (quoted r.name)) (58 ∷ [])

      next : ℕ
      next = past (behind inner (reference_show r.reference)) (44 ∷ [])

      rest : Option (List ℕ) → List Defect
      rest o = named_defects version schema (OfKind HeldRef) (with_name seen o) (members_at next (ref_entries l))

  count : (l : List NamedRef) (place : ℕ) → members_count (members_at place (ref_entries l)) ≡ length l
  unfolding tree_at
  count [] place = refl
  count (r ∷ l) place = ap suc (count l (past (behind (past (past place (quoted r.name)) (58 ∷ [])) (reference_show r.reference)) (44 ∷ [])))

  none_seen : (l : List NamedRef) → unseen [] l ≡ true
  none_seen [] = refl
  none_seen (r ∷ l) = none_seen l

  pub refs_fine : (l : List NamedRef) → all ref_ok l ≡ true → ascending ref_below l ≡ true → leb (length l) ref_room ≡ true → FineIn version false (ByName ref_room (OfKind HeldRef)) (some (refs_show l))
  unfolding defects tree_at
  refs_fine l h a k schema place =
      ap (λ n. unless (leb n ref_room) place over_capacity ++ named_defects version schema (OfKind HeldRef) [] (members_at (past place (123 ∷ [])) (ref_entries l))) (count l (past place (123 ∷ [])))
      ∙ ap (λ b. unless b place over_capacity ++ named_defects version schema (OfKind HeldRef) [] (members_at (past place (123 ∷ [])) (ref_entries l))) k
      ∙ refs_fine_from schema [] l (past place (123 ∷ [])) h a (none_seen l)

pub refs_made : (l : List NamedRef) → all ref_ok l ≡ true → (place : ℕ) → refs_of (members_at place (ref_entries l)) ≡ l
unfolding tree_at
refs_made [] h place = refl
refs_made (r ∷ l) h place =
    ap (λ x. record { name = x; owner = 1; reference = reference_of (members_at (past inner (123 ∷ [])) (entries_of (reference_fields r.reference))) } ∷ refs_of (members_at next (ref_entries l))) (ap (λ o. or_else o []) (text_read_lem place r.name))
    ∙ ap (λ x. record { name = r.name; owner = x; reference = reference_of (members_at (past inner (123 ∷ [])) (entries_of (reference_fields r.reference))) } ∷ refs_of (members_at next (ref_entries l))) (sym b.owner)
    ∙ ap (λ x. record { name = r.name; owner = r.owner; reference = x } ∷ refs_of (members_at next (ref_entries l))) (reference_made r.reference b.reference b.kind (past inner (123 ∷ [])))
    ∙ ap (λ x. r ∷ x) (refs_made l (and_right (ref_ok r) (all ref_ok l) h) next)
  where
    b : RefBounds r
    b = ref_bounds r (and_left (ref_ok r) (all ref_ok l) h)

    inner : ℕ
    inner = past (past place (quoted r.name)) (58 ∷ [])

    next : ℕ
    next = past (behind inner (reference_show r.reference)) (44 ∷ [])
