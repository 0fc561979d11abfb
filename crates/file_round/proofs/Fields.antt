-- Objects by their fields: a name, and what is written under it, where it is there. What is asked of such an object by the tables, and what is found under a name.
use Prim.Native.Nat.{ℕ}
use Prim.Native.String.{String}
use mathlib.Core.Path.{◌≡◌, refl, ◌∙◌, sym, ap}
use mathlib.Core.Bool.{Bool, true, false, not, ◌&&◌, ◌||◌, and-false, and-true}
use mathlib.Core.List.{List, [], ◌∷◌, ◌++◌, append_assoc, append-nil}
use mathlib.Core.Option.{Option, none, some}
use lib.IntN.{ℤ, pos}
use borrow.Author.Tests.{not-true}
use Rattle.rules.specs.Words.{is_some, or_else, all, same_bytes}
use Rattle.rules.proofs.Checks.{both, and_left, and_right, neither}
use Rattle.json_rule.specs.Letters.{bytes}
use Rattle.json_rule.specs.Tree.{Defect, Json, Items, no_item, Members, no_member}
use Rattle.json_rule.specs.Members.{is_one_of, names_of, value_of, text_in, number_in, items_in, members_in, text_by, number_by, number_or0, items_by, members_by}
use Rattle.json_rule.specs.Defects.{unless}
use Rattle.file_rule.specs.Tables.{FileKind, TheFile, FileShape, OfKind, Published, rows_in}
use Rattle.file_rule.specs.FileDefects.{missing_member, published_as, required_in, range_names, missing_defects, schema_place, defects, member_defects}
use Rattle.file_rule.specs.Import.{has, skipped_in}
use Rattle.file_rule.specs.Written.{quoted, number_text, object_text}
use Rattle.file_rule.specs.Export.{is_utf8}
use Rattle.file_round.proofs.Documents.{Document, Documents, Token, Listing, Record, Entries, no_entry, entry, bytes_of, bytes_of_members, Good, GoodEntries, past, behind, tree_at, items_at, members_at}
use Rattle.file_round.proofs.Numbers.{Fitting, number_read}
use Rattle.file_round.proofs.Texts.{text_lexeme, text_read_lem}

-- ---- fields

pub record Field : Type 0 where
  pub name : List ℕ
  pub value : Option Document

abbrev pub with_field : List ℕ → Option Document → Entries → Entries
with_field name none es = es
with_field name (some d) es = entry name d es

abbrev pub entries_of : List Field → Entries
entries_of [] = no_entry
entries_of (f ∷ fs) = with_field f.name f.value (entries_of fs)

abbrev pub object : List Field → Document
object fs = Record (entries_of fs)

-- one that is there, and one that may be
abbrev pub field : String → Document → Field
field name d = record { name = bytes name; value = some d }

abbrev pub mapped : {A : Type 0} → (A → Document) → Option A → Option Document
mapped f none = none
mapped f (some x) = some (f x)

abbrev pub field_if : {A : Type 0} → String → (A → Document) → Option A → Field
field_if name f o = record { name = bytes name; value = mapped f o }

abbrev pub number : ℤ → Document
number z = Token (number_text z)

abbrev pub quotation : List ℕ → Document
quotation bs = Token (quoted bs)

-- groups of fields, one behind the other
abbrev pub flat : List (List Field) → List Field
flat [] = []
flat (fs ∷ gs) = fs ++ flat gs

-- it holds of each
abbrev pub Each : (Field → Type 0) → List Field → Type 0
Each P [] = Unit {0}
Each P (f ∷ fs) = P f × Each P fs

pub each_append : (P : Field → Type 0) (fs gs : List Field) → Each P fs → Each P gs → Each P (fs ++ gs)
each_append P [] gs h k = k
each_append P (f ∷ fs) gs h k = (h.0, each_append P fs gs h.1 k)

-- of each of some groups
abbrev pub EachGroup : (Field → Type 0) → List (List Field) → Type 0
EachGroup P [] = Unit {0}
EachGroup P (fs ∷ gs) = Each P fs × EachGroup P gs

pub each_flat : (P : Field → Type 0) (gs : List (List Field)) → EachGroup P gs → Each P (flat gs)
each_flat P [] h = tt
each_flat P (fs ∷ gs) h = each_append P fs (flat gs) h.0 (each_flat P gs h.1)

-- ---- their bytes

abbrev value_text : List ℕ → Option Document → List ℕ
value_text name none = []
value_text name (some d) = 44 ∷ quoted name ++ (58 ∷ bytes_of d)

abbrev pub field_text : Field → List ℕ
field_text f = value_text f.name f.value

abbrev pub fields_text : List Field → List ℕ
fields_text [] = []
fields_text (f ∷ fs) = field_text f ++ fields_text fs

pub fields_append : (fs gs : List Field) → fields_text (fs ++ gs) ≡ fields_text fs ++ fields_text gs
fields_append [] gs = refl
fields_append (f ∷ fs) gs = ap (λ l. field_text f ++ l) (fields_append fs gs) ∙ sym (append_assoc (field_text f) (fields_text fs) (fields_text gs))

value_members : (name : List ℕ) (o : Option Document) (es : Entries) → bytes_of_members (with_field name o es) ≡ value_text name o ++ bytes_of_members es
unfolding bytes_of
value_members name none es = refl
value_members name (some d) es = sym (append_assoc (44 ∷ quoted name) (58 ∷ bytes_of d) (bytes_of_members es))

members_text : (fs : List Field) → bytes_of_members (entries_of fs) ≡ fields_text fs
unfolding bytes_of
members_text [] = refl
members_text (f ∷ fs) = value_members f.name f.value (entries_of fs) ∙ ap (λ l. field_text f ++ l) (members_text fs)

-- the first one is there
pub object_text_lem : (name : String) (d : Document) (fs : List Field) → object_text ((quoted (bytes name) ++ (58 ∷ bytes_of d)) ++ fields_text fs) ≡ bytes_of (object (field name d ∷ fs))
unfolding bytes_of
object_text_lem name d fs =
    ap object_text (append_assoc (quoted (bytes name)) (58 ∷ bytes_of d) (fields_text fs) ∙ ap (λ l. quoted (bytes name) ++ (58 ∷ bytes_of d ++ l)) (sym (members_text fs)))

-- ---- they can be read

abbrev pub OptionGood : ℕ → Option Document → Type 0
OptionGood depth none = Unit {0}
OptionGood depth (some d) = Good depth d

abbrev pub ValuesGood : ℕ → List Field → Type 0
ValuesGood depth fs = Each (λ f. OptionGood depth f.value) fs

with_good : (depth : ℕ) (name : List ℕ) (o : Option Document) (es : Entries) → is_utf8 name ≡ true → OptionGood depth o → GoodEntries depth es → GoodEntries depth (with_field name o es)
with_good depth name none es u g h = h
with_good depth name (some d) es u g h = (text_lexeme name u, g, h)

pub fields_good : (depth : ℕ) (fs : List Field) → all (λ (f : Field). is_utf8 f.name) fs ≡ true → ValuesGood depth fs → GoodEntries depth (entries_of fs)
fields_good depth [] u g = tt
fields_good depth (f ∷ fs) u g =
    with_good depth f.name f.value (entries_of fs) (and_left (is_utf8 f.name) (all (λ (f : Field). is_utf8 f.name) fs) u) g.0
    (fields_good depth fs (and_right (is_utf8 f.name) (all (λ (f : Field). is_utf8 f.name) fs) u) g.1)

pub mapped_good : {A : Type 0} (depth : ℕ) (f : A → Document) (o : Option A) → ((x : A) → o ≡ some x → Good depth (f x)) → OptionGood depth (mapped f o)
mapped_good depth f none g = tt
mapped_good depth f (some x) g = g x refl

-- ---- what is found under a name

abbrev pub Looks : Option Json → Option Document → Type 0
Looks x none = x ≡ none
Looks x (some d) = (place : ℕ) × (x ≡ some (tree_at place d))

abbrev Choice : Bool → Type 0 → Type 0 → Type 0
Choice true A B = A
Choice false A B = B

-- no field has the name
abbrev pub unnamed : List ℕ → List Field → Bool
unnamed n [] = true
unnamed n (f ∷ fs) = not (same_bytes n f.name) && unnamed n fs

-- the field of that name, and no other, has this value
abbrev pub Only : List ℕ → List Field → Option Document → Type 0
Only n [] o = none ≡ o
Only n (f ∷ fs) o = Choice (same_bytes n f.name) ((f.value ≡ o) × (unnamed n fs ≡ true)) (Only n fs o)

-- a field of another name is passed
passed : (n name : List ℕ) (o : Option Document) (es : Entries) (place : ℕ) → same_bytes n name ≡ false → (next : ℕ) × (value_of n (members_at place (with_field name o es)) ≡ value_of n (members_at next es))
unfolding tree_at
passed n name none es place h = (place, refl)
passed n name (some d) es place h = (past (behind (past (past place (quoted name)) (58 ∷ [])) d) (44 ∷ []), rw (text_read_lem place name, h))

unnamed_absent : (n : List ℕ) (fs : List Field) (place : ℕ) → unnamed n fs ≡ true → value_of n (members_at place (entries_of fs)) ≡ none
unfolding tree_at
unnamed_absent n [] place h = refl
unnamed_absent n (f ∷ fs) place h =
    let k = passed n f.name f.value (entries_of fs) place (not-true (same_bytes n f.name) (and_left (not (same_bytes n f.name)) (unnamed n fs) h)) in
    k.1 ∙ unnamed_absent n fs k.0 (and_right (not (same_bytes n f.name)) (unnamed n fs) h)

looks_at : (n name : List ℕ) (o : Option Document) (fs : List Field) (place : ℕ) → same_bytes n name ≡ true → unnamed n fs ≡ true → Looks (value_of n (members_at place (with_field name o (entries_of fs)))) o
unfolding tree_at
looks_at n name none fs place e u = unnamed_absent n fs place u
looks_at n name (some d) fs place e u = (past (past place (quoted name)) (58 ∷ []), rw (text_read_lem place name, e))

looks_on : (x y : Option Json) (o : Option Document) → x ≡ y → Looks y o → Looks x o
looks_on x y o e l = rw e l

pub looked : (n : List ℕ) (fs : List Field) (o : Option Document) → Only n fs o → (place : ℕ) → Looks (value_of n (members_at place (entries_of fs))) o
unfolding tree_at
looked n [] o h place = rw (← h) refl
looked n (f ∷ fs) o h place = go (same_bytes n f.name) refl h (λ k p. looked n fs o k p)
  where
    go : (b : Bool) → same_bytes n f.name ≡ b → Choice b ((f.value ≡ o) × (unnamed n fs ≡ true)) (Only n fs o) → (Only n fs o → (p : ℕ) → Looks (value_of n (members_at p (entries_of fs))) o)
        → Looks (value_of n (members_at place (with_field f.name f.value (entries_of fs)))) o
    go true e k again = rw (← k.0) (looks_at n f.name f.value fs place e k.1)
    go false e k again =
        let q = passed n f.name f.value (entries_of fs) place e in
        looks_on (value_of n (members_at place (with_field f.name f.value (entries_of fs)))) (value_of n (members_at q.0 (entries_of fs))) o q.1 (again k q.0)

abbrev number_found : Option Json → Option ℤ
number_found o = elim o [ none ↦ none | some x ↦ number_in x ]

abbrev text_found : Option Json → List ℕ
text_found o = elim o [ none ↦ [] | some x ↦ or_else (text_in x) [] ]

abbrev items_found : Option Json → Items
items_found o = elim o [ none ↦ no_item | some x ↦ items_in x ]

abbrev members_found : Option Json → Members
members_found o = elim o [ none ↦ no_member | some x ↦ members_in x ]

module _ (name : String) (fs : List Field) (place : ℕ) where
  abbrev those : Members
  those = members_at place (entries_of fs)

  looked_number : (o : Option ℤ) → Looks (value_of (bytes name) those) (mapped number o) → ((z : ℤ) → o ≡ some z → Fitting z) → number_by name those ≡ o
  unfolding tree_at
  looked_number none l h = ap number_found l
  looked_number (some z) l h = ap number_found l.1 ∙ (number_read l.0 z (h z refl))

  pub number_by_lem : (o : Option ℤ) → Only (bytes name) fs (mapped number o) → ((z : ℤ) → o ≡ some z → Fitting z) → number_by name those ≡ o
  number_by_lem o h f = looked_number o (looked (bytes name) fs (mapped number o) h place) f

  pub number_or0_lem : (z : ℤ) → Only (bytes name) fs (some (number z)) → Fitting z → number_or0 name those ≡ z
  unfolding tree_at
  number_or0_lem z h f = let l = looked (bytes name) fs (some (number z)) h place in ap (λ o. or_else (number_found o) (pos 0)) l.1 ∙ ap (λ o. or_else o (pos 0)) (number_read l.0 z f)

  pub text_by_lem : (bs : List ℕ) → Only (bytes name) fs (some (quotation bs)) → text_by name those ≡ bs
  unfolding tree_at
  text_by_lem bs h = let l = looked (bytes name) fs (some (quotation bs)) h place in ap text_found l.1 ∙ ap (λ o. or_else o []) (text_read_lem l.0 bs)

  pub items_by_lem : (ds : Documents) → Only (bytes name) fs (some (Listing ds)) → (p : ℕ) × (items_by name those ≡ items_at p ds)
  unfolding tree_at
  items_by_lem ds h = let l = looked (bytes name) fs (some (Listing ds)) h place in (past l.0 (91 ∷ []), ap items_found l.1)

  pub members_by_lem : (es : Entries) → Only (bytes name) fs (some (Record es)) → (p : ℕ) × (members_by name those ≡ members_at p es)
  unfolding tree_at
  members_by_lem es h = let l = looked (bytes name) fs (some (Record es)) h place in (past l.0 (123 ∷ []), ap members_found l.1)

  pub has_field : (d : Document) → Only (bytes name) fs (some d) → has name those ≡ true
  has_field d h = let l = looked (bytes name) fs (some d) h place in rw l.1

  pub absent_number : Only (bytes name) fs none → number_by name those ≡ none
  absent_number h = ap number_found (looked (bytes name) fs none h place)

-- ---- what is asked of them

-- each name is published, and stands once
abbrev published : List Published → List (List ℕ) → List Field → Bool
published rows seen [] = true
published rows seen (f ∷ fs) = is_some (published_as f.name rows) && not (is_one_of seen f.name) && published rows (f.name ∷ seen) fs

-- a field of that name is there
abbrev pub is_there : List Field → List ℕ → Bool
is_there [] n = false
is_there (f ∷ fs) n = (same_bytes n f.name && is_some f.value) || is_there fs n

-- the names of those that are there
abbrev pub name_if : List ℕ → Option Document → List (List ℕ) → List (List ℕ)
name_if name none l = l
name_if name (some d) l = name ∷ l

abbrev pub names : List Field → List (List ℕ)
names [] = []
names (f ∷ fs) = name_if f.name f.value (names fs)

-- the names alone, in a version: published, unequal, and none that is required is missing
abbrev pub names_fine : ℕ → FileKind → List Field → Bool
names_fine version kind fs = published (rows_in version kind) [] fs && all (is_there fs) (required_in (rows_in version kind) ++ range_names version kind (names fs))

-- what is wrong with a value that is there
abbrev pub FineIn : ℕ → Bool → FileShape → Option Document → Type 0
FineIn version of_schema shape none = Unit {0}
FineIn version of_schema shape (some d) = (schema place : ℕ) → defects version schema of_schema shape (tree_at place d) ≡ []

abbrev pub FineBy : ℕ → Option Published → Option Document → Type 0
FineBy version none o = Unit {0}
FineBy version (some r) o = FineIn version r.of_schema r.shape o

abbrev pub ValuesFine : ℕ → List Published → List Field → Type 0
ValuesFine version rows fs = Each (λ f. FineBy version (published_as f.name rows) f.value) fs

pub mapped_fine : {A : Type 0} (version : ℕ) (of_schema : Bool) (shape : FileShape) (f : A → Document) (o : Option A) → ((x : A) → o ≡ some x → FineIn version of_schema shape (some (f x))) → FineIn version of_schema shape (mapped f o)
mapped_fine version of_schema shape f none h = tt
mapped_fine version of_schema shape f (some x) h = h x refl

-- those seen before are among these
abbrev pub Among : List (List ℕ) → List (List ℕ) → Type 0
Among seen all = (w : List ℕ) → is_one_of all w ≡ false → is_one_of seen w ≡ false

module _ (version : ℕ) (kind : FileKind) (rows : List Published) where
  abbrev row_defects : ℕ → ℕ → Document → Option Published → List Defect
  row_defects schema place d o = elim o [ none ↦ [] | some r ↦ defects version schema r.of_schema r.shape (tree_at place d) ]

  row_fine : (schema place : ℕ) (d : Document) (o : Option Published) → FineBy version o (some d) → row_defects schema place d o ≡ []
  row_fine schema place d none h = refl
  row_fine schema place d (some r) h = h schema place

  with_fine : (schema place : ℕ) (seen before : List (List ℕ)) (name : List ℕ) (o : Option Document) (es : Entries) → Among seen before → is_some (published_as name rows) ≡ true → is_one_of before name ≡ false → FineBy version (published_as name rows) o
      → ((p : ℕ) (s : List (List ℕ)) → Among s (name ∷ before) → member_defects version schema kind rows s (members_at p es) ≡ [])
      → member_defects version schema kind rows seen (members_at place (with_field name o es)) ≡ []
  unfolding defects tree_at
  with_fine schema place seen before name none es a p b f again = again place seen (λ w h. a w (neither (same_bytes w name) (is_one_of before w) h).1)
  with_fine schema place seen before name (some d) es a p b f again =
      rw (text_read_lem place name, p, a name b)
      (ap (λ l. l ++ member_defects version schema kind rows (name ∷ seen) (members_at next es)) (row_fine schema inner d (published_as name rows) f)
      ∙ again next (name ∷ seen) (λ w h. let k = neither (same_bytes w name) (is_one_of before w) h in rw (k.0, a w k.1)))
    where
      inner : ℕ
      inner = past (past place (quoted name)) (58 ∷ [])

      next : ℕ
      next = past (behind inner d) (44 ∷ [])

  members_fine : (schema : ℕ) (before : List (List ℕ)) (fs : List Field) → published rows before fs ≡ true → ValuesFine version rows fs → (place : ℕ) (seen : List (List ℕ)) → Among seen before
      → member_defects version schema kind rows seen (members_at place (entries_of fs)) ≡ []
  unfolding defects tree_at
  members_fine schema before [] h v place seen a = refl
  members_fine schema before (f ∷ fs) h v place seen a =
      with_fine schema place seen before f.name f.value (entries_of fs) a (and_left (is_some (published_as f.name rows)) (not (is_one_of before f.name)) k)
      (not-true (is_one_of before f.name) (and_right (is_some (published_as f.name rows)) (not (is_one_of before f.name)) k)) v.0
      (λ p s u. members_fine schema (f.name ∷ before) fs (and_right (is_some (published_as f.name rows) && not (is_one_of before f.name)) (published rows (f.name ∷ before) fs) h) v.1 p s u)
    where
      k : (is_some (published_as f.name rows) && not (is_one_of before f.name)) ≡ true
      k = and_left (is_some (published_as f.name rows) && not (is_one_of before f.name)) (published rows (f.name ∷ before) fs) h

-- ---- none is missing

abbrev name_or : Option (List ℕ) → List (List ℕ) → List (List ℕ)
name_or o l = elim o [ none ↦ l | some name ↦ name ∷ l ]

if_named : (name : List ℕ) (o : Option Document) (es : Entries) (l : List (List ℕ)) (place : ℕ) → ((p : ℕ) → names_of (members_at p es) ≡ l) → names_of (members_at place (with_field name o es)) ≡ name_if name o l
unfolding tree_at
if_named name none es l place h = h place
if_named name (some d) es l place h = ap (λ o. name_or o (names_of (members_at (past (behind (past (past place (quoted name)) (58 ∷ [])) d) (44 ∷ [])) es))) (text_read_lem place name) ∙ (ap (λ x. name ∷ x) (h (past (behind (past (past place (quoted name)) (58 ∷ [])) d) (44 ∷ []))))

pub names_of_lem : (fs : List Field) (place : ℕ) → names_of (members_at place (entries_of fs)) ≡ names fs
unfolding tree_at
names_of_lem [] place = refl
names_of_lem (f ∷ fs) place = if_named f.name f.value (entries_of fs) (names fs) place (λ p. names_of_lem fs p)

there_named : (n name : List ℕ) (o : Option Document) (l : List (List ℕ)) (b : Bool) → is_one_of l n ≡ b → is_one_of (name_if name o l) n ≡ ((same_bytes n name && is_some o) || b)
there_named n name none l b h = h ∙ sym (ap (λ x. x || b) (and-false (same_bytes n name)))
there_named n name (some d) l b h = ap (λ x. same_bytes n name || x) h ∙ sym (ap (λ x. x || b) (and-true (same_bytes n name)))

there : (fs : List Field) (n : List ℕ) → is_one_of (names fs) n ≡ is_there fs n
there [] n = refl
there (f ∷ fs) n = there_named n f.name f.value (names fs) (is_there fs n) (there fs n)

pub all_there : (fs : List Field) (ns : List (List ℕ)) → all (is_there fs) ns ≡ true → all (is_one_of (names fs)) ns ≡ true
all_there fs [] h = refl
all_there fs (n ∷ ns) h = both (there fs n ∙ and_left (is_there fs n) (all (is_there fs) ns) h) (all_there fs ns (and_right (is_there fs n) (all (is_there fs) ns) h))

-- nothing is wrong with an object whose names and values are fine
pub object_fine : (version : ℕ) (kind : FileKind) (fs : List Field) → names_fine version kind fs ≡ true → ValuesFine version (rows_in version kind) fs → FineIn version false (OfKind kind) (some (object fs))
unfolding defects tree_at
object_fine version kind fs h v schema place =
    ap (λ l. l ++ missing_defects version kind place (members_at inner (entries_of fs)) true) (members_fine version kind rows (schema_place kind place schema) [] fs (and_left (published rows [] fs) (all (is_there fs) needed) h) v inner [] (λ w e. e))
    ∙ ap (λ ns. unless (all (is_one_of ns) (required_in rows ++ range_names version kind ns)) place missing_member) (names_of_lem fs inner)
    ∙ ap (λ b. unless b place missing_member) (all_there fs needed (and_right (published rows [] fs) (all (is_there fs) needed) h))
  where
    inner : ℕ
    inner = past place (123 ∷ [])

    rows : List Published
    rows = rows_in version kind

    needed : List (List ℕ)
    needed = required_in rows ++ range_names version kind (names fs)

-- none is skipped
skip_named : (version : ℕ) (name : List ℕ) (o : Option Document) (es : Entries) (place : ℕ) → is_some (published_as name (rows_in version TheFile)) ≡ true → ((p : ℕ) → skipped_in version (members_at p es) ≡ 0)
    → skipped_in version (members_at place (with_field name o es)) ≡ 0
unfolding tree_at skipped_in
skip_named version name none es place h again = again place
skip_named version name (some d) es place h again = rw (text_read_lem place name, h) (again (past (behind (past (past place (quoted name)) (58 ∷ [])) d) (44 ∷ [])))

none_skipped : (version : ℕ) (before : List (List ℕ)) (fs : List Field) (place : ℕ) → published (rows_in version TheFile) before fs ≡ true → skipped_in version (members_at place (entries_of fs)) ≡ 0
unfolding tree_at skipped_in
none_skipped version before [] place h = refl
none_skipped version before (f ∷ fs) place h =
    skip_named version f.name f.value (entries_of fs) place (and_left (is_some (published_as f.name rows)) (not (is_one_of before f.name)) (and_left (is_some (published_as f.name rows) && not (is_one_of before f.name)) (published rows (f.name ∷ before) fs) h))
    (λ p. none_skipped version (f.name ∷ before) fs p (and_right (is_some (published_as f.name rows) && not (is_one_of before f.name)) (published rows (f.name ∷ before) fs) h))
  where
    rows : List Published
    rows = rows_in version TheFile

pub nothing_skipped : (version : ℕ) (fs : List Field) (place : ℕ) → names_fine version TheFile fs ≡ true → skipped_in version (members_at place (entries_of fs)) ≡ 0
nothing_skipped version fs place h =
    none_skipped version [] fs place (and_left (published (rows_in version TheFile) [] fs) (all (is_there fs) (required_in (rows_in version TheFile) ++ range_names version TheFile (names fs))) h)

-- ---- pieces: the fields as a rule writes them, some of them together

abbrev pub group_text : List Field → List ℕ
group_text [] = []
group_text (f ∷ []) = field_text f
group_text (f ∷ g ∷ fs) = field_text f ++ group_text (g ∷ fs)

abbrev pub left_join : List ℕ → List (List ℕ) → List ℕ
left_join bs [] = bs
left_join bs (p ∷ ps) = left_join (bs ++ p) ps

-- each piece is the text of its fields
abbrev pub Pieces : List (List ℕ) → List (List Field) → Type 0
Pieces [] [] = Unit {0}
Pieces [] (fs ∷ gs) = ⊥
Pieces (p ∷ ps) [] = ⊥
Pieces (p ∷ ps) (fs ∷ gs) = (p ≡ group_text fs) × Pieces ps gs

pub group_text_lem : (fs : List Field) → group_text fs ≡ fields_text fs
group_text_lem [] = refl
group_text_lem (f ∷ []) = sym (append-nil (field_text f))
group_text_lem (f ∷ g ∷ fs) = ap (λ l. field_text f ++ l) (group_text_lem (g ∷ fs))

pub pieces_text : (bs : List ℕ) (ps : List (List ℕ)) (gs : List (List Field)) → Pieces ps gs → left_join bs ps ≡ bs ++ fields_text (flat gs)
pieces_text bs [] [] h = sym (append-nil bs)
pieces_text bs [] (fs ∷ gs) h = absurd h
pieces_text bs (p ∷ ps) [] h = absurd h
pieces_text bs (p ∷ ps) (fs ∷ gs) h =
    pieces_text (bs ++ p) ps gs h.1 ∙ append_assoc bs p (fields_text (flat gs))
    ∙ ap (λ l. bs ++ (l ++ fields_text (flat gs))) (h.0 ∙ group_text_lem fs)
    ∙ ap (λ l. bs ++ l) (sym (fields_append fs (flat gs)))

pub object_pieces : (name : String) (d : Document) (ps : List (List ℕ)) (gs : List (List Field)) → Pieces ps gs
    → object_text (left_join (quoted (bytes name) ++ (58 ∷ bytes_of d)) ps) ≡ bytes_of (object (field name d ∷ flat gs))
object_pieces name d ps gs h = ap object_text (pieces_text (quoted (bytes name) ++ (58 ∷ bytes_of d)) ps gs h) ∙ object_text_lem name d (flat gs)

-- pieces one behind the other, the first of them too
pub pieces_fields : (p : List ℕ) (ps : List (List ℕ)) (fs : List Field) (gs : List (List Field)) → p ≡ group_text fs → Pieces ps gs → left_join p ps ≡ group_text (flat (fs ∷ gs))
pieces_fields p ps fs gs e h =
    pieces_text p ps gs h ∙ ap (λ l. l ++ fields_text (flat gs)) (e ∙ group_text_lem fs) ∙ sym (fields_append fs (flat gs)) ∙ sym (group_text_lem (flat (fs ∷ gs)))
