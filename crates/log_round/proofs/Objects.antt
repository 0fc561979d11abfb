-- Objects by their fields, as a list of updates has them: what the tables of updates ask of each. Numbers and texts are judged there as in a file.
use Prim.Native.Nat.{ℕ}
use mathlib.Core.Path.{◌≡◌, refl, ◌∙◌, ap}
use mathlib.Core.Bool.{Bool, true, false, not, ◌&&◌}
use mathlib.Core.List.{List, [], ◌∷◌, ◌++◌}
use mathlib.Core.Option.{Option, none, some}
use borrow.Author.Tests.{not-true}
use Rattle.rules.specs.Words.{is_some, all, same_bytes}
use Rattle.rules.proofs.Checks.{and_left, and_right, neither}
use Rattle.json_rule.specs.Tree.{Defect, Members}
use Rattle.json_rule.specs.Members.{is_one_of}
use Rattle.json_rule.specs.Shapes.{Kind, Shape, ARecord, Row, rows_of}
use Rattle.json_rule.specs.Defects.{not_published, unless, row_named, foreign_defects, needed_names, missing_defects, schema_place, defects, member_defects}
use Rattle.file_rule.specs.Tables.{Single}
use Rattle.file_rule.specs.FileDefects as file
use Rattle.file_rule.specs.Written.{quoted}
use Rattle.file_round.proofs.Documents.{Document, Token, Entries, past, behind, tree_at, members_at}
use Rattle.file_round.proofs.Texts.{text_read_lem}
use Rattle.file_round.proofs.Fields as fields
use Rattle.file_round.proofs.Fields.{Field, Each, with_field, entries_of, object, mapped, is_there, names, names_of_lem, all_there, Among}

-- ---- values

-- nothing is wrong with a value that is there
abbrev pub Fine : Bool → Shape → Option Document → Type 0
Fine of_schema shape none = Unit {0}
Fine of_schema shape (some d) = (schema place : ℕ) → defects schema of_schema shape (tree_at place d) ≡ []

-- what is no list and no object is judged as in a file
pub single_fine : (version : ℕ) (of_schema : Bool) (shape : Shape) (s : List ℕ) → fields.FineIn version of_schema (Single shape) (some (Token s)) → Fine of_schema shape (some (Token s))
unfolding defects file.defects tree_at
single_fine version of_schema shape s h schema place = h schema place

pub optional_fine : {A : Type 0} (version : ℕ) (of_schema : Bool) (shape : Shape) (f : A → List ℕ) (o : Option A) → fields.FineIn version of_schema (Single shape) (mapped (λ x. Token (f x)) o) → Fine of_schema shape (mapped (λ x. Token (f x)) o)
optional_fine version of_schema shape f none h = tt
optional_fine version of_schema shape f (some x) h = single_fine version of_schema shape (f x) h

-- ---- members

abbrev pub FineBy : Option Row → Option Document → Type 0
FineBy none o = Unit {0}
FineBy (some r) o = Fine r.of_schema r.shape o

abbrev pub ValuesFine : List Row → List Field → Type 0
ValuesFine rows fs = Each (λ f. FineBy (row_named f.name rows) f.value) fs

-- each name is published, and stands once
abbrev pub published : List Row → List (List ℕ) → List Field → Bool
published rows seen [] = true
published rows seen (f ∷ fs) = is_some (row_named f.name rows) && not (is_one_of seen f.name) && published rows (f.name ∷ seen) fs

module _ (rows : List Row) where
  abbrev row_defects : ℕ → ℕ → Document → Option Row → List Defect
  row_defects schema place d o = elim o [ none ↦ [] | some r ↦ defects schema r.of_schema r.shape (tree_at place d) ]

  row_fine : (schema place : ℕ) (d : Document) (o : Option Row) → FineBy o (some d) → row_defects schema place d o ≡ []
  row_fine schema place d none h = refl
  row_fine schema place d (some r) h = h schema place

  with_fine : (schema place : ℕ) (seen before : List (List ℕ)) (name : List ℕ) (o : Option Document) (es : Entries) → Among seen before → is_some (row_named name rows) ≡ true → is_one_of before name ≡ false → FineBy (row_named name rows) o
      → ((p : ℕ) (s : List (List ℕ)) → Among s (name ∷ before) → member_defects schema rows s (members_at p es) ≡ [])
      → member_defects schema rows seen (members_at place (with_field name o es)) ≡ []
  unfolding defects tree_at
  with_fine schema place seen before name none es a p b f again = again place seen (λ w h. a w (neither (same_bytes w name) (is_one_of before w) h).1)
  with_fine schema place seen before name (some d) es a p b f again =
      rw (text_read_lem place name, a name b, p)
      (ap (λ l. l ++ member_defects schema rows (name ∷ seen) (members_at next es)) (row_fine schema inner d (row_named name rows) f)
      ∙ again next (name ∷ seen) (λ w h. let k = neither (same_bytes w name) (is_one_of before w) h in rw (k.0, a w k.1)))
    where
      inner : ℕ
      inner = past (past place (quoted name)) (58 ∷ [])

      next : ℕ
      next = past (behind inner d) (44 ∷ [])

  members_fine : (schema : ℕ) (before : List (List ℕ)) (fs : List Field) → published rows before fs ≡ true → ValuesFine rows fs → (place : ℕ) (seen : List (List ℕ)) → Among seen before
      → member_defects schema rows seen (members_at place (entries_of fs)) ≡ []
  unfolding defects tree_at
  members_fine schema before [] h v place seen a = refl
  members_fine schema before (f ∷ fs) h v place seen a =
      with_fine schema place seen before f.name f.value (entries_of fs) a (and_left (is_some (row_named f.name rows)) (not (is_one_of before f.name)) k)
      (not-true (is_one_of before f.name) (and_right (is_some (row_named f.name rows)) (not (is_one_of before f.name)) k)) v.0
      (λ p s u. members_fine schema (f.name ∷ before) fs (and_right (is_some (row_named f.name rows) && not (is_one_of before f.name)) (published rows (f.name ∷ before) fs) h) v.1 p s u)
    where
      k : (is_some (row_named f.name rows) && not (is_one_of before f.name)) ≡ true
      k = and_left (is_some (row_named f.name rows) && not (is_one_of before f.name)) (published rows (f.name ∷ before) fs) h

-- ---- objects

-- none of the members is foreign, and these names are needed, wherever the object stands
pub record Asks (kind : Kind) (fs : List Field) (needed : List (List ℕ)) : Type 0 where
  pub foreign : (place : ℕ) → foreign_defects kind (members_at place (entries_of fs)) ≡ []
  pub needs : (place : ℕ) → needed_names kind (members_at place (entries_of fs)) ≡ needed

-- nothing is wrong with an object whose names and values are fine
pub object_fine : (kind : Kind) (fs : List Field) (needed : List (List ℕ)) → Asks kind fs needed → published (rows_of kind) [] fs ≡ true → all (is_there fs) needed ≡ true → ValuesFine (rows_of kind) fs
    → Fine false (ARecord kind) (some (object fs))
unfolding defects tree_at
object_fine kind fs needed a h t v schema place =
    ap (λ l. l ++ foreign_defects kind ms ++ missing_defects kind place ms true) (members_fine (rows_of kind) (schema_place kind place schema) [] fs h v inner [] (λ w e. e))
    ∙ ap (λ l. l ++ missing_defects kind place ms true) (a.foreign inner)
    ∙ ap (λ ns. unless (all (is_one_of ns) (needed_names kind ms)) place not_published) (names_of_lem fs inner)
    ∙ ap (λ ns. unless (all (is_one_of (names fs)) ns) place not_published) (a.needs inner)
    ∙ ap (λ b. unless b place not_published) (all_there fs needed t)
  where
    inner : ℕ
    inner = past place (123 ∷ [])

    ms : Members
    ms = members_at inner (entries_of fs)
