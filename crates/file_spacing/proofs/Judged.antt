-- What is wrong with a tree whose places are others is the same at those places.
use Prim.Native.Nat.{ℕ, suc}
use mathlib.Core.Path.{◌≡◌, refl, ap, ◌∙◌}
use mathlib.Core.Bool.{Bool, true, false, cond, not, ◌||◌}
use mathlib.Core.List.{List, [], ◌∷◌, ◌++◌, map}
use mathlib.Core.Option.{Option, none, some}
use lib.Dec.{leb}
use lib.ListN.{length}
use Rattle.rules.specs.Words.{is_some, all, some_with}
use Rattle.rules.specs.Capacities.{name_room}
use Rattle.json_rule.specs.Lexemes.{Lexeme}
use Rattle.json_rule.specs.Values.{text_of, whole_number_of}
use Rattle.json_rule.specs.Tree.{Defect, over_capacity, Json, Scalar, Array, Object, Items, no_item, item, Members, no_member, bare_name, member}
use Rattle.json_rule.specs.Members.{is_one_of, names_of}
use Rattle.json_rule.specs.Shapes.{Shape, Anything, TextUpTo, OneOf, NumberIn, No, AUuid, ATransform, ListUpTo, ARecord, i64}
use Rattle.json_rule.specs.Defects.{not_published, unless, is_uuid, is_transform, is_number_in, is_no, text_defects, scalar_defects, with_name, count_of, stands_at, is_anything, misplaced}
use Rattle.file_rule.specs.Tables.{FileKind, TheFile, HeldSnapshot, HeldSchema, HeldField, HeldSpec, HeldPartitionField, HeldOrder, HeldSortField, HeldRef, HeldLogEntry, HeldFileEntry, HeldStatistics, HeldPartitionStatistics, FileShape, Single, IdOrNull, Several, ByName, OfKind, Published, rows_in}
use Rattle.file_rule.specs.FileDefects.{missing_member, is_null, single_defects, row_by, is_repeated, skips_unknown, row_for, name_defects, own_name_defects, required_in, range_names, missing_defects, members_count, schema_place, defects, item_defects, member_defects, named_defects}
use Rattle.file_spacing.specs.Places.{moved_lexeme, moved, moved_items, moved_members, moved_defect}
use Rattle.file_spacing.proofs.Said.{names_moved}

module _ (f : ℕ → ℕ) where
  abbrev pub there : List Defect → List Defect
  there ds = map (moved_defect f) ds

  pub joined : (ks ls cs ds : List Defect) → ks ≡ there cs → ls ≡ there ds → ks ++ ls ≡ there (cs ++ ds)
  joined ks ls cs ds e d = (λ i. e i ++ d i) ∙ go cs
    where
      go : (cs : List Defect) → there cs ++ there ds ≡ there (cs ++ ds)
      go [] = refl
      go (c ∷ cs) = ap (λ (l : List Defect). moved_defect f c ∷ l) (go cs)

  joined₃ : (ks ls ms cs ds es : List Defect) → ks ≡ there cs → ls ≡ there ds → ms ≡ there es → ks ++ ls ++ ms ≡ there (cs ++ ds ++ es)
  joined₃ ks ls ms cs ds es e d g = joined (ks ++ ls) ms (cs ++ ds) es (joined ks ls cs ds e d) g

  tested : (b : Bool) (place number : ℕ) → unless b (f place) number ≡ there (unless b place number)
  tested true place number = refl
  tested false place number = refl

  stands : (of_schema : Bool) (schema place : ℕ) → stands_at of_schema (f schema) (f place) ≡ f (stands_at of_schema schema place)
  stands true schema place = refl
  stands false schema place = refl

  -- ---- values that are no list and no object

  text_judged : (room place : ℕ) (o : Option (List ℕ)) → text_defects room (f place) o ≡ there (text_defects room place o)
  text_judged room place none = refl
  text_judged room place (some bs) = tested (leb (length bs) room) place over_capacity

  scalar_judged : (shape : Shape) (place : ℕ) (t : Lexeme) → scalar_defects shape (f place) (moved_lexeme f t) ≡ there (scalar_defects shape place t)
  unfolding text_of whole_number_of
  scalar_judged Anything place t = refl
  scalar_judged (TextUpTo room) place t = text_judged room place (text_of t)
  scalar_judged (OneOf words) place t = tested (some_with (is_one_of words) (text_of t)) place not_published
  scalar_judged (NumberIn least most) place t = tested (is_number_in least most t) place not_published
  scalar_judged No place t = tested (is_no t) place not_published
  scalar_judged AUuid place t = tested (some_with is_uuid (text_of t)) place not_published
  scalar_judged ATransform place t = tested (some_with is_transform (text_of t)) place not_published
  scalar_judged (ListUpTo room shape) place t = refl
  scalar_judged (ARecord kind) place t = refl

  single_judged : (shape : FileShape) (place : ℕ) (t : Lexeme) → single_defects shape (f place) (moved_lexeme f t) ≡ there (single_defects shape place t)
  single_judged (Single shape) place t = scalar_judged shape place t
  single_judged IdOrNull place t = go (is_null t)
    where
      go : (b : Bool) → cond b [] (scalar_defects i64 (f place) (moved_lexeme f t)) ≡ there (cond b [] (scalar_defects i64 place t))
      go true = refl
      go false = scalar_judged i64 place t
  single_judged (Several room shape) place t = refl
  single_judged (ByName room shape) place t = refl
  single_judged (OfKind kind) place t = refl

  -- ---- names

  name_judged_lem : (kind : FileKind) (rows : List Published) (seen : List (List ℕ)) (t : Lexeme) → name_defects kind rows seen (moved_lexeme f t) ≡ there (name_defects kind rows seen t)
  unfolding text_of
  name_judged_lem kind rows seen t = tested (cond (is_some (row_by rows (text_of t))) (not (is_repeated seen (text_of t))) (skips_unknown kind)) t.first not_published

  own_name_judged : (seen : List (List ℕ)) (t : Lexeme) → own_name_defects seen (moved_lexeme f t) ≡ there (own_name_defects seen t)
  unfolding text_of
  own_name_judged seen t =
      joined (text_defects name_room (f t.first) (text_of t)) (unless (not (is_repeated seen (text_of t))) (f t.first) not_published)
      (text_defects name_room t.first (text_of t)) (unless (not (is_repeated seen (text_of t))) t.first not_published)
      (text_judged name_room t.first (text_of t)) (tested (not (is_repeated seen (text_of t))) t.first not_published)

  missing_judged : (version : ℕ) (kind : FileKind) (place : ℕ) (ms : Members) (closed : Bool) → missing_defects version kind (f place) (moved_members f ms) closed ≡ there (missing_defects version kind place ms closed)
  missing_judged version kind place ms closed =
      ap (λ (names : List (List ℕ)). unless (not closed || all (is_one_of names) (required_in (rows_in version kind) ++ range_names version kind names)) (f place) missing_member) (names_moved f ms)
      ∙ tested (not closed || all (is_one_of (names_of ms)) (required_in (rows_in version kind) ++ range_names version kind (names_of ms))) place missing_member

  -- ---- lists and objects

  count_moved : (xs : Items) → count_of (moved_items f xs) ≡ count_of xs
  unfolding moved
  count_moved no_item = refl
  count_moved (item x xs) = ap suc (count_moved xs)

  members_count_moved : (ms : Members) → members_count (moved_members f ms) ≡ members_count ms
  unfolding moved
  members_count_moved no_member = refl
  members_count_moved (bare_name t) = refl
  members_count_moved (member t x ms) = ap suc (members_count_moved ms)

  schema_place_lem : (kind : FileKind) (place outer : ℕ) → schema_place kind (f place) (f outer) ≡ f (schema_place kind place outer)
  schema_place_lem TheFile place outer = refl
  schema_place_lem HeldSnapshot place outer = refl
  schema_place_lem HeldSchema place outer = refl
  schema_place_lem HeldField place outer = refl
  schema_place_lem HeldSpec place outer = refl
  schema_place_lem HeldPartitionField place outer = refl
  schema_place_lem HeldOrder place outer = refl
  schema_place_lem HeldSortField place outer = refl
  schema_place_lem HeldRef place outer = refl
  schema_place_lem HeldLogEntry place outer = refl
  schema_place_lem HeldFileEntry place outer = refl
  schema_place_lem HeldStatistics place outer = refl
  schema_place_lem HeldPartitionStatistics place outer = refl

  -- the value of a name that has a row
  abbrev said_by : Option Published → (Published → List Defect) → List Defect
  said_by row said = elim row [ none ↦ [] | some r ↦ said r ]

  abbrev value_said : List Published → List (List ℕ) → Lexeme → (Published → List Defect) → List Defect
  value_said rows seen t said = said_by (row_for rows seen t) said

  by_row : (row : Option Published) (said told : Published → List Defect) → ((r : Published) → said r ≡ there (told r)) → said_by row said ≡ there (said_by row told)
  by_row none said told h = refl
  by_row (some r) said told h = h r

  -- a list or an object where something else is to be
  elsewhere : (shape : Shape) (of_schema : Bool) (schema place : ℕ) → misplaced shape (stands_at of_schema (f schema) (f place)) ≡ there (misplaced shape (stands_at of_schema schema place))
  elsewhere shape of_schema schema place =
      ap (λ (place : ℕ). misplaced shape place) (stands of_schema schema place) ∙ tested (is_anything shape) (stands_at of_schema schema place) not_published

  module _ (version : ℕ) where
    mutual
      unfolding defects moved text_of

      pub judged : (x : Json) (schema : ℕ) (of_schema : Bool) (shape : FileShape) → defects version (f schema) of_schema shape (moved f x) ≡ there (defects version schema of_schema shape x)
      judged (Scalar t) schema of_schema shape =
          ap (λ (place : ℕ). single_defects shape place (moved_lexeme f t)) (stands of_schema schema t.first) ∙ single_judged shape (stands_at of_schema schema t.first) t
      judged (Array place xs closed) schema of_schema (Several room each) =
          joined (unless (leb (count_of (moved_items f xs)) room) (f place) over_capacity) (item_defects version (f schema) each (moved_items f xs))
          (unless (leb (count_of xs) room) place over_capacity) (item_defects version schema each xs)
          (ap (λ (n : ℕ). unless (leb n room) (f place) over_capacity) (count_moved xs) ∙ tested (leb (count_of xs) room) place over_capacity) (items_judged xs schema each)
      judged (Array place xs closed) schema of_schema (Single shape) = elsewhere shape of_schema schema place
      judged (Array place xs closed) schema of_schema IdOrNull = refl
      judged (Array place xs closed) schema of_schema (ByName room each) = refl
      judged (Array place xs closed) schema of_schema (OfKind kind) = refl
      judged (Object place ms closed) schema of_schema (ByName room each) =
          joined (unless (leb (members_count (moved_members f ms)) room) (f place) over_capacity) (named_defects version (f schema) each [] (moved_members f ms))
          (unless (leb (members_count ms) room) place over_capacity) (named_defects version schema each [] ms)
          (ap (λ (n : ℕ). unless (leb n room) (f place) over_capacity) (members_count_moved ms) ∙ tested (leb (members_count ms) room) place over_capacity) (named_judged ms schema each [])
      judged (Object place ms closed) schema of_schema (OfKind kind) =
          joined (member_defects version (schema_place kind (f place) (f schema)) kind (rows_in version kind) [] (moved_members f ms)) (missing_defects version kind (f place) (moved_members f ms) closed)
          (member_defects version (schema_place kind place schema) kind (rows_in version kind) [] ms) (missing_defects version kind place ms closed)
          (ap (λ (around : ℕ). member_defects version around kind (rows_in version kind) [] (moved_members f ms)) (schema_place_lem kind place schema) ∙ members_judged ms (schema_place kind place schema) kind (rows_in version kind) [])
          (missing_judged version kind place ms closed)
      judged (Object place ms closed) schema of_schema (Single shape) = elsewhere shape of_schema schema place
      judged (Object place ms closed) schema of_schema IdOrNull = refl
      judged (Object place ms closed) schema of_schema (Several room each) = refl

      items_judged : (xs : Items) (schema : ℕ) (shape : FileShape) → item_defects version (f schema) shape (moved_items f xs) ≡ there (item_defects version schema shape xs)
      items_judged no_item schema shape = refl
      items_judged (item x xs) schema shape =
          joined (defects version (f schema) false shape (moved f x)) (item_defects version (f schema) shape (moved_items f xs))
          (defects version schema false shape x) (item_defects version schema shape xs) (judged x schema false shape) (items_judged xs schema shape)

      members_judged : (ms : Members) (schema : ℕ) (kind : FileKind) (rows : List Published) (seen : List (List ℕ))
          → member_defects version (f schema) kind rows seen (moved_members f ms) ≡ there (member_defects version schema kind rows seen ms)
      members_judged no_member schema kind rows seen = refl
      members_judged (bare_name t) schema kind rows seen = name_judged_lem kind rows seen t
      members_judged (member t x ms) schema kind rows seen =
          joined₃ (name_defects kind rows seen (moved_lexeme f t)) (value_said rows seen t (λ r. defects version (f schema) r.of_schema r.shape (moved f x))) (member_defects version (f schema) kind rows (with_name seen (text_of t)) (moved_members f ms))
          (name_defects kind rows seen t) (value_said rows seen t (λ r. defects version schema r.of_schema r.shape x)) (member_defects version schema kind rows (with_name seen (text_of t)) ms)
          (name_judged_lem kind rows seen t)
          (by_row (row_for rows seen t) (λ r. defects version (f schema) r.of_schema r.shape (moved f x)) (λ r. defects version schema r.of_schema r.shape x) (λ r. judged x schema r.of_schema r.shape))
          (members_judged ms schema kind rows (with_name seen (text_of t)))

      named_judged : (ms : Members) (schema : ℕ) (each : FileShape) (seen : List (List ℕ)) → named_defects version (f schema) each seen (moved_members f ms) ≡ there (named_defects version schema each seen ms)
      named_judged no_member schema each seen = refl
      named_judged (bare_name t) schema each seen = own_name_judged seen t
      named_judged (member t x ms) schema each seen =
          joined₃ (own_name_defects seen (moved_lexeme f t)) (defects version (f schema) false each (moved f x)) (named_defects version (f schema) each (with_name seen (text_of t)) (moved_members f ms))
          (own_name_defects seen t) (defects version schema false each x) (named_defects version schema each (with_name seen (text_of t)) ms)
          (own_name_judged seen t) (judged x schema false each) (named_judged ms schema each (with_name seen (text_of t)))
