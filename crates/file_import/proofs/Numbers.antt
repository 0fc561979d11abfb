-- What is wrong with a file has one of the numbers from 27 to 30.
use Prim.Native.Nat.{ℕ, ◌<◌}
use mathlib.Core.Path.{◌≡◌, refl, sym, ap, ◌∙◌}
use mathlib.Core.Bool.{Bool, true, false, cond, not, ◌&&◌, ◌||◌}
use mathlib.Core.List.{List, [], ◌∷◌, ◌++◌}
use mathlib.Core.Option.{Option, none, some}
use lib.Dec.{eqb, leb, ltb}
use lib.ListN.{length}
use borrow.Author.Tests.{ltb-true}
use borrow.Table.Steps.{cases}
use Rattle.rules.specs.Words.{all, if_some, is_some, some_with}
use Rattle.rules.proofs.Checks.{both, and_left, and_right, by_test}
use Rattle.rules.proofs.Tables.{all_append}
use Rattle.json_rule.specs.Lexemes.{Lexeme, lexemes}
use Rattle.json_rule.specs.Values.{text_of}
use Rattle.json_rule.specs.Tree.{Defect, over_capacity, Json, Scalar, Array, Object, Items, no_item, item, Members, no_member, bare_name, member, text}
use Rattle.json_rule.specs.Members.{is_one_of, names_of, members_in}
use Rattle.json_rule.specs.Shapes.{Shape, Anything, TextUpTo, OneOf, NumberIn, No, AUuid, ATransform, ListUpTo, ARecord, i64}
use Rattle.json_rule.specs.Defects.{not_published, refused_at, unless, is_uuid, is_transform, is_number_in, is_no, text_defects, scalar_defects, with_name, count_of, stands_at, misplaced, is_anything, is_sooner, least, stop_defects}
use Rattle.json_rule.proofs.Walk.{Want, AValue, Turn, Goes, Stops, turn, onward, walk, turn_says, end_says, text_walk}
use Rattle.rules.specs.Capacities.{name_room}
use Rattle.file_rule.specs.Tables.{FileKind, TheFile, FileShape, Single, IdOrNull, Several, ByName, OfKind, Published, rows_in}
use Rattle.file_rule.specs.FileDefects.{missing_member, is_null, single_defects, row_for, row_by, is_repeated, skips_unknown, name_defects, own_name_defects, required_in, range_names, missing_defects, members_count, schema_place, version_of, defects, item_defects, member_defects, named_defects, tree_defects, file_defects}

abbrev pub is_of_file : Defect → Bool
is_of_file d = ltb 26 d.number && ltb d.number 31

abbrev OfFile : List Defect → Type 0
OfFile ds = all is_of_file ds ≡ true

join : (ds es : List Defect) → OfFile ds → OfFile es → OfFile (ds ++ es)
join ds es p q = all_append is_of_file ds es p q

unless_number : (b : Bool) (place number : ℕ) → is_of_file (record { place = place; number = number }) ≡ true → OfFile (unless b place number)
unless_number true place number p = refl
unless_number false place number p = both p refl

text_numbers : (room place : ℕ) (bs : Option (List ℕ)) → OfFile (text_defects room place bs)
text_numbers room place none = refl
text_numbers room place (some bs) = unless_number (leb (length bs) room) place 29 refl

scalar_numbers : (shape : Shape) (place : ℕ) (t : Lexeme) → OfFile (scalar_defects shape place t)
scalar_numbers Anything place t = refl
scalar_numbers (TextUpTo room) place t = text_numbers room place (text_of t)
scalar_numbers (OneOf words) place t = unless_number (some_with (is_one_of words) (text_of t)) place not_published refl
scalar_numbers (NumberIn low high) place t = unless_number (is_number_in low high t) place not_published refl
scalar_numbers No place t = unless_number (is_no t) place not_published refl
scalar_numbers AUuid place t = unless_number (some_with is_uuid (text_of t)) place not_published refl
scalar_numbers ATransform place t = unless_number (some_with is_transform (text_of t)) place not_published refl
scalar_numbers (ListUpTo room shape) place t = refl
scalar_numbers (ARecord kind) place t = refl

single_numbers : (shape : FileShape) (place : ℕ) (t : Lexeme) → OfFile (single_defects shape place t)
single_numbers (Single shape) place t = scalar_numbers shape place t
single_numbers IdOrNull place t = by_test OfFile (is_null t) (λ _. refl) (λ _. scalar_numbers i64 place t)
single_numbers (Several room shape) place t = refl
single_numbers (ByName room shape) place t = refl
single_numbers (OfKind kind) place t = refl

own_numbers : (seen : List (List ℕ)) (t : Lexeme) → OfFile (own_name_defects seen t)
own_numbers seen t = join (scalar_defects (TextUpTo name_room) t.first t) (unless (not (is_repeated seen (text_of t))) t.first not_published) (scalar_numbers (TextUpTo name_room) t.first t) (unless_number (not (is_repeated seen (text_of t))) t.first not_published refl)

name_numbers : (kind : FileKind) (rows : List Published) (seen : List (List ℕ)) (t : Lexeme) → OfFile (name_defects kind rows seen t)
name_numbers kind rows seen t = unless_number (cond (is_some (row_by rows (text_of t))) (not (is_repeated seen (text_of t))) (skips_unknown kind)) t.first not_published refl

row_numbers : (ns ds : List Defect) (row : Option Published) (inner : Published → List Defect) → OfFile ns → ((r : Published) → OfFile (inner r)) → OfFile ds
    → OfFile (ns ++ elim row [ none ↦ [] | some r ↦ inner r ] ++ ds)
row_numbers ns ds none inner p f q = join (ns ++ []) ds (join ns [] p refl) q
row_numbers ns ds (some r) inner p f q = join (ns ++ inner r) ds (join ns (inner r) p (f r)) q

module _ (version : ℕ) where
  mutual
    unfolding defects

    numbers : (schema : ℕ) (of_schema : Bool) (shape : FileShape) (x : Json) → OfFile (defects version schema of_schema shape x)
    numbers schema of_schema shape (Scalar t) = single_numbers shape (stands_at of_schema schema t.first) t
    numbers schema of_schema (Several room each) (Array place xs closed) =
        join (unless (leb (count_of xs) room) place over_capacity) (item_defects version schema each xs) (unless_number (leb (count_of xs) room) place 29 refl) (item_numbers schema each xs)
    numbers schema of_schema (Single shape) (Array place xs closed) = unless_number (is_anything shape) (stands_at of_schema schema place) not_published refl
    numbers schema of_schema IdOrNull (Array place xs closed) = refl
    numbers schema of_schema (ByName room each) (Array place xs closed) = refl
    numbers schema of_schema (OfKind kind) (Array place xs closed) = refl
    numbers schema of_schema (ByName room each) (Object place ms closed) =
        join (unless (leb (members_count ms) room) place over_capacity) (named_defects version schema each [] ms) (unless_number (leb (members_count ms) room) place 29 refl) (named_numbers schema each [] ms)
    numbers schema of_schema (OfKind kind) (Object place ms closed) =
        join (member_defects version (schema_place kind place schema) kind (rows_in version kind) [] ms) (missing_defects version kind place ms closed)
        (member_numbers (schema_place kind place schema) kind (rows_in version kind) [] ms)
        (unless_number (not closed || all (is_one_of (names_of ms)) (required_in (rows_in version kind) ++ range_names version kind (names_of ms))) place missing_member refl)
    numbers schema of_schema (Single shape) (Object place ms closed) = unless_number (is_anything shape) (stands_at of_schema schema place) not_published refl
    numbers schema of_schema IdOrNull (Object place ms closed) = refl
    numbers schema of_schema (Several room each) (Object place ms closed) = refl

    item_numbers : (schema : ℕ) (shape : FileShape) (xs : Items) → OfFile (item_defects version schema shape xs)
    item_numbers schema shape no_item = refl
    item_numbers schema shape (item x xs) = join (defects version schema false shape x) (item_defects version schema shape xs) (numbers schema false shape x) (item_numbers schema shape xs)

    member_numbers : (schema : ℕ) (kind : FileKind) (rows : List Published) (seen : List (List ℕ)) (ms : Members) → OfFile (member_defects version schema kind rows seen ms)
    member_numbers schema kind rows seen no_member = refl
    member_numbers schema kind rows seen (bare_name t) = name_numbers kind rows seen t
    member_numbers schema kind rows seen (member t x ms) =
        row_numbers (name_defects kind rows seen t) (member_defects version schema kind rows (with_name seen (text_of t)) ms) (row_for rows seen t) (λ r. defects version schema r.of_schema r.shape x)
        (name_numbers kind rows seen t) (λ r. numbers schema r.of_schema r.shape x) (member_numbers schema kind rows (with_name seen (text_of t)) ms)

    named_numbers : (schema : ℕ) (each : FileShape) (seen : List (List ℕ)) (ms : Members) → OfFile (named_defects version schema each seen ms)
    named_numbers schema each seen no_member = refl
    named_numbers schema each seen (bare_name t) = own_numbers seen t
    named_numbers schema each seen (member t x ms) =
        join (own_name_defects seen t ++ defects version schema false each x) (named_defects version schema each (with_name seen (text_of t)) ms)
        (join (own_name_defects seen t) (defects version schema false each x) (own_numbers seen t) (numbers schema false each x)) (named_numbers schema each (with_name seen (text_of t)) ms)

-- ---- where reading stops

abbrev TurnOf : Turn → Type 0
TurnOf (Goes want around) = Unit {0}
TurnOf (Stops d) = is_of_file d ≡ true

onward_of : (k : Want → List Bool → Option Defect) → ((want : Want) (around : List Bool) → if_some is_of_file (k want around) ≡ true) → (u : Turn) → TurnOf u → if_some is_of_file (onward k u) ≡ true
onward_of k h (Goes want around) p = h want around
onward_of k h (Stops d) p = p

walk_of : (len : ℕ) (want : Want) (around : List Bool) (ts : List Lexeme) → if_some is_of_file (walk len want around ts) ≡ true
walk_of len want around [] = end_says (λ o. if_some is_of_file o ≡ true) len refl refl want
walk_of len want around (t ∷ ts) = onward_of (λ w o. walk len w o ts) (λ w o. walk_of len w o ts) (turn want around t) (turn_says TurnOf t (λ _ _. tt) refl refl (λ _. refl) want around)

stop_of : (stop : Option Defect) → if_some is_of_file stop ≡ true → OfFile (stop_defects stop)
stop_of none p = refl
stop_of (some d) p = both p refl

-- ---- the whole file

tree_of : (tree : Option Json) → OfFile (tree_defects tree)
tree_of none = refl
tree_of (some x) = numbers (version_of (members_in x)) 0 false (OfKind TheFile) x

least_of_lem : (ds : List Defect) → OfFile ds → if_some is_of_file (least ds) ≡ true
least_of_lem [] p = refl
least_of_lem (d ∷ ds) p = go (least ds) (least_of_lem ds (and_right (is_of_file d) (all is_of_file ds) p))
  where
    go : (o : Option Defect) → if_some is_of_file o ≡ true → if_some is_of_file (elim o [ none ↦ some d | some e ↦ cond (is_sooner e d) (some e) (some d) ]) ≡ true
    go none q = and_left (is_of_file d) (all is_of_file ds) p
    go (some e) q = by_test (λ o. if_some is_of_file o ≡ true) (is_sooner e d) (λ _. q) (λ _. and_left (is_of_file d) (all is_of_file ds) p)

pub file_numbers : (bs : List ℕ) → if_some is_of_file (least (file_defects (text bs))) ≡ true
unfolding file_defects
file_numbers bs =
    least_of_lem (tree_defects (text bs).tree ++ stop_defects (text bs).stop)
    (join (tree_defects (text bs).tree) (stop_defects (text bs).stop) (tree_of (text bs).tree) (stop_of (text bs).stop (ap (λ o. if_some is_of_file o) (text_walk bs) ∙ walk_of (length bs) AValue [] (lexemes (length bs) 0 bs))))
