-- The place of the schema around a value matters inside of a schema alone: what is wrong with a file does not hang on the place that is around it.
use Prim.Native.Nat.{ℕ}
use mathlib.Core.Path.{◌≡◌, refl, sym, ap, ◌∙◌}
use mathlib.Core.Bool.{Bool, true, false, not, ◌&&◌, ◌||◌, false≢true}
use mathlib.Core.List.{List, [], ◌∷◌, ◌++◌}
use mathlib.Core.Option.{Option, none, some}
use lib.Dec.{eqb, leb}
use borrow.Author.Tests.{not-true}
use Rattle.rules.specs.Words.{all, first, collect}
use Rattle.rules.proofs.Checks.{by_test, both, and_left, and_right}
use Rattle.json_rule.specs.Lexemes.{Lexeme}
use Rattle.json_rule.specs.Values.{text_of}
use Rattle.json_rule.specs.Tree.{Defect, over_capacity, Json, Scalar, Array, Object, Items, no_item, item, Members, no_member, bare_name, member}
use Rattle.json_rule.specs.Defects.{unless, with_name, count_of}
use Rattle.file_rule.specs.Tables.{FileKind, TheFile, HeldSnapshot, HeldSchema, HeldField, HeldSpec, HeldPartitionField, HeldOrder, HeldSortField, HeldRef, HeldLogEntry, HeldFileEntry, HeldStatistics, HeldPartitionStatistics, FileShape, Single, IdOrNull, Several, ByName, OfKind, Row, rows_of, Published, Presence, is_absent, any_version, published, row_in, rows_in}
use Rattle.file_rule.specs.FileDefects.{row_by, is_repeated, row_for, name_defects, own_name_defects, missing_defects, members_count, schema_place, defects, item_defects, member_defects, named_defects}

-- ---- what a table says

-- a field of a schema is the one record that may have to be refused at the place around it
abbrev free_kind : FileKind → Bool
free_kind TheFile = true
free_kind HeldSnapshot = true
free_kind HeldSchema = true
free_kind HeldField = false
free_kind HeldSpec = true
free_kind HeldPartitionField = true
free_kind HeldOrder = true
free_kind HeldSortField = true
free_kind HeldRef = true
free_kind HeldLogEntry = true
free_kind HeldFileEntry = true
free_kind HeldStatistics = true
free_kind HeldPartitionStatistics = true

abbrev free : FileShape → Bool
free (Single shape) = true
free IdOrNull = true
free (Several room each) = free each
free (ByName room each) = free each
free (OfKind kind) = free_kind kind

abbrev free_row : Row → Bool
free_row r = not r.of_schema && free r.shape

abbrev free_as : Published → Bool
free_as r = not r.of_schema && free r.shape

-- of what is there
abbrev Free : Option Published → Type 0
Free none = Unit {0}
Free (some r) = free_as r ≡ true

published_free : (r : Row) (p : Presence) → free_row r ≡ true → Free (published r p)
published_free r p h = by_test Free (is_absent p) (λ e. tt) (λ e. h)

any_free : (r : Row) → free_row r ≡ true → free_as (any_version r) ≡ true
any_free r h = by_test (λ (p : Published). free_as p ≡ true) (is_absent r.one || is_absent r.two || is_absent r.three) (λ e. refl) (λ e. h)

row_free : (version : ℕ) (r : Row) → free_row r ≡ true → Free (row_in version r)
unfolding row_in
row_free version r h =
    by_test Free (eqb version 1) (λ e. published_free r r.one h)
    (λ e. by_test Free (eqb version 2) (λ e. published_free r r.two h)
    (λ e. by_test Free (eqb version 3) (λ e. published_free r r.three h) (λ e. any_free r h)))

collect_free : (o : Option Published) (rows : List Published) → Free o → all free_as rows ≡ true → all free_as (elim o [ none ↦ rows | some r ↦ r ∷ rows ]) ≡ true
collect_free none rows h k = k
collect_free (some r) rows h k = both h k

rows_free_from : (version : ℕ) (rows : List Row) → all free_row rows ≡ true → all free_as (collect (row_in version) rows) ≡ true
rows_free_from version [] h = refl
rows_free_from version (r ∷ rows) h =
    collect_free (row_in version r) (collect (row_in version) rows) (row_free version r (and_left (free_row r) (all free_row rows) h)) (rows_free_from version rows (and_right (free_row r) (all free_row rows) h))

rows_free : (version : ℕ) (kind : FileKind) → all free_row (rows_of kind) ≡ true → all free_as (rows_in version kind) ≡ true
unfolding rows_in
rows_free version kind h = rows_free_from version (rows_of kind) h

-- ---- the row of a name

first_free : (p : Published → Bool) (rows : List Published) → all free_as rows ≡ true → Free (first p rows)
first_free p [] h = tt
first_free p (r ∷ rows) h = by_test Free (p r) (λ e. and_left (free_as r) (all free_as rows) h) (λ e. first_free p rows (and_right (free_as r) (all free_as rows) h))

by_free : (rows : List Published) (o : Option (List ℕ)) → all free_as rows ≡ true → Free (row_by rows o)
by_free rows none h = tt
by_free rows (some name) h = first_free _ rows h

row_for_free : (rows : List Published) (seen : List (List ℕ)) (t : Lexeme) → all free_as rows ≡ true → Free (row_for rows seen t)
row_for_free rows seen t h = by_test Free (is_repeated seen (text_of t)) (λ e. tt) (λ e. by_free rows (text_of t) h)

-- ---- a value

module _ (version s u : ℕ) where
  abbrev said_by : ℕ → Option Published → Json → List Defect
  said_by around o x = elim o [ none ↦ [] | some r ↦ defects version around r.of_schema r.shape x ]

  -- what a free row says
  said_free : (o : Option Published) (x : Json) → Free o → ((shape : FileShape) → free shape ≡ true → defects version s false shape x ≡ defects version u false shape x) → said_by s o x ≡ said_by u o x
  said_free none x h e = refl
  said_free (some r) x h e =
      let k : r.of_schema ≡ false = not-true r.of_schema (and_left (not r.of_schema) (free r.shape) h) in
      ap (λ (b : Bool). defects version s b r.shape x) k ∙ e r.shape (and_right (not r.of_schema) (free r.shape) h) ∙ sym (ap (λ (b : Bool). defects version u b r.shape x) k)

  -- a schema has its own place, and all others that may stand there have rows that do not ask for the one around them
  kind_around : (kind : FileKind) (place : ℕ) (ms : Members) → free_kind kind ≡ true
      → (all free_as (rows_in version kind) ≡ true → member_defects version s kind (rows_in version kind) [] ms ≡ member_defects version u kind (rows_in version kind) [] ms)
      → member_defects version (schema_place kind place s) kind (rows_in version kind) [] ms ≡ member_defects version (schema_place kind place u) kind (rows_in version kind) [] ms
  kind_around TheFile place ms h e = e (rows_free version TheFile refl)
  kind_around HeldSnapshot place ms h e = e (rows_free version HeldSnapshot refl)
  kind_around HeldSchema place ms h e = refl
  kind_around HeldField place ms h e = absurd (false≢true h)
  kind_around HeldSpec place ms h e = e (rows_free version HeldSpec refl)
  kind_around HeldPartitionField place ms h e = e (rows_free version HeldPartitionField refl)
  kind_around HeldOrder place ms h e = e (rows_free version HeldOrder refl)
  kind_around HeldSortField place ms h e = e (rows_free version HeldSortField refl)
  kind_around HeldRef place ms h e = e (rows_free version HeldRef refl)
  kind_around HeldLogEntry place ms h e = e (rows_free version HeldLogEntry refl)
  kind_around HeldFileEntry place ms h e = e (rows_free version HeldFileEntry refl)
  kind_around HeldStatistics place ms h e = e (rows_free version HeldStatistics refl)
  kind_around HeldPartitionStatistics place ms h e = e (rows_free version HeldPartitionStatistics refl)

  mutual
    unfolding defects

    pub value_around : (x : Json) (shape : FileShape) → free shape ≡ true → defects version s false shape x ≡ defects version u false shape x
    value_around (Scalar t) shape h = refl
    value_around (Array place xs closed) (Several room each) h = ap (λ (ds : List Defect). unless (leb (count_of xs) room) place over_capacity ++ ds) (items_around xs each h)
    value_around (Array place xs closed) (Single shape) h = refl
    value_around (Array place xs closed) IdOrNull h = refl
    value_around (Array place xs closed) (ByName room each) h = refl
    value_around (Array place xs closed) (OfKind kind) h = refl
    value_around (Object place ms closed) (ByName room each) h = ap (λ (ds : List Defect). unless (leb (members_count ms) room) place over_capacity ++ ds) (named_around ms each [] h)
    value_around (Object place ms closed) (OfKind kind) h =
        ap (λ (ds : List Defect). ds ++ missing_defects version kind place ms closed) (kind_around kind place ms h (λ k. members_around ms kind (rows_in version kind) [] k))
    value_around (Object place ms closed) (Single shape) h = refl
    value_around (Object place ms closed) IdOrNull h = refl
    value_around (Object place ms closed) (Several room each) h = refl

    items_around : (xs : Items) (each : FileShape) → free each ≡ true → item_defects version s each xs ≡ item_defects version u each xs
    items_around no_item each h = refl
    items_around (item x xs) each h = λ i. value_around x each h i ++ items_around xs each h i

    members_around : (ms : Members) (kind : FileKind) (rows : List Published) (seen : List (List ℕ)) → all free_as rows ≡ true → member_defects version s kind rows seen ms ≡ member_defects version u kind rows seen ms
    members_around no_member kind rows seen h = refl
    members_around (bare_name t) kind rows seen h = refl
    members_around (member t x ms) kind rows seen h =
        λ i. name_defects kind rows seen t ++ said_free (row_for rows seen t) x (row_for_free rows seen t h) (λ shape k. value_around x shape k) i ++ members_around ms kind rows (with_name seen (text_of t)) h i

    named_around : (ms : Members) (each : FileShape) (seen : List (List ℕ)) → free each ≡ true → named_defects version s each seen ms ≡ named_defects version u each seen ms
    named_around no_member each seen h = refl
    named_around (bare_name t) each seen h = refl
    named_around (member t x ms) each seen h = λ i. own_name_defects seen t ++ value_around x each h i ++ named_around ms each (with_name seen (text_of t)) h i
