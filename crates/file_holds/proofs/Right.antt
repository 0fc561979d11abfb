-- What is used of a tree with which nothing is wrong: every value is of the form that is wanted and fits its cells, and what is nested is so too.
use Prim.Native.Nat.{ℕ, zero, suc, ◌+◌, ◌*◌, ◌-◌, ◌≤◌}
use native.Mathlib.Omega.{arith}
use mathlib.Core.Path.{◌≡◌, refl, sym, ap, subst, ◌∙◌}
use mathlib.Core.Bool.{Bool, true, false, cond, true≢false, false≢true}
use mathlib.Core.List.{List, [], ◌∷◌, ◌++◌}
use mathlib.Core.Option.{Option, none, some}
use borrow.Table.Steps.{cases}
use borrow.Author.Tests.{leb-true, eqb-true}
use lib.Dec.{eqb, leb, ltb}
use Rattle.rules.specs.Words.{all}
use Rattle.rules.proofs.Checks.{and_left, and_right}
use Rattle.json_rule.specs.Lexemes.{Lexeme}
use Rattle.json_rule.specs.Values.{text_of}
use Rattle.json_rule.specs.Tree.{Defect, over_capacity, Json, Scalar, Array, Object, Items, no_item, item, Members, no_member, bare_name, member}
use Rattle.json_rule.specs.Defects.{unless, is_anything, stands_at, count_of, with_name}
use Rattle.json_judge.proofs.Right.{both_empty}
use Rattle.json_judge.proofs.Follow.{is_closed, are_closed, are_all}
use Rattle.file_rule.specs.Tables.{FileKind, TheFile, HeldSnapshot, HeldSchema, HeldField, HeldSpec, HeldPartitionField, HeldOrder, HeldSortField, HeldRef, HeldLogEntry, HeldFileEntry, HeldStatistics, HeldPartitionStatistics, FileShape, Single, IdOrNull, Several, ByName, OfKind, Row, Published, rows_in}
use Rattle.file_rule.specs.FileDefects.{single_defects, is_repeated, row_for, name_defects, own_name_defects, missing_defects, members_count, schema_place, defects, item_defects, member_defects, named_defects}
use Rattle.file_cells.specs.Wants.{nth, kinds, kind_at, kind_number, all_rows_of, row_at, spot_by, spot_for, passes_over, want_in, shape_of, shape_of_row, shape_of_kind, item_at, named_at, room_at, record_at}
use Rattle.file_cells.specs.Cells.{kind_size, size_of, size_at}
use Rattle.file_holds.proofs.Spotted.{shape_at, want_nothing, Spotted, spotted}

module _ (version : ℕ) where
  unfoldable mutual
    pub Right : ℕ → Json → Type 0
    Right want (Scalar t) = eqb want 0 ≡ false → size_at want ≡ 2
    Right want (Array place xs closed) =
        eqb (item_at want) 0 ≡ false
        → (closed ≡ true) × (count_of xs ≤ room_at want) × (size_at want ≡ suc (room_at want * size_at (item_at want))) × RightItems (item_at want) xs
    Right want (Object place ms closed) =
        (eqb (named_at want) 0 ≡ true → ((k : FileKind) → kind_at (record_at want) ≡ some k → size_at want ≡ kind_size k) × RightMembers (record_at want) [] ms)
        × (eqb (named_at want) 0 ≡ false
        → (closed ≡ true) × (members_count ms ≤ room_at want) × (size_at want ≡ suc (room_at want * (2 + size_at (named_at want)))) × RightNamed (named_at want) ms)

    pub RightItems : ℕ → Items → Type 0
    RightItems each no_item = Unit {0}
    RightItems each (item x xs) = Right each x × RightItems each xs

    pub RightMembers : ℕ → List (List ℕ) → Members → Type 0
    RightMembers kind seen no_member = Unit {0}
    RightMembers kind seen (bare_name t) = Unit {0}
    RightMembers kind seen (member t x ms) = Right (want_in version (spot_for version kind seen t)) x × RightMembers kind (with_name seen (text_of t)) ms

    pub RightNamed : ℕ → Members → Type 0
    RightNamed each no_member = Unit {0}
    RightNamed each (bare_name t) = ⊥
    RightNamed each (member t x ms) = Right each x × RightNamed each ms

-- ---- what may be wanted

-- lists and objects under names of their own are of records
abbrev is_plain : FileShape → Bool
is_plain (Single shape) = true
is_plain IdOrNull = true
is_plain (Several room (Single shape)) = false
is_plain (Several room IdOrNull) = false
is_plain (Several room (Several most each)) = false
is_plain (Several room (ByName most each)) = false
is_plain (Several room (OfKind kind)) = true
is_plain (ByName room (Single shape)) = false
is_plain (ByName room IdOrNull) = false
is_plain (ByName room (Several most each)) = false
is_plain (ByName room (ByName most each)) = false
is_plain (ByName room (OfKind kind)) = true
is_plain (OfKind kind) = true

all_plain : all (λ (r : Row). is_plain r.shape) (all_rows_of kinds) ≡ true
all_plain = refl

plain_among : (rows : List Row) (n : ℕ) → all (λ (r : Row). is_plain r.shape) rows ≡ true → is_plain (shape_of_row (nth n rows)) ≡ true
plain_among [] n e = refl
plain_among (r ∷ rows) zero e = and_left (is_plain r.shape) (all (λ (r : Row). is_plain r.shape) rows) e
plain_among (r ∷ rows) (suc n) e = plain_among rows n (and_right (is_plain r.shape) (all (λ (r : Row). is_plain r.shape) rows) e)

plain_row : (want : ℕ) → is_plain (shape_of_row (row_at want)) ≡ true
unfolding row_at
plain_row zero = refl
plain_row (suc n) = plain_among (all_rows_of kinds) n all_plain

plain_kind : (o : Option FileKind) → is_plain (shape_of_kind o) ≡ true
plain_kind none = refl
plain_kind (some k) = refl

plain_shape : (want : ℕ) → is_plain (shape_of want) ≡ true
unfolding shape_of
plain_shape want = cases (ltb want 100) (λ b. rw b (plain_row want)) (λ b. rw b (plain_kind (kind_at (want - 100))))

-- the shape of a record's number
pub record_shape : (k : FileKind) → shape_of (100 + kind_number k) ≡ OfKind k
unfolding shape_of kind_at
record_shape TheFile = refl
record_shape HeldSnapshot = refl
record_shape HeldSchema = refl
record_shape HeldField = refl
record_shape HeldSpec = refl
record_shape HeldPartitionField = refl
record_shape HeldOrder = refl
record_shape HeldSortField = refl
record_shape HeldRef = refl
record_shape HeldLogEntry = refl
record_shape HeldFileEntry = refl
record_shape HeldStatistics = refl
record_shape HeldPartitionStatistics = refl

pub kind_at_lem : (k : FileKind) → kind_at (kind_number k) ≡ some k
unfolding kind_at
kind_at_lem TheFile = refl
kind_at_lem HeldSnapshot = refl
kind_at_lem HeldSchema = refl
kind_at_lem HeldField = refl
kind_at_lem HeldSpec = refl
kind_at_lem HeldPartitionField = refl
kind_at_lem HeldOrder = refl
kind_at_lem HeldSortField = refl
kind_at_lem HeldRef = refl
kind_at_lem HeldLogEntry = refl
kind_at_lem HeldFileEntry = refl
kind_at_lem HeldStatistics = refl
kind_at_lem HeldPartitionStatistics = refl

-- ---- what is passed over

pub impossible : {d : Defect} {ds : List Defect} → d ∷ ds ≡ [] → ⊥
impossible e = let z : ◌≡◌ {A = ℕ} 0 1 = cc in omega arith

pub passed : (test : Bool) (place number : ℕ) → unless test place number ≡ [] → test ≡ true
passed true place number e = refl
passed false place number e = absurd (impossible e)

-- of what is no record no member is known
pub spot_of_none : (version kind : ℕ) (seen : List (List ℕ)) (t : Lexeme) → kind_at kind ≡ none → spot_for version kind seen t ≡ 0
unfolding spot_for spot_by
spot_of_none version kind seen t e = rw (spot_by, e) (go (is_repeated seen (text_of t)))
  where
    go : (b : Bool) → ◌≡◌ {A = ℕ} (cond b 0 0) 0
    go true = refl
    go false = refl

-- what is passed over is wanted as anything
abbrev pub Meant : ℕ → Type 0
Meant want = passes_over (shape_of want) ≡ true → want ≡ 0

module _ (version : ℕ) where
  pub want_of_none : (kind : ℕ) (seen : List (List ℕ)) (t : Lexeme) → kind_at kind ≡ none → want_in version (spot_for version kind seen t) ≡ 0
  want_of_none kind seen t e = ap (want_in version) (spot_of_none version kind seen t e) ∙ want_nothing version

  mutual
    unfolding Right shape_of row_at item_at named_at record_at kind_at

    -- where anything may stand, everything is right
    right_nothing : (x : Json) → Right version 0 x
    right_nothing (Scalar t) = λ e. absurd (true≢false e)
    right_nothing (Array place xs closed) = λ e. absurd (true≢false e)
    right_nothing (Object place ms closed) = (λ e. ((λ k f. cc), right_unknown 13 [] ms refl), λ e. absurd (true≢false e))

    right_unknown : (kind : ℕ) (seen : List (List ℕ)) (ms : Members) → kind_at kind ≡ none → RightMembers version kind seen ms
    right_unknown kind seen no_member e = tt
    right_unknown kind seen (bare_name t) e = tt
    right_unknown kind seen (member t x ms) e =
        (subst (λ (w : ℕ). Right version w x) (sym (want_of_none kind seen t e)) (right_nothing x), right_unknown kind (with_name seen (text_of t)) ms e)

  -- ---- values, by what is wanted

  scalar_size : (want : ℕ) (shape : FileShape) (place : ℕ) (t : Lexeme) → shape_of want ≡ shape → Meant want → single_defects shape place t ≡ [] → eqb want 0 ≡ false → size_at want ≡ 2
  unfolding size_at size_of
  scalar_size want (Single shape) place t e m d n =
      cases (is_anything shape)
      (λ b. absurd (true≢false (sym (ap (λ (w : ℕ). eqb w 0) (m (ap passes_over e ∙ b))) ∙ n)))
      (λ b. ap size_of e ∙ rw b)
  scalar_size want IdOrNull place t e m d n = ap size_of e
  scalar_size want (Several room each) place t e m d n = absurd (impossible d)
  scalar_size want (ByName room each) place t e m d n = absurd (impossible d)
  scalar_size want (OfKind kind) place t e m d n = absurd (impossible d)

  -- the elements of a list, and their numbers
  list_right : (want schema : ℕ) (of_schema : Bool) (place : ℕ) (xs : Items) (closed : Bool) (shape : FileShape) → shape_of want ≡ shape → is_plain shape ≡ true
      → defects version schema of_schema shape (Array place xs closed) ≡ [] → closed ≡ true
      → ((each : ℕ) (k : FileKind) → shape_of each ≡ OfKind k → item_defects version schema (OfKind k) xs ≡ [] → RightItems version each xs)
      → Right version want (Array place xs closed)
  unfolding Right defects item_at room_at size_at size_of
  list_right want schema of_schema place xs closed (Single shape) e p d c h = λ n. absurd (true≢false (rw e at n))
  list_right want schema of_schema place xs closed IdOrNull e p d c h = λ n. absurd (true≢false (rw e at n))
  list_right want schema of_schema place xs closed (ByName room each) e p d c h = λ n. absurd (true≢false (rw e at n))
  list_right want schema of_schema place xs closed (OfKind kind) e p d c h = λ n. absurd (true≢false (rw e at n))
  list_right want schema of_schema place xs closed (Several room (Single shape)) e p d c h = absurd (false≢true p)
  list_right want schema of_schema place xs closed (Several room IdOrNull) e p d c h = absurd (false≢true p)
  list_right want schema of_schema place xs closed (Several room (Several most each)) e p d c h = absurd (false≢true p)
  list_right want schema of_schema place xs closed (Several room (ByName most each)) e p d c h = absurd (false≢true p)
  list_right want schema of_schema place xs closed (Several room (OfKind k)) e p d c h =
      let parts = both_empty (unless (leb (count_of xs) room) place over_capacity) (item_defects version schema (OfKind k) xs) d in
      λ n. rw e (c, leb-true (count_of xs) room (passed (leb (count_of xs) room) place over_capacity parts.0), rw (record_shape k), h (100 + kind_number k) k (record_shape k) parts.1)

  -- the members of an object, and the numbers of its kind
  object_right : (want schema : ℕ) (of_schema : Bool) (place : ℕ) (ms : Members) (closed : Bool) (shape : FileShape) → shape_of want ≡ shape → is_plain shape ≡ true
      → defects version schema of_schema shape (Object place ms closed) ≡ [] → closed ≡ true
      → ((outer : ℕ) (k : FileKind) → member_defects version outer k (rows_in version k) [] ms ≡ [] → RightMembers version (kind_number k) [] ms)
      → ((each : ℕ) (k : FileKind) → shape_of each ≡ OfKind k → named_defects version schema (OfKind k) [] ms ≡ [] → RightNamed version each ms)
      → Right version want (Object place ms closed)
  unfolding Right defects named_at record_at room_at size_at size_of kind_at
  object_right want schema of_schema place ms closed (Single shape) e p d c h g =
      (λ n. rw e ((λ k f. cc), right_unknown 13 [] ms refl), λ n. absurd (true≢false (rw e at n)))
  object_right want schema of_schema place ms closed IdOrNull e p d c h g = absurd (impossible d)
  object_right want schema of_schema place ms closed (Several room each) e p d c h g = absurd (impossible d)
  object_right want schema of_schema place ms closed (OfKind kind) e p d c h g =
      let parts = both_empty (member_defects version (schema_place kind place schema) kind (rows_in version kind) [] ms) (missing_defects version kind place ms closed) d in
      (λ n. rw e ((λ k f. let i : some kind ≡ some k = sym (kind_at_lem kind) ∙ f in let j : kind ≡ k = cc in ap kind_size j), h (schema_place kind place schema) kind parts.0), λ n. absurd (true≢false (rw e at n)))
  object_right want schema of_schema place ms closed (ByName room (Single shape)) e p d c h g = absurd (false≢true p)
  object_right want schema of_schema place ms closed (ByName room IdOrNull) e p d c h g = absurd (false≢true p)
  object_right want schema of_schema place ms closed (ByName room (Several most each)) e p d c h g = absurd (false≢true p)
  object_right want schema of_schema place ms closed (ByName room (ByName most each)) e p d c h g = absurd (false≢true p)
  object_right want schema of_schema place ms closed (ByName room (OfKind k)) e p d c h g =
      let parts = both_empty (unless (leb (members_count ms) room) place over_capacity) (named_defects version schema (OfKind k) [] ms) d in (
        λ n. absurd (not_kind k (rw e at n)),
        λ n. rw e (c, leb-true (members_count ms) room (passed (leb (members_count ms) room) place over_capacity parts.0), rw (record_shape k), g (100 + kind_number k) k (record_shape k) parts.1),
      )
    where
      not_kind : (k : FileKind) → eqb (100 + kind_number k) 0 ≡ true → ⊥
      not_kind k e = let z : 100 + kind_number k ≡ 0 = eqb-true (100 + kind_number k) 0 e in omega arith

  -- what is wrong with the value of a member, by its row
  abbrev pub value_defects : ℕ → Json → Option Published → List Defect
  value_defects schema x o = elim o [ none ↦ [] | some r ↦ defects version schema r.of_schema r.shape x ]

  -- a value that is held is judged by what is wanted
  member_value : (kind : ℕ) (seen : List (List ℕ)) (t : Lexeme) (k : FileKind) (schema : ℕ) (x : Json) → kind_at kind ≡ some k
      → value_defects schema x (row_for (rows_in version k) seen t) ≡ [] → (s : Spotted version kind seen t)
      → (defects version schema s.publication.of_schema (shape_of (want_in version (spot_for version kind seen t))) x ≡ []) × (passes_over (shape_of (want_in version (spot_for version kind seen t))) ≡ false)
  member_value kind seen t k schema x e d s =
      let i : some k ≡ some s.record_kind = sym e ∙ s.is_kind in
      let j : k ≡ s.record_kind = cc in
      let q : shape_of (want_in version (spot_for version kind seen t)) ≡ s.publication.shape = ap shape_of s.want ∙ shape_at s.record_kind s.place s.row s.there ∙ sym s.shape in
      let o : row_for (rows_in version k) seen t ≡ some s.publication = ap (λ (y : FileKind). row_for (rows_in version y) seen t) j ∙ s.judged in
      (ap (λ (y : FileShape). defects version schema s.publication.of_schema y x) q ∙ (ap (value_defects schema x) (sym o) ∙ d), ap passes_over q ∙ s.passed)

  -- ---- all values

  mutual
    unfolding defects is_closed Right

    pub right : (want schema : ℕ) (of_schema : Bool) (x : Json) → Meant want → defects version schema of_schema (shape_of want) x ≡ [] → is_closed x ≡ true → Right version want x
    right want schema of_schema (Scalar t) m d c = scalar_size want (shape_of want) (stands_at of_schema schema t.first) t refl m d
    right want schema of_schema (Array place xs closed) m d c =
        list_right want schema of_schema place xs closed (shape_of want) refl (plain_shape want) d (and_left closed (are_closed xs) c)
        (λ each k s e. right_items each schema k xs s e (and_right closed (are_closed xs) c))
    right want schema of_schema (Object place ms closed) m d c =
        object_right want schema of_schema place ms closed (shape_of want) refl (plain_shape want) d (and_left closed (are_all ms) c)
        (λ outer k e. right_members (kind_number k) outer k [] ms (kind_at_lem k) e (and_right closed (are_all ms) c))
        (λ each k s e. right_named each schema k [] ms s e (and_right closed (are_all ms) c))

    right_items : (each schema : ℕ) (k : FileKind) (xs : Items) → shape_of each ≡ OfKind k → item_defects version schema (OfKind k) xs ≡ [] → are_closed xs ≡ true → RightItems version each xs
    right_items each schema k no_item s d c = tt
    right_items each schema k (item x xs) s d c =
        let parts = both_empty (defects version schema false (OfKind k) x) (item_defects version schema (OfKind k) xs) d in
        (right each schema false x (λ p. absurd (false≢true (rw s at p))) (rw s parts.0) (and_left (is_closed x) (are_closed xs) c), right_items each schema k xs s parts.1 (and_right (is_closed x) (are_closed xs) c))

    right_members : (kind schema : ℕ) (k : FileKind) (seen : List (List ℕ)) (ms : Members) → kind_at kind ≡ some k → member_defects version schema k (rows_in version k) seen ms ≡ [] → are_all ms ≡ true → RightMembers version kind seen ms
    right_members kind schema k seen no_member e d c = tt
    right_members kind schema k seen (bare_name t) e d c = tt
    right_members kind schema k seen (member t x ms) e d c =
        let parts = both_empty (name_defects k (rows_in version k) seen t ++ value_defects schema x (row_for (rows_in version k) seen t)) (member_defects version schema k (rows_in version k) (with_name seen (text_of t)) ms) d in
        let more = both_empty (name_defects k (rows_in version k) seen t) (value_defects schema x (row_for (rows_in version k) seen t)) parts.0 in (
          cases (eqb (want_in version (spot_for version kind seen t)) 0)
              (λ z. subst (λ (w : ℕ). Right version w x) (sym (eqb-true _ 0 z)) (right_nothing x))
              (λ n. let s = spotted version kind seen t n in
              let v = member_value kind seen t k schema x e more.1 s in
              right (want_in version (spot_for version kind seen t)) schema s.publication.of_schema x (λ p. absurd (true≢false (sym p ∙ v.1))) v.0 (and_left (is_closed x) (are_all ms) c)),
          right_members kind schema k (with_name seen (text_of t)) ms e parts.1 (and_right (is_closed x) (are_all ms) c),
        )

    right_named : (each schema : ℕ) (k : FileKind) (seen : List (List ℕ)) (ms : Members) → shape_of each ≡ OfKind k → named_defects version schema (OfKind k) seen ms ≡ [] → are_all ms ≡ true → RightNamed version each ms
    right_named each schema k seen no_member s d c = tt
    right_named each schema k seen (bare_name t) s d c = absurd (false≢true c)
    right_named each schema k seen (member t x ms) s d c =
        let parts = both_empty (own_name_defects seen t ++ defects version schema false (OfKind k) x) (named_defects version schema (OfKind k) (with_name seen (text_of t)) ms) d in
        let more = both_empty (own_name_defects seen t) (defects version schema false (OfKind k) x) parts.0 in
        (right each schema false x (λ p. absurd (false≢true (rw s at p))) (rw s more.1) (and_left (is_closed x) (are_all ms) c), right_named each schema k (with_name seen (text_of t)) ms s parts.1 (and_right (is_closed x) (are_all ms) c))
