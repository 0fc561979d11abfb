-- The member that a version publishes under a name: the first row of that name, as the version has it.
use Prim.Native.Nat.{ℕ, suc, ◌+◌}
use mathlib.Core.Path.{◌≡◌, refl, sym, ap, ◌∙◌}
use mathlib.Core.Bool.{Bool, true, false, cond, not, ◌||◌, true≢false}
use mathlib.Core.List.{List, [], ◌∷◌}
use mathlib.Core.Option.{Option, none, some}
use native.Mathlib.Nat.{add-zero, suc-add, add-suc}
use borrow.Author.Tests.{not-true, leb-true, leb-false}
use borrow.Table.Steps.{cases}
use lib.Dec.{eqb, leb}
use Rattle.rules.specs.Words.{is_some, any, first, unequal_by, collect, same_bytes}
use Rattle.rules.proofs.Checks.{and_left, and_right}
use Rattle.json_members.specs.Words.{number_of}
use Rattle.json_members.proofs.Cases.{is_key, all_below_lem}
use Rattle.json_members.proofs.Words.{same_is}
use Rattle.json_members.proofs.Names.{same_turned}
use Rattle.json_members.proofs.Tables.{not_there}
use Rattle.file_rule.specs.Tables.{FileKind, TheFile, HeldSnapshot, HeldSchema, HeldField, HeldSpec, HeldPartitionField, HeldOrder, HeldSortField, HeldRef, HeldLogEntry, HeldFileEntry, HeldStatistics, HeldPartitionStatistics, Presence, Required, Optional, Absent, Row, Published, is_absent, any_version, published, rows_of, row_in, rows_in}
use Rattle.file_rule.specs.FileDefects.{published_as, row_by}
use Rattle.file_cells.specs.Wants.{kind_at, first_spot, row_at, position, spot_in, spot_by}
use Rattle.file_members.specs.Standings.{published_of, published_at}
use Rattle.file_members.specs.Names.{entries_from, entries_of, entries_among, named_in}
use Rattle.file_members.proofs.Numbers.{kind_past}

-- ---- rows whose numbers follow each other

pub data RowsAt : ℕ → List Row → Type 0 where
  no_row : {n : ℕ} → RowsAt n []
  ◌then◌ : {n : ℕ} {r : Row} {rs : List Row} → row_at n ≡ some r → RowsAt (suc n) rs → RowsAt n (r ∷ rs)

infixr 20 ◌then◌
pub rows_at : (k : FileKind) → RowsAt (first_spot k) (rows_of k)
unfolding row_at
rows_at TheFile = refl then refl then refl then refl then refl then refl then refl then refl then refl then refl then refl then refl then refl then refl then refl then refl then refl then refl then refl then refl then refl then refl then refl then no_row
rows_at HeldSnapshot = refl then refl then refl then refl then refl then refl then refl then refl then refl then no_row
rows_at HeldSchema = refl then refl then refl then no_row
rows_at HeldField = refl then refl then refl then refl then no_row
rows_at HeldSpec = refl then refl then no_row
rows_at HeldPartitionField = refl then refl then refl then refl then no_row
rows_at HeldOrder = refl then refl then no_row
rows_at HeldSortField = refl then refl then refl then refl then no_row
rows_at HeldRef = refl then refl then refl then refl then refl then no_row
rows_at HeldLogEntry = refl then refl then no_row
rows_at HeldFileEntry = refl then refl then no_row
rows_at HeldStatistics = refl then refl then refl then refl then refl then no_row
rows_at HeldPartitionStatistics = refl then refl then refl then no_row

-- ---- the first row of a name

abbrev pub named : List ℕ → Row → Bool
named name r = same_bytes r.name name

-- the first of a name
abbrev pub row_named : List ℕ → List Row → Option Row
row_named name rs = first (named name) rs

pub named_at_lem : (n : ℕ) (rs : List Row) → RowsAt n rs → (name : List ℕ) → is_some (row_named name rs) ≡ true → row_at (n + position name rs) ≡ row_named name rs
named_at_lem n [] no_row name e = absurd (true≢false (sym e))
named_at_lem n (r ∷ rs) (a then more) name e =
    cases (named name r)
    (λ t. rw (t, add-zero n) a)
    (λ f. rw (f, add-suc n (position name rs), ← (suc-add n (position name rs))) (named_at_lem (suc n) rs more name (rw f at e)))

-- ---- names that are unequal

abbrev pub same_name : Row → Row → Bool
same_name a b = same_bytes a.name b.name

pub names_apart : (k : FileKind) → unequal_by same_name (rows_of k) ≡ true
names_apart TheFile = refl
names_apart HeldSnapshot = refl
names_apart HeldSchema = refl
names_apart HeldField = refl
names_apart HeldSpec = refl
names_apart HeldPartitionField = refl
names_apart HeldOrder = refl
names_apart HeldSortField = refl
names_apart HeldRef = refl
names_apart HeldLogEntry = refl
names_apart HeldFileEntry = refl
names_apart HeldStatistics = refl
names_apart HeldPartitionStatistics = refl

pub no_other : (name : List ℕ) (r : Row) (rs : List Row) → named name r ≡ true → any (same_name r) rs ≡ false → row_named name rs ≡ none
no_other name r [] t n = refl
no_other name r (q ∷ rs) t n =
    cases (same_name r q)
    (λ e. absurd (true≢false (rw e at n)))
    (λ f. rw (sym (ap (λ m. same_bytes q.name m) (same_is r.name name t)) ∙ same_turned q.name r.name ∙ f) (no_other name r rs t (rw f at n)))

-- ---- a row in a version

-- a row keeps its name
data InVersion (r : Row) : Option Published → Type 0 where
  absent : InVersion r none
  there : {p : Published} → p.name ≡ r.name → InVersion r (some p)

in_presence : (r : Row) (p : Presence) → InVersion r (published r p)
in_presence r Required = there refl
in_presence r Optional = there refl
in_presence r Absent = absent

any_name : (r : Row) → (any_version r).name ≡ r.name
any_name r = cases (is_absent r.one || is_absent r.two || is_absent r.three) (λ t. rw t) (λ f. rw f)

in_version : (version : ℕ) (r : Row) → InVersion r (row_in version r)
unfolding row_in
in_version version r =
    cases (eqb version 1)
    (λ t. rw t (in_presence r r.one))
    (λ a. cases (eqb version 2)
    (λ t. rw (a, t) (in_presence r r.two))
    (λ b. cases (eqb version 3) (λ t. rw (a, b, t) (in_presence r r.three)) (λ c. rw (a, b, c) (there (any_name r)))))

-- what is published under a name is the first row of that name, as the version has it
module _ (version : ℕ) (name : List ℕ) where
  published_step : (r : Row) (rs : List Row) → any (same_name r) rs ≡ false → published_as name (collect (row_in version) rs) ≡ published_of version (row_named name rs) → (o : Option Published) → InVersion r o → published_as name (elim o [ none ↦ collect (row_in version) rs | some y ↦ y ∷ collect (row_in version) rs ]) ≡ cond (named name r) o (published_of version (row_named name rs))
  published_step r rs n same none absent =
      same ∙ cases (named name r) (λ t. rw (t, no_other name r rs t n)) (λ f. rw f)
  published_step r rs n same (some p) (there e) =
      rw e (cases (named name r) (λ t. rw t) (λ f. rw f same))

  row_or : (b : Bool) (r : Row) (o : Option Row) → cond b (row_in version r) (published_of version o) ≡ published_of version (cond b (some r) o)
  row_or true r o = refl
  row_or false r o = refl

  published_among : (rs : List Row) → unequal_by same_name rs ≡ true → published_as name (collect (row_in version) rs) ≡ published_of version (row_named name rs)
  published_among [] u = refl
  published_among (r ∷ rs) u =
      published_step r rs (not-true (any (same_name r) rs) (and_left (not (any (same_name r) rs)) _ u)) (published_among rs (and_right (not (any (same_name r) rs)) _ u)) (row_in version r) (in_version version r)
      ∙ row_or (named name r) r (row_named name rs)

pub published_named : (version : ℕ) (k : FileKind) (name : List ℕ) → published_as name (rows_in version k) ≡ published_of version (row_named name (rows_of k))
unfolding rows_in
published_named version k name = published_among version name (rows_of k) (names_apart k)

-- ---- the number of a name

-- asked in order, as the entries are
pub number_named_lem : (n : ℕ) (rs : List Row) (name : List ℕ) → number_of 0 (entries_from n rs) name ≡ cond (is_some (row_named name rs)) (n + position name rs) 0
unfolding number_of
number_named_lem n [] name = refl
number_named_lem n (r ∷ rs) name =
    cases (named name r)
    (λ t. rw (same_turned name r.name, t, add-zero n))
    (λ f. rw (same_turned name r.name, f, add-suc n (position name rs), ← (suc-add n (position name rs))) (number_named_lem (suc n) rs name))

nothing : row_at 0 ≡ none
unfolding row_at
nothing = refl

-- the row of the number of a name is the row of the name
pub row_numbered : (k : FileKind) (name : List ℕ) → row_at (number_of 0 (entries_of k) name) ≡ row_named name (rows_of k)
row_numbered k name =
    cases (is_some (row_named name (rows_of k)))
    (λ t. rw (number_named_lem (first_spot k) (rows_of k) name, t) (named_at_lem (first_spot k) (rows_of k) (rows_at k) name t))
    (λ f. rw (number_named_lem (first_spot k) (rows_of k) name, f) (nothing ∙ sym (not_there (row_named name (rows_of k)) f)))

-- ---- the number that a version publishes under a name

pub published_number : (version : ℕ) (k : FileKind) (name : List ℕ) → published_at version (number_of 0 (entries_of k) name) ≡ published_as name (rows_in version k)
unfolding published_at
published_number version k name = ap (published_of version) (row_numbered k name) ∙ sym (published_named version k name)

pub no_published : (version : ℕ) → published_at version 0 ≡ none
unfolding published_at
no_published version = ap (published_of version) nothing

-- what is published has a row
some_row : (version : ℕ) (o : Option Row) → is_some (published_of version o) ≡ true → is_some o ≡ true
some_row version none e = absurd (true≢false (sym e))
some_row version (some r) e = refl

module _ (version : ℕ) (k : FileKind) (name : List ℕ) (t : is_some (published_as name (rows_in version k)) ≡ true) where
  pub found_row : is_some (row_named name (rows_of k)) ≡ true
  found_row = some_row version (row_named name (rows_of k)) (sym (ap (λ o. is_some o) (published_named version k name)) ∙ t)

  pub found_number : first_spot k + position name (rows_of k) ≡ number_of 0 (entries_of k) name
  found_number = sym (number_named_lem (first_spot k) (rows_of k) name ∙ rw found_row)

spot_in_lem : (version : ℕ) (k : FileKind) (name : List ℕ) → spot_in version k (some name) ≡ cond (is_some (published_at version (number_of 0 (entries_of k) name))) (number_of 0 (entries_of k) name) 0
unfolding spot_in
spot_in_lem version k name =
    cases (is_some (published_as name (rows_in version k)))
    (λ t. rw (published_number version k name, t) (found_number version k name t))
    (λ f. rw (published_number version k name, f))

of_kind_lem : (version : ℕ) (text : List ℕ) (o : Option FileKind) → elim o [ none ↦ 0 | some k ↦ spot_in version k (some text) ] ≡ cond (is_some (published_at version (number_of 0 (entries_among o) text))) (number_of 0 (entries_among o) text) 0
unfolding number_of
of_kind_lem version text none = rw (no_published version)
of_kind_lem version text (some k) = spot_in_lem version k text

-- of a record's number
pub spot_named : (version kind : ℕ) (text : List ℕ) → spot_by version kind (some text) ≡ cond (is_some (published_at version (named_in kind text))) (named_in kind text) 0
unfolding spot_by named_in
spot_named version kind text = of_kind_lem version text (kind_at kind)

-- ---- the row by which a value is judged

pub spot_of : (version n : ℕ) (k : FileKind) → kind_at n ≡ some k → (x : Option (List ℕ)) → spot_by version n x ≡ spot_in version k x
unfolding spot_by
spot_of version n k e x = ap (λ (o : Option FileKind). elim o [ none ↦ 0 | some j ↦ spot_in version j x ]) e

pub row_in_lem : (version : ℕ) (k : FileKind) (x : Option (List ℕ)) → row_by (rows_in version k) x ≡ published_at version (spot_in version k x)
unfolding spot_in
row_in_lem version k none = sym (no_published version)
row_in_lem version k (some name) =
    cases (is_some (published_as name (rows_in version k)))
    (λ t. rw (t, found_number version k name t) (sym (published_number version k name)))
    (λ f. rw f (not_there (published_as name (rows_in version k)) f ∙ sym (no_published version)))

-- it is what the version publishes of the number behind the name
pub row_by_lem : (version n : ℕ) (k : FileKind) → kind_at n ≡ some k → (x : Option (List ℕ)) → row_by (rows_in version k) x ≡ published_at version (spot_by version n x)
row_by_lem version n k e x = row_in_lem version k x ∙ ap (published_at version) (sym (spot_of version n k e x))

-- ---- what is no record

abbrev pub kind_arms : List (List ℕ)
kind_arms = (0 ∷ []) ∷ (1 ∷ []) ∷ (2 ∷ []) ∷ (3 ∷ []) ∷ (4 ∷ []) ∷ (5 ∷ []) ∷ (6 ∷ []) ∷ (7 ∷ []) ∷ (8 ∷ []) ∷ (9 ∷ []) ∷ (10 ∷ []) ∷ (11 ∷ []) ∷ (12 ∷ []) ∷ []

pub named_past : (kind : ℕ) (text : List ℕ) → is_key kind_arms kind ≡ false → named_in kind text ≡ 0
unfolding named_in number_of
named_past kind text m =
    cases (leb 13 kind)
    (λ t. ap (λ o. number_of 0 (entries_among o) text) (kind_past kind (leb-true 13 kind t)))
    (λ f. absurd (true≢false (sym (all_below_lem 13 (is_key kind_arms) refl kind (leb-false 13 kind f)) ∙ m)))
