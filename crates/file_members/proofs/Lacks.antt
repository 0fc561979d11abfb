-- What a record lacks by its flags is what the rule misses by its names.
use Prim.Native.Nat.{ℕ, suc, ◌+◌, ◌-◌}
use mathlib.Core.Path.{◌≡◌, refl, sym, ap, ◌∙◌}
use mathlib.Core.Bool.{Bool, true, false, cond, not, ◌&&◌, ◌||◌, beq}
use mathlib.Core.List.{List, [], ◌∷◌, ◌++◌}
use mathlib.Core.Option.{Option, none, some}
use native.Mathlib.Nat.{add-zero, zero-add, suc-add, add-suc}
use borrow.Author.Tests.{eqb-true}
use borrow.Table.Steps.{cases}
use lib.Dec.{eqb}
use lib.ListN.{length, get_or, replicate}
use Rattle.rules.specs.Words.{is_some, all, collect}
use Rattle.json_rule.specs.Letters.{bytes}
use Rattle.json_rule.specs.Members.{is_one_of}
use Rattle.json_rule.specs.Defects.{both_or_neither}
use Rattle.file_rule.specs.Tables.{FileKind, TheFile, HeldSnapshot, HeldSchema, HeldField, HeldSpec, HeldPartitionField, HeldOrder, HeldSortField, HeldRef, HeldLogEntry, HeldFileEntry, HeldStatistics, HeldPartitionStatistics, Presence, Required, Optional, Absent, Row, Published, is_absent, is_required_by, any_version, published, rows_of, row_in, rows_in}
use Rattle.file_rule.specs.FileDefects.{required_in, range_names}
use Rattle.file_cells.specs.Wants.{kind_number, kind_at, first_spot, row_at}
use Rattle.file_members.specs.Standings.{standing_of, standing_in_any, by_version, standing_in, standing_at}
use Rattle.file_members.specs.Flags.{flag_room, flag_of, flags_of, flags_in, lacks_at, lacking, lacks_half, lacks_in}
use Rattle.file_members.proofs.Names.{RowsAt, no_row, ◌then◌, rows_at}
use Rattle.file_members.proofs.Shapes.{kind_number_lem}
use Rattle.file_members.proofs.Flags.{first_is, count_is}

-- ---- a row

-- what a version publishes of a row, beside how the row stands in it
data Stands (r : Row) : Option Published → ℕ → Type 0 where
  absent : {s : ℕ} → eqb s 2 ≡ false → Stands r none s
  there : {p : Published} {s : ℕ} → p.name ≡ r.name → p.is_required ≡ eqb s 2 → Stands r (some p) s

presence_stands : (r : Row) (p : Presence) → Stands r (published r p) (standing_of p)
presence_stands r Required = there refl refl
presence_stands r Optional = there refl refl
presence_stands r Absent = absent refl

any_stands : (r : Row) → Stands r (some (any_version r)) (standing_in_any r)
any_stands r =
    cases (is_absent r.one || is_absent r.two || is_absent r.three)
    (λ t. there (rw t) (rw t))
    (λ f. there (rw f) (rw f (cases (is_required_by r.one && is_required_by r.two && is_required_by r.three) (λ t. rw t) (λ g. rw g))))

stands : (version : ℕ) (r : Row) → Stands r (row_in version r) (standing_in version r)
unfolding row_in standing_in by_version
stands version r =
    cases (eqb version 1)
    (λ t. rw t (presence_stands r r.one))
    (λ a. cases (eqb version 2)
    (λ t. rw (a, t) (presence_stands r r.two))
    (λ b. cases (eqb version 3) (λ t. rw (a, b, t) (presence_stands r r.three)) (λ c. rw (a, b, c) (any_stands r))))

-- ---- row by row

module _ (version first : ℕ) (names : List (List ℕ)) (rest flags : List Bool) where
  abbrev has : List Published → Bool
  has ps = all (is_one_of names) (required_in ps)

  -- a row is missed where it is required and has no flag
  missed : (r : Row) (o : Option Published) (s : ℕ) → Stands r o s → (ps : List Published) → has (elim o [ none ↦ ps | some y ↦ y ∷ ps ]) ≡ cond (eqb s 2 && not (is_some o && is_one_of names r.name)) false (has ps)
  missed r none s (absent n) ps = rw n
  missed r (some p) s (there e q) ps =
      cases p.is_required
      (λ t. rw (← q, t, e) (cases (is_one_of names r.name) (λ i. rw i) (λ i. rw i)))
      (λ f. rw (← q, f))

  turned : (l x y : Bool) → x ≡ not y → cond l false x ≡ not (cond l true y)
  turned true x y e = refl
  turned false x y e = e

  missed_here : (r : Row) (i : ℕ) → row_at (first + i) ≡ some r → get_or flags (i + 0) false ≡ flag_of version names r → eqb (standing_in version r) 2 && not (flag_of version names r) ≡ lacks_at version first i flags
  unfolding standing_at
  missed_here r i a f = let flag = ap (λ m. get_or flags m false) (sym (add-zero i)) ∙ f in sym (rw (a, flag))

  missed_all : (rs : List Row) (i : ℕ) → RowsAt (first + i) rs → ((j : ℕ) → get_or flags (i + j) false ≡ get_or (flags_of version names rest rs) j false) → has (collect (row_in version) rs) ≡ not (lacking version first (length rs) i flags)
  unfolding lacking
  missed_all [] i no_row same = refl
  missed_all (r ∷ rs) i (a then more) same =
      missed r (row_in version r) (standing_in version r) (stands version r) (collect (row_in version) rs)
      ∙ turned (eqb (standing_in version r) 2 && not (flag_of version names r)) (has (collect (row_in version) rs)) (lacking version first (length rs) (suc i) flags)
      (missed_all rs (suc i) (rw (add-suc first i) more) (λ j. ap (λ m. get_or flags m false) (suc-add i j ∙ sym (add-suc i j)) ∙ same (suc j)))
      ∙ ap (λ l. not (cond l true (lacking version first (length rs) (suc i) flags))) (missed_here r i a (same 0))

-- ---- the two halves of a row range

all_both : {A : Type 0} (p : A → Bool) (l m : List A) → all p (l ++ m) ≡ all p l && all p m
all_both p [] m = refl
all_both p (x ∷ l) m = cases (p x) (λ t. rw t (all_both p l m)) (λ f. rw f)

halves : (a b : Bool) → cond (a || b) (a && (b && true)) true ≡ not (not (beq a b))
halves true true = refl
halves true false = refl
halves false true = refl
halves false false = refl

either_none : (names : List (List ℕ)) (a b : List ℕ) → all (is_one_of names) (both_or_neither names a b) ≡ cond (is_one_of names a || is_one_of names b) (is_one_of names a && (is_one_of names b && true)) true
either_none names a b = cases (is_one_of names a || is_one_of names b) (λ t. rw t) (λ f. rw f)

range_three : (names : List (List ℕ)) → all (is_one_of names) (range_names 3 HeldSnapshot names) ≡ not (lacks_half 3 1 (flags_in 3 HeldSnapshot names))
unfolding flags_in row_in
range_three names = either_none names (bytes "first-row-id") (bytes "added-rows") ∙ halves (is_one_of names (bytes "first-row-id")) (is_one_of names (bytes "added-rows"))

range_told : (version : ℕ) (names : List (List ℕ)) (k : FileKind) → all (is_one_of names) (range_names version k names) ≡ not (lacks_half version (kind_number k) (flags_in version k names))
range_told version names TheFile = refl
range_told version names HeldSnapshot = cases (eqb version 3) (λ t. rw (eqb-true version 3 t) (range_three names)) (λ f. rw f)
range_told version names HeldSchema = refl
range_told version names HeldField = refl
range_told version names HeldSpec = refl
range_told version names HeldPartitionField = refl
range_told version names HeldOrder = refl
range_told version names HeldSortField = refl
range_told version names HeldRef = refl
range_told version names HeldLogEntry = refl
range_told version names HeldFileEntry = refl
range_told version names HeldStatistics = refl
range_told version names HeldPartitionStatistics = refl

-- ---- a record

both_not : (a b : Bool) → not a && not b ≡ not (cond a true b)
both_not true b = refl
both_not false b = refl

rows_told : (version : ℕ) (k : FileKind) (names : List (List ℕ)) → all (is_one_of names) (required_in (rows_in version k)) ≡ not (lacking version (first_spot k) (length (rows_of k)) 0 (flags_in version k names))
unfolding rows_in flags_in
rows_told version k names =
    let rest = replicate (flag_room - length (rows_of k)) false in
    let flags = flags_of version names rest (rows_of k) in
    missed_all version (first_spot k) names rest flags (rows_of k) 0 (rw (add-zero (first_spot k)) (rows_at k)) (λ j. ap (λ m. get_or flags m false) (zero-add j))

pub lacks_told : (version n : ℕ) (k : FileKind) → kind_at n ≡ some k → (names : List (List ℕ)) → all (is_one_of names) (required_in (rows_in version k) ++ range_names version k names) ≡ not (lacks_in version n (flags_in version k names))
unfolding lacks_in
lacks_told version n k e names =
    let flags = flags_in version k names in
    all_both (is_one_of names) (required_in (rows_in version k)) (range_names version k names)
    ∙ ap (λ (a : Bool). a && all (is_one_of names) (range_names version k names)) (rows_told version k names)
    ∙ ap (λ (b : Bool). not (lacking version (first_spot k) (length (rows_of k)) 0 flags) && b) (range_told version names k)
    ∙ both_not (lacking version (first_spot k) (length (rows_of k)) 0 flags) (lacks_half version (kind_number k) flags)
    ∙ rw (first_is version n k e, count_is version n k e, kind_number_lem n k e)
