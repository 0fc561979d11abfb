-- How the value behind a name is judged: by the number of the member that the name is, and by the flags of the names before it.
use Prim.Native.Nat.{ℕ, ◌+◌, ◌-◌, ◌≤◌}
use mathlib.Core.Path.{◌≡◌, refl, sym, ap, ◌∙◌}
use mathlib.Core.Bool.{Bool, true, false, cond, not}
use mathlib.Core.List.{List, []}
use mathlib.Core.Option.{Option, none, some}
use native.Mathlib.Omega.{arith}
use borrow.Author.Tests.{eq-eqb, ne_eqb, eqb-true}
use borrow.Table.Steps.{cases}
use lib.Dec.{eqb, ltb}
use lib.ListN.{length, get_or}
use Rattle.rules.specs.Words.{is_some, all}
use Rattle.rules.specs.Capacities.{name_room}
use Rattle.json_rule.specs.Lexemes.{Lexeme}
use Rattle.json_rule.specs.Values.{text_of}
use Rattle.json_rule.specs.Tree.{Json, Scalar, Array, Object}
use Rattle.json_rule.specs.Shapes.{TextUpTo}
use Rattle.json_machine.specs.Digest.{lone_length}
use Rattle.json_members.specs.Kept.{front, TextKept}
use Rattle.json_members.specs.Words.{Entry}
use Rattle.json_members.proofs.Words.{none_longer}
use Rattle.json_members.proofs.Kept.{kept_told}
use Rattle.file_rule.specs.Tables.{FileKind, TheFile, HeldSnapshot, HeldSchema, HeldField, HeldSpec, HeldPartitionField, HeldOrder, HeldSortField, HeldRef, HeldLogEntry, HeldFileEntry, HeldStatistics, HeldPartitionStatistics, Single, Published, anything, rows_of, rows_in}
use Rattle.file_rule.specs.FileDefects.{published_as, row_by, row_for, is_repeated, skips_unknown, schema_place, defects}
use Rattle.file_cells.specs.Wants.{kind_number, kind_at, first_spot, position, row_at, spot_in, spot_by, spot_for, want_in, shape_of, stands_at_schema}
use Rattle.file_members.specs.Standings.{published_at}
use Rattle.file_members.specs.Names.{entries_among, named_in, first_of}
use Rattle.file_members.specs.Flags.{flags_in}
use Rattle.file_members.proofs.Names.{no_published, spot_named, spot_of, row_by_lem}
use Rattle.file_members.proofs.Shapes.{kind_number_lem, as_published, not_published_lem}
use Rattle.file_members.proofs.Flags.{first_above, flag_is}

-- ---- what is kept of a name

short_names : (o : Option FileKind) → all (λ (e : Entry). ltb (length e.word) 97) (entries_among o) ≡ true
short_names none = refl
short_names (some TheFile) = refl
short_names (some HeldSnapshot) = refl
short_names (some HeldSchema) = refl
short_names (some HeldField) = refl
short_names (some HeldSpec) = refl
short_names (some HeldPartitionField) = refl
short_names (some HeldOrder) = refl
short_names (some HeldSortField) = refl
short_names (some HeldRef) = refl
short_names (some HeldLogEntry) = refl
short_names (some HeldFileEntry) = refl
short_names (some HeldStatistics) = refl
short_names (some HeldPartitionStatistics) = refl

-- no name is as long as what is kept
long_name : (version kind : ℕ) (text : List ℕ) → 97 ≤ length text → spot_by version kind (some text) ≡ 0
unfolding named_in
long_name version kind text h =
    spot_named version kind text ∙ rw (none_longer 0 (entries_among (kind_at kind)) text (short_names (kind_at kind)) h, no_published version)

no_name_lem : (version kind : ℕ) → spot_by version kind none ≡ 0
unfolding spot_by spot_in
no_name_lem version kind = of (kind_at kind)
  where
    of : (o : Option FileKind) → ◌≡◌ {A = ℕ} (elim o [ none ↦ 0 | some k ↦ spot_in version k none ]) 0
    of none = refl
    of (some k) = refl

-- what is told of what is kept of a name is told of the name
pub member_kept : (version kind : ℕ) (kept : List ℕ) (len : ℕ) (x : Option (List ℕ)) → TextKept kept len x → cond (eqb len lone_length) 0 (spot_by version kind (some (front len kept))) ≡ spot_by version kind x
member_kept version kind kept len none k = rw (eq-eqb len lone_length k) (sym (no_name_lem version kind))
member_kept version kind kept len (some text) k =
    rw (ne_eqb len lone_length (λ z. omega (arith, k.count)))
    (kept_told kept len (λ l. spot_by version kind (some l)) 0 (λ l h. long_name version kind l h) (some text) k)

-- ---- which names are right

-- a name is known where it has a number
known_in : (version : ℕ) (k : FileKind) (x : Option (List ℕ)) → is_some (row_by (rows_in version k) x) ≡ not (eqb (spot_in version k x) 0)
unfolding spot_in
known_in version k none = refl
known_in version k (some name) =
    cases (is_some (published_as name (rows_in version k)))
    (λ t. rw (t, ne_eqb (first_spot k + position name (rows_of k)) 0 (λ z. omega (arith, first_above k))))
    (λ f. rw f)

skips_at : (k : FileKind) → skips_unknown k ≡ eqb (kind_number k) 0
skips_at TheFile = refl
skips_at HeldSnapshot = refl
skips_at HeldSchema = refl
skips_at HeldField = refl
skips_at HeldSpec = refl
skips_at HeldPartitionField = refl
skips_at HeldOrder = refl
skips_at HeldSortField = refl
skips_at HeldRef = refl
skips_at HeldLogEntry = refl
skips_at HeldFileEntry = refl
skips_at HeldStatistics = refl
skips_at HeldPartitionStatistics = refl

schema_at_lem : (place outer : ℕ) (k : FileKind) → schema_place k place outer ≡ cond (eqb (kind_number k) 2) place outer
schema_at_lem place outer TheFile = refl
schema_at_lem place outer HeldSnapshot = refl
schema_at_lem place outer HeldSchema = refl
schema_at_lem place outer HeldField = refl
schema_at_lem place outer HeldSpec = refl
schema_at_lem place outer HeldPartitionField = refl
schema_at_lem place outer HeldOrder = refl
schema_at_lem place outer HeldSortField = refl
schema_at_lem place outer HeldRef = refl
schema_at_lem place outer HeldLogEntry = refl
schema_at_lem place outer HeldFileEntry = refl
schema_at_lem place outer HeldStatistics = refl
schema_at_lem place outer HeldPartitionStatistics = refl

module _ (version n : ℕ) (k : FileKind) (e : kind_at n ≡ some k) where
  pub known_by : (x : Option (List ℕ)) → is_some (row_by (rows_in version k) x) ≡ not (eqb (spot_by version n x) 0)
  known_by x = known_in version k x ∙ ap (λ s. not (eqb s 0)) (sym (spot_of version n k e x))

  -- the file alone skips what it does not know
  pub skips_by : skips_unknown k ≡ eqb n 0
  skips_by = skips_at k ∙ ap (λ m. eqb m 0) (sym (kind_number_lem n k e))

  -- a schema is the schema around what stands in it
  pub schema_by : (place outer : ℕ) → schema_place k place outer ≡ cond (eqb n 2) place outer
  schema_by place outer = schema_at_lem place outer k ∙ ap (λ m. cond (eqb m 2) place outer) (sym (kind_number_lem n k e))

  module _ (seen : List (List ℕ)) (x : Option (List ℕ)) where
    -- a name that is known and was not there before, or is skipped
    pub name_right : cond (is_some (row_by (rows_in version k) x)) (not (is_repeated seen x)) (skips_unknown k) ≡ cond (eqb (spot_by version n x) 0) (eqb n 0) (not (get_or (flags_in version k seen) (spot_by version n x - first_of n) false))
    name_right =
        cases (eqb (spot_by version n x) 0)
        (λ z. rw (known_by x, z) skips_by)
        (λ s. rw (known_by x, s) (ap not (sym (flag_is version n k e seen x s))))

    -- a name that was there before is judged no more
    pub spot_once : cond (is_repeated seen x) 0 (spot_by version n x) ≡ cond (eqb (spot_by version n x) 0) 0 (cond (get_or (flags_in version k seen) (spot_by version n x - first_of n) false) 0 (spot_by version n x))
    spot_once =
        cases (eqb (spot_by version n x) 0)
        (λ z. rw z (ap (λ s. cond (is_repeated seen x) 0 s) (eqb-true (spot_by version n x) 0 z) ∙ same (is_repeated seen x)))
        (λ s. rw (s, flag_is version n k e seen x s))
      where
        same : (b : Bool) → ◌≡◌ {A = ℕ} (cond b 0 0) 0
        same true = refl
        same false = refl

  -- the row by which a value is judged is what the version publishes of the number
  pub row_for_lem : (seen : List (List ℕ)) (t : Lexeme) → row_for (rows_in version k) seen t ≡ published_at version (spot_for version n seen t)
  unfolding spot_for
  row_for_lem seen t =
      cases (is_repeated seen (text_of t))
      (λ r. rw r (sym (no_published version)))
      (λ f. rw f (row_by_lem version n k e (text_of t)))

-- ---- how a value is judged

-- anything may stand where anything is wanted
nothing_wrong : (version schema : ℕ) (x : Json) → [] ≡ defects version schema false anything x
unfolding defects
nothing_wrong version schema (Scalar t) = refl
nothing_wrong version schema (Array place xs closed) = refl
nothing_wrong version schema (Object place ms closed) = refl

nothing_here : (version schema : ℕ) (x : Json) → [] ≡ defects version schema (stands_at_schema 0) (shape_of 0) x
unfolding shape_of stands_at_schema row_at
nothing_here version schema x = nothing_wrong version schema x

-- by what is published, and by what is wanted
pub judged_by : (version spot schema : ℕ) (x : Json) → elim (published_at version spot) [ none ↦ [] | some p ↦ defects version schema p.of_schema p.shape x ] ≡ defects version schema (stands_at_schema (want_in version spot)) (shape_of (want_in version spot)) x
judged_by version spot schema x = by (published_at version spot) refl
  where
    by : (o : Option Published) → published_at version spot ≡ o → elim o [ none ↦ [] | some p ↦ defects version schema p.of_schema p.shape x ] ≡ defects version schema (stands_at_schema (want_in version spot)) (shape_of (want_in version spot)) x
    by none e = rw (not_published_lem version spot e) (nothing_here version schema x)
    by (some p) e = let a = as_published version spot p e in rw (a.shape, a.at_schema)

-- the names of refs are as long as those of fields
pub own_name : shape_of 37 ≡ Single (TextUpTo name_room)
unfolding shape_of row_at
own_name = refl
