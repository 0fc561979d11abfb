-- What a number that is wanted is to be: lists, objects under names of their own, and records.
use Prim.Native.Nat.{ℕ, suc, ◌+◌, ◌*◌, ◌<◌, ◌≤◌}
use mathlib.Core.Path.{◌≡◌, refl, sym, ap, subst, ◌∙◌}
use mathlib.Core.Bool.{Bool, true, false, not, ◌||◌, true≢false}
use mathlib.Core.Option.{Option, none, some}
use native.Mathlib.Omega.{arith}
use borrow.Author.Tests.{eqb-true, ne_eqb, not-true, lt-ltb, leb-true, leb-false}
use borrow.Table.Steps.{cases}
use lib.Dec.{eqb, leb}
use Rattle.rules.specs.Words.{if_some}
use Rattle.json_rule.specs.Shapes.{Shape}
use Rattle.json_members.proofs.Cases.{all_below, all_below_lem}
use Rattle.file_rule.specs.Tables.{FileKind, TheFile, HeldSnapshot, HeldSchema, HeldField, HeldSpec, HeldPartitionField, HeldOrder, HeldSortField, HeldRef, HeldLogEntry, HeldFileEntry, HeldStatistics, HeldPartitionStatistics, FileShape, Single, IdOrNull, Several, ByName, OfKind, Presence, Required, Optional, Absent, Row, Published, anything, is_absent, any_version, published, row_in}
use Rattle.file_cells.specs.Wants.{kind_number, no_kind, kind_at, row_at, passes_over, is_passed_by, is_passed, want_in, shape_of_row, shape_of, stands_at_schema, record_in, want_of_record, item_in, named_in, room_in, item_at, named_at, room_at, record_at}
use Rattle.file_cells.specs.Cells.{kind_size, size_of, size_at}
use Rattle.file_members.specs.Standings.{published_of, published_at}
use Rattle.file_members.proofs.Numbers.{kind_past, row_past, shape_past}
use Rattle.file_members.proofs.Faults.{passes_is}

-- ---- members

-- of a number of a member that of its row
pub row_shape : (want : ℕ) → want < 100 → shape_of want ≡ shape_of_row (row_at want)
unfolding shape_of
row_shape want h = rw (lt-ltb want 100 h)

no_row : {A : Type 0} {a : A} → none ≡ some a → ⊥
no_row e = let z : ◌≡◌ {A = ℕ} 0 1 = cc in true≢false (ap (λ n. eqb n 0) z)

pub row_below : (spot : ℕ) (r : Row) → row_at spot ≡ some r → spot < 69
row_below spot r e = cases (leb 69 spot) (λ t. absurd (no_row (sym (row_past spot (leb-true 69 spot t)) ∙ e))) (λ f. leb-false 69 spot f)

-- a test that every row passes
pub every_row : (test : Row → Bool) → all_below 69 (λ k. if_some test (row_at k)) ≡ true → (spot : ℕ) (r : Row) → row_at spot ≡ some r → test r ≡ true
every_row test a spot r e = rw e at (all_below_lem 69 (λ k. if_some test (row_at k)) a spot (row_below spot r e))

-- ---- records

pub kind_numbered : (k : FileKind) → kind_at (kind_number k) ≡ some k
unfolding kind_at
kind_numbered TheFile = refl
kind_numbered HeldSnapshot = refl
kind_numbered HeldSchema = refl
kind_numbered HeldField = refl
kind_numbered HeldSpec = refl
kind_numbered HeldPartitionField = refl
kind_numbered HeldOrder = refl
kind_numbered HeldSortField = refl
kind_numbered HeldRef = refl
kind_numbered HeldLogEntry = refl
kind_numbered HeldFileEntry = refl
kind_numbered HeldStatistics = refl
kind_numbered HeldPartitionStatistics = refl

-- a record has one number
pub kind_number_lem : (n : ℕ) (k : FileKind) → kind_at n ≡ some k → n ≡ kind_number k
unfolding kind_at
kind_number_lem n k e =
    cases (leb 13 n)
    (λ t. absurd (no_row (sym (kind_past n (leb-true 13 n t)) ∙ e)))
    (λ f. eqb-true n (kind_number k) (rw e at (all_below_lem 13 (λ m. if_some (λ j. eqb m (kind_number j)) (kind_at m)) refl n (leb-false 13 n f))))

record_shape : (k : FileKind) → shape_of (100 + kind_number k) ≡ OfKind k
unfolding shape_of kind_at
record_shape TheFile = refl
record_shape HeldSnapshot = refl
record_shape HeldSchema = refl
record_shape HeldField = refl
record_shape HeldSpec = refl
record_shape HeldPartitionField = refl
record_shape HeldOrder = refl
record_shape HeldSortField = refl
record_shape HeldRef = refl
record_shape HeldLogEntry = refl
record_shape HeldFileEntry = refl
record_shape HeldStatistics = refl
record_shape HeldPartitionStatistics = refl

-- the record that is wanted
pub record_kind : (want : ℕ) (k : FileKind) → shape_of want ≡ OfKind k → kind_at (record_at want) ≡ some k
unfolding record_at
record_kind want k e = ap (λ s. kind_at (record_in s)) e ∙ kind_numbered k

abbrev pub is_record : FileShape → Bool
is_record (Single shape) = false
is_record IdOrNull = false
is_record (Several room each) = false
is_record (ByName room each) = false
is_record (OfKind kind) = true

no_record_in : (shape : FileShape) → is_record shape ≡ false → record_in shape ≡ no_kind
no_record_in (Single shape) e = refl
no_record_in IdOrNull e = refl
no_record_in (Several room each) e = refl
no_record_in (ByName room each) e = refl
no_record_in (OfKind kind) e = absurd (true≢false e)

-- where none is wanted
pub no_record : (want : ℕ) → is_record (shape_of want) ≡ false → record_at want ≡ no_kind
unfolding record_at
no_record want e = no_record_in (shape_of want) e

-- ---- elements

-- what stands in a list, or under names of its own, is a record
abbrev has_records : FileShape → Bool
has_records (Single shape) = true
has_records IdOrNull = true
has_records (Several room each) = is_record each
has_records (ByName room each) = is_record each
has_records (OfKind kind) = true

has_records_lem : (want : ℕ) → has_records (shape_of want) ≡ true
unfolding shape_of row_at kind_at
has_records_lem want =
    cases (leb 113 want)
    (λ t. ap has_records (shape_past want (leb-true 113 want t)))
    (λ f. all_below_lem 113 (λ k. has_records (shape_of k)) refl want (leb-false 113 want f))

-- the number of an element: it wants the shape, and takes as many cells
pub record ElementAt (item : ℕ) (each : FileShape) : Type 0 where
  pub shape : shape_of item ≡ each
  pub size : size_at item ≡ size_of each
  pub above : 100 ≤ item
  pub there : eqb item 0 ≡ false

element : (each : FileShape) → is_record each ≡ true → ElementAt (want_of_record each) each
unfolding size_at
element (Single shape) e = absurd (true≢false (sym e))
element IdOrNull e = absurd (true≢false (sym e))
element (Several room each) e = absurd (true≢false (sym e))
element (ByName room each) e = absurd (true≢false (sym e))
element (OfKind k) e =
    record {
      shape = record_shape k;
      size = ap size_of (record_shape k);
      above = omega arith;
      there = ne_eqb (100 + kind_number k) 0 (λ z. omega arith);
    }

-- a list is wanted
pub record ListAt (want room : ℕ) (each : FileShape) : Type 0 where
  pub element : ElementAt (item_at want) each
  pub room_is : room_at want ≡ room
  pub size : size_at want ≡ suc (room * size_at (item_at want))
  pub unnamed : named_at want ≡ 0
  pub no_record : record_at want ≡ no_kind

size_told : (want item : ℕ) {shape each : FileShape} (f : ℕ → ℕ) → shape_of want ≡ shape → size_of shape ≡ f (size_of each) → ElementAt item each → size_at want ≡ f (size_at item)
unfolding size_at
size_told want item f e s el = ap size_of e ∙ s ∙ ap f (sym el.size)

pub list_at : (want room : ℕ) (each : FileShape) → shape_of want ≡ Several room each → ListAt want room each
unfolding item_at named_at room_at record_at size_of
list_at want room each e =
    let el : ElementAt (item_at want) each = rw e (element each (rw e at (has_records_lem want))) in
    record { element = el; room_is = ap room_in e; size = size_told want (item_at want) (λ n. suc (room * n)) e refl el; unnamed = ap named_in e; no_record = ap record_in e }

-- an object under names of its own is wanted; each name has two cells
pub record NamedAt (want room : ℕ) (each : FileShape) : Type 0 where
  pub element : ElementAt (named_at want) each
  pub room_is : room_at want ≡ room
  pub size : size_at want ≡ suc (room * (2 + size_at (named_at want)))
  pub no_list : item_at want ≡ 0
  pub no_record : record_at want ≡ no_kind

pub named_at_lem : (want room : ℕ) (each : FileShape) → shape_of want ≡ ByName room each → NamedAt want room each
unfolding item_at named_at room_at record_at size_of
named_at_lem want room each e =
    let el : ElementAt (named_at want) each = rw e (element each (rw e at (has_records_lem want))) in
    record { element = el; room_is = ap room_in e; size = size_told want (named_at want) (λ n. suc (room * (2 + n))) e refl el; no_list = ap item_in e; no_record = ap record_in e }

-- a record is wanted
pub record RecordAt (want : ℕ) (k : FileKind) : Type 0 where
  pub kind : kind_at (record_at want) ≡ some k
  pub size : size_at want ≡ kind_size k
  pub no_list : item_at want ≡ 0
  pub unnamed : named_at want ≡ 0

pub record_at_lem : (want : ℕ) (k : FileKind) → shape_of want ≡ OfKind k → RecordAt want k
unfolding item_at named_at size_at size_of
record_at_lem want k e = record { kind = record_kind want k e; size = ap size_of e; no_list = ap item_in e; unnamed = ap named_in e }

-- a text, a number or a word is wanted, or anything
pub record SingleAt (want : ℕ) : Type 0 where
  pub no_list : item_at want ≡ 0
  pub unnamed : named_at want ≡ 0
  pub no_record : record_at want ≡ no_kind

pub single_at : (want : ℕ) (shape : Shape) → shape_of want ≡ Single shape → SingleAt want
unfolding item_at named_at record_at
single_at want shape e = record { no_list = ap item_in e; unnamed = ap named_in e; no_record = ap record_in e }

pub id_or_null_at : (want : ℕ) → shape_of want ≡ IdOrNull → SingleAt want
unfolding item_at named_at record_at
id_or_null_at want e = record { no_list = ap item_in e; unnamed = ap named_in e; no_record = ap record_in e }

-- ---- what a version publishes

-- what is wanted is what is published
pub record AsPublished (want : ℕ) (p : Published) : Type 0 where
  pub shape : shape_of want ≡ p.shape
  pub at_schema : stands_at_schema want ≡ p.of_schema

-- a row whole, or passed over in what is no version
data As (r : Row) : Option Published → Type 0 where
  gone : As r none
  whole : {p : Published} → p.shape ≡ r.shape → p.of_schema ≡ r.of_schema → As r (some p)
  over : {p : Published} → p.shape ≡ anything → p.of_schema ≡ false → As r (some p)

as_presence : (r : Row) (p : Presence) → As r (published r p)
as_presence r Required = whole refl refl
as_presence r Optional = whole refl refl
as_presence r Absent = gone

as_any : (r : Row) → As r (some (any_version r))
as_any r = cases (is_absent r.one || is_absent r.two || is_absent r.three) (λ t. over (rw t) (rw t)) (λ f. whole (rw f) (rw f))

as_row : (version : ℕ) (r : Row) → As r (row_in version r)
unfolding row_in
as_row version r =
    cases (eqb version 1)
    (λ t. rw t (as_presence r r.one))
    (λ a. cases (eqb version 2)
    (λ t. rw (a, t) (as_presence r r.two))
    (λ b. cases (eqb version 3) (λ t. rw (a, b, t) (as_presence r r.three)) (λ c. rw (a, b, c) (as_any r))))

-- what is wrong with what is passed over stands nowhere
abbrev is_plain : Row → Bool
is_plain r = not (passes_over r.shape) || not r.of_schema

over_plain : (spot : ℕ) (r : Row) → row_at spot ≡ some r → passes_over r.shape ≡ true → r.of_schema ≡ false
unfolding row_at
over_plain spot r e p = not-true r.of_schema (rw p at (every_row is_plain refl spot r e))

nothing_wanted : (p : Published) → p.shape ≡ anything → p.of_schema ≡ false → AsPublished 0 p
unfolding shape_of row_at stands_at_schema
nothing_wanted p s o = record { shape = sym s; at_schema = sym o }

schema_told : (spot : ℕ) (r : Row) → row_at spot ≡ some r → stands_at_schema spot ≡ r.of_schema
unfolding stands_at_schema
schema_told spot r e =
    rw (lt-ltb spot 100 (omega (arith, row_below spot r e))) (ap (λ (o : Option Row). elim o [ none ↦ false | some q ↦ q.of_schema ]) e)

member_told : (spot : ℕ) (r : Row) → row_at spot ≡ some r → shape_of spot ≡ r.shape
member_told spot r e = row_shape spot (omega (arith, row_below spot r e)) ∙ ap shape_of_row e

module _ (version spot : ℕ) (r : Row) (e : row_at spot ≡ some r) where
  passed_told : (o : Option Published) → row_in version r ≡ o → is_passed version spot ≡ is_passed_by o
  unfolding is_passed
  passed_told o h = ap (λ (x : Option Row). elim x [ none ↦ true | some q ↦ is_passed_by (row_in version q) ]) e ∙ ap is_passed_by h

  as_told : (p : Published) → row_in version r ≡ some p → As r (some p) → AsPublished (want_in version spot) p
  unfolding want_in
  as_told p h (whole s o) =
      cases (passes_over p.shape)
      (λ t. rw (passed_told (some p) h, t) (nothing_wanted p (passes_is p.shape t) (o ∙ over_plain spot r e (sym (ap passes_over s) ∙ t))))
      (λ f. rw (passed_told (some p) h, f) (record { shape = member_told spot r e ∙ sym s; at_schema = schema_told spot r e ∙ sym o }))
  as_told p h (over s o) = rw (passed_told (some p) h ∙ ap passes_over s) (nothing_wanted p s o)

row_told : (version spot : ℕ) (p : Published) (o : Option Row) → row_at spot ≡ o → published_of version o ≡ some p → AsPublished (want_in version spot) p
row_told version spot p none e h = absurd (no_row h)
row_told version spot p (some r) e h = as_told version spot r e p h (subst (As r) h (as_row version r))

pub as_published : (version spot : ℕ) (p : Published) → published_at version spot ≡ some p → AsPublished (want_in version spot) p
unfolding published_at
as_published version spot p h = row_told version spot p (row_at spot) refl h

-- where nothing is published, anything is wanted
none_told : (version spot : ℕ) (o : Option Row) → published_of version o ≡ none → elim o [ none ↦ true | some q ↦ is_passed_by (row_in version q) ] ≡ true
none_told version spot none h = refl
none_told version spot (some r) h = ap is_passed_by h

pub not_published_lem : (version spot : ℕ) → published_at version spot ≡ none → want_in version spot ≡ 0
unfolding published_at want_in is_passed
not_published_lem version spot h = rw (none_told version spot (row_at spot) h)

pub nothing_at : (version : ℕ) → want_in version 0 ≡ 0
unfolding want_in is_passed row_at
nothing_at version = refl
