-- What holds of whatever is wanted at a place: lists are of records, their rooms are small, and only what is single is refused at the schema.
use Prim.Native.Nat.{ℕ, zero, suc, ◌+◌, ◌-◌, ◌≤◌}
use native.Mathlib.Omega.{arith}
use mathlib.Core.Path.{◌≡◌, refl}
use mathlib.Core.Bool.{Bool, true, false, not, ◌&&◌}
use mathlib.Core.List.{List, [], ◌∷◌}
use mathlib.Core.Option.{Option, none, some}
use lib.Dec.{eqb, leb, ltb}
use borrow.Table.Steps.{cases}
use borrow.Author.Tests.{leb-true}
use Rattle.rules.specs.Words.{all}
use Rattle.rules.proofs.Checks.{and_left, and_right}
use Rattle.file_rule.specs.Tables.{FileKind, TheFile, HeldSnapshot, HeldSchema, HeldField, HeldSpec, HeldPartitionField, HeldOrder, HeldSortField, HeldRef, HeldLogEntry, HeldFileEntry, HeldStatistics, HeldPartitionStatistics, FileShape, Single, IdOrNull, Several, ByName, OfKind, Row, anything}
use Rattle.file_cells.specs.Wants.{kind_number, kind_at, kinds, nth, all_rows_of, row_at, shape_of_row, shape_of_kind, shape_of, stands_at_schema, want_of_record, item_in, named_in, room_in, item_at, named_at, room_at}
use Rattle.file_cells.specs.Cells.{kind_size, size_of, size_at}
use Rattle.file_walk.specs.Outcomes.{Meant}

abbrev pub is_record : FileShape → Bool
is_record (Single shape) = false
is_record IdOrNull = false
is_record (Several room each) = false
is_record (ByName room each) = false
is_record (OfKind kind) = true

-- the flag says that what is wrong stands at the schema
abbrev pub sound : FileShape → Bool → Bool
sound (Single shape) of_schema = true
sound IdOrNull of_schema = not of_schema
sound (Several room each) of_schema = not of_schema && (leb room 128 && is_record each)
sound (ByName room each) of_schema = not of_schema && (leb room 128 && is_record each)
sound (OfKind kind) of_schema = not of_schema

abbrev sound_row : Row → Bool
sound_row r = sound r.shape r.of_schema

all_sound : all sound_row (all_rows_of kinds) ≡ true
all_sound = refl

nth_all : {A : Type 0} (p : A → Bool) (xs : List A) (n : ℕ) (x : A) → all p xs ≡ true → nth n xs ≡ some x → p x ≡ true
nth_all p [] n x h e = let z : ◌≡◌ {A = ℕ} 0 1 = cc in absurd (omega arith)
nth_all p (y ∷ ys) zero x h e = let f : y ≡ x = cc in rw (← f) (and_left (p y) (all p ys) h)
nth_all p (y ∷ ys) (suc n) x h e = nth_all p ys n x (and_right (p y) (all p ys) h) e

row_sound : (n : ℕ) (o : Option Row) → row_at n ≡ o → sound (shape_of_row o) (elim o as (λ x. Bool) [ none ↦ false | some r ↦ r.of_schema ]) ≡ true
unfolding row_at
row_sound n none e = refl
row_sound zero (some r) e = let z : ◌≡◌ {A = ℕ} 0 1 = cc in absurd (omega arith)
row_sound (suc n) (some r) e = nth_all sound_row (all_rows_of kinds) n r all_sound e

kind_sound : (o : Option FileKind) → sound (shape_of_kind o) false ≡ true
kind_sound none = refl
kind_sound (some k) = refl

pub always_sound : (want : ℕ) → sound (shape_of want) (stands_at_schema want) ≡ true
unfolding shape_of stands_at_schema
always_sound want = cases (ltb want 100) (λ e. rw e (row_sound want (row_at want) refl)) (λ e. rw e (kind_sound (kind_at (want - 100))))

-- ---- records

pub record_shape : (k : FileKind) → shape_of (100 + kind_number k) ≡ OfKind k
unfolding shape_of kind_at
record_shape TheFile = refl
record_shape HeldSnapshot = refl
record_shape HeldSchema = refl
record_shape HeldField = refl
record_shape HeldSpec = refl
record_shape HeldPartitionField = refl
record_shape HeldOrder = refl
record_shape HeldSortField = refl
record_shape HeldRef = refl
record_shape HeldLogEntry = refl
record_shape HeldFileEntry = refl
record_shape HeldStatistics = refl
record_shape HeldPartitionStatistics = refl

pub record_plain : (k : FileKind) → stands_at_schema (100 + kind_number k) ≡ false
unfolding stands_at_schema
record_plain TheFile = refl
record_plain HeldSnapshot = refl
record_plain HeldSchema = refl
record_plain HeldField = refl
record_plain HeldSpec = refl
record_plain HeldPartitionField = refl
record_plain HeldOrder = refl
record_plain HeldSortField = refl
record_plain HeldRef = refl
record_plain HeldLogEntry = refl
record_plain HeldFileEntry = refl
record_plain HeldStatistics = refl
record_plain HeldPartitionStatistics = refl

pub record_some : (k : FileKind) → eqb (100 + kind_number k) 0 ≡ false
record_some TheFile = refl
record_some HeldSnapshot = refl
record_some HeldSchema = refl
record_some HeldField = refl
record_some HeldSpec = refl
record_some HeldPartitionField = refl
record_some HeldOrder = refl
record_some HeldSortField = refl
record_some HeldRef = refl
record_some HeldLogEntry = refl
record_some HeldFileEntry = refl
record_some HeldStatistics = refl
record_some HeldPartitionStatistics = refl

pub nothing_shape : shape_of 0 ≡ anything
unfolding shape_of row_at
nothing_shape = refl

pub nothing_plain : stands_at_schema 0 ≡ false
unfolding stands_at_schema row_at
nothing_plain = refl

-- ---- what an element is to be: nothing, or a record

pub record Element (each : ℕ) : Type 0 where
  pub meant : Meant each
  pub plain : stands_at_schema each ≡ false
  pub small : size_at each ≤ 9047

no_element_lem : Element 0
unfolding size_at size_of shape_of row_at
no_element_lem = record { meant = record { passes = refl }; plain = nothing_plain; small = omega arith }

kind_small : (k : FileKind) → kind_size k ≤ 9047
kind_small TheFile = omega arith
kind_small HeldSnapshot = omega arith
kind_small HeldSchema = omega arith
kind_small HeldField = omega arith
kind_small HeldSpec = omega arith
kind_small HeldPartitionField = omega arith
kind_small HeldOrder = omega arith
kind_small HeldSortField = omega arith
kind_small HeldRef = omega arith
kind_small HeldLogEntry = omega arith
kind_small HeldFileEntry = omega arith
kind_small HeldStatistics = omega arith
kind_small HeldPartitionStatistics = omega arith

pub record_element : (k : FileKind) → Element (100 + kind_number k)
unfolding size_at size_of
record_element k = record { meant = record { passes = rw (record_shape k) (record_some k) }; plain = record_plain k; small = rw (record_shape k) (kind_small k) }

of_record : (shape : FileShape) → Element (want_of_record shape)
of_record (Single shape) = no_element_lem
of_record IdOrNull = no_element_lem
of_record (Several room each) = no_element_lem
of_record (ByName room each) = no_element_lem
of_record (OfKind k) = record_element k

item_in_lem : (shape : FileShape) → Element (item_in shape)
item_in_lem (Single shape) = no_element_lem
item_in_lem IdOrNull = no_element_lem
item_in_lem (Several room each) = of_record each
item_in_lem (ByName room each) = no_element_lem
item_in_lem (OfKind k) = no_element_lem

named_in_lem : (shape : FileShape) → Element (named_in shape)
named_in_lem (Single shape) = no_element_lem
named_in_lem IdOrNull = no_element_lem
named_in_lem (Several room each) = no_element_lem
named_in_lem (ByName room each) = of_record each
named_in_lem (OfKind k) = no_element_lem

pub item_element : (want : ℕ) → Element (item_at want)
unfolding item_at
item_element want = item_in_lem (shape_of want)

pub named_element : (want : ℕ) → Element (named_at want)
unfolding named_at
named_element want = named_in_lem (shape_of want)

room_in_lem : (shape : FileShape) (b : Bool) → sound shape b ≡ true → room_in shape ≤ 128
room_in_lem (Single shape) b h = omega arith
room_in_lem IdOrNull b h = omega arith
room_in_lem (Several room each) b h = leb-true room 128 (and_left (leb room 128) (is_record each) (and_right (not b) (leb room 128 && is_record each) h))
room_in_lem (ByName room each) b h = leb-true room 128 (and_left (leb room 128) (is_record each) (and_right (not b) (leb room 128 && is_record each) h))
room_in_lem (OfKind k) b h = omega arith

pub room_small : (want : ℕ) → room_at want ≤ 128
unfolding room_at
room_small want = room_in_lem (shape_of want) (stands_at_schema want) (always_sound want)
