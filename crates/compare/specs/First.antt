-- The first difference of two things that are made of parts in an order, each of them records and a count.
use Rattle.std.specs.Prelude.{ℕ, suc, Bool, cond, List, [], ◌∷◌, eqb}
use Rattle.std.proofs.Math.Option.{Option, none, some}
use Rattle.compare.specs.declared.difference.Difference.{Difference}

-- where two lists of records differ, of which the first stand at a place: at the first records that are not the same, or where one list ends
-- before the other; past all records where only the counts differ; none where nothing does
abbrev pub unlike : {A : Type 0} → (A → A → Bool) → ℕ → List A → List A → ℕ → ℕ → Option ℕ
unlike same at [] [] m n = cond (eqb m n) none (some at)
unlike same at [] (y ∷ ys) m n = some at
unlike same at (x ∷ xs) [] m n = some at
unlike same at (x ∷ xs) (y ∷ ys) m n = cond (same x y) (unlike same (suc at) xs ys m n) (some at)

-- a part of two things: its records and their count in each, and when two records are the same
pub record Part : Type 1 where
  pub Record : Type 0
  pub same : Record → Record → Bool
  pub ours : List Record
  pub theirs : List Record
  pub our_count : ℕ
  pub their_count : ℕ

abbrev pub table : {A : Type 0} → (A → A → Bool) → List A → List A → ℕ → ℕ → Part
table {A} same xs ys m n = record { Record = A; same = same; ours = xs; theirs = ys; our_count = m; their_count = n }

-- a field is a part with one record
abbrev pub field : {A : Type 0} → (A → A → Bool) → A → A → Part
field same x y = table same (x ∷ []) (y ∷ []) 0 0

abbrev pub place : Part → Option ℕ
place p = unlike p.same 0 p.ours p.theirs p.our_count p.their_count

-- a difference in the part with a number, if there is one, and else a later one
abbrev pub in_part : ℕ → Option ℕ → Difference → Difference
in_part n none later = later
in_part n (some at) later = record { part = n; place = at }

-- the first difference of parts that are numbered from a number on, and else a later one
abbrev pub first : ℕ → List Part → Difference → Difference
first n [] later = later
first n (p ∷ ps) later = in_part n (place p) (first (suc n) ps later)
