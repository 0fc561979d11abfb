-- What it is that the cells hold the value of a tree: member by member, element by element, each in the cells that are meant for it.
use Rattle.std.specs.Prelude.{ℕ, suc, ◌+◌, ◌<◌, ◌≡◌, Bool, true, false, not, ◌&&◌, List, [], eqb, get_or}
use Rattle.std.proofs.Math.Option.{some}
use Rattle.json_rule.specs.Values.{text_of}
use Rattle.json_rule.specs.Tree.{Json, Scalar, Array, Object, Items, no_item, item, Members, no_member, bare_name, member}
use Rattle.json_rule.specs.Members.{is_one_of}
use Rattle.json_rule.specs.Defects.{count_of, with_name}
use Rattle.file_rule.specs.Tables.{FileKind, Row, rows_of}
use Rattle.file_rule.specs.FileDefects.{members_count}
use Rattle.file_cells.specs.Wants.{nth, kind_at, first_spot, spot_for, want_in, item_at, named_at, record_at}
use Rattle.file_cells.specs.Cells.{size_of, offset_at}
use Rattle.file_cells.specs.Filled.{magnitude_of, item_cells, named_cells}

-- one more than a place, and a magnitude
abbrev pub HoldsValue : ℕ → ℕ → ℕ → List ℕ → Type 0
HoldsValue base place size cells = (get_or cells base 0 ≡ suc place) × (get_or cells (suc base) 0 ≡ size)

module _ (version : ℕ) where
  -- a member's name was there, and the version holds its value
  abbrev pub is_written : List (List ℕ) → ℕ → Row → Bool
  is_written seen spot r = is_one_of seen r.name && not (eqb (want_in version spot) 0)

  -- the cells of a record's members that were not there are as they were before anything was read
  unfoldable pub HoldNoOther : ℕ → ℕ → List (List ℕ) → List ℕ → Type 0
  HoldNoOther kind base seen cells =
      (k : FileKind) (p : ℕ) (r : Row) → kind_at kind ≡ some k → nth p (rows_of k) ≡ some r → is_written seen (first_spot k + p) r ≡ false
      → (i : ℕ) → i < size_of r.shape → get_or cells (base + offset_at (first_spot k + p) + i) 0 ≡ 0

  unfoldable mutual
    -- what is wanted, the first of its cells, the value, and the cells
    pub Holds : ℕ → ℕ → Json → List ℕ → Type 0
    Holds want base (Scalar t) cells = eqb want 0 ≡ false → HoldsValue base t.first (magnitude_of t) cells
    Holds want base (Array place xs closed) cells =
        eqb (item_at want) 0 ≡ false → (get_or cells base 0 ≡ suc (count_of xs)) × HoldItems (item_at want) base 0 xs cells
    Holds want base (Object place ms closed) cells =
        (eqb (named_at want) 0 ≡ true → HoldMembers (record_at want) base [] ms cells)
        × (eqb (named_at want) 0 ≡ false → (get_or cells base 0 ≡ suc (members_count ms)) × HoldNamed (named_at want) base 0 ms cells)

    -- the elements from so many on
    pub HoldItems : ℕ → ℕ → ℕ → Items → List ℕ → Type 0
    HoldItems each base count no_item cells = Unit {0}
    HoldItems each base count (item x xs) cells = Holds each (item_cells base each count) x cells × HoldItems each base (suc count) xs cells

    -- of a record, the names that were there before
    pub HoldMembers : ℕ → ℕ → List (List ℕ) → Members → List ℕ → Type 0
    HoldMembers kind base seen no_member cells = HoldNoOther kind base seen cells
    HoldMembers kind base seen (bare_name t) cells = Unit {0}
    HoldMembers kind base seen (member t x ms) cells =
        Holds (want_in version (spot_for version kind seen t)) (base + offset_at (spot_for version kind seen t)) x cells
        × HoldMembers kind base (with_name seen (text_of t)) ms cells

    -- under names of their own: each has its name in front
    pub HoldNamed : ℕ → ℕ → ℕ → Members → List ℕ → Type 0
    HoldNamed each base count no_member cells = Unit {0}
    HoldNamed each base count (bare_name t) cells = Unit {0}
    HoldNamed each base count (member t x ms) cells =
        HoldsValue (named_cells base each count) t.first 0 cells
        × Holds each (2 + named_cells base each count) x cells
        × HoldNamed each base (suc count) ms cells
