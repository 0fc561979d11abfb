-- What the cells hold when a tree was read, of as much of it as was read. They hold what the file says where nothing is wrong with it.
use Rattle.std.specs.Prelude.{ℕ, zero, suc, ◌+◌, ◌*◌, ◌^◌, Bool, true, false, cond, ◌&&◌, List, [], ◌∷◌, eqb, ltb, ℤ, pos, negsuc, set}
use Rattle.std.proofs.Math.Option.{Option, none, some}
use Rattle.json_rule.specs.Lexemes.{Lexeme}
use Rattle.json_rule.specs.Values.{text_of, whole_number_of}
use Rattle.json_rule.specs.Tree.{Json, Scalar, Array, Object, Items, no_item, item, Members, no_member, bare_name, member}
use Rattle.json_rule.specs.Defects.{with_name}
use Rattle.file_cells.specs.Wants.{spot_for, want_in, item_at, named_at, room_at, record_at}
use Rattle.file_cells.specs.Cells.{size_at, offset_at}

-- a number without its sign
abbrev pub magnitude : ℤ → ℕ
magnitude (pos n) = n
magnitude (negsuc n) = suc n

-- of a whole number below 2^64 its magnitude; 0 of everything else
unfoldable pub magnitude_of : Lexeme → ℕ
magnitude_of t = elim (whole_number_of t) [ none ↦ 0 | some z ↦ cond (ltb (magnitude z) (2 ^ 64)) (magnitude z) 0 ]

-- a value: one more than its place, and a magnitude
unfoldable pub put_value : ℕ → ℕ → ℕ → List ℕ → List ℕ
put_value base place size cells = set (set cells base (suc place)) (suc base) size

-- one more than a count, where something is counted
unfoldable pub put_count : ℕ → ℕ → ℕ → List ℕ → List ℕ
put_count each base count cells = cond (eqb each 0) cells (set cells base (suc count))

-- one more, up to the room
abbrev pub next_count : ℕ → ℕ → ℕ
next_count room count = cond (ltb count room) (suc count) count

-- the cells of an element: behind the count, one after the other
abbrev pub item_cells : ℕ → ℕ → ℕ → ℕ
item_cells base each count = suc base + count * size_at each

-- under names of their own: each has its name in front
abbrev pub named_cells : ℕ → ℕ → ℕ → ℕ
named_cells base each count = suc base + count * (2 + size_at each)

abbrev pub count_items : ℕ → ℕ → Items → ℕ
count_items room count no_item = count
count_items room count (item x xs) = count_items room (next_count room count) xs

abbrev pub count_named : ℕ → ℕ → Members → ℕ
count_named room count no_member = count
count_named room count (bare_name t) = count
count_named room count (member t x ms) = count_named room (next_count room count) ms

module _ (version : ℕ) where
  unfoldable mutual
    -- what is wanted, the first of its cells, and the value
    pub filled : ℕ → ℕ → Json → List ℕ → List ℕ
    filled want base (Scalar t) cells = cond (eqb want 0) cells (put_value base t.first (magnitude_of t) cells)
    filled want base (Array place xs closed) cells =
        cond closed
        (put_count (item_at want) base (count_items (room_at want) 0 xs) (filled_items (item_at want) (room_at want) base 0 xs cells))
        (filled_items (item_at want) (room_at want) base 0 xs cells)
    filled want base (Object place ms closed) cells =
        cond (eqb (named_at want) 0)
        (filled_members (record_at want) base [] ms cells)
        (cond closed
        (put_count (named_at want) base (count_named (room_at want) 0 ms) (filled_named (named_at want) (room_at want) base 0 ms cells))
        (filled_named (named_at want) (room_at want) base 0 ms cells))

    pub filled_items : ℕ → ℕ → ℕ → ℕ → Items → List ℕ → List ℕ
    filled_items each room base count no_item cells = cells
    filled_items each room base count (item x xs) cells = filled_items each room base (next_count room count) xs (filled each (item_cells base each count) x cells)

    -- of a record, the names that were there before
    pub filled_members : ℕ → ℕ → List (List ℕ) → Members → List ℕ → List ℕ
    filled_members kind base seen no_member cells = cells
    filled_members kind base seen (bare_name t) cells = cells
    filled_members kind base seen (member t x ms) cells =
        filled_members kind base (with_name seen (text_of t)) ms (filled (want_in version (spot_for version kind seen t)) (base + offset_at (spot_for version kind seen t)) x cells)

    pub filled_named : ℕ → ℕ → ℕ → ℕ → Members → List ℕ → List ℕ
    filled_named each room base count no_member cells = cells
    filled_named each room base count (bare_name t) cells = cells
    filled_named each room base count (member t x ms) cells =
        filled_named each room base (next_count room count) ms
        (filled each (2 + named_cells base each count) x (put_value (named_cells base each count) t.first 0 cells))
