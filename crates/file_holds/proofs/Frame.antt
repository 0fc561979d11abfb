-- What is put into the cells of a value leaves the cells around it as they were.
use Prim.Native.Nat.{ℕ, suc, ◌+◌, ◌*◌, ◌≤◌, ◌<◌}
use native.Mathlib.Omega.{arith}
use native.Mathlib.Nat.{mul-le-mul_right, suc-mul}
use mathlib.Core.Path.{◌≡◌, refl, ap, ◌∙◌}
use mathlib.Core.Bool.{Bool, true, false}
use mathlib.Core.List.{List, []}
use mathlib.Core.Option.{Option, none, some}
use borrow.Table.Steps.{cases}
use borrow.Author.Tests.{eqb-true, lt-ltb}
use lib.Dec.{eqb}
use lib.ListN.{length, get_or, set, length-set}
use lib.Seq.{get_or-set_other}
use Rattle.rules.specs.Words.{same_bytes}
use Rattle.rules.proofs.Checks.{neither}
use Rattle.json_rule.specs.Lexemes.{Lexeme}
use Rattle.json_rule.specs.Values.{text_of}
use Rattle.json_rule.specs.Tree.{Json, Scalar, Array, Object, Items, no_item, item, Members, no_member, bare_name, member}
use Rattle.json_rule.specs.Members.{is_one_of}
use Rattle.json_rule.specs.Defects.{count_of, with_name}
use Rattle.file_rule.specs.Tables.{FileKind, Row, rows_of}
use Rattle.file_rule.specs.FileDefects.{members_count}
use Rattle.file_cells.specs.Wants.{nth, kind_at, first_spot, row_at, spot_for, want_in, shape_of, item_at, named_at, room_at, record_at}
use Rattle.file_cells.specs.Cells.{size_of, sizes_of, size_at, kind_size, before, offset_at}
use Rattle.file_cells.proofs.Sizes.{sizes}
use Rattle.file_cells.specs.Filled.{magnitude_of, put_value, put_count, next_count, item_cells, named_cells, count_items, count_named, filled, filled_items, filled_members, filled_named}
use Rattle.file_holds.proofs.Spots.{nth_bound, offset_at_lem}
use Rattle.file_holds.proofs.Rows.{inside}
use Rattle.file_holds.proofs.Right.{Right, RightItems, RightMembers, RightNamed, want_of_none}
use Rattle.file_holds.proofs.Spotted.{shape_at, Spotted, spotted}

-- ---- as many cells as before

module _ (version : ℕ) where
  pub put_value_length : (base place size : ℕ) (cells : List ℕ) → length (put_value base place size cells) ≡ length cells
  unfolding put_value
  put_value_length base place size cells = length-set (set cells base (suc place)) (suc base) size ∙ length-set cells base (suc place)

  pub put_count_length : (each base count : ℕ) (cells : List ℕ) → length (put_count each base count cells) ≡ length cells
  unfolding put_count
  put_count_length each base count cells = cases (eqb each 0) (λ b. rw b) (λ b. rw b (length-set cells base (suc count)))

  mutual
    unfolding filled

    pub filled_length : (want base : ℕ) (x : Json) (cells : List ℕ) → length (filled version want base x cells) ≡ length cells
    filled_length want base (Scalar t) cells = cases (eqb want 0) (λ b. rw b) (λ b. rw b (put_value_length base t.first (magnitude_of t) cells))
    filled_length want base (Array place xs true) cells = put_count_length (item_at want) base (count_items (room_at want) 0 xs) _ ∙ items_length (item_at want) (room_at want) base 0 xs cells
    filled_length want base (Array place xs false) cells = items_length (item_at want) (room_at want) base 0 xs cells
    filled_length want base (Object place ms true) cells =
        cases (eqb (named_at want) 0)
        (λ b. rw b (members_length (record_at want) base [] ms cells))
        (λ b. rw b (put_count_length (named_at want) base (count_named (room_at want) 0 ms) _ ∙ named_length (named_at want) (room_at want) base 0 ms cells))
    filled_length want base (Object place ms false) cells =
        cases (eqb (named_at want) 0)
        (λ b. rw b (members_length (record_at want) base [] ms cells))
        (λ b. rw b (named_length (named_at want) (room_at want) base 0 ms cells))

    pub items_length : (each room base count : ℕ) (xs : Items) (cells : List ℕ) → length (filled_items version each room base count xs cells) ≡ length cells
    items_length each room base count no_item cells = refl
    items_length each room base count (item x xs) cells =
        items_length each room base (next_count room count) xs (filled version each (item_cells base each count) x cells) ∙ filled_length each (item_cells base each count) x cells

    pub members_length : (kind base : ℕ) (seen : List (List ℕ)) (ms : Members) (cells : List ℕ) → length (filled_members version kind base seen ms cells) ≡ length cells
    members_length kind base seen no_member cells = refl
    members_length kind base seen (bare_name t) cells = refl
    members_length kind base seen (member t x ms) cells =
        members_length kind base (with_name seen (text_of t)) ms _ ∙ filled_length (want_in version (spot_for version kind seen t)) (base + offset_at (spot_for version kind seen t)) x cells

    pub named_length : (each room base count : ℕ) (ms : Members) (cells : List ℕ) → length (filled_named version each room base count ms cells) ≡ length cells
    named_length each room base count no_member cells = refl
    named_length each room base count (bare_name t) cells = refl
    named_length each room base count (member t x ms) cells =
        named_length each room base (next_count room count) ms _ ∙ filled_length each (2 + named_cells base each count) x _ ∙ put_value_length (named_cells base each count) t.first 0 cells

  -- ---- nothing is put where anything may stand

  mutual
    unfolding filled shape_of row_at item_at named_at record_at kind_at put_count

    pub filled_nothing : (base : ℕ) (x : Json) (cells : List ℕ) → filled version 0 base x cells ≡ cells
    filled_nothing base (Scalar t) cells = refl
    filled_nothing base (Array place xs true) cells = no_items (room_at 0) base 0 xs cells
    filled_nothing base (Array place xs false) cells = no_items (room_at 0) base 0 xs cells
    filled_nothing base (Object place ms closed) cells = no_members 13 base [] ms cells refl

    no_items : (room base count : ℕ) (xs : Items) (cells : List ℕ) → filled_items version 0 room base count xs cells ≡ cells
    no_items room base count no_item cells = refl
    no_items room base count (item x xs) cells =
        ap (filled_items version 0 room base (next_count room count) xs) (filled_nothing (item_cells base 0 count) x cells) ∙ no_items room base (next_count room count) xs cells

    -- the members of what is no record
    pub no_members : (kind base : ℕ) (seen : List (List ℕ)) (ms : Members) (cells : List ℕ) → kind_at kind ≡ none → filled_members version kind base seen ms cells ≡ cells
    no_members kind base seen no_member cells e = refl
    no_members kind base seen (bare_name t) cells e = refl
    no_members kind base seen (member t x ms) cells e =
        ap (filled_members version kind base (with_name seen (text_of t)) ms)
        (ap (λ (w : ℕ). filled version w (base + offset_at (spot_for version kind seen t)) x cells) (want_of_none version kind seen t e) ∙ filled_nothing (base + offset_at (spot_for version kind seen t)) x cells)
        ∙ no_members kind base (with_name seen (text_of t)) ms cells e

-- ---- around

-- a cell before the first of some, or not before their end
pub data Outside (from to c : ℕ) : Type 0 where
  below : c < from → Outside from to c
  above : to ≤ c → Outside from to c

pub not_within : {from to c : ℕ} (i : ℕ) → Outside from to c → from ≤ i → i < to → c ≡ i → ⊥
not_within i (below h) a b e = omega arith
not_within i (above h) a b e = omega arith

pub part_of : {from to c : ℕ} (f t : ℕ) → Outside from to c → from ≤ f → t ≤ to → Outside f t c
part_of f t (below h) a b = below (omega arith)
part_of f t (above h) a b = above (omega arith)

-- the cells of an element end before the room does
pub element_fits : (count room size : ℕ) → count < room → count * size + size ≤ room * size
element_fits count room size h = let k : suc count * size ≤ room * size = mul-le-mul_right size h in omega (arith, suc-mul count size)

pub put_value_outside : (base place size : ℕ) (cells : List ℕ) (c : ℕ) → Outside base (2 + base) c → get_or (put_value base place size cells) c 0 ≡ get_or cells c 0
unfolding put_value
put_value_outside base place size cells c o =
    get_or-set_other (set cells base (suc place)) (suc base) c size 0 (not_within (suc base) o (omega arith) (omega arith))
    ∙ get_or-set_other cells base c (suc place) 0 (not_within base o (omega arith) (omega arith))

pub next_count_lem : (room count : ℕ) → count < room → next_count room count ≡ suc count
next_count_lem room count h = rw (lt-ltb count room h)

module _ (version : ℕ) where
  -- the cells of a member whose value is held are those of its row
  pub spotted_offset : {kind : ℕ} {seen : List (List ℕ)} {t : Lexeme} (s : Spotted version kind seen t) → offset_at (spot_for version kind seen t) ≡ offset_at (first_spot s.record_kind + s.place)
  spotted_offset s = ap offset_at s.spot

  pub spotted_size : {kind : ℕ} {seen : List (List ℕ)} {t : Lexeme} (s : Spotted version kind seen t) → size_at (want_in version (spot_for version kind seen t)) ≡ size_of s.row.shape
  unfolding size_at
  spotted_size s = ap size_at s.want ∙ ap size_of (shape_at s.record_kind s.place s.row s.there)

  -- a cell of no row whose name was not there
  unfoldable pub Clear : ℕ → ℕ → List (List ℕ) → ℕ → Type 0
  Clear kind base seen c =
      (k : FileKind) (p : ℕ) (r : Row) → kind_at kind ≡ some k → nth p (rows_of k) ≡ some r → is_one_of seen r.name ≡ false
      → Outside (base + offset_at (first_spot k + p)) (base + offset_at (first_spot k + p) + size_of r.shape) c

  clear_more : (kind base : ℕ) (seen : List (List ℕ)) (m : Option (List ℕ)) (c : ℕ) → Clear kind base seen c → Clear kind base (with_name seen m) c
  unfolding Clear
  clear_more kind base seen none c h = h
  clear_more kind base seen (some n) c h = λ k p r e f g. h k p r e f (neither (same_bytes r.name n) (is_one_of seen r.name) g).1

  -- no name is there yet: a cell outside those of a record
  pub clear_record : (kind base size c : ℕ) → ((k : FileKind) → kind_at kind ≡ some k → size ≡ kind_size k) → Outside base (base + size) c → Clear kind base [] c
  unfolding Clear
  clear_record kind base size c s o k p r e f g =
      let i : before p (rows_of k) + size_of r.shape ≤ sizes_of (rows_of k) = inside (rows_of k) p r f in
      let b : offset_at (first_spot k + p) ≡ before p (rows_of k) = offset_at_lem k p (nth_bound (rows_of k) p r f) in
      part_of (base + offset_at (first_spot k + p)) (base + offset_at (first_spot k + p) + size_of r.shape) o (omega arith) (omega (arith, s k e, sizes k))

  clear_spot : (kind base : ℕ) (seen : List (List ℕ)) (t : Lexeme) (c : ℕ) → Spotted version kind seen t → Clear kind base seen c
      → Outside (base + offset_at (spot_for version kind seen t)) (base + offset_at (spot_for version kind seen t) + size_at (want_in version (spot_for version kind seen t))) c
  unfolding Clear
  clear_spot kind base seen t c s h = rw (spotted_offset s, spotted_size s) (h s.record_kind s.place s.row s.is_kind s.there s.fresh)

  list_nothing : (want base place : ℕ) (xs : Items) (closed : Bool) (cells : List ℕ) → eqb (item_at want) 0 ≡ true → filled version want base (Array place xs closed) cells ≡ cells
  unfolding filled put_count
  list_nothing want base place xs true cells b = rw (b, eqb-true (item_at want) 0 b) (no_items version (room_at want) base 0 xs cells)
  list_nothing want base place xs false cells b = rw (eqb-true (item_at want) 0 b) (no_items version (room_at want) base 0 xs cells)

  put_count_outside : (each base count : ℕ) (cells : List ℕ) (c : ℕ) → (c ≡ base → ⊥) → get_or (put_count each base count cells) c 0 ≡ get_or cells c 0
  unfolding put_count
  put_count_outside each base count cells c n = cases (eqb each 0) (λ b. rw b) (λ b. rw b (get_or-set_other cells base c (suc count) 0 n))

  -- one more, where there is room
  pub named_step : (each room base count : ℕ) (t : Lexeme) (x : Json) (ms : Members) (cells : List ℕ) → count < room
      → filled_named version each room base count (member t x ms) cells
      ≡ filled_named version each room base (suc count) ms (filled version each (2 + named_cells base each count) x (put_value (named_cells base each count) t.first 0 cells))
  unfolding filled
  named_step each room base count t x ms cells h =
      ap (λ (n : ℕ). filled_named version each room base n ms (filled version each (2 + named_cells base each count) x (put_value (named_cells base each count) t.first 0 cells))) (next_count_lem room count h)

  pub items_step : (each room base count : ℕ) (x : Json) (xs : Items) (cells : List ℕ) → count < room
      → filled_items version each room base count (item x xs) cells ≡ filled_items version each room base (suc count) xs (filled version each (item_cells base each count) x cells)
  unfolding filled
  items_step each room base count x xs cells h = ap (λ (n : ℕ). filled_items version each room base n xs (filled version each (item_cells base each count) x cells)) (next_count_lem room count h)

  mutual
    unfolding filled Right

    pub outside : (want base : ℕ) (x : Json) (cells : List ℕ) (c : ℕ) → Right version want x → Outside base (base + size_at want) c → get_or (filled version want base x cells) c 0 ≡ get_or cells c 0
    outside want base (Scalar t) cells c r o =
        cases (eqb want 0)
        (λ b. rw b)
        (λ b. rw b (put_value_outside base t.first (magnitude_of t) cells c (part_of base (2 + base) o (omega arith) (omega (arith, r b)))))
    outside want base (Array place xs closed) cells c r o =
        cases (eqb (item_at want) 0)
        (λ b. ap (λ (l : List ℕ). get_or l c 0) (list_nothing want base place xs closed cells b))
        (λ b. let q = r b in
        rw q.0 (put_count_outside (item_at want) base (count_items (room_at want) 0 xs) _ c (not_within base o (omega arith) (omega (arith, q.2)))
        ∙ items_outside (item_at want) (room_at want) base 0 xs cells c q.3 (omega (arith, q.1)) (part_of (item_cells base (item_at want) 0) (suc base + room_at want * size_at (item_at want)) o (omega arith) (omega (arith, q.2)))))
    outside want base (Object place ms closed) cells c r o =
        cases (eqb (named_at want) 0)
        (λ b. let q = r.0 b in
        rw b (members_outside (record_at want) base [] ms cells c q.1 (clear_record (record_at want) base (size_at want) c q.0 o)))
        (λ b. let q = r.1 b in
        rw (b, q.0) (put_count_outside (named_at want) base (count_named (room_at want) 0 ms) _ c (not_within base o (omega arith) (omega (arith, q.2)))
        ∙ named_outside (named_at want) (room_at want) base 0 ms cells c q.3 (omega (arith, q.1)) (part_of (named_cells base (named_at want) 0) (suc base + room_at want * (2 + size_at (named_at want))) o (omega arith) (omega (arith, q.2)))))

    -- the elements from so many on
    pub items_outside : (each room base count : ℕ) (xs : Items) (cells : List ℕ) (c : ℕ) → RightItems version each xs → count + count_of xs ≤ room
        → Outside (item_cells base each count) (suc base + room * size_at each) c → get_or (filled_items version each room base count xs cells) c 0 ≡ get_or cells c 0
    items_outside each room base count no_item cells c r f o = refl
    items_outside each room base count (item x xs) cells c r f o =
        let n : count * size_at each + size_at each ≤ room * size_at each = element_fits count room (size_at each) (omega arith) in
        let m : suc count * size_at each ≡ count * size_at each + size_at each = suc-mul count (size_at each) in
        ap (λ (l : List ℕ). get_or l c 0) (items_step each room base count x xs cells (omega arith))
        ∙ (items_outside each room base (suc count) xs _ c r.1 (omega arith) (part_of (item_cells base each (suc count)) (suc base + room * size_at each) o (omega arith) (omega arith))
        ∙ outside each (item_cells base each count) x cells c r.0 (part_of (item_cells base each count) (item_cells base each count + size_at each) o (omega arith) (omega arith)))

    pub members_outside : (kind base : ℕ) (seen : List (List ℕ)) (ms : Members) (cells : List ℕ) (c : ℕ) → RightMembers version kind seen ms → Clear kind base seen c
        → get_or (filled_members version kind base seen ms cells) c 0 ≡ get_or cells c 0
    members_outside kind base seen no_member cells c r o = refl
    members_outside kind base seen (bare_name t) cells c r o = refl
    members_outside kind base seen (member t x ms) cells c r o =
        members_outside kind base (with_name seen (text_of t)) ms _ c r.1 (clear_more kind base seen (text_of t) c o)
        ∙ cases (eqb (want_in version (spot_for version kind seen t)) 0)
        (λ b. rw (eqb-true (want_in version (spot_for version kind seen t)) 0 b) (ap (λ (l : List ℕ). get_or l c 0) (filled_nothing version (base + offset_at (spot_for version kind seen t)) x cells)))
        (λ b. outside (want_in version (spot_for version kind seen t)) (base + offset_at (spot_for version kind seen t)) x cells c r.0 (clear_spot kind base seen t c (spotted version kind seen t b) o))

    pub named_outside : (each room base count : ℕ) (ms : Members) (cells : List ℕ) (c : ℕ) → RightNamed version each ms → count + members_count ms ≤ room
        → Outside (named_cells base each count) (suc base + room * (2 + size_at each)) c → get_or (filled_named version each room base count ms cells) c 0 ≡ get_or cells c 0
    named_outside each room base count no_member cells c r f o = refl
    named_outside each room base count (bare_name t) cells c r f o = refl
    named_outside each room base count (member t x ms) cells c r f o =
        let n : count * (2 + size_at each) + (2 + size_at each) ≤ room * (2 + size_at each) = element_fits count room (2 + size_at each) (omega arith) in
        let m : suc count * (2 + size_at each) ≡ count * (2 + size_at each) + (2 + size_at each) = suc-mul count (2 + size_at each) in
        ap (λ (l : List ℕ). get_or l c 0) (named_step each room base count t x ms cells (omega arith))
        ∙ (named_outside each room base (suc count) ms _ c r.1 (omega arith) (part_of (named_cells base each (suc count)) (suc base + room * (2 + size_at each)) o (omega arith) (omega arith))
        ∙ outside each (2 + named_cells base each count) x _ c r.0 (part_of (2 + named_cells base each count) (2 + named_cells base each count + size_at each) o (omega arith) (omega arith))
        ∙ put_value_outside (named_cells base each count) t.first 0 cells c (part_of (named_cells base each count) (2 + named_cells base each count) o (omega arith) (omega arith)))
