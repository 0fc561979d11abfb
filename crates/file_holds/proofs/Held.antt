-- Of a tree with which nothing is wrong the cells hold the values.
use Prim.Native.Nat.{ℕ, suc, ◌+◌, ◌*◌, ◌-◌, ◌≤◌, ◌<◌}
use native.Mathlib.Omega.{arith}
use native.Mathlib.Nat.{suc-mul}
use mathlib.Core.Path.{◌≡◌, sym, ap, subst, ◌∙◌}
use mathlib.Core.Bool.{Bool, true, false}
use mathlib.Core.List.{List, []}
use borrow.Table.Steps.{cases}
use borrow.Author.Tests.{eqb-true}
use lib.Dec.{eqb}
use lib.ListN.{length, get_or, set, length-set}
use lib.Seq.{get_or-set_same, get_or-set_other}
use Rattle.json_rule.specs.Lexemes.{Lexeme}
use Rattle.json_rule.specs.Values.{text_of}
use Rattle.json_rule.specs.Tree.{Json, Scalar, Array, Object, Items, no_item, item, Members, no_member, bare_name, member}
use Rattle.json_rule.specs.Defects.{count_of, with_name}
use Rattle.json_judge.proofs.Follow.{is_closed}
use Rattle.file_rule.specs.FileDefects.{members_count, defects}
use Rattle.file_cells.specs.Wants.{first_spot, spot_for, want_in, shape_of, item_at, named_at, room_at, record_at}
use Rattle.file_cells.specs.Cells.{size_of, size_at, offset_at}
use Rattle.file_cells.specs.Filled.{magnitude_of, put_value, put_count, item_cells, named_cells, count_items, count_named, filled, filled_items, filled_members, filled_named}
use Rattle.file_holds.specs.Holds.{HoldsValue, HoldNoOther, Holds, HoldItems, HoldMembers, HoldNamed}
use Rattle.file_holds.proofs.Spotted.{Spotted, spotted}
use Rattle.file_holds.proofs.Right.{Right, RightItems, RightMembers, RightNamed, Meant, right}
use Rattle.file_holds.proofs.Frame.{element_fits, next_count_lem, spotted_offset, spotted_size, below, above, put_value_length, put_value_outside, filled_length, items_length, named_length, items_step, named_step, outside, items_outside, members_outside, named_outside}
use Rattle.file_holds.proofs.Apart.{clear_own, no_other_step}
use Rattle.file_holds.proofs.Kept.{Agree, SizeOf, row_within, spot_within, holds_nothing, kept, kept_items, kept_named}

-- from one cell on up to another they are as before anything was read
abbrev pub Unused : ℕ → ℕ → List ℕ → Type 0
Unused from to cells = (c : ℕ) → from ≤ c → c < to → get_or cells c 0 ≡ 0

-- ---- values and counts

put_value_held : (base place size : ℕ) (cells : List ℕ) → base + 2 ≤ length cells → HoldsValue base place size (put_value base place size cells)
unfolding put_value
put_value_held base place size cells h = (
  get_or-set_other (set cells base (suc place)) (suc base) base size 0 (λ e. omega arith) ∙ get_or-set_same cells base (suc place) 0 (omega arith),
  get_or-set_same (set cells base (suc place)) (suc base) size 0 (omega (arith, length-set cells base (suc place))),
)

put_count_held : (each base count : ℕ) (cells : List ℕ) → eqb each 0 ≡ false → base < length cells → get_or (put_count each base count cells) base 0 ≡ suc count
unfolding put_count
put_count_held each base count cells n h = rw n (get_or-set_same cells base (suc count) 0 h)

put_count_around : (each base count to : ℕ) (cells : List ℕ) → Agree (suc base) to cells (put_count each base count cells)
unfolding put_count
put_count_around each base count to cells c i j = cases (eqb each 0) (λ b. rw b) (λ b. rw b (get_or-set_other cells base c (suc count) 0 (λ e. omega arith)))

count_items_lem : (room count : ℕ) (xs : Items) → count + count_of xs ≤ room → count_items room count xs ≡ count + count_of xs
count_items_lem room count no_item h = omega arith
count_items_lem room count (item x xs) h =
    ap (λ (n : ℕ). count_items room n xs) (next_count_lem room count (omega arith)) ∙ count_items_lem room (suc count) xs (omega arith) ∙ omega arith

module _ (version : ℕ) where
  count_named_lem : (each room count : ℕ) (ms : Members) → RightNamed version each ms → count + members_count ms ≤ room → count_named room count ms ≡ count + members_count ms
  unfolding Right
  count_named_lem each room count no_member r h = omega arith
  count_named_lem each room count (bare_name t) r h = absurd r
  count_named_lem each room count (member t x ms) r h =
      ap (λ (n : ℕ). count_named room n ms) (next_count_lem room count (omega arith)) ∙ count_named_lem each room (suc count) ms r.1 (omega arith) ∙ omega arith

  -- ---- members

  -- the cells of a member that is still to come are unused
  unused_spot : (kind base : ℕ) (seen : List (List ℕ)) (t : Lexeme) (cells : List ℕ) → Spotted version kind seen t → HoldNoOther version kind base seen cells
      → Unused (base + offset_at (spot_for version kind seen t)) (base + offset_at (spot_for version kind seen t) + size_at (want_in version (spot_for version kind seen t))) cells
  unfolding HoldNoOther
  unused_spot kind base seen t cells s h c i j =
      let o : offset_at (spot_for version kind seen t) ≡ offset_at (first_spot s.record_kind + s.place) = spotted_offset version s in
      let z : size_at (want_in version (spot_for version kind seen t)) ≡ size_of s.row.shape = spotted_size version s in
      let e : c ≡ base + offset_at (first_spot s.record_kind + s.place) + (c - (base + offset_at (first_spot s.record_kind + s.place))) = omega arith in
      rw e (h s.record_kind s.place s.row s.is_kind s.there (rw s.fresh) (c - (base + offset_at (first_spot s.record_kind + s.place))) (omega arith))

  -- they are not touched by the members that follow
  own_kept : (kind base : ℕ) (seen : List (List ℕ)) (t : Lexeme) (ms : Members) (cells : List ℕ) → Spotted version kind seen t → RightMembers version kind (with_name seen (text_of t)) ms
      → Agree (base + offset_at (spot_for version kind seen t)) (base + offset_at (spot_for version kind seen t) + size_at (want_in version (spot_for version kind seen t))) cells (filled_members version kind base (with_name seen (text_of t)) ms cells)
  own_kept kind base seen t ms cells s r c i j =
      let o : offset_at (spot_for version kind seen t) ≡ offset_at (first_spot s.record_kind + s.place) = spotted_offset version s in
      let z : size_at (want_in version (spot_for version kind seen t)) ≡ size_of s.row.shape = spotted_size version s in
      let e : c ≡ base + offset_at (first_spot s.record_kind + s.place) + (c - (base + offset_at (first_spot s.record_kind + s.place))) = omega arith in
      members_outside version kind base (with_name seen (text_of t)) ms cells c r
      (rw e (clear_own version kind seen t s base (c - (base + offset_at (first_spot s.record_kind + s.place))) (omega arith)))

  -- of a record that nothing was read of no member is held
  unused_record : (kind base size : ℕ) (cells : List ℕ) → SizeOf version kind size → Unused base (base + size) cells → HoldNoOther version kind base [] cells
  unfolding HoldNoOther
  unused_record kind base size cells s u k p r e f g i l = let n = row_within k p r f in u (base + offset_at (first_spot k + p) + i) (omega arith) (omega (arith, s k e))

  -- ---- all values

  mutual
    unfolding filled Holds Right

    pub held : (want base : ℕ) (x : Json) (cells : List ℕ) → Right version want x → Unused base (base + size_at want) cells → base + size_at want ≤ length cells → Holds version want base x (filled version want base x cells)
    held want base (Scalar t) cells r u l = λ n. rw n (put_value_held base t.first (magnitude_of t) cells (omega (arith, r n)))
    held want base (Array place xs closed) cells r u l =
        λ n. let q = r n in
        let f : List ℕ = filled_items version (item_at want) (room_at want) base 0 xs cells in
        let e : length f ≡ length cells = items_length version (item_at want) (room_at want) base 0 xs cells in
        rw q.0 (
          put_count_held (item_at want) base (count_items (room_at want) 0 xs) f n (omega (arith, q.2)) ∙ ap suc (count_items_lem (room_at want) 0 xs (omega (arith, q.1)) ∙ omega arith),
          kept_items version (item_at want) (room_at want) base 0 xs f (put_count (item_at want) base (count_items (room_at want) 0 xs) f) q.3 (omega (arith, q.1))
              (λ c i j. put_count_around (item_at want) base (count_items (room_at want) 0 xs) (suc base + room_at want * size_at (item_at want)) f c (omega arith) j)
              (items_held (item_at want) (room_at want) base 0 xs cells q.3 (omega (arith, q.1)) (λ c i j. u c (omega arith) (omega (arith, q.2))) (omega (arith, q.2))),
        )
    held want base (Object place ms closed) cells r u l = (
      λ n. let q = r.0 n in
          rw n (members_held_lem (record_at want) base (size_at want) [] ms cells q.0 q.1 (unused_record (record_at want) base (size_at want) cells q.0 u) l),
      λ n. let q = r.1 n in
          let f : List ℕ = filled_named version (named_at want) (room_at want) base 0 ms cells in
          let e : length f ≡ length cells = named_length version (named_at want) (room_at want) base 0 ms cells in
          rw (n, q.0) (
            put_count_held (named_at want) base (count_named (room_at want) 0 ms) f n (omega (arith, q.2)) ∙ ap suc (count_named_lem (named_at want) (room_at want) 0 ms q.3 (omega (arith, q.1)) ∙ omega arith),
            kept_named version (named_at want) (room_at want) base 0 ms f (put_count (named_at want) base (count_named (room_at want) 0 ms) f) q.3 (omega (arith, q.1))
                (λ c i j. put_count_around (named_at want) base (count_named (room_at want) 0 ms) (suc base + room_at want * (2 + size_at (named_at want))) f c (omega arith) j)
                (named_held (named_at want) (room_at want) base 0 ms cells q.3 (omega (arith, q.1)) (λ c i j. u c (omega arith) (omega (arith, q.2))) (omega (arith, q.2))),
          ),
    )

    items_held : (each room base count : ℕ) (xs : Items) (cells : List ℕ) → RightItems version each xs → count + count_of xs ≤ room → Unused (item_cells base each count) (suc base + room * size_at each) cells
        → suc base + room * size_at each ≤ length cells → HoldItems version each base count xs (filled_items version each room base count xs cells)
    items_held each room base count no_item cells r f u l = tt
    items_held each room base count (item x xs) cells r f u l =
        let n : count * size_at each + size_at each ≤ room * size_at each = element_fits count room (size_at each) (omega arith) in
        let m : suc count * size_at each ≡ count * size_at each + size_at each = suc-mul count (size_at each) in
        let one : List ℕ = filled version each (item_cells base each count) x cells in
        let e : length one ≡ length cells = filled_length version each (item_cells base each count) x cells in
        subst (λ (y : List ℕ). HoldItems version each base count (item x xs) y) (sym (items_step version each room base count x xs cells (omega arith))) (
          kept version each (item_cells base each count) x one (filled_items version each room base (suc count) xs one) r.0
              (λ c i j. items_outside version each room base (suc count) xs one c r.1 (omega arith) (below (omega arith)))
              (held each (item_cells base each count) x cells r.0 (λ c i j. u c i (omega arith)) (omega arith)),
          items_held each room base (suc count) xs one r.1 (omega arith)
              (λ c i j. outside version each (item_cells base each count) x cells c r.0 (above (omega arith)) ∙ u c (omega arith) j) (omega arith),
        )

    members_held_lem : (kind base size : ℕ) (seen : List (List ℕ)) (ms : Members) (cells : List ℕ) → SizeOf version kind size → RightMembers version kind seen ms → HoldNoOther version kind base seen cells
        → base + size ≤ length cells → HoldMembers version kind base seen ms (filled_members version kind base seen ms cells)
    members_held_lem kind base size seen no_member cells s r u l = u
    members_held_lem kind base size seen (bare_name t) cells s r u l = tt
    members_held_lem kind base size seen (member t x ms) cells s r u l =
        let spot : ℕ = spot_for version kind seen t in
        let one : List ℕ = filled version (want_in version spot) (base + offset_at spot) x cells in
        let e : length one ≡ length cells = filled_length version (want_in version spot) (base + offset_at spot) x cells in
        let all : List ℕ = filled_members version kind base (with_name seen (text_of t)) ms one in (
          cases (eqb (want_in version spot) 0)
              (λ z. subst (λ (w : ℕ). Holds version w (base + offset_at spot) x all) (sym (eqb-true (want_in version spot) 0 z)) (holds_nothing version (base + offset_at spot) x all))
              (λ n. let d = spotted version kind seen t n in
              let w = spot_within version size s d in
              kept version (want_in version spot) (base + offset_at spot) x one all r.0 (own_kept kind base seen t ms one d r.1)
              (held (want_in version spot) (base + offset_at spot) x cells r.0 (unused_spot kind base seen t cells d u) (omega arith))),
          members_held_lem kind base size (with_name seen (text_of t)) ms one s r.1 (no_other_step version kind base seen t x cells r.0 u) (omega arith),
        )

    named_held : (each room base count : ℕ) (ms : Members) (cells : List ℕ) → RightNamed version each ms → count + members_count ms ≤ room → Unused (named_cells base each count) (suc base + room * (2 + size_at each)) cells
        → suc base + room * (2 + size_at each) ≤ length cells → HoldNamed version each base count ms (filled_named version each room base count ms cells)
    named_held each room base count no_member cells r f u l = tt
    named_held each room base count (bare_name t) cells r f u l = tt
    named_held each room base count (member t x ms) cells r f u l =
        let n : count * (2 + size_at each) + (2 + size_at each) ≤ room * (2 + size_at each) = element_fits count room (2 + size_at each) (omega arith) in
        let m : suc count * (2 + size_at each) ≡ count * (2 + size_at each) + (2 + size_at each) = suc-mul count (2 + size_at each) in
        let at : ℕ = named_cells base each count in
        let name : List ℕ = put_value at t.first 0 cells in
        let one : List ℕ = filled version each (2 + at) x name in
        let all : List ℕ = filled_named version each room base (suc count) ms one in
        let k : length name ≡ length cells = put_value_length version at t.first 0 cells in
        let e : length one ≡ length name = filled_length version each (2 + at) x name in
        let h = put_value_held at t.first 0 cells (omega arith) in
        let later : Agree at (2 + at + size_at each) one all = λ c i j. named_outside version each room base (suc count) ms one c r.1 (omega arith) (below (omega arith)) in
        let around : Agree at (2 + at) name one = λ c i j. outside version each (2 + at) x name c r.0 (below (omega arith)) in
        subst (λ (y : List ℕ). HoldNamed version each base count (member t x ms) y) (sym (named_step version each room base count t x ms cells (omega arith))) (
          (later at (omega arith) (omega arith) ∙ around at (omega arith) (omega arith) ∙ h.0, later (suc at) (omega arith) (omega arith) ∙ around (suc at) (omega arith) (omega arith) ∙ h.1),
          kept version each (2 + at) x one all r.0 (λ c i j. later c (omega arith) (omega arith))
              (held each (2 + at) x name r.0 (λ c i j. put_value_outside at t.first 0 cells c (above (omega arith)) ∙ u c (omega arith) (omega arith)) (omega arith)),
          named_held each room base (suc count) ms one r.1 (omega arith)
              (λ c i j. outside version each (2 + at) x name c r.0 (above (omega arith)) ∙ put_value_outside at t.first 0 cells c (above (omega arith)) ∙ u c (omega arith) j) (omega arith),
        )

  -- ---- the theorem

  pub filled_holds : (want schema base : ℕ) (of_schema : Bool) (x : Json) (cells : List ℕ) → Meant want → defects version schema of_schema (shape_of want) x ≡ [] → is_closed x ≡ true
      → Unused base (base + size_at want) cells → base + size_at want ≤ length cells → Holds version want base x (filled version want base x cells)
  filled_holds want schema base of_schema x cells m d c u l = held want base x cells (right version want schema of_schema x m d c) u l
