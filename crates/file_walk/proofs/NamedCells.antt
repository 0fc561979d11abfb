-- What is held of a value leaves the cells in front of its own alone: whether one of those is set before or after makes no difference.
use Prim.Native.Nat.{ℕ, suc, ◌+◌, ◌<◌}
use native.Mathlib.Omega.{arith}
use mathlib.Core.Path.{◌≡◌, refl, sym, ap, ◌∙◌}
use mathlib.Core.Bool.{true, false}
use mathlib.Core.List.{List, []}
use lib.Dec.{eqb}
use lib.ListN.{set}
use lib.Seq.{set_comm}
use borrow.Table.Steps.{cases}
use Rattle.json_rule.specs.Values.{text_of}
use Rattle.json_rule.specs.Tree.{Json, Scalar, Array, Object, Items, no_item, item, Members, no_member, bare_name, member}
use Rattle.json_rule.specs.Defects.{with_name}
use Rattle.file_cells.specs.Wants.{spot_for, want_in, item_at, named_at, room_at, record_at}
use Rattle.file_cells.specs.Cells.{offset_at}
use Rattle.file_cells.specs.Filled.{magnitude_of, put_value, put_count, next_count, item_cells, named_cells, count_items, count_named, filled, filled_items, filled_members, filled_named}

module _ (p v : ℕ) where
  put_apart : (base place size : ℕ) (cells : List ℕ) → p < base → put_value base place size (set cells p v) ≡ set (put_value base place size cells) p v
  unfolding put_value
  put_apart base place size cells h =
      ap (λ (l : List ℕ). set l (suc base) size) (set_comm cells p base v (suc place) (λ e. omega arith))
      ∙ set_comm (set cells base (suc place)) p (suc base) v size (λ e. omega arith)

  count_apart : (each base count : ℕ) (cells : List ℕ) → p < base → put_count each base count (set cells p v) ≡ set (put_count each base count cells) p v
  unfolding put_count
  count_apart each base count cells h = cases (eqb each 0) (λ e. rw e) (λ e. rw e (set_comm cells p base v (suc count) (λ e. omega arith)))

  module _ (version : ℕ) where
    mutual
      unfolding filled

      pub filled_apart : (want base : ℕ) (x : Json) (cells : List ℕ) → p < base → filled version want base x (set cells p v) ≡ set (filled version want base x cells) p v
      filled_apart want base (Scalar t) cells h = cases (eqb want 0) (λ e. rw e) (λ e. rw e (put_apart base t.first (magnitude_of t) cells h))
      filled_apart want base (Array place xs true) cells h =
          ap (λ (l : List ℕ). put_count (item_at want) base (count_items (room_at want) 0 xs) l) (items_apart (item_at want) (room_at want) base 0 xs cells h)
          ∙ count_apart (item_at want) base (count_items (room_at want) 0 xs) (filled_items version (item_at want) (room_at want) base 0 xs cells) h
      filled_apart want base (Array place xs false) cells h = items_apart (item_at want) (room_at want) base 0 xs cells h
      filled_apart want base (Object place ms true) cells h =
          cases (eqb (named_at want) 0)
          (λ e. rw e (members_apart (record_at want) base [] ms cells h))
          (λ e. rw e
          (ap (λ (l : List ℕ). put_count (named_at want) base (count_named (room_at want) 0 ms) l) (named_apart (named_at want) (room_at want) base 0 ms cells h)
          ∙ count_apart (named_at want) base (count_named (room_at want) 0 ms) (filled_named version (named_at want) (room_at want) base 0 ms cells) h))
      filled_apart want base (Object place ms false) cells h =
          cases (eqb (named_at want) 0)
          (λ e. rw e (members_apart (record_at want) base [] ms cells h))
          (λ e. rw e (named_apart (named_at want) (room_at want) base 0 ms cells h))

      pub items_apart : (each room base count : ℕ) (xs : Items) (cells : List ℕ) → p < base
          → filled_items version each room base count xs (set cells p v) ≡ set (filled_items version each room base count xs cells) p v
      items_apart each room base count no_item cells h = refl
      items_apart each room base count (item x xs) cells h =
          ap (λ (l : List ℕ). filled_items version each room base (next_count room count) xs l) (filled_apart each (item_cells base each count) x cells (omega arith))
          ∙ items_apart each room base (next_count room count) xs (filled version each (item_cells base each count) x cells) h

      pub members_apart : (kind base : ℕ) (seen : List (List ℕ)) (ms : Members) (cells : List ℕ) → p < base
          → filled_members version kind base seen ms (set cells p v) ≡ set (filled_members version kind base seen ms cells) p v
      members_apart kind base seen no_member cells h = refl
      members_apart kind base seen (bare_name t) cells h = refl
      members_apart kind base seen (member t x ms) cells h =
          let spot = spot_for version kind seen t in
          ap (λ (l : List ℕ). filled_members version kind base (with_name seen (text_of t)) ms l) (filled_apart (want_in version spot) (base + offset_at spot) x cells (omega arith))
          ∙ members_apart kind base (with_name seen (text_of t)) ms (filled version (want_in version spot) (base + offset_at spot) x cells) h

      pub named_apart : (each room base count : ℕ) (ms : Members) (cells : List ℕ) → p < base
          → filled_named version each room base count ms (set cells p v) ≡ set (filled_named version each room base count ms cells) p v
      named_apart each room base count no_member cells h = refl
      named_apart each room base count (bare_name t) cells h = refl
      named_apart each room base count (member t x ms) cells h =
          let spot = named_cells base each count in
          ap (λ (l : List ℕ). filled_named version each room base (next_count room count) ms (filled version each (2 + spot) x l)) (put_apart spot t.first 0 cells (omega arith))
          ∙ (ap (λ (l : List ℕ). filled_named version each room base (next_count room count) ms l) (filled_apart each (2 + spot) x (put_value spot t.first 0 cells) (omega arith))
          ∙ named_apart each room base (next_count room count) ms (filled version each (2 + spot) x (put_value spot t.first 0 cells)) h)

-- a name may be put behind its value
pub name_apart : (version each spot place : ℕ) (x : Json) (cells : List ℕ)
    → put_value spot place 0 (filled version each (2 + spot) x cells) ≡ filled version each (2 + spot) x (put_value spot place 0 cells)
unfolding put_value
name_apart version each spot place x cells =
    sym (filled_apart (suc spot) 0 version each (2 + spot) x (set cells spot (suc place)) (omega arith)
    ∙ ap (λ (l : List ℕ). set l (suc spot) 0) (filled_apart spot (suc place) version each (2 + spot) x cells (omega arith)))
