-- Whether the cells hold a value is a matter of its own cells alone.
use Prim.Native.Nat.{ℕ, suc, ◌+◌, ◌*◌, ◌≤◌, ◌<◌}
use native.Mathlib.Omega.{arith}
use native.Mathlib.Nat.{suc-mul}
use mathlib.Core.Path.{◌≡◌, refl, sym, subst, ◌∙◌}
use mathlib.Core.Bool.{true≢false}
use mathlib.Core.List.{List, []}
use mathlib.Core.Option.{none, some}
use borrow.Table.Steps.{cases}
use borrow.Author.Tests.{eqb-true}
use lib.Dec.{eqb}
use lib.ListN.{get_or}
use Rattle.json_rule.specs.Lexemes.{Lexeme}
use Rattle.json_rule.specs.Values.{text_of}
use Rattle.json_rule.specs.Tree.{Json, Scalar, Array, Object, Items, no_item, item, Members, no_member, bare_name, member}
use Rattle.json_rule.specs.Defects.{count_of, with_name}
use Rattle.file_rule.specs.Tables.{FileKind, Row, rows_of}
use Rattle.file_rule.specs.FileDefects.{members_count}
use Rattle.file_cells.specs.Wants.{nth, kind_at, first_spot, row_at, spot_for, want_in, shape_of, item_at, named_at, room_at, record_at}
use Rattle.file_cells.specs.Cells.{size_of, sizes_of, size_at, kind_size, before, offset_at}
use Rattle.file_cells.specs.Filled.{item_cells, named_cells}
use Rattle.file_cells.proofs.Sizes.{sizes}
use Rattle.file_holds.specs.Holds.{HoldNoOther, Holds, HoldItems, HoldMembers, HoldNamed}
use Rattle.file_holds.proofs.Spots.{nth_bound, offset_at_lem}
use Rattle.file_holds.proofs.Rows.{inside}
use Rattle.file_holds.proofs.Spotted.{Spotted, spotted}
use Rattle.file_holds.proofs.Right.{Right, RightItems, RightMembers, RightNamed, want_of_none}
use Rattle.file_holds.proofs.Frame.{element_fits, spotted_offset, spotted_size}

-- from one cell on up to another these hold what those hold
abbrev pub Agree : ℕ → ℕ → List ℕ → List ℕ → Type 0
Agree from to a b = (c : ℕ) → from ≤ c → c < to → get_or b c 0 ≡ get_or a c 0

pub agree_part : {from to : ℕ} (a b : List ℕ) (f t : ℕ) → Agree from to a b → from ≤ f → t ≤ to → Agree f t a b
agree_part a b f t h l m c i j = h c (omega arith) (omega arith)

-- the cells of a row end before those of its record do
pub row_within : (k : FileKind) (p : ℕ) (r : Row) → nth p (rows_of k) ≡ some r → offset_at (first_spot k + p) + size_of r.shape ≤ kind_size k
row_within k p r e =
    let i : before p (rows_of k) + size_of r.shape ≤ sizes_of (rows_of k) = inside (rows_of k) p r e in
    let b : offset_at (first_spot k + p) ≡ before p (rows_of k) = offset_at_lem k p (nth_bound (rows_of k) p r e) in
    omega (arith, sizes k)

module _ (version : ℕ) where
  -- the size of what is a record
  abbrev pub SizeOf : ℕ → ℕ → Type 0
  SizeOf kind size = (k : FileKind) → kind_at kind ≡ some k → size ≡ kind_size k

  pub spot_within : {kind : ℕ} {seen : List (List ℕ)} {t : Lexeme} (size : ℕ) → SizeOf kind size → (s : Spotted version kind seen t) → offset_at (spot_for version kind seen t) + size_at (want_in version (spot_for version kind seen t)) ≤ size
  spot_within size f s = rw (spotted_offset version s, spotted_size version s, f s.record_kind s.is_kind) (row_within s.record_kind s.place s.row s.there)

  mutual
    unfolding Holds HoldNoOther shape_of row_at item_at named_at record_at kind_at

    -- where anything may stand, nothing is asked
    pub holds_nothing : (base : ℕ) (x : Json) (cells : List ℕ) → Holds version 0 base x cells
    holds_nothing base (Scalar t) cells = λ e. absurd (true≢false e)
    holds_nothing base (Array place xs closed) cells = λ e. absurd (true≢false e)
    holds_nothing base (Object place ms closed) cells = (λ e. holds_unknown 13 base [] ms cells refl, λ e. absurd (true≢false e))

    holds_unknown : (kind base : ℕ) (seen : List (List ℕ)) (ms : Members) (cells : List ℕ) → kind_at kind ≡ none → HoldMembers version kind base seen ms cells
    holds_unknown kind base seen no_member cells e = λ k p r f g w i l. let z : none ≡ some k = sym e ∙ f in cc
    holds_unknown kind base seen (bare_name t) cells e = tt
    holds_unknown kind base seen (member t x ms) cells e = (
      subst (λ (w : ℕ). Holds version w (base + offset_at (spot_for version kind seen t)) x cells) (sym (want_of_none version kind seen t e)) (holds_nothing (base + offset_at (spot_for version kind seen t)) x cells),
      holds_unknown kind base (with_name seen (text_of t)) ms cells e,
    )

  mutual
    unfolding Holds Right HoldNoOther

    pub kept : (want base : ℕ) (x : Json) (a b : List ℕ) → Right version want x → Agree base (base + size_at want) a b → Holds version want base x a → Holds version want base x b
    kept want base (Scalar t) a b r g h = λ n. (g base (omega arith) (omega (arith, r n)) ∙ (h n).0, g (suc base) (omega arith) (omega (arith, r n)) ∙ (h n).1)
    kept want base (Array place xs closed) a b r g h =
        λ n. let q = r n in
        (g base (omega arith) (omega (arith, q.2)) ∙ (h n).0, kept_items (item_at want) (room_at want) base 0 xs a b q.3 (omega (arith, q.1)) (agree_part a b (item_cells base (item_at want) 0) (suc base + room_at want * size_at (item_at want)) g (omega arith) (omega (arith, q.2))) (h n).1)
    kept want base (Object place ms closed) a b r g h = (
      λ n. let q = r.0 n in kept_members (record_at want) base (size_at want) [] ms a b q.0 q.1 g (h.0 n),
      λ n. let q = r.1 n in
          (g base (omega arith) (omega (arith, q.2)) ∙ (h.1 n).0, kept_named (named_at want) (room_at want) base 0 ms a b q.3 (omega (arith, q.1)) (agree_part a b (named_cells base (named_at want) 0) (suc base + room_at want * (2 + size_at (named_at want))) g (omega arith) (omega (arith, q.2))) (h.1 n).1),
    )

    pub kept_items : (each room base count : ℕ) (xs : Items) (a b : List ℕ) → RightItems version each xs → count + count_of xs ≤ room → Agree (item_cells base each count) (suc base + room * size_at each) a b
        → HoldItems version each base count xs a → HoldItems version each base count xs b
    kept_items each room base count no_item a b r f g h = tt
    kept_items each room base count (item x xs) a b r f g h =
        let n : count * size_at each + size_at each ≤ room * size_at each = element_fits count room (size_at each) (omega arith) in
        let m : suc count * size_at each ≡ count * size_at each + size_at each = suc-mul count (size_at each) in (
          kept each (item_cells base each count) x a b r.0 (agree_part a b (item_cells base each count) (item_cells base each count + size_at each) g (omega arith) (omega arith)) h.0,
          kept_items each room base (suc count) xs a b r.1 (omega arith) (agree_part a b (item_cells base each (suc count)) (suc base + room * size_at each) g (omega arith) (omega arith)) h.1,
        )

    pub kept_members : (kind base size : ℕ) (seen : List (List ℕ)) (ms : Members) (a b : List ℕ) → SizeOf kind size → RightMembers version kind seen ms → Agree base (base + size) a b
        → HoldMembers version kind base seen ms a → HoldMembers version kind base seen ms b
    kept_members kind base size seen no_member a b s r g h = λ k p ρ e f w i l. let n = row_within k p ρ f in g (base + offset_at (first_spot k + p) + i) (omega arith) (omega (arith, s k e)) ∙ h k p ρ e f w i l
    kept_members kind base size seen (bare_name t) a b s r g h = tt
    kept_members kind base size seen (member t x ms) a b s r g h = (
      cases (eqb (want_in version (spot_for version kind seen t)) 0)
          (λ z. subst (λ (w : ℕ). Holds version w (base + offset_at (spot_for version kind seen t)) x b) (sym (eqb-true (want_in version (spot_for version kind seen t)) 0 z)) (holds_nothing (base + offset_at (spot_for version kind seen t)) x b))
          (λ n. let w = spot_within size s (spotted version kind seen t n) in
          kept (want_in version (spot_for version kind seen t)) (base + offset_at (spot_for version kind seen t)) x a b r.0 (agree_part a b (base + offset_at (spot_for version kind seen t)) (base + offset_at (spot_for version kind seen t) + size_at (want_in version (spot_for version kind seen t))) g (omega arith) (omega arith)) h.0),
      kept_members kind base size (with_name seen (text_of t)) ms a b s r.1 g h.1,
    )

    pub kept_named : (each room base count : ℕ) (ms : Members) (a b : List ℕ) → RightNamed version each ms → count + members_count ms ≤ room → Agree (named_cells base each count) (suc base + room * (2 + size_at each)) a b
        → HoldNamed version each base count ms a → HoldNamed version each base count ms b
    kept_named each room base count no_member a b r f g h = tt
    kept_named each room base count (bare_name t) a b r f g h = tt
    kept_named each room base count (member t x ms) a b r f g h =
        let n : count * (2 + size_at each) + (2 + size_at each) ≤ room * (2 + size_at each) = element_fits count room (2 + size_at each) (omega arith) in
        let m : suc count * (2 + size_at each) ≡ count * (2 + size_at each) + (2 + size_at each) = suc-mul count (2 + size_at each) in (
          (g (named_cells base each count) (omega arith) (omega arith) ∙ h.0.0, g (suc (named_cells base each count)) (omega arith) (omega arith) ∙ h.0.1),
          kept each (2 + named_cells base each count) x a b r.0 (agree_part a b (2 + named_cells base each count) (2 + named_cells base each count + size_at each) g (omega arith) (omega arith)) h.1,
          kept_named each room base (suc count) ms a b r.1 (omega arith) (agree_part a b (named_cells base each (suc count)) (suc base + room * (2 + size_at each)) g (omega arith) (omega arith)) h.2,
        )
