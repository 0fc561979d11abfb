-- The cells of two members of one record are apart.
use Prim.Native.Nat.{ℕ, ◌+◌, ◌≤◌, ◌<◌}
use native.Mathlib.Omega.{arith}
use mathlib.Core.Path.{◌≡◌, refl, sym, ap, ◌∙◌}
use mathlib.Core.Bool.{Bool, true, false, not, ◌&&◌, ◌||◌, true≢false}
use mathlib.Core.List.{List}
use mathlib.Core.Option.{Option, none, some}
use borrow.Table.Steps.{cases}
use borrow.Author.Tests.{eqb-true, eqb-false, ltb-true, ltb-false}
use lib.Dec.{eqb, ltb}
use lib.ListN.{get_or}
use Rattle.rules.specs.Words.{same_bytes}
use Rattle.rules.proofs.Checks.{both, or_left}
use Rattle.rules.proofs.Orders.{names_told_lem}
use Rattle.json_rule.specs.Lexemes.{Lexeme}
use Rattle.json_rule.specs.Values.{text_of}
use Rattle.json_rule.specs.Tree.{Json}
use Rattle.json_rule.specs.Members.{is_one_of}
use Rattle.json_rule.specs.Defects.{with_name}
use Rattle.file_rule.specs.Tables.{FileKind, Row, rows_of}
use Rattle.file_cells.specs.Wants.{nth, kind_at, first_spot, spot_for, want_in}
use Rattle.file_cells.specs.Cells.{size_of, size_at, before, offset_at}
use Rattle.file_cells.specs.Filled.{filled}
use Rattle.file_holds.specs.Holds.{is_written, HoldNoOther}
use Rattle.file_holds.proofs.Spots.{nth_bound, offset_at_lem}
use Rattle.file_holds.proofs.Rows.{one_after}
use Rattle.file_holds.proofs.Spotted.{Spotted, spotted}
use Rattle.file_holds.proofs.Right.{Right}
use Rattle.file_holds.proofs.Frame.{Outside, below, above, Clear, spotted_size, filled_nothing, outside}

rows_apart : (rows : List Row) (p q : ℕ) (r u : Row) → nth p rows ≡ some r → nth q rows ≡ some u → (p ≡ q → ⊥) → (base i : ℕ) → i < size_of u.shape
    → Outside (base + before p rows) (base + before p rows + size_of r.shape) (base + before q rows + i)
rows_apart rows p q r u e f n base i h =
    cases (ltb p q)
    (λ b. let a : before p rows + size_of r.shape ≤ before q rows = one_after rows p q r e (ltb-true p q b) in above (omega arith))
    (λ b. let l : q < p = go (eqb p q) refl (ltb-false p q b) in
    let a : before q rows + size_of u.shape ≤ before p rows = one_after rows q p u f l in
    below (omega arith))
  where
    go : (b : Bool) → eqb p q ≡ b → q ≤ p → q < p
    go true e l = absurd (n (eqb-true p q e))
    go false e l = let m = eqb-false p q e in omega arith

-- the same by the members' numbers
pub members_apart : (k : FileKind) (p q : ℕ) (r u : Row) → nth p (rows_of k) ≡ some r → nth q (rows_of k) ≡ some u → (p ≡ q → ⊥) → (base i : ℕ) → i < size_of u.shape
    → Outside (base + offset_at (first_spot k + p)) (base + offset_at (first_spot k + p) + size_of r.shape) (base + offset_at (first_spot k + q) + i)
members_apart k p q r u e f n base i h =
    rw (offset_at_lem k p (nth_bound (rows_of k) p r e), offset_at_lem k q (nth_bound (rows_of k) q u f)) (rows_apart (rows_of k) p q r u e f n base i h)

module _ (version : ℕ) where
  module _ (kind : ℕ) (seen : List (List ℕ)) (t : Lexeme) (s : Spotted version kind seen t) where
    -- the name is there from now on
    there_now : is_one_of (with_name seen (text_of t)) s.row.name ≡ true
    there_now = rw s.name (or_left (is_one_of seen s.row.name) (names_told_lem.itself s.row.name))

    -- a cell of the member is of none whose name is still to come
    pub clear_own : (base i : ℕ) → i < size_of s.row.shape → Clear version kind base (with_name seen (text_of t)) (base + offset_at (first_spot s.record_kind + s.place) + i)
    unfolding Clear
    clear_own base i h k p r e f g =
        let a : some k ≡ some s.record_kind = sym e ∙ s.is_kind in
        let b : s.record_kind ≡ k = cc in
        let there : nth s.place (rows_of k) ≡ some s.row = ap (λ (y : FileKind). nth s.place (rows_of y)) (sym b) ∙ s.there in
        rw b (members_apart k p s.place r s.row f there (λ o. other there o) base i h)
      where
        other : nth s.place (rows_of k) ≡ some s.row → p ≡ s.place → ⊥
        other there o =
            let c : some r ≡ some s.row = sym f ∙ ap (λ (j : ℕ). nth j (rows_of k)) o ∙ there in
            let d : r ≡ s.row = cc in
            true≢false (sym there_now ∙ ap (λ (y : Row). is_one_of (with_name seen (text_of t)) y.name) (sym d) ∙ g)

    -- the cells of another member that is not held are not those of this one
    others_apart : (base : ℕ) (k : FileKind) (p : ℕ) (r : Row) → kind_at kind ≡ some k → nth p (rows_of k) ≡ some r → is_written version (with_name seen (text_of t)) (first_spot k + p) r ≡ false
        → eqb (want_in version (spot_for version kind seen t)) 0 ≡ false → (i : ℕ) → i < size_of r.shape
        → Outside (base + offset_at (spot_for version kind seen t)) (base + offset_at (spot_for version kind seen t) + size_at (want_in version (spot_for version kind seen t))) (base + offset_at (first_spot k + p) + i)
    others_apart base k p r e f g n i h =
        let a : some k ≡ some s.record_kind = sym e ∙ s.is_kind in
        let b : s.record_kind ≡ k = cc in
        let there : nth s.place (rows_of k) ≡ some s.row = ap (λ (y : FileKind). nth s.place (rows_of y)) (sym b) ∙ s.there in
        let spot : spot_for version kind seen t ≡ first_spot k + s.place = s.spot ∙ ap (λ (y : FileKind). first_spot y + s.place) b in
        rw (spotted_size version s, spot) (members_apart k s.place p s.row r there f (λ o. other there spot (sym o)) base i h)
      where
        other : nth s.place (rows_of k) ≡ some s.row → spot_for version kind seen t ≡ first_spot k + s.place → p ≡ s.place → ⊥
        other there spot o =
            let c : some r ≡ some s.row = sym f ∙ ap (λ (j : ℕ). nth j (rows_of k)) o ∙ there in
            let d : r ≡ s.row = cc in
            let m : is_one_of (with_name seen (text_of t)) r.name ≡ true = ap (λ (y : Row). is_one_of (with_name seen (text_of t)) y.name) d ∙ there_now in
            let w : eqb (want_in version (first_spot k + p)) 0 ≡ false = ap (λ (y : ℕ). eqb (want_in version (first_spot k + y)) 0) o ∙ ap (λ (y : ℕ). eqb (want_in version y) 0) (sym spot) ∙ n in
            true≢false (sym (both m (ap not w)) ∙ g)

  -- what was written is written
  written_before : (seen : List (List ℕ)) (m : Option (List ℕ)) (spot : ℕ) (r : Row) → is_written version (with_name seen m) spot r ≡ false → is_written version seen spot r ≡ false
  written_before seen none spot r e = e
  written_before seen (some n) spot r e = go (same_bytes r.name n) (is_one_of seen r.name) (not (eqb (want_in version spot) 0)) e
    where
      go : (a b w : Bool) → ((a || b) && w) ≡ false → (b && w) ≡ false
      go true true w e = e
      go true false w e = refl
      go false b w e = e

  -- with a value that was read the others are as they were
  pub no_other_step : (kind base : ℕ) (seen : List (List ℕ)) (t : Lexeme) (x : Json) (cells : List ℕ) → Right version (want_in version (spot_for version kind seen t)) x → HoldNoOther version kind base seen cells
      → HoldNoOther version kind base (with_name seen (text_of t)) (filled version (want_in version (spot_for version kind seen t)) (base + offset_at (spot_for version kind seen t)) x cells)
  unfolding HoldNoOther
  no_other_step kind base seen t x cells right h k p r e f g i l =
      cases (eqb (want_in version (spot_for version kind seen t)) 0)
      (λ b. rw (eqb-true (want_in version (spot_for version kind seen t)) 0 b) (ap (λ (y : List ℕ). get_or y (base + offset_at (first_spot k + p) + i) 0) (filled_nothing version (base + offset_at (spot_for version kind seen t)) x cells)))
      (λ b. outside version (want_in version (spot_for version kind seen t)) (base + offset_at (spot_for version kind seen t)) x cells (base + offset_at (first_spot k + p) + i) right (others_apart kind seen t (spotted version kind seen t b) base k p r e f g b i l))
      ∙ h k p r e f (written_before seen (text_of t) (first_spot k + p) r g) i l
