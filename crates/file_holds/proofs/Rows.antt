-- The rows of a record: no two have one name, the cells of one end before those of the next begin, and what a version publishes under a name.
use Prim.Native.Nat.{ℕ, zero, suc, ◌+◌, ◌≤◌, ◌<◌}
use native.Mathlib.Omega.{arith}
use mathlib.Core.Path.{◌≡◌, refl, sym, ap, ◌∙◌}
use mathlib.Core.Bool.{true, false, not, ◌||◌, true≢false}
use mathlib.Core.List.{List, [], ◌∷◌, map}
use mathlib.Core.Option.{Option, none, some}
use borrow.Table.Steps.{cases}
use borrow.Author.Tests.{not-true}
use lib.Dec.{eqb}
use Rattle.rules.specs.Words.{any, collect, unequal_by, same_bytes}
use Rattle.rules.proofs.Checks.{and_left, and_right, neither}
use Rattle.rules.proofs.Orders.{names_told_lem}
use Rattle.file_rule.specs.Tables.{FileKind, TheFile, HeldSnapshot, HeldSchema, HeldField, HeldSpec, HeldPartitionField, HeldOrder, HeldSortField, HeldRef, HeldLogEntry, HeldFileEntry, HeldStatistics, HeldPartitionStatistics, Presence, Required, Optional, Absent, Row, Published, is_absent, any_version, published, row_in, rows_of}
use Rattle.file_rule.specs.FileDefects.{published_as}
use Rattle.file_cells.specs.Wants.{nth, position}
use Rattle.file_cells.specs.Cells.{size_of, sizes_of, before}

-- ---- cells

pub inside : (rows : List Row) (p : ℕ) (r : Row) → nth p rows ≡ some r → before p rows + size_of r.shape ≤ sizes_of rows
inside [] p r e = let z : ◌≡◌ {A = ℕ} 0 1 = cc in omega arith
inside (x ∷ rows) zero r e = let g : x ≡ r = cc in let s : size_of x.shape ≡ size_of r.shape = ap (λ (y : Row). size_of y.shape) g in omega arith
inside (x ∷ rows) (suc p) r e = let h : before p rows + size_of r.shape ≤ sizes_of rows = inside rows p r e in omega arith

pub one_after : (rows : List Row) (p q : ℕ) (r : Row) → nth p rows ≡ some r → p < q → before p rows + size_of r.shape ≤ before q rows
one_after [] p q r e h = let z : ◌≡◌ {A = ℕ} 0 1 = cc in omega arith
one_after (x ∷ rows) zero zero r e h = omega arith
one_after (x ∷ rows) zero (suc q) r e h = let g : x ≡ r = cc in let s : size_of x.shape ≡ size_of r.shape = ap (λ (y : Row). size_of y.shape) g in omega arith
one_after (x ∷ rows) (suc p) zero r e h = omega arith
one_after (x ∷ rows) (suc p) (suc q) r e h = let k : before p rows + size_of r.shape ≤ before q rows = one_after rows p q r e (omega arith) in omega arith

-- ---- names

abbrev pub row_names : List Row → List (List ℕ)
row_names rows = map (λ (r : Row). r.name) rows

pub unequal_names : (k : FileKind) → unequal_by same_bytes (row_names (rows_of k)) ≡ true
unequal_names TheFile = refl
unequal_names HeldSnapshot = refl
unequal_names HeldSchema = refl
unequal_names HeldField = refl
unequal_names HeldSpec = refl
unequal_names HeldPartitionField = refl
unequal_names HeldOrder = refl
unequal_names HeldSortField = refl
unequal_names HeldRef = refl
unequal_names HeldLogEntry = refl
unequal_names HeldFileEntry = refl
unequal_names HeldStatistics = refl
unequal_names HeldPartitionStatistics = refl

-- a name that no row has is not the name of one
not_there : (name : List ℕ) (rows : List Row) (p : ℕ) (r : Row) → any (same_bytes name) (row_names rows) ≡ false → nth p rows ≡ some r → same_bytes name r.name ≡ false
not_there name [] p r n e = cc
not_there name (x ∷ rows) zero r n e = let g : x ≡ r = cc in rw (← g) (neither (same_bytes name x.name) (any (same_bytes name) (row_names rows)) n).0
not_there name (x ∷ rows) (suc p) r n e = not_there name rows p r (neither (same_bytes name x.name) (any (same_bytes name) (row_names rows)) n).1 e

-- the name of a row stands where the row stands
pub position_at : (rows : List Row) (p : ℕ) (r : Row) → unequal_by same_bytes (row_names rows) ≡ true → nth p rows ≡ some r → position r.name rows ≡ p
position_at [] p r u e = let z : none ≡ some r = e in cc
position_at (x ∷ rows) zero r u e = let g : x ≡ r = cc in rw (← g, names_told_lem.itself x.name)
position_at (x ∷ rows) (suc p) r u e =
    let n : any (same_bytes x.name) (row_names rows) ≡ false = not-true _ (and_left (not (any (same_bytes x.name) (row_names rows))) (unequal_by same_bytes (row_names rows)) u) in
    rw (not_there x.name rows p r n e) (ap suc (position_at rows p r (and_right (not (any (same_bytes x.name) (row_names rows))) (unequal_by same_bytes (row_names rows)) u) e))

-- ---- what a version publishes

pub as_published : (r : Row) (a : Presence) (q : Published) → published r a ≡ some q → q.name ≡ r.name
as_published r Required q e = cc
as_published r Optional q e = cc
as_published r Absent q e = cc

any_name : (r : Row) → (any_version r).name ≡ r.name
any_name r = cases (is_absent r.one || is_absent r.two || is_absent r.three) (λ b. rw b) (λ b. rw b)

module _ (version : ℕ) where
  pub same_name_lem : (r : Row) (q : Published) → row_in version r ≡ some q → q.name ≡ r.name
  unfolding row_in
  same_name_lem r q e =
      cases (eqb version 1) (λ a. as_published r r.one q (rw a at e))
      (λ a. cases (eqb version 2) (λ b. as_published r r.two q (rw (a, b) at e))
      (λ b. cases (eqb version 3) (λ c. as_published r r.three q (rw (a, b, c) at e))
      (λ c. let g : some (any_version r) ≡ some q = rw (a, b, c) at e in let h : any_version r ≡ q = cc in ap (λ (y : Published). y.name) (sym h) ∙ any_name r)))

  -- under a name that no row has nothing is published
  not_published_lem : (name : List ℕ) (rows : List Row) → any (same_bytes name) (row_names rows) ≡ false → published_as name (collect (row_in version) rows) ≡ none
  not_published_lem name [] n = refl
  not_published_lem name (x ∷ rows) n = go (row_in version x) refl (not_published_lem name rows (neither (same_bytes name x.name) (any (same_bytes name) (row_names rows)) n).1)
    where
      other : same_bytes x.name name ≡ false
      other =
          cases (same_bytes x.name name)
          (λ s. absurd (true≢false (sym (names_told_lem.itself name) ∙ ap (same_bytes name) (sym (names_told_lem.equal x.name name s)) ∙ (neither (same_bytes name x.name) (any (same_bytes name) (row_names rows)) n).0)))
          (λ s. s)

      go : (o : Option Published) → row_in version x ≡ o → published_as name (collect (row_in version) rows) ≡ none
          → published_as name (elim o [ none ↦ collect (row_in version) rows | some y ↦ y ∷ collect (row_in version) rows ]) ≡ none
      go none e h = h
      go (some q) e h = rw (same_name_lem x q e, other) h

  -- what is published under a name, and its row
  pub record Publishes (rows : List Row) (name : List ℕ) (q : Published) : Type 0 where
    pub row : Row
    pub there : nth (position name rows) rows ≡ some row
    pub named : row.name ≡ name
    pub is_in : row_in version row ≡ some q

  pub publishes : (rows : List Row) (name : List ℕ) (q : Published) → published_as name (collect (row_in version) rows) ≡ some q → unequal_by same_bytes (row_names rows) ≡ true → Publishes rows name q
  publishes [] name q e u = record { row = absurd (impossible e); there = cc; named = cc; is_in = cc }
    where
      impossible : none ≡ some q → ⊥
      impossible e = let z : ◌≡◌ {A = ℕ} 0 1 = cc in omega arith
  publishes (x ∷ rows) name q e u = go (row_in version x) refl (publishes rows name q) e
    where
      others : any (same_bytes x.name) (row_names rows) ≡ false
      others = not-true _ (and_left (not (any (same_bytes x.name) (row_names rows))) (unequal_by same_bytes (row_names rows)) u)

      unequal : unequal_by same_bytes (row_names rows) ≡ true
      unequal = and_right (not (any (same_bytes x.name) (row_names rows))) (unequal_by same_bytes (row_names rows)) u

      later : same_bytes x.name name ≡ false → Publishes rows name q → Publishes (x ∷ rows) name q
      later s h = record { row = h.row; there = rw s h.there; named = h.named; is_in = h.is_in }

      go : (o : Option Published) → row_in version x ≡ o → (published_as name (collect (row_in version) rows) ≡ some q → unequal_by same_bytes (row_names rows) ≡ true → Publishes rows name q)
          → published_as name (elim o [ none ↦ collect (row_in version) rows | some y ↦ y ∷ collect (row_in version) rows ]) ≡ some q → Publishes (x ∷ rows) name q
      go none f h e =
          cases (same_bytes x.name name)
          (λ s. let n : published_as name (collect (row_in version) rows) ≡ none = rw (names_told_lem.equal x.name name s) at (not_published_lem x.name rows others) in
          let i : ◌≡◌ {A = Option Published} none (some q) = sym n ∙ e in record { row = x; there = cc; named = cc; is_in = cc })
          (λ s. later s (h e unequal))
      go (some y) f h e =
          let m : same_bytes y.name name ≡ same_bytes x.name name = ap (λ (n : List ℕ). same_bytes n name) (same_name_lem x y f) in
          cases (same_bytes x.name name)
          (λ s. let t : same_bytes y.name name ≡ true = m ∙ s in
          let g : some y ≡ some q = rw t at e in
          record { row = x; there = rw s; named = names_told_lem.equal x.name name s; is_in = f ∙ g })
          (λ s. let t : same_bytes y.name name ≡ false = m ∙ s in
          later s (h (rw t at e) unequal))

  -- what a version makes of a row is what it publishes under the row's name
  pub published_at_lem : (rows : List Row) (p : ℕ) (r : Row) (q : Published) → unequal_by same_bytes (row_names rows) ≡ true → nth p rows ≡ some r → row_in version r ≡ some q
      → published_as r.name (collect (row_in version) rows) ≡ some q
  published_at_lem [] p r q u e f = let z : none ≡ some r = e in cc
  published_at_lem (x ∷ rows) zero r q u e f =
      let g : row_in version x ≡ some q = let h : x ≡ r = cc in ap (row_in version) h ∙ f in
      let s : same_bytes q.name r.name ≡ true = ap (λ (n : List ℕ). same_bytes n r.name) (same_name_lem r q f) ∙ names_told_lem.itself r.name in
      rw (collect, g, s)
  published_at_lem (x ∷ rows) (suc p) r q u e f = go (row_in version x) refl (published_at_lem rows p r q (and_right (not (any (same_bytes x.name) (row_names rows))) (unequal_by same_bytes (row_names rows)) u) e f)
    where
      other : same_bytes x.name r.name ≡ false
      other = not_there x.name rows p r (not-true _ (and_left (not (any (same_bytes x.name) (row_names rows))) (unequal_by same_bytes (row_names rows)) u)) e

      go : (o : Option Published) → row_in version x ≡ o → published_as r.name (collect (row_in version) rows) ≡ some q
          → published_as r.name (elim o [ none ↦ collect (row_in version) rows | some y ↦ y ∷ collect (row_in version) rows ]) ≡ some q
      go none g h = h
      go (some y) g h = let s : same_bytes y.name r.name ≡ false = ap (λ (n : List ℕ). same_bytes n r.name) (same_name_lem x y g) ∙ other in rw s h

  -- of a row that it does not publish it publishes nothing under the name
  pub unpublished_at : (rows : List Row) (p : ℕ) (r : Row) → unequal_by same_bytes (row_names rows) ≡ true → nth p rows ≡ some r → row_in version r ≡ none
      → published_as r.name (collect (row_in version) rows) ≡ none
  unpublished_at rows p r u e f = go (published_as r.name (collect (row_in version) rows)) refl
    where
      go : (o : Option Published) → published_as r.name (collect (row_in version) rows) ≡ o → o ≡ none
      go none g = refl
      go (some q) g =
          let h = publishes rows r.name q g u in
          let s : some h.row ≡ some r = sym h.there ∙ ap (λ (i : ℕ). nth i rows) (position_at rows p r u e) ∙ e in
          let m : h.row ≡ r = cc in
          let z : some q ≡ none = sym h.is_in ∙ ap (row_in version) m ∙ f in
          cc
