-- A member whose value is held: its name is new, a version publishes it, and its number, its row, its shape and its cells are those of one row of the record.
use Prim.Native.Nat.{ℕ, ◌+◌, ◌≤◌, ◌<◌}
use native.Mathlib.Omega.{arith}
use mathlib.Core.Path.{◌≡◌, refl, sym, ap, ◌∙◌}
use mathlib.Core.Bool.{Bool, true, false, cond, ◌||◌, true≢false}
use mathlib.Core.List.{List}
use mathlib.Core.Option.{Option, none, some}
use borrow.Table.Steps.{cases}
use borrow.Author.Tests.{leb-true, lt-ltb}
use lib.Dec.{eqb, leb}
use lib.ListN.{length}
use Rattle.json_rule.specs.Lexemes.{Lexeme}
use Rattle.json_rule.specs.Values.{text_of}
use Rattle.json_rule.specs.Members.{is_one_of}
use Rattle.file_rule.specs.Tables.{FileKind, TheFile, HeldSnapshot, HeldSchema, HeldField, HeldSpec, HeldPartitionField, HeldOrder, HeldSortField, HeldRef, HeldLogEntry, HeldFileEntry, HeldStatistics, HeldPartitionStatistics, Presence, Required, Optional, Absent, Row, Published, is_absent, any_version, published, row_in, rows_in, rows_of}
use Rattle.file_rule.specs.FileDefects.{published_as, row_for}
use Rattle.file_cells.specs.Wants.{nth, kind_at, first_spot, row_at, position, spot_in, spot_by, spot_for, passes_over, is_passed, want_in, shape_of}
use Rattle.file_holds.proofs.Spots.{nth_bound, row_at_lem}
use Rattle.file_holds.proofs.Rows.{unequal_names, Publishes, publishes}

-- the numbers of members are below those of records
spots_below : (k : FileKind) → leb (first_spot k + length (rows_of k)) 100 ≡ true
spots_below TheFile = refl
spots_below HeldSnapshot = refl
spots_below HeldSchema = refl
spots_below HeldField = refl
spots_below HeldSpec = refl
spots_below HeldPartitionField = refl
spots_below HeldOrder = refl
spots_below HeldSortField = refl
spots_below HeldRef = refl
spots_below HeldLogEntry = refl
spots_below HeldFileEntry = refl
spots_below HeldStatistics = refl
spots_below HeldPartitionStatistics = refl

-- the shape of a member's number
pub shape_at : (k : FileKind) (p : ℕ) (r : Row) → nth p (rows_of k) ≡ some r → shape_of (first_spot k + p) ≡ r.shape
unfolding shape_of
shape_at k p r e =
    let b : first_spot k + length (rows_of k) ≤ 100 = leb-true _ _ (spots_below k) in
    let h : p < length (rows_of k) = nth_bound (rows_of k) p r e in
    rw (lt-ltb (first_spot k + p) 100 (omega arith), row_at_lem k p r e)

-- ---- what is published is not passed over

pub published_shape : (r : Row) (a : Presence) (q : Published) → published r a ≡ some q → q.shape ≡ r.shape
published_shape r Required q e = cc
published_shape r Optional q e = cc
published_shape r Absent q e = cc

any_shape : (r : Row) → passes_over (any_version r).shape ≡ false → (any_version r).shape ≡ r.shape
any_shape r = go (is_absent r.one || is_absent r.two || is_absent r.three) refl
  where
    go : (b : Bool) → (is_absent r.one || is_absent r.two || is_absent r.three) ≡ b → passes_over (any_version r).shape ≡ false → (any_version r).shape ≡ r.shape
    go true e h = absurd (true≢false (rw e at h))
    go false e h = rw e

module _ (version : ℕ) where
  pub same_shape : (r : Row) (q : Published) → row_in version r ≡ some q → passes_over q.shape ≡ false → q.shape ≡ r.shape
  unfolding row_in
  same_shape r q e n =
      cases (eqb version 1) (λ a. published_shape r r.one q (rw a at e))
      (λ a. cases (eqb version 2) (λ b. published_shape r r.two q (rw (a, b) at e))
      (λ b. cases (eqb version 3) (λ c. published_shape r r.three q (rw (a, b, c) at e))
      (λ c. let g : some (any_version r) ≡ some q = rw (a, b, c) at e in
      let h : any_version r ≡ q = cc in
      let s : (any_version r).shape ≡ q.shape = ap (λ (y : Published). y.shape) h in
      sym s ∙ any_shape r (ap passes_over s ∙ n))))

  pub want_nothing : want_in version 0 ≡ 0
  unfolding want_in is_passed row_at
  want_nothing = refl

  -- what is wanted of a member that is not passed over is the member
  pub wanted : (spot : ℕ) → eqb (want_in version spot) 0 ≡ false → (want_in version spot ≡ spot) × (is_passed version spot ≡ false)
  unfolding want_in
  wanted spot e = go (is_passed version spot) e
    where
      go : (b : Bool) → eqb (cond b 0 spot) 0 ≡ false → (cond b 0 spot ≡ spot) × (b ≡ false)
      go true e = absurd (true≢false e)
      go false e = (refl, refl)

  not_passed : (spot : ℕ) (r : Row) (q : Published) → row_at spot ≡ some r → row_in version r ≡ some q → is_passed version spot ≡ false → passes_over q.shape ≡ false
  unfolding is_passed
  not_passed spot r q e f n = rw (is_passed, e, f) at n

  module _ (kind : ℕ) (seen : List (List ℕ)) (t : Lexeme) where
    -- where a member stands, if anywhere
    data Spotting : Type 0 where
      nowhere : spot_for version kind seen t ≡ 0 → Spotting
      somewhere : (k : FileKind) (name : List ℕ) (q : Published) → kind_at kind ≡ some k → text_of t ≡ some name → is_one_of seen name ≡ false
          → published_as name (rows_in version k) ≡ some q → spot_for version kind seen t ≡ first_spot k + position name (rows_of k) → Spotting

    spotting : Spotting
    unfolding spot_for spot_by spot_in
    spotting = by_name (text_of t) refl
      where
        by_row : (name : List ℕ) → text_of t ≡ some name → is_one_of seen name ≡ false → (k : FileKind) → kind_at kind ≡ some k → (o : Option Published) → published_as name (rows_in version k) ≡ o → Spotting
        by_row name e n k f none g = nowhere (rw (spot_by, f, e, n, g))
        by_row name e n k f (some q) g = somewhere k name q f e n g (rw (spot_by, f, e, n, g))

        by_kind : (name : List ℕ) → text_of t ≡ some name → is_one_of seen name ≡ false → (o : Option FileKind) → kind_at kind ≡ o → Spotting
        by_kind name e n none f = nowhere (rw (spot_by, f, e, n))
        by_kind name e n (some k) f = by_row name e n k f (published_as name (rows_in version k)) refl

        by_name : (o : Option (List ℕ)) → text_of t ≡ o → Spotting
        by_name none e = nowhere (no_name_lem (kind_at kind) refl)
          where
            no_name_lem : (o : Option FileKind) → kind_at kind ≡ o → spot_for version kind seen t ≡ 0
            no_name_lem none f = rw (spot_by, f, e)
            no_name_lem (some k) f = rw (spot_by, f, e)
        by_name (some name) e = cases (is_one_of seen name) (λ s. nowhere (rw (e, s))) (λ s. by_kind name e s (kind_at kind) refl)

    -- one whose value is held
    pub record Spotted : Type 0 where
      pub record_kind : FileKind
      pub place : ℕ
      pub row : Row
      pub publication : Published
      pub is_kind : kind_at kind ≡ some record_kind
      pub there : nth place (rows_of record_kind) ≡ some row
      pub spot : spot_for version kind seen t ≡ first_spot record_kind + place
      pub name : text_of t ≡ some row.name
      pub fresh : is_one_of seen row.name ≡ false
      pub is_in : row_in version row ≡ some publication
      pub judged : row_for (rows_in version record_kind) seen t ≡ some publication
      pub shape : publication.shape ≡ row.shape
      pub want : want_in version (spot_for version kind seen t) ≡ first_spot record_kind + place
      pub passed : passes_over publication.shape ≡ false

    pub spotted : eqb (want_in version (spot_for version kind seen t)) 0 ≡ false → Spotted
    unfolding rows_in
    spotted e = go spotting
      where
        go : Spotting → Spotted
        go (nowhere z) = absurd (true≢false (sym (ap (λ (s : ℕ). eqb (want_in version s) 0) z ∙ ap (λ (s : ℕ). eqb s 0) want_nothing) ∙ e))
        go (somewhere k name q f n u g s) =
            let h : Publishes version (rows_of k) name q = publishes version (rows_of k) name q g (unequal_names k) in
            let m : text_of t ≡ some h.row.name = n ∙ ap some (sym h.named) in
            let w = wanted (spot_for version kind seen t) e in
            let x : row_at (spot_for version kind seen t) ≡ some h.row = ap row_at s ∙ row_at_lem k (position name (rows_of k)) h.row h.there in
            let y : passes_over q.shape ≡ false = not_passed (spot_for version kind seen t) h.row q x h.is_in w.1 in
            record {
              record_kind = k;
              place = position name (rows_of k);
              row = h.row;
              publication = q;
              is_kind = f;
              there = h.there;
              spot = s;
              name = m;
              fresh = ap (is_one_of seen) h.named ∙ u;
              is_in = h.is_in;
              judged = rw (n, u, g);
              shape = same_shape h.row q h.is_in y;
              want = w.0 ∙ s;
              passed = y;
            }
