-- The version of a file with which nothing is wrong is 1, 2 or 3, and what each of them publishes.
use Prim.Native.Nat.{ℕ, zero, suc, ◌%◌, ◌≤◌, ◌<◌}
use native.Mathlib.Omega.{arith}
use mathlib.Core.Path.{◌≡◌, refl, sym, ap, subst, ◌∙◌}
use mathlib.Core.Bool.{Bool, true, false, ◌&&◌, ◌||◌, false≢true}
use mathlib.Core.List.{List, []}
use mathlib.Core.Option.{Option, none, some}
use borrow.Table.Steps.{cases}
use borrow.Author.Tests.{ltb-true, leb-true, eqb-true}
use lib.Dec.{eqb, leb, ltb}
use lib.IntN.{ℤ, pos, negsuc}
use lib.Signed.{le_z}
use Rattle.rules.specs.Words.{is_some, some_with}
use Rattle.rules.proofs.Checks.{and_left, and_right}
use Rattle.json_rule.specs.Letters.{bytes}
use Rattle.json_rule.specs.Values.{whole_number_of}
use Rattle.json_rule.specs.Tree.{Json, Scalar, Array, Object, Members}
use Rattle.json_rule.specs.Members.{value_of, number_in}
use Rattle.json_rule.specs.Defects.{is_number_in, not_published, stands_at}
use Rattle.file_rule.specs.Tables.{TheFile, FileShape, Row, Published, is_absent, any_version, row_in, rows_of, required, version_shape}
use Rattle.file_rule.specs.FileDefects.{known_version, version_of, defects}
use Rattle.file_cells.specs.Wants.{nth, passes_over}
use Rattle.file_holds.proofs.Right.{impossible, passed}
use Rattle.file_holds.proofs.Members.{member_held}
use Rattle.file_holds.proofs.Spotted.{published_shape}
use Rattle.file_decoded.proofs.Reading.{is_known, always, Sound, HeldRecord}
use Rattle.file_decoded.proofs.Required.{always_there}

-- ---- which version

is_one_of_three : (z : ℤ) → (le_z (pos 1) z && le_z z (pos 3)) ≡ true → is_known (known_version z) ≡ true
is_one_of_three (negsuc n) e = absurd (false≢true e)
is_one_of_three (pos n) e =
    let a : 1 ≤ n = leb-true 1 n (and_left (leb 1 n) (leb n 3) e) in
    let b : n ≤ 3 = leb-true n 3 (and_right (leb 1 n) (leb n 3) e) in
    rw e (go n a b)
  where
    go : (n : ℕ) → 1 ≤ n → n ≤ 3 → is_known n ≡ true
    go zero a b = absurd (omega arith)
    go (suc zero) a b = refl
    go (suc (suc zero)) a b = refl
    go (suc (suc (suc zero))) a b = refl
    go (suc (suc (suc (suc n)))) a b = absurd (omega arith)

-- a row that no version leaves out keeps its shape
always_shape : (version : ℕ) (r : Row) (q : Published) → (is_absent r.one || is_absent r.two || is_absent r.three) ≡ false → row_in version r ≡ some q → q.shape ≡ r.shape
unfolding row_in
always_shape version r q a e =
    cases (eqb version 1) (λ x. published_shape r r.one q (rw x at e))
    (λ x. cases (eqb version 2) (λ y. published_shape r r.two q (rw (x, y) at e))
    (λ y. cases (eqb version 3) (λ z. published_shape r r.three q (rw (x, y, z) at e))
    (λ z. let f : some (any_version r) ≡ some q = rw (x, y, z) at e in
    let g : any_version r ≡ q = cc in
    ap (λ (p : Published). p.shape) (sym g) ∙ rw a)))

-- the version that a value says
said_version : (version schema : ℕ) (of_schema : Bool) (x : Json) → defects version schema of_schema version_shape x ≡ []
    → is_known (elim (number_in x) [ none ↦ 0 | some n ↦ known_version n ]) ≡ true
unfolding defects
said_version version schema of_schema (Array place xs closed) d = absurd (impossible d)
said_version version schema of_schema (Object place ms closed) d = absurd (impossible d)
said_version version schema of_schema (Scalar t) d = go (whole_number_of t) (passed (is_number_in (pos 1) (pos 3) t) (stands_at of_schema schema t.first) not_published d)
  where
    go : (o : Option ℤ) → some_with (λ n. le_z (pos 1) n && le_z n (pos 3)) o ≡ true → is_known (elim o [ none ↦ 0 | some n ↦ known_version n ]) ≡ true
    go none e = absurd (false≢true e)
    go (some z) e = is_one_of_three z e

pub known_version_lem : (bs cells : List ℕ) (ms : Members) → HeldRecord (version_of ms) bs cells TheFile 0 ms → is_known (version_of ms) ≡ true
unfolding version_of
known_version_lem bs cells ms h = go (value_of (bytes "format-version") ms) refl (always_there (version_of ms) bs cells h 0 _ refl refl)
  where
    by_row : (x : Json) → value_of (bytes "format-version") ms ≡ some x → (r : Row) → nth 0 (rows_of TheFile) ≡ some r → r.name ≡ bytes "format-version" → r.shape ≡ version_shape
        → (is_absent r.one || is_absent r.two || is_absent r.three) ≡ false → (o : Option Published) → row_in (version_of ms) r ≡ o → is_some o ≡ true
        → is_known (elim (number_in x) [ none ↦ 0 | some n ↦ known_version n ]) ≡ true
    by_row x e r there m s a none f i = absurd (false≢true i)
    by_row x e r there m s a (some q) f i =
        let y : q.shape ≡ version_shape = always_shape (version_of ms) r q a f ∙ s in
        let d = member_held (version_of ms) (Sound (version_of ms) bs cells) cells h.schema 0 TheFile 0 r there q f (ap passes_over y) [] ms refl h.right h.holds h.closed h.every x (ap (λ (n : List ℕ). value_of n ms) m ∙ e) in
        said_version (version_of ms) h.schema q.of_schema x (subst (λ (z : FileShape). defects (version_of ms) h.schema q.of_schema z x ≡ []) y d.right)

    go : (o : Option Json) → value_of (bytes "format-version") ms ≡ o → is_some o ≡ true → is_known (elim o [ none ↦ 0 | some x ↦ elim (number_in x) [ none ↦ 0 | some n ↦ known_version n ] ]) ≡ true
    go none e i = absurd (false≢true i)
    go (some x) e i =
        let r : Row = required "format-version" version_shape in
        by_row x e r refl refl refl refl (row_in (version_of ms) r) refl (always (version_of ms) r refl)

-- ---- what is published

module _ (version : ℕ) (v : is_known version ≡ true) where
  pub in_one : (r : Row) → eqb version 1 ≡ true → is_absent r.one ≡ false → is_some (row_in version r) ≡ true
  unfolding row_in
  in_one r e a = rw (e, a)

  -- from version 2 on
  pub since_two : (r : Row) → ltb 1 version ≡ true → is_absent r.two ≡ false → is_absent r.three ≡ false → is_some (row_in version r) ≡ true
  unfolding row_in
  since_two r l a b =
      cases (eqb version 1) (λ x. let e : version ≡ 1 = eqb-true version 1 x in let m : 1 < version = ltb-true 1 version l in absurd (omega arith))
      (λ x. cases (eqb version 2) (λ y. rw (x, y, a)) (λ y. cases (eqb version 3) (λ z. rw (x, y, z, b)) (λ z. rw (x, y, z))))

  -- from version 3 on
  pub since_three : (r : Row) → ltb 2 version ≡ true → is_absent r.three ≡ false → is_some (row_in version r) ≡ true
  unfolding row_in
  since_three r l b =
      let m : 2 < version = ltb-true 2 version l in
      cases (eqb version 1) (λ x. let e : version ≡ 1 = eqb-true version 1 x in absurd (omega arith))
      (λ x. cases (eqb version 2) (λ y. let e : version ≡ 2 = eqb-true version 2 y in absurd (omega arith)) (λ y. cases (eqb version 3) (λ z. rw (x, y, z, b)) (λ z. rw (x, y, z))))

  -- a version is a byte
  pub byte_version : version % 256 ≡ version
  byte_version =
      cases (eqb version 1) (λ x. rw (eqb-true version 1 x))
      (λ x. cases (eqb version 2) (λ y. rw (eqb-true version 2 y))
      (λ y. cases (eqb version 3) (λ z. rw (eqb-true version 3 z))
      (λ z. absurd (false≢true (rw (x, y, z) at v)))))
