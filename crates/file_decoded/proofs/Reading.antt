-- The members of a record in the cells: of each that a version holds, either it is absent and its cells are as before anything was read, or its cells hold its
-- value, and nothing is wrong with it.
use Prim.Native.Nat.{ℕ, ◌+◌, ◌<◌}
use mathlib.Core.Path.{◌≡◌, refl, ap, subst, ◌∙◌}
use mathlib.Core.Bool.{Bool, true, false, not, ◌||◌, false≢true}
use mathlib.Core.List.{List, [], ◌++◌}
use mathlib.Core.Option.{Option, none, some}
use borrow.Table.Steps.{cases}
use borrow.Author.Tests.{not-true}
use lib.Dec.{eqb}
use lib.ListN.{get_or}
use Rattle.rules.specs.Words.{is_some, all}
use Rattle.rules.proofs.Checks.{and_left, and_right, neither}
use Rattle.json_rule.specs.Lexemes.{Lexeme}
use Rattle.json_rule.specs.Tree.{Json, Scalar, Array, Object, Members}
use Rattle.json_rule.specs.Members.{is_one_of, names_of, value_of, members_in}
use Rattle.json_judge.proofs.Right.{both_empty}
use Rattle.json_judge.proofs.Follow.{is_closed, are_all}
use Rattle.file_rule.specs.Tables.{FileKind, FileShape, OfKind, Row, Published, is_absent, row_in, rows_in, rows_of}
use Rattle.file_rule.specs.FileDefects.{skips_unknown, required_in, range_names, missing_defects, schema_place, defects, member_defects}
use Rattle.file_cells.specs.Wants.{nth, kind_number, first_spot, passes_over, shape_of, record_in, named_in, named_at, record_at}
use Rattle.file_cells.specs.Cells.{size_of, offset_at}
use Rattle.file_holds.specs.Holds.{Holds, HoldMembers}
use Rattle.file_holds.specs.Lexemes.{Every, EveryMember}
use Rattle.file_holds.proofs.Right.{impossible, passed}
use Rattle.file_holds.proofs.Members.{member_held, member_absent, member_unknown}
use Rattle.file_holds.proofs.Spotted.{published_shape}
use Rattle.file_decoded.specs.Found.{Found}

-- ---- what a known version makes of a row

abbrev pub is_known : ℕ → Bool
is_known version = eqb version 1 || eqb version 2 || eqb version 3

known_shape : (version : ℕ) (r : Row) (q : Published) → is_known version ≡ true → row_in version r ≡ some q → q.shape ≡ r.shape
unfolding row_in
known_shape version r q v e =
    cases (eqb version 1) (λ a. published_shape r r.one q (rw a at e))
    (λ a. cases (eqb version 2) (λ b. published_shape r r.two q (rw (a, b) at e))
    (λ b. cases (eqb version 3) (λ c. published_shape r r.three q (rw (a, b, c) at e))
    (λ c. absurd (false≢true (rw (a, b, c) at v)))))

-- a row that no version leaves out is published in each
pub always : (version : ℕ) (r : Row) → (is_absent r.one || is_absent r.two || is_absent r.three) ≡ false → is_some (row_in version r) ≡ true
unfolding row_in
always version r e =
    let two = neither (is_absent r.one || is_absent r.two) (is_absent r.three) e in
    let one = neither (is_absent r.one) (is_absent r.two) two.0 in
    cases (eqb version 1) (λ a. rw (a, one.0))
    (λ a. cases (eqb version 2) (λ b. rw (a, b, one.1))
    (λ b. cases (eqb version 3) (λ c. rw (a, b, c, two.1))
    (λ c. rw (a, b, c))))

module _ (version : ℕ) (bs cells : List ℕ) where
  -- whole, and found again
  abbrev pub Sound : Lexeme → Type 0
  Sound t = (t.whole ≡ true) × Found bs t

  -- a record of a kind whose cells begin here, and its members
  pub record HeldRecord (k : FileKind) (base : ℕ) (ms : Members) : Type 0 where
    pub schema : ℕ
    pub holds : HoldMembers version (kind_number k) base [] ms cells
    pub right : member_defects version schema k (rows_in version k) [] ms ≡ []
    pub required : all (is_one_of (names_of ms)) (required_in (rows_in version k) ++ range_names version k (names_of ms)) ≡ true
    pub closed : are_all ms ≡ true
    pub every : EveryMember Sound ms

  -- a value that is to be of a shape: absent, or held and right
  pub data Reading (shape : FileShape) (name : List ℕ) (spot at : ℕ) (ms : Members) : Type 0 where
    missing : value_of name ms ≡ none → ((i : ℕ) → i < size_of shape → get_or cells (at + i) 0 ≡ 0) → Reading shape name spot at ms
    present : (x : Json) (schema : ℕ) (of_schema : Bool) → value_of name ms ≡ some x → Holds version spot at x cells → defects version schema of_schema shape x ≡ [] → is_closed x ≡ true → Every Sound x
        → Reading shape name spot at ms

  module _ (v : is_known version ≡ true) {k : FileKind} {base : ℕ} {ms : Members} (h : HeldRecord k base ms) where
    pub reading : (p : ℕ) (r : Row) → nth p (rows_of k) ≡ some r → passes_over r.shape ≡ false → (is_some (row_in version r) || not (skips_unknown k)) ≡ true
        → (at : ℕ) → base + offset_at (first_spot k + p) ≡ at → Reading r.shape r.name (first_spot k + p) at ms
    reading p r there n w at o = subst (λ (a : ℕ). Reading r.shape r.name (first_spot k + p) a ms) o (by_row (row_in version r) refl w)
      where
        gone : value_of r.name ms ≡ none → Reading r.shape r.name (first_spot k + p) (base + offset_at (first_spot k + p)) ms
        gone e = missing e (member_absent version Sound cells h.schema base k p r there [] ms refl h.holds h.closed e)

        by_value : (q : Published) → row_in version r ≡ some q → (o : Option Json) → value_of r.name ms ≡ o → Reading r.shape r.name (first_spot k + p) (base + offset_at (first_spot k + p)) ms
        by_value q e none f = gone f
        by_value q e (some x) f =
            let s : q.shape ≡ r.shape = known_shape version r q v e in
            let d = member_held version Sound cells h.schema base k p r there q e (ap passes_over s ∙ n) [] ms refl h.right h.holds h.closed h.every x f in
            present x h.schema q.of_schema f d.holds (subst (λ (y : FileShape). defects version h.schema q.of_schema y x ≡ []) s d.right) d.closed d.every

        by_row : (q : Option Published) → row_in version r ≡ q → (is_some q || not (skips_unknown k)) ≡ true → Reading r.shape r.name (first_spot k + p) (base + offset_at (first_spot k + p)) ms
        by_row none e w = gone (member_unknown version Sound cells h.schema base k p r there e (not-true (skips_unknown k) w) [] ms h.right)
        by_row (some q) e w = by_value q e (value_of r.name ms) refl

  -- an object where a record is to be
  pub record_of_lem : (k : FileKind) (want base schema : ℕ) (of_schema : Bool) (x : Json) → shape_of want ≡ OfKind k → Holds version want base x cells → defects version schema of_schema (OfKind k) x ≡ [] → is_closed x ≡ true → Every Sound x
      → HeldRecord k base (members_in x)
  unfolding defects Holds named_at record_at is_closed Every
  record_of_lem k want base schema of_schema (Scalar t) s h d c e = absurd (impossible d)
  record_of_lem k want base schema of_schema (Array place xs closed) s h d c e = absurd (impossible d)
  record_of_lem k want base schema of_schema (Object place ms closed) s h d c e =
      let parts = both_empty (member_defects version (schema_place k place schema) k (rows_in version k) [] ms) (missing_defects version k place ms closed) d in
      let w : closed ≡ true = and_left closed (are_all ms) c in
      record {
        schema = schema_place k place schema;
        holds = subst (λ (y : FileShape). HoldMembers version (record_in y) base [] ms cells) s (h.0 (ap (λ (y : FileShape). eqb (named_in y) 0) s));
        right = parts.0;
        required = rw w at (passed (not closed || all (is_one_of (names_of ms)) (required_in (rows_in version k) ++ range_names version k (names_of ms))) place 30 parts.1);
        closed = and_right closed (are_all ms) c;
        every = e;
      }
