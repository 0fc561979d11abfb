-- The members of a record by their names: where one is there its cells hold its value, where it is not they are as before anything was read.
use Prim.Native.Nat.{ℕ, ◌+◌, ◌<◌}
use native.Mathlib.Omega.{arith}
use mathlib.Core.Path.{◌≡◌, refl, sym, ap, subst, ◌∙◌}
use mathlib.Core.Bool.{Bool, true, false, cond, not, ◌&&◌, false≢true}
use mathlib.Core.List.{List, [], ◌++◌}
use mathlib.Core.Option.{Option, none, some}
use borrow.Table.Steps.{cases}
use lib.Dec.{eqb}
use lib.ListN.{get_or}
use Rattle.rules.specs.Words.{is_some, some_with, same_bytes}
use Rattle.rules.proofs.Checks.{and_left, and_right}
use Rattle.rules.proofs.Orders.{names_told_lem}
use Rattle.json_rule.specs.Lexemes.{Lexeme}
use Rattle.json_rule.specs.Values.{text_of}
use Rattle.json_rule.specs.Tree.{Json, Members, no_member, bare_name, member}
use Rattle.json_rule.specs.Members.{is_one_of, is_named, value_of}
use Rattle.json_rule.specs.Defects.{with_name}
use Rattle.json_judge.proofs.Right.{both_empty}
use Rattle.json_judge.proofs.Follow.{is_closed, are_all}
use Rattle.file_rule.specs.Tables.{FileKind, Row, Published, row_in, rows_in, rows_of}
use Rattle.file_rule.specs.FileDefects.{published_as, is_repeated, row_by, row_for, skips_unknown, name_defects, defects, member_defects}
use Rattle.file_cells.specs.Wants.{nth, kind_number, first_spot, spot_in, spot_by, spot_for, passes_over, is_passed, want_in}
use Rattle.file_cells.specs.Cells.{size_of, offset_at}
use Rattle.file_holds.specs.Holds.{HoldNoOther, Holds, HoldMembers}
use Rattle.file_holds.specs.Lexemes.{Every, EveryMember}
use Rattle.file_holds.proofs.Spots.{row_at_lem}
use Rattle.file_holds.proofs.Rows.{unequal_names, position_at, published_at_lem, unpublished_at}
use Rattle.file_holds.proofs.Right.{kind_at_lem, passed, value_defects}

-- a name that is this one
pub named_so : (name : List ℕ) (t : Lexeme) → is_named name t ≡ true → text_of t ≡ some name
named_so name t e = go (text_of t) refl e
  where
    go : (o : Option (List ℕ)) → text_of t ≡ o → some_with (same_bytes name) o ≡ true → o ≡ some name
    go none f e = absurd (false≢true e)
    go (some n) f e = ap some (sym (names_told_lem.equal name n e))

-- one that was not there, and is not this one
pub still_new : (seen : List (List ℕ)) (name : List ℕ) (t : Lexeme) → is_one_of seen name ≡ false → is_named name t ≡ false → is_one_of (with_name seen (text_of t)) name ≡ false
still_new seen name t n e = go (text_of t) e
  where
    go : (o : Option (List ℕ)) → some_with (same_bytes name) o ≡ false → is_one_of (with_name seen o) name ≡ false
    go none e = n
    go (some m) e = rw (e, n)

module _ (version : ℕ) where
  -- ---- the number of a member

  module _ (k : FileKind) (p : ℕ) (r : Row) (q : Published) (there : nth p (rows_of k) ≡ some r) (is_in : row_in version r ≡ some q) where
    row_by_lem : published_as r.name (rows_in version k) ≡ some q
    unfolding rows_in
    row_by_lem = published_at_lem version (rows_of k) p r q (unequal_names k) there is_in

    pub spot_by_name : (seen : List (List ℕ)) (t : Lexeme) → text_of t ≡ some r.name → is_one_of seen r.name ≡ false → spot_for version (kind_number k) seen t ≡ first_spot k + p
    unfolding spot_for spot_by spot_in
    spot_by_name seen t e n = rw (spot_by, kind_at_lem k, e, n, row_by_lem) (ap (λ (i : ℕ). first_spot k + i) (position_at (rows_of k) p r (unequal_names k) there))

    pub want_by_name : passes_over q.shape ≡ false → want_in version (first_spot k + p) ≡ first_spot k + p
    unfolding want_in is_passed
    want_by_name n = rw (is_passed, row_at_lem k p r there, is_in, n)

    judged_by_name : (seen : List (List ℕ)) (t : Lexeme) → text_of t ≡ some r.name → is_one_of seen r.name ≡ false → row_for (rows_in version k) seen t ≡ some q
    judged_by_name seen t e n = rw (e, n, row_by_lem)

  -- ---- a member that is there

  pub record HeldValue (P : Lexeme → Type 0) (cells : List ℕ) (schema spot at : ℕ) (q : Published) (x : Json) : Type 0 where
    pub holds : Holds version spot at x cells
    pub right : defects version schema q.of_schema q.shape x ≡ []
    pub closed : is_closed x ≡ true
    pub every : Every P x

  module _ (P : Lexeme → Type 0) (cells : List ℕ) (schema base : ℕ) (k : FileKind) (p : ℕ) (r : Row) (there : nth p (rows_of k) ≡ some r) where
    abbrev at : ℕ
    at = base + offset_at (first_spot k + p)

    abbrev rows : List Published
    rows = rows_in version k

    pub member_held : (q : Published) → row_in version r ≡ some q → passes_over q.shape ≡ false → (seen : List (List ℕ)) (ms : Members) → is_one_of seen r.name ≡ false → member_defects version schema k rows seen ms ≡ []
        → HoldMembers version (kind_number k) base seen ms cells → are_all ms ≡ true → EveryMember P ms → (x : Json) → value_of r.name ms ≡ some x → HeldValue P cells schema (first_spot k + p) at q x
    unfolding defects is_closed Holds Every
    member_held q is_in w seen no_member n d h c e x v = let z : none ≡ some x = v in absurd (let i : ◌≡◌ {A = ℕ} 0 1 = cc in omega arith)
    member_held q is_in w seen (bare_name t) n d h c e x v = let z : none ≡ some x = v in absurd (let i : ◌≡◌ {A = ℕ} 0 1 = cc in omega arith)
    member_held q is_in w seen (member t y ms) n d h c e x v =
        let parts = both_empty (name_defects k rows seen t ++ value_defects version schema y (row_for rows seen t)) (member_defects version schema k rows (with_name seen (text_of t)) ms) d in
        let more = both_empty (name_defects k rows seen t) (value_defects version schema y (row_for rows seen t)) parts.0 in
        cases (is_named r.name t)
        (λ b. let g : some y ≡ some x = rw b at v in
        let f : y ≡ x = cc in
        let m : text_of t ≡ some r.name = named_so r.name t b in
        let s : spot_for version (kind_number k) seen t ≡ first_spot k + p = spot_by_name k p r q there is_in seen t m n in
        let u : want_in version (spot_for version (kind_number k) seen t) ≡ first_spot k + p = ap (want_in version) s ∙ want_by_name k p r q there is_in w in
        subst (λ (z : Json). HeldValue P cells schema (first_spot k + p) at q z) f
        (record {
          holds = subst (λ (z : ℕ). Holds version z at y cells) u (subst (λ (z : ℕ). Holds version (want_in version (spot_for version (kind_number k) seen t)) (base + offset_at z) y cells) s h.0);
          right = ap (value_defects version schema y) (sym (judged_by_name k p r q there is_in seen t m n)) ∙ more.1;
          closed = and_left (is_closed y) (are_all ms) c;
          every = e.1;
        }))
        (λ b. member_held q is_in w (with_name seen (text_of t)) ms (still_new seen r.name t n b) parts.1 h.1 (and_right (is_closed y) (are_all ms) c) e.2 x (rw b at v))

    -- ---- one that is not

    pub member_absent : (seen : List (List ℕ)) (ms : Members) → is_one_of seen r.name ≡ false → HoldMembers version (kind_number k) base seen ms cells → are_all ms ≡ true → value_of r.name ms ≡ none
        → (i : ℕ) → i < size_of r.shape → get_or cells (at + i) 0 ≡ 0
    unfolding is_closed Holds HoldNoOther
    member_absent seen no_member n h c v i l = h k p r (kind_at_lem k) there (rw n) i l
    member_absent seen (bare_name t) n h c v i l = absurd (false≢true c)
    member_absent seen (member t y ms) n h c v i l =
        cases (is_named r.name t)
        (λ b. let g : some y ≡ none = rw b at v in cc)
        (λ b. member_absent (with_name seen (text_of t)) ms (still_new seen r.name t n b) h.1 (and_right (is_closed y) (are_all ms) c) (rw b at v) i l)

    -- what a version does not publish is not there, where unknown members are refused
    pub member_unknown : row_in version r ≡ none → skips_unknown k ≡ false → (seen : List (List ℕ)) (ms : Members) → member_defects version schema k rows seen ms ≡ [] → value_of r.name ms ≡ none
    unfolding defects rows_in
    member_unknown is_in s seen no_member d = refl
    member_unknown is_in s seen (bare_name t) d = refl
    member_unknown is_in s seen (member t y ms) d =
        let parts = both_empty (name_defects k rows seen t ++ value_defects version schema y (row_for rows seen t)) (member_defects version schema k rows (with_name seen (text_of t)) ms) d in
        let more = both_empty (name_defects k rows seen t) (value_defects version schema y (row_for rows seen t)) parts.0 in
        cases (is_named r.name t)
        (λ b. let m : text_of t ≡ some r.name = named_so r.name t b in
        let u : row_by rows (text_of t) ≡ none = ap (row_by rows) m ∙ unpublished_at version (rows_of k) p r (unequal_names k) there is_in in
        let j = passed (cond (is_some (row_by rows (text_of t))) (not (is_repeated seen (text_of t))) (skips_unknown k)) t.first 28 more.0 in
        absurd (false≢true (rw (u, s) at j)))
        (λ b. rw b (member_unknown is_in s (with_name seen (text_of t)) ms parts.1))

    -- what a version does not publish, or passes over, is not held
    pub member_unwritten : eqb (want_in version (first_spot k + p)) 0 ≡ true → (seen : List (List ℕ)) (ms : Members) → HoldMembers version (kind_number k) base seen ms cells → are_all ms ≡ true
        → (i : ℕ) → i < size_of r.shape → get_or cells (at + i) 0 ≡ 0
    unfolding is_closed Holds HoldNoOther
    member_unwritten w seen no_member h c i l = h k p r (kind_at_lem k) there (ap (λ (b : Bool). is_one_of seen r.name && not b) w ∙ never (is_one_of seen r.name)) i l
      where
        never : (b : Bool) → (b && false) ≡ false
        never true = refl
        never false = refl
    member_unwritten w seen (bare_name t) h c i l = absurd (false≢true c)
    member_unwritten w seen (member t y ms) h c i l = member_unwritten w (with_name seen (text_of t)) ms h.1 (and_right (is_closed y) (are_all ms) c) i l
