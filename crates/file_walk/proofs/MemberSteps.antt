-- What a member adds to what an object comes to.
use Prim.Native.Nat.{ℕ, ◌+◌}
use mathlib.Core.Path.{◌≡◌, refl, ap, ◌∙◌}
use mathlib.Core.Bool.{Bool, true, cond, not}
use mathlib.Core.List.{List, []}
use mathlib.Core.Option.{Option, none, some}
use lib.Dec.{eqb, leb}
use borrow.Table.Steps.{cases}
use Rattle.rules.specs.Words.{is_some}
use Rattle.json_rule.specs.Lexemes.{Lexeme}
use Rattle.json_rule.specs.Values.{text_of}
use Rattle.json_rule.specs.Tree.{Defect, Json, Members, no_member, bare_name, member, Named, ClosedBy, OpenBy, with_member}
use Rattle.json_rule.specs.Defects.{not_published, with_name, least}
use Rattle.json_judge.specs.Refusal.{sooner}
use Rattle.json_judge.proofs.Least.{sooner_associates, least_three}
use Rattle.file_rule.specs.Tables.{FileKind, Published, rows_in}
use Rattle.file_rule.specs.FileDefects.{row_by, is_repeated, skips_unknown, row_for, name_defects, defects, member_defects}
use Rattle.file_cells.specs.Wants.{kind_at, spot_in, spot_by, want_in, spot_for}
use Rattle.file_cells.specs.Cells.{offset_at}
use Rattle.file_cells.specs.Filled.{filled}
use Rattle.file_members.proofs.Judging.{known_by, row_for_lem, judged_by}
use Rattle.file_walk.specs.Seats.{refusal_of}
use Rattle.file_walk.specs.Outcomes.{wanted_defects}
use Rattle.file_walk.specs.Members.{name_said, name_number, next_skip, known_spot, members_said, of_members}
use Rattle.file_walk.proofs.Said.{said_unless}
use Rattle.file_walk.proofs.Numbered.{OfKindAt, by_kind}
use Rattle.file_walk.proofs.Rows.{nothing_wanted, want_none}

module _ (version : ℕ) where
  -- ---- names

  pub no_spot : (kind : ℕ) (x : Option (List ℕ)) → kind_at kind ≡ none → spot_by version kind x ≡ 0
  unfolding spot_by
  no_spot kind x e = ap (λ (o : Option FileKind). elim o as (λ y. ℕ) [ none ↦ 0 | some j ↦ spot_in version j x ]) e

  -- a name is known where its number is none of 0
  pub known_is : (kind : ℕ) (k : FileKind) → OfKindAt kind k → (x : Option (List ℕ)) → is_some (row_by (rows_in version k) x) ≡ not (eqb (spot_by version kind x) 0)
  known_is kind k o x = known_by version kind k o.is x

  name_numbers : (known : ℕ) (repeated skips : Bool) → cond (cond (not (eqb known 0)) (not repeated) skips) 0 not_published ≡ cond (eqb known 0) (cond skips 0 not_published) (cond repeated not_published 0)
  name_numbers known repeated skips = cases (eqb known 0) (λ a. rw a) (λ a. rw a (cases repeated (λ r. rw r) (λ r. rw r)))

  name_number_lem : (kind : ℕ) (k : FileKind) → OfKindAt kind k → (seen : List (List ℕ)) (t : Lexeme)
      → cond (cond (is_some (row_by (rows_in version k) (text_of t))) (not (is_repeated seen (text_of t))) (skips_unknown k)) 0 not_published ≡ name_number kind (known_spot version kind t) (is_repeated seen (text_of t))
  name_number_lem kind k o seen t = rw (known_is kind k o (text_of t), o.skips, o.below) (name_numbers (known_spot version kind t) (is_repeated seen (text_of t)) (eqb kind 0))

  name_said_lem : (kind : ℕ) (k : FileKind) → OfKindAt kind k → (seen : List (List ℕ)) (t : Lexeme) → least (name_defects k (rows_in version k) seen t) ≡ name_said version kind seen t
  name_said_lem kind k o seen t =
      said_unless (cond (is_some (row_by (rows_in version k) (text_of t))) (not (is_repeated seen (text_of t))) (skips_unknown k)) t.first not_published refl
      ∙ ap (λ (n : ℕ). refusal_of n t.first) (name_number_lem kind k o seen t)

  -- ---- values

  abbrev pub value_said : ℕ → ℕ → List (List ℕ) → Lexeme → Json → Option Defect
  value_said schema kind seen t x = least (wanted_defects version schema (want_in version (spot_for version kind seen t)) x)

  value_said_lem : (schema kind : ℕ) (k : FileKind) → OfKindAt kind k → (seen : List (List ℕ)) (t : Lexeme) (x : Json)
      → (elim (row_for (rows_in version k) seen t) as (λ y. List Defect) [ none ↦ [] | some r ↦ defects version schema r.of_schema r.shape x ])
      ≡ wanted_defects version schema (want_in version (spot_for version kind seen t)) x
  value_said_lem schema kind k o seen t x =
      ap (λ (p : Option Published). elim p as (λ y. List Defect) [ none ↦ [] | some r ↦ defects version schema r.of_schema r.shape x ]) (row_for_lem version kind k o.is seen t)
      ∙ judged_by version (spot_for version kind seen t) schema x

  no_fresh : (kind : ℕ) (seen : List (List ℕ)) (t : Lexeme) → kind_at kind ≡ none → spot_for version kind seen t ≡ 0
  unfolding spot_for
  no_fresh kind seen t e = cases (is_repeated seen (text_of t)) (λ a. rw a) (λ a. rw a (no_spot kind (text_of t) e))

  none_valued : (schema kind : ℕ) (seen : List (List ℕ)) (t : Lexeme) (x : Json) → kind_at kind ≡ none → value_said schema kind seen t x ≡ none
  none_valued schema kind seen t x e = rw (no_fresh kind seen t e, want_none version, nothing_wanted version schema x)

  none_named : (kind : ℕ) (seen : List (List ℕ)) (t : Lexeme) → leb 13 kind ≡ true → name_said version kind seen t ≡ none
  none_named kind seen t e = rw e

  -- ---- a member

  pub said_member : (schema kind : ℕ) (seen : List (List ℕ)) (t : Lexeme) (x : Json) (ms : Members)
      → members_said version schema kind seen (member t x ms)
      ≡ sooner (name_said version kind seen t) (sooner (value_said schema kind seen t x) (members_said version schema kind (with_name seen (text_of t)) ms))
  unfolding defects
  said_member schema kind seen t x ms =
      by_kind kind
      (λ e b. rw (none_named kind seen t b, none_valued schema kind seen t x e, e))
      (λ k o.
      rw o.is
      (least_three (name_defects k (rows_in version k) seen t)
      (elim (row_for (rows_in version k) seen t) as (λ y. List Defect) [ none ↦ [] | some r ↦ defects version schema r.of_schema r.shape x ])
      (member_defects version schema k (rows_in version k) (with_name seen (text_of t)) ms)
      ∙ rw (name_said_lem kind k o seen t, value_said_lem schema kind k o seen t x)))

  pub said_bare : (schema kind : ℕ) (seen : List (List ℕ)) (t : Lexeme) → members_said version schema kind seen (bare_name t) ≡ name_said version kind seen t
  unfolding defects
  said_bare schema kind seen t = by_kind kind (λ e b. rw (none_named kind seen t b, e)) (λ k o. rw o.is (name_said_lem kind k o seen t))

  pub said_none : (schema kind : ℕ) (seen : List (List ℕ)) → members_said version schema kind seen no_member ≡ none
  unfolding defects
  said_none schema kind seen = by_kind kind (λ e b. rw e) (λ k o. rw o.is)

  -- a member more in front
  module _ (schema kind base : ℕ) where
    pub members_with : (seen : List (List ℕ)) (count : ℕ) (said : Option Defect) (cells : List ℕ) (t : Lexeme) (x : Json) (n : Named)
        → of_members version schema kind base seen count said cells (with_member t x n)
        ≡ of_members version schema kind base (with_name seen (text_of t)) (next_skip kind (known_spot version kind t) count)
        (sooner (sooner said (name_said version kind seen t)) (value_said schema kind seen t x))
        (filled version (want_in version (spot_for version kind seen t)) (base + offset_at (spot_for version kind seen t)) x cells) n
    unfolding filled
    members_with seen count said cells t x (ClosedBy ms ts) =
        rw (
          said_member schema kind seen t x ms,
          sooner_associates (sooner said (name_said version kind seen t)) (value_said schema kind seen t x) (members_said version schema kind (with_name seen (text_of t)) ms),
          sooner_associates said (name_said version kind seen t) (sooner (value_said schema kind seen t x) (members_said version schema kind (with_name seen (text_of t)) ms)),
        )
    members_with seen count said cells t x (OpenBy ms stop) =
        rw (
          said_member schema kind seen t x ms,
          sooner_associates (sooner said (name_said version kind seen t)) (value_said schema kind seen t x) (members_said version schema kind (with_name seen (text_of t)) ms),
          sooner_associates said (name_said version kind seen t) (sooner (value_said schema kind seen t x) (members_said version schema kind (with_name seen (text_of t)) ms)),
        )
