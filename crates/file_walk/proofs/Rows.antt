-- What is wanted of a member: 0 where its value is passed over, and nowhere else; and that its cells begin among those of a file.
use Prim.Native.Nat.{ℕ, zero, suc, ◌≤◌, ◌<◌}
use native.Mathlib.Omega.{arith}
use mathlib.Core.Path.{◌≡◌, refl, sym, ap, ◌∙◌}
use mathlib.Core.Bool.{Bool, true, false, ◌&&◌, ◌||◌, true≢false}
use mathlib.Core.List.{[]}
use mathlib.Core.Option.{Option, none, some}
use lib.Dec.{eqb, leb}
use borrow.Table.Steps.{cases}
use borrow.Author.Tests.{ne_eqb, lt-ltb, leb-true, leb-false}
use Rattle.json_rule.specs.Tree.{Json}
use Rattle.json_members.proofs.Cases.{all_below_lem}
use Rattle.file_rule.specs.Tables.{Presence, Row, Published, anything, is_absent, is_required_by, any_version, published, row_in}
use Rattle.file_cells.specs.Wants.{row_at, passes_over, is_passed_by, is_passed, shape_of, want_in}
use Rattle.file_cells.specs.Cells.{size_of, offset_at}
use Rattle.file_members.specs.Standings.{published_of}
use Rattle.file_members.proofs.Numbers.{row_past}
use Rattle.file_members.proofs.Cells.{offset_past}
use Rattle.file_walk.specs.Outcomes.{Meant, wanted_defects}
use Rattle.file_walk.proofs.Wanted.{nothing_shape, nothing_plain}
use Rattle.file_walk.proofs.Lists.{anything_right}

-- ---- what a version publishes of a row is as the row has it, where it is not passed over

pub record AsRow (p : Published) (r : Row) : Type 0 where
  pub shape : p.shape ≡ r.shape
  pub of_schema : p.of_schema ≡ r.of_schema

-- a record of what it is to be
by_published : (r : Row) (pr : Presence) (p : Published) → published r pr ≡ some p → AsRow p r
by_published r pr p e =
    cases (is_absent pr)
    (λ a. let f : none ≡ some p = rw a at e in let z : ◌≡◌ {A = ℕ} 0 1 = cc in absurd (omega arith))
    (λ a.
    let f : some (record { name = r.name; shape = r.shape; is_required = is_required_by pr; of_schema = r.of_schema }) ≡ some p = rw a at e in
    let g : record { name = r.name; shape = r.shape; is_required = is_required_by pr; of_schema = r.of_schema } ≡ p = cc in
    record { shape = ap (λ (q : Published). q.shape) (sym g); of_schema = ap (λ (q : Published). q.of_schema) (sym g) })

by_any : (r : Row) (p : Published) → some (any_version r) ≡ some p → passes_over p.shape ≡ false → AsRow p r
by_any r p e n =
    let g : any_version r ≡ p = cc in
    cases (is_absent r.one || is_absent r.two || is_absent r.three)
    (λ a.
    let f : record { name = r.name; shape = anything; is_required = false; of_schema = false } ≡ p = rw a at g in
    absurd (true≢false (ap (λ (q : Published). passes_over q.shape) f ∙ n)))
    (λ a.
    let f : record { name = r.name; shape = r.shape; is_required = is_required_by r.one && is_required_by r.two && is_required_by r.three; of_schema = r.of_schema } ≡ p = rw a at g in
    record { shape = ap (λ (q : Published). q.shape) (sym f); of_schema = ap (λ (q : Published). q.of_schema) (sym f) })

as_row : (version : ℕ) (r : Row) (p : Published) → row_in version r ≡ some p → passes_over p.shape ≡ false → AsRow p r
unfolding row_in
as_row version r p e n =
    cases (eqb version 1)
    (λ a. by_published r r.one p (rw a at e))
    (λ a. cases (eqb version 2)
    (λ b. by_published r r.two p (rw (a, b) at e))
    (λ b. cases (eqb version 3)
    (λ c. by_published r r.three p (rw (a, b, c) at e))
    (λ c. by_any r p (rw (a, b, c) at e) n)))

-- ---- a member's number is small

row_below : (spot : ℕ) (r : Row) → row_at spot ≡ some r → spot < 69
row_below spot r e =
    cases (leb 69 spot)
    (λ t. let f : none ≡ some r = sym (row_past spot (leb-true 69 spot t)) ∙ e in let z : ◌≡◌ {A = ℕ} 0 1 = cc in absurd (omega arith))
    (λ f. leb-false 69 spot f)

member_shape : (spot : ℕ) (r : Row) → row_at spot ≡ some r → shape_of spot ≡ r.shape
unfolding shape_of
member_shape spot r e = rw (lt-ltb spot 100 (omega (arith, row_below spot r e)), e)

member_some : (spot : ℕ) (r : Row) → row_at spot ≡ some r → eqb spot 0 ≡ false
unfolding row_at
member_some zero r e = let z : ◌≡◌ {A = ℕ} 0 1 = cc in absurd (omega arith)
member_some (suc n) r e = ne_eqb (suc n) 0 (λ z. omega arith)

pub offset_small : (spot : ℕ) → offset_at spot ≤ 9047
unfolding offset_at size_of
offset_small spot =
    cases (leb 69 spot)
    (λ t. omega (arith, offset_past spot (leb-true 69 spot t)))
    (λ f. leb-true (offset_at spot) 9047 (all_below_lem 69 (λ k. leb (offset_at k) 9047) refl spot (leb-false 69 spot f)))

-- ---- what is wanted

module _ (version : ℕ) where
  abbrev is_passed_in : Option Row → Bool
  is_passed_in none = true
  is_passed_in (some r) = is_passed_by (row_in version r)

  passed_is : (spot : ℕ) → is_passed version spot ≡ is_passed_in (row_at spot)
  unfolding is_passed
  passed_is spot = go (row_at spot)
    where
      go : (o : Option Row) → (elim o as (λ x. Bool) [ none ↦ true | some r ↦ is_passed_by (row_in version r) ]) ≡ is_passed_in o
      go none = refl
      go (some r) = refl

  pub nothing_wanted : (schema : ℕ) (x : Json) → wanted_defects version schema 0 x ≡ []
  nothing_wanted schema x = rw (nothing_shape, nothing_plain) (anything_right version schema false x)

  passing : (spot : ℕ) → is_passed_in (row_at spot) ≡ true → want_in version spot ≡ 0
  unfolding want_in
  passing spot e = rw (passed_is spot, e)

  wanting : (spot : ℕ) → is_passed_in (row_at spot) ≡ false → want_in version spot ≡ spot
  unfolding want_in
  wanting spot e = rw (passed_is spot, e)

  meant_row : (spot : ℕ) (o : Option Row) → row_at spot ≡ o → (p : Option Published) → published_of version o ≡ p → Meant (want_in version spot)
  meant_row spot none e p f = rw (passing spot (ap is_passed_in e)) (record { passes = rw nothing_shape })
  meant_row spot (some r) e none f = rw (passing spot (ap is_passed_in e ∙ ap is_passed_by f)) (record { passes = rw nothing_shape })
  meant_row spot (some r) e (some p) f =
      cases (passes_over p.shape)
      (λ a. rw (passing spot (ap is_passed_in e ∙ (ap is_passed_by f ∙ a))) (record { passes = rw nothing_shape }))
      (λ a.
      let s = as_row version r p f a in
      rw (wanting spot (ap is_passed_in e ∙ (ap is_passed_by f ∙ a))) (record { passes = rw (member_some spot r e, member_shape spot r e) (sym (ap passes_over (sym s.shape) ∙ a)) }))

  -- 0 is wanted where anything may stand, and nowhere else
  pub meant_member : (spot : ℕ) → Meant (want_in version spot)
  meant_member spot = meant_row spot (row_at spot) refl (published_of version (row_at spot)) refl

  pub want_none : want_in version 0 ≡ 0
  unfolding row_at
  want_none = passing 0 refl
