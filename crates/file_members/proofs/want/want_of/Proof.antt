-- A member that is not published, or is passed over, is anything.
use Prim.Native.Nat.{ℕ, ◌<◌}
use mathlib.Core.Path.{◌≡◌, sym, ap, ◌∙◌}
use mathlib.Core.Bool.{Bool, true, false, cond}
use native.Mathlib.Omega.{arith}
use borrow.Author.Rules.{rules}
use borrow.Author.Tests.{eq-eqb, ne_eqb, leb-true, leb-false}
use borrow.Table.Steps.{cases}
use lib.Dec.{leb}
use Rattle.file_cells.specs.Wants.{passes_over, shape_of, want_in}
use Rattle.file_members.specs.Standings.{standing_at}
use Rattle.file_members.proofs.Standings.{standing_past, is_passed_lem}
use Rattle.file_members.proofs.Shapes.{row_shape}
use Rattle.file_members.proofs.want.want_of.Statement.{statement}
use Rattle.file_members.proofs.want.want_of.Tie as tie

absent : (version spot : ℕ) → standing_at version spot ≡ 0 → 0 ≡ want_in version spot
unfolding want_in
absent version spot e = rw (is_passed_lem version spot, eq-eqb (standing_at version spot) 0 e)

-- only members stand in a version
below : (version spot : ℕ) → (standing_at version spot ≡ 0 → ⊥) → spot < 100
below version spot n = cases (leb 69 spot) (λ t. absurd (n (standing_past version spot (leb-true 69 spot t)))) (λ f. omega (arith, leb-false 69 spot f))

there : (version spot : ℕ) (over : Bool) → (standing_at version spot ≡ 0 → ⊥) → passes_over (shape_of spot) ≡ over → cond over 0 spot ≡ want_in version spot
unfolding want_in
there version spot over n e =
    rw (is_passed_lem version spot, ne_eqb (standing_at version spot) 0 n)
    (ap (λ (b : Bool). cond b 0 spot) (sym e ∙ ap passes_over (row_shape spot (below version spot n))))

pub want_of_spec : {M : Type 1} → statement M
want_of_spec =
    tie.close
    (tie.spec
    (λ c κs. search rules)
    (λ c. absent _ _ (sym c.standing.ensures ∙ c.if-standing-eq-ABSENT.true))
    (λ c κs. search rules)
    (λ c. there _ _ true (λ e. c.if-standing-eq-ABSENT.false (c.standing.ensures ∙ e)) (sym c.passes_over.ensures ∙ c.if-passes_over.true))
    (λ c. there _ _ false (λ e. c.if-standing-eq-ABSENT.false (c.standing.ensures ∙ e)) (sym c.passes_over.ensures ∙ c.if-passes_over.false)))
