-- In a version by the standing; in what is none, each member is.
use Prim.Native.Nat.{ℕ, ◌<◌}
use mathlib.Core.Path.{◌≡◌, refl, sym, ap, ◌∙◌}
use mathlib.Core.Bool.{true, false, not, ◌||◌}
use mathlib.Core.Logic.{inl, inr}
use mathlib.Core.List.{[], ◌∷◌}
use borrow.Author.Rules.{rules}
use borrow.Author.Tests.{ne_eqb}
use lib.Dec.{eqb}
use types.Run.{OneOf}
use Rattle.rules.specs.Words.{is_some}
use Rattle.json_members.proofs.Cases.{all_below_lem}
use Rattle.file_cells.specs.Wants.{row_at}
use Rattle.file_members.specs.Standings.{standing_at, published_at}
use Rattle.file_members.proofs.Numbers.{or_right}
use Rattle.file_members.proofs.Standings.{published_one, published_two, published_three, published_any, published_past}
use Rattle.file_members.proofs.standing.is_published.Statement.{statement}
use Rattle.file_members.proofs.standing.is_published.Tie as tie

nothing : (version : ℕ) → is_some (published_at version 0) ≡ false
unfolding published_at row_at
nothing version = refl

in_either : (version spot : ℕ) → OneOf (1 ∷ 3 ∷ []) version → not (eqb (standing_at version spot) 0) ≡ is_some (published_at version spot)
in_either version spot (inl e) = rw e (published_one spot)
in_either version spot (inr e) = rw e (published_three spot)

there : (spot : ℕ) → (spot ≡ 0 → ⊥) → spot < 69 → is_some (row_at spot) ≡ true
unfolding row_at
there spot n h = or_right (eqb spot 0) _ (ne_eqb spot 0 n) (all_below_lem 69 (λ k. eqb k 0 || is_some (row_at k)) refl spot h)

pub is_published_spec : {M : Type 1} → statement M
is_published_spec =
    tie.close
    (tie.spec
    (λ c. rw c.if-spot-eq-NOTHING.true (sym (nothing _)))
    (λ c. sym (ap (λ o. is_some o) (published_past _ _ c.if-spot-ge-MEMBERS.true)))
    (λ c κs. search rules)
    (λ c κs. search rules)
    (λ c. rw c.standing.ensures (in_either _ _ c.in-1.is))
    (λ c. rw (c.standing-in-2.ensures, c.in-2.is) (published_two _))
    (λ c. sym (published_any _ _ (ne_eqb _ _ (λ e. c.in_default.in_default-own.rest.0.1 (inl e))) (ne_eqb _ _ c.in_default.in_default-own.rest.1) (ne_eqb _ _ (λ e. c.in_default.in_default-own.rest.0.1 (inr e))) ∙ there _ c.if-spot-eq-NOTHING.false c.if-spot-ge-MEMBERS.false)))
