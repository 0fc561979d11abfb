-- Five members are passed over, and what is neither a member nor a record.
use Prim.Native.Nat.{ℕ, ◌-◌, ◌≤◌}
use mathlib.Core.Path.{◌≡◌, refl, sym, ap, ◌∙◌}
use mathlib.Core.Bool.{true, false, not, ◌||◌}
use mathlib.Core.List.{List, [], ◌∷◌}
use native.Mathlib.Omega.{arith}
use borrow.Author.Rules.{rules}
use borrow.Author.Tests.{le-ltb, leb-true, leb-false}
use borrow.Table.Steps.{cases}
use lib.Dec.{leb}
use Rattle.rules.specs.Words.{is_some}
use Rattle.json_members.proofs.Cases.{is_key, all_below_lem, done, ◌&◌, at_keys, no_arm}
use Rattle.json_members.proofs.Names.{alike, alike_is}
use Rattle.file_cells.specs.Wants.{kind_at, row_at, passes_over, shape_of}
use Rattle.file_members.specs.Names.{is_something}
use Rattle.file_members.proofs.Numbers.{or_right, kind_past, shape_past}
use Rattle.file_members.proofs.want.passes_over.Statement.{statement}
use Rattle.file_members.proofs.want.passes_over.Tie as tie

abbrev arms : List (List ℕ)
arms = (30 ∷ 32 ∷ 64 ∷ []) ∷ (31 ∷ 65 ∷ []) ∷ []

nothing_past : (want : ℕ) → 113 ≤ want → is_something want ≡ false
unfolding is_something
nothing_past want h = rw (le-ltb want 100 (omega arith)) (ap (λ o. is_some o) (kind_past (want - 100) (omega arith)))

no_other : (want : ℕ) → is_key arms want ≡ false → not (is_something want) ≡ passes_over (shape_of want)
unfolding is_something shape_of row_at kind_at
no_other want m =
    cases (leb 113 want)
    (λ t. let h = leb-true 113 want t in ap not (nothing_past want h) ∙ sym (ap passes_over (shape_past want h)))
    (λ f. alike_is (not (is_something want)) (passes_over (shape_of want)) (or_right (is_key arms want) _ m (all_below_lem 113 (λ k. is_key arms k || alike (not (is_something k)) (passes_over (shape_of k))) refl want (leb-false 113 want f))))

pub passes_over_spec : {M : Type 1} → statement M
unfolding shape_of row_at
passes_over_spec =
    tie.close
    (tie.spec
    (λ c κs. search rules)
    (λ c. at_keys (λ x. passes_over (shape_of x)) true (30 ∷ 32 ∷ 64 ∷ []) _ c.in-30.is (refl & refl & refl & done))
    (λ c. at_keys (λ x. passes_over (shape_of x)) true (31 ∷ 65 ∷ []) _ c.in-31.is (refl & refl & done))
    (λ c. rw c.is_something.ensures (no_other _ (no_arm arms _ c.in_default.in_default-own.rest))))
