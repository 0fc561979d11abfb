-- By the version, each member in its turn.
use Prim.Native.Nat.{ℕ}
use mathlib.Core.Path.{◌≡◌, refl, sym, ◌∙◌}
use mathlib.Core.List.{List, [], ◌∷◌}
use borrow.Author.Rules.{rules}
use types.Run.{OneOf}
use Rattle.json_members.proofs.Cases.{Every, done, ◌&◌, at_keys, no_arm}
use Rattle.file_cells.specs.Wants.{row_at}
use Rattle.file_members.specs.Standings.{by_version, standing_in, standing_at}
use Rattle.file_members.proofs.Standings.{by_same, standing_past, always_at}
use Rattle.file_members.proofs.standing.standing.Statement.{statement}
use Rattle.file_members.proofs.standing.standing.Tie as tie

abbrev arms : List (List ℕ)
arms = (7 ∷ 10 ∷ []) ∷ (4 ∷ 26 ∷ []) ∷ (23 ∷ []) ∷ (28 ∷ []) ∷ (29 ∷ []) ∷ (2 ∷ 8 ∷ 11 ∷ 13 ∷ 18 ∷ 35 ∷ 43 ∷ []) ∷ (9 ∷ 12 ∷ 19 ∷ []) ∷ (14 ∷ 16 ∷ 20 ∷ 22 ∷ 25 ∷ 30 ∷ 32 ∷ 54 ∷ 56 ∷ 64 ∷ []) ∷ (15 ∷ 17 ∷ 21 ∷ 31 ∷ 55 ∷ 65 ∷ []) ∷ []

-- in each version it may be there
may_be : (version : ℕ) (ks : List ℕ) (spot : ℕ) → OneOf ks spot → Every (λ k. standing_at version k ≡ by_version version 1 1 1 1) ks → 1 ≡ standing_at version spot
may_be version ks spot k each = sym (by_same version 1) ∙ at_keys (standing_at version) (by_version version 1 1 1 1) ks spot k each

returns_12 : tie.Need-returns-in_default
unfolding row_at
returns_12 c =
    let spot = c.args.spot in
    sym (always_at c.args.version arms refl spot c.if-spot-eq-NOTHING.false c.if-spot-ge-MEMBERS.false (no_arm arms spot c.in_default.in_default-own.rest))

pub standing_spec : {M : Type 1} → statement M
unfolding row_at standing_in standing_at
standing_spec =
    tie.close
    (tie.spec
    (λ c. rw c.if-spot-eq-NOTHING.true)
    (λ c. sym (standing_past _ _ c.if-spot-ge-MEMBERS.true))
    (λ c κs. search rules)
    (λ c κs. search rules)
    (λ c κs. search rules)
    (λ c κs. search rules)
    (λ c κs. search rules)
    (λ c κs. search rules)
    (λ c κs. search rules)
    (λ c. c.by_version.ensures ∙ at_keys (standing_at _) _ (7 ∷ 10 ∷ []) _ c.in-7.is (refl & refl & done))
    (λ c. c.by_version-in-4.ensures ∙ at_keys (standing_at _) _ (4 ∷ 26 ∷ []) _ c.in-4.is (refl & refl & done))
    (λ c. c.by_version-in-23.ensures ∙ at_keys (standing_at _) _ (23 ∷ []) _ c.in-23.is (refl & done))
    (λ c. c.by_version-in-28.ensures ∙ at_keys (standing_at _) _ (28 ∷ []) _ c.in-28.is (refl & done))
    (λ c. c.by_version-in-29.ensures ∙ at_keys (standing_at _) _ (29 ∷ []) _ c.in-29.is (refl & done))
    (λ c. c.by_version-in-2.ensures ∙ at_keys (standing_at _) _ (2 ∷ 8 ∷ 11 ∷ 13 ∷ 18 ∷ 35 ∷ 43 ∷ []) _ c.in-2.is (refl & refl & refl & refl & refl & refl & refl & done))
    (λ c. c.by_version-in-9.ensures ∙ at_keys (standing_at _) _ (9 ∷ 12 ∷ 19 ∷ []) _ c.in-9.is (refl & refl & refl & done))
    (λ c. may_be c.args.version (14 ∷ 16 ∷ 20 ∷ 22 ∷ 25 ∷ 30 ∷ 32 ∷ 54 ∷ 56 ∷ 64 ∷ []) _ c.in-14.is (refl & refl & refl & refl & refl & refl & refl & refl & refl & refl & done))
    (λ c. may_be c.args.version (15 ∷ 17 ∷ 21 ∷ 31 ∷ 55 ∷ 65 ∷ []) _ c.in-15.is (refl & refl & refl & refl & refl & refl & done))
    returns_12)
