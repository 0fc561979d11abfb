-- Texts and words, and else the numbers.
use Prim.Native.Nat.{ℕ}
use mathlib.Core.Path.{refl, sym, ◌∙◌}
use mathlib.Core.List.{List, [], ◌∷◌}
use borrow.Author.Rules.{rules}
use Rattle.json_members.proofs.Cases.{done, ◌&◌, at_keys, no_arm, beside_other}
use Rattle.file_members.specs.Faults.{likes, like_at}
use Rattle.file_members.proofs.value.like_of.Statement.{statement}
use Rattle.file_members.proofs.value.like_of.Tie as tie

abbrev arms : List (List ℕ)
arms = (3 ∷ 59 ∷ 62 ∷ 67 ∷ []) ∷ (37 ∷ 44 ∷ []) ∷ (2 ∷ []) ∷ (53 ∷ []) ∷ (33 ∷ []) ∷ (38 ∷ []) ∷ (39 ∷ []) ∷ (45 ∷ []) ∷ (48 ∷ []) ∷ (50 ∷ []) ∷ (51 ∷ []) ∷ []

pub like_of_spec : {M : Type 1} → statement M
unfolding like_at
like_of_spec =
    tie.close
    (tie.spec
    (λ c κs. search rules)
    (λ c. at_keys like_at 6 (3 ∷ 59 ∷ 62 ∷ 67 ∷ []) _ c.in-3.is (refl & refl & refl & refl & done))
    (λ c. at_keys like_at 41 (37 ∷ 44 ∷ []) _ c.in-37.is (refl & refl & done))
    (λ c. rw c.in-2.is)
    (λ c. rw c.in-53.is)
    (λ c. rw c.in-33.is)
    (λ c. rw c.in-38.is)
    (λ c. rw c.in-39.is)
    (λ c. rw c.in-45.is)
    (λ c. rw c.in-48.is)
    (λ c. rw c.in-50.is)
    (λ c. rw c.in-51.is)
    (λ c. c.number_like.ensures ∙ sym (beside_other _ likes arms c.args.want refl (no_arm arms c.args.want c.in_default.in_default-own.rest))))
