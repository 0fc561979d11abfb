-- Each number has its width.
use Prim.Native.Nat.{ℕ}
use mathlib.Core.Path.{refl, sym}
use mathlib.Core.List.{List, [], ◌∷◌}
use Rattle.json_members.proofs.Cases.{done, ◌&◌, at_keys, no_arm, beside_other}
use Rattle.file_members.specs.Faults.{number_likes, number_like_at}
use Rattle.file_members.proofs.value.number_like.Statement.{statement}
use Rattle.file_members.proofs.value.number_like.Tie as tie

abbrev arms : List (List ℕ)
arms = (4 ∷ 14 ∷ 19 ∷ 24 ∷ 26 ∷ 46 ∷ 52 ∷ 55 ∷ 57 ∷ 60 ∷ 63 ∷ 66 ∷ 68 ∷ []) ∷ (5 ∷ 25 ∷ 27 ∷ 56 ∷ 58 ∷ 61 ∷ []) ∷ (6 ∷ 9 ∷ 12 ∷ 35 ∷ 40 ∷ 42 ∷ 49 ∷ 54 ∷ []) ∷ (13 ∷ 36 ∷ 43 ∷ []) ∷ (23 ∷ 28 ∷ []) ∷ (29 ∷ []) ∷ []

pub number_like_spec : {M : Type 1} → statement M
unfolding number_like_at
number_like_spec =
    tie.close
    (tie.spec
    (λ c. at_keys number_like_at 27 (4 ∷ 14 ∷ 19 ∷ 24 ∷ 26 ∷ 46 ∷ 52 ∷ 55 ∷ 57 ∷ 60 ∷ 63 ∷ 66 ∷ 68 ∷ []) _ c.in-4.is (refl & refl & refl & refl & refl & refl & refl & refl & refl & refl & refl & refl & refl & done))
    (λ c. at_keys number_like_at 27 (5 ∷ 25 ∷ 27 ∷ 56 ∷ 58 ∷ 61 ∷ []) _ c.in-5.is (refl & refl & refl & refl & refl & refl & done))
    (λ c. at_keys number_like_at 16 (6 ∷ 9 ∷ 12 ∷ 35 ∷ 40 ∷ 42 ∷ 49 ∷ 54 ∷ []) _ c.in-6.is (refl & refl & refl & refl & refl & refl & refl & refl & done))
    (λ c. at_keys number_like_at 16 (13 ∷ 36 ∷ 43 ∷ []) _ c.in-13.is (refl & refl & refl & done))
    (λ c. at_keys number_like_at 31 (23 ∷ 28 ∷ []) _ c.in-23.is (refl & refl & done))
    (λ c. rw c.in-29.is)
    (λ c. sym (beside_other 0 number_likes arms c.args.want refl (no_arm arms c.args.want c.in_default.in_default-own.rest))))
