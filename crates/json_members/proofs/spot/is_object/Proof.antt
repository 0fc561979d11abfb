-- Eight spots are records.
use Prim.Native.Nat.{ℕ}
use mathlib.Core.Path.{refl, sym}
use mathlib.Core.Bool.{true}
use mathlib.Core.List.{List, [], ◌∷◌}
use Rattle.rules.specs.Words.{is_some}
use Rattle.json_rule.specs.Defects.{kind_of}
use Rattle.json_members.specs.Spots.{row_at, shape_at}
use Rattle.json_members.proofs.Cases.{done, ◌&◌, at_keys, no_arm}
use Rattle.json_members.proofs.Tables.{only_spots}
use Rattle.json_members.proofs.spot.is_object.Statement.{statement}
use Rattle.json_members.proofs.spot.is_object.Tie as tie

abbrev arms : List (List ℕ)
arms = (2 ∷ 7 ∷ 15 ∷ 19 ∷ 21 ∷ []) ∷ (39 ∷ 46 ∷ 53 ∷ []) ∷ []

returns_3 : tie.Need-returns-in_default
unfolding row_at
returns_3 c =
    let spot = c.args.spot in
    sym (only_spots (λ s. is_some (kind_of s)) arms spot refl refl (no_arm arms spot c.in_default.in_default-own.rest))

pub is_object_spec : {M : Type 1} → statement M
unfolding row_at
is_object_spec =
    tie.close
    (tie.spec
    (λ c. at_keys (λ s. is_some (kind_of (shape_at s))) true (2 ∷ 7 ∷ 15 ∷ 19 ∷ 21 ∷ []) _ c.in-2.is (refl & refl & refl & refl & refl & done))
    (λ c. at_keys (λ s. is_some (kind_of (shape_at s))) true (39 ∷ 46 ∷ 53 ∷ []) _ c.in-39.is (refl & refl & refl & done))
    returns_3)
