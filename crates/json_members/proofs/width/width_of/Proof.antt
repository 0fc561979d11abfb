-- Each spot that holds numbers has the width of its field.
use Prim.Native.Nat.{ℕ}
use mathlib.Core.Path.{refl, sym}
use mathlib.Core.List.{List, [], ◌∷◌}
use Rattle.json_members.specs.Spots.{row_at, shape_at}
use Rattle.json_members.specs.Widths.{width_of}
use Rattle.json_members.proofs.Cases.{done, ◌&◌, at_keys, no_arm}
use Rattle.json_members.proofs.Tables.{only_spots}
use Rattle.json_members.proofs.Widths.{no_numbers}
use Rattle.json_members.proofs.width.width_of.Statement.{statement}
use Rattle.json_members.proofs.width.width_of.Tie as tie

abbrev arms : List (List ℕ)
arms =
    (5 ∷ [])
    ∷ (12 ∷ 16 ∷ 22 ∷ 26 ∷ [])
    ∷ (17 ∷ 25 ∷ 37 ∷ 51 ∷ [])
    ∷ (40 ∷ 48 ∷ 54 ∷ [])
    ∷ (55 ∷ [])
    ∷ (11 ∷ 13 ∷ 20 ∷ 24 ∷ [])
    ∷ (14 ∷ 27 ∷ 29 ∷ 44 ∷ [])
    ∷ (28 ∷ 30 ∷ [])
    ∷ (31 ∷ [])
    ∷ (32 ∷ [])
    ∷ []

returns_11 : tie.Need-returns-in_default
unfolding row_at
returns_11 c =
    let spot = c.args.spot in
    sym (no_numbers (shape_at spot) (only_spots (λ s. (width_of s).numbers) arms spot refl refl (no_arm arms spot c.in_default.in_default-own.rest)))

pub width_of_spec : {M : Type 1} → statement M
unfolding row_at
width_of_spec =
    tie.close
    (tie.spec
    (λ c. rw c.in-5.is)
    (λ c. at_keys (λ s. width_of (shape_at s)) _ (12 ∷ 16 ∷ 22 ∷ 26 ∷ []) _ c.in-12.is (refl & refl & refl & refl & done))
    (λ c. at_keys (λ s. width_of (shape_at s)) _ (17 ∷ 25 ∷ 37 ∷ 51 ∷ []) _ c.in-17.is (refl & refl & refl & refl & done))
    (λ c. at_keys (λ s. width_of (shape_at s)) _ (40 ∷ 48 ∷ 54 ∷ []) _ c.in-40.is (refl & refl & refl & done))
    (λ c. rw c.in-55.is)
    (λ c. at_keys (λ s. width_of (shape_at s)) _ (11 ∷ 13 ∷ 20 ∷ 24 ∷ []) _ c.in-11.is (refl & refl & refl & refl & done))
    (λ c. at_keys (λ s. width_of (shape_at s)) _ (14 ∷ 27 ∷ 29 ∷ 44 ∷ []) _ c.in-14.is (refl & refl & refl & refl & done))
    (λ c. at_keys (λ s. width_of (shape_at s)) _ (28 ∷ 30 ∷ []) _ c.in-28.is (refl & refl & done))
    (λ c. rw c.in-31.is)
    (λ c. rw c.in-32.is)
    returns_11)
