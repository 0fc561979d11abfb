-- Each list has its room, and what is no list has none.
use Prim.Native.Nat.{ℕ}
use mathlib.Core.Path.{refl, sym, ap}
use mathlib.Core.List.{List, [], ◌∷◌}
use Rattle.rules.specs.Words.{is_some}
use Rattle.json_rule.specs.Defects.{listing_of}
use Rattle.json_members.specs.Spots.{row_at, shape_at, room_in}
use Rattle.json_members.proofs.Cases.{done, ◌&◌, at_keys, no_arm}
use Rattle.json_members.proofs.Tables.{only_spots, not_there}
use Rattle.json_members.proofs.spot.room_of.Statement.{statement}
use Rattle.json_members.proofs.spot.room_of.Tie as tie

abbrev arms : List (List ℕ)
arms = (1 ∷ []) ∷ (8 ∷ 18 ∷ 23 ∷ []) ∷ (38 ∷ []) ∷ (45 ∷ 52 ∷ []) ∷ []

returns_5 : tie.Need-returns-in_default
unfolding row_at
returns_5 c =
    let spot = c.args.spot in
    sym (ap room_in (not_there (listing_of (shape_at spot)) (only_spots (λ s. is_some (listing_of s)) arms spot refl refl (no_arm arms spot c.in_default.in_default-own.rest))))

pub room_of_spec : {M : Type 1} → statement M
unfolding row_at
room_of_spec =
    tie.close
    (tie.spec
    (λ c. rw c.in-1.is)
    (λ c. at_keys (λ s. room_in (listing_of (shape_at s))) 16 (8 ∷ 18 ∷ 23 ∷ []) _ c.in-8.is (refl & refl & refl & done))
    (λ c. rw c.in-38.is)
    (λ c. at_keys (λ s. room_in (listing_of (shape_at s))) 8 (45 ∷ 52 ∷ []) _ c.in-45.is (refl & refl & done))
    returns_5)
