-- Each list has its room, and so have refs.
use Prim.Native.Nat.{ℕ}
use mathlib.Core.Path.{refl, sym, ap}
use mathlib.Core.List.{List, [], ◌∷◌}
use Rattle.json_members.proofs.Cases.{done, ◌&◌, at_keys, no_arm}
use Rattle.file_cells.specs.Wants.{kind_at, row_at, shape_of, room_in, room_at}
use Rattle.file_members.proofs.Numbers.{else_at, shape_past}
use Rattle.file_members.proofs.want.room_of.Statement.{statement}
use Rattle.file_members.proofs.want.room_of.Tie as tie

abbrev arms : List (List ℕ)
arms = (16 ∷ []) ∷ (17 ∷ []) ∷ (15 ∷ []) ∷ (21 ∷ 34 ∷ []) ∷ (22 ∷ []) ∷ (8 ∷ 11 ∷ 18 ∷ 20 ∷ []) ∷ (10 ∷ 41 ∷ 47 ∷ []) ∷ []

returns_8 : tie.Need-returns-in_default
unfolding room_at shape_of row_at kind_at
returns_8 c =
    let want = c.args.want in
    sym (else_at room_at 0 113 arms refl (λ x h. ap room_in (shape_past x h)) want (no_arm arms want c.in_default.in_default-own.rest))

pub room_of_spec : {M : Type 1} → statement M
unfolding room_at shape_of row_at kind_at
room_of_spec =
    tie.close
    (tie.spec
    (λ c. rw c.in-16.is)
    (λ c. rw c.in-17.is)
    (λ c. rw c.in-15.is)
    (λ c. at_keys room_at 32 (21 ∷ 34 ∷ []) _ c.in-21.is (refl & refl & done))
    (λ c. rw c.in-22.is)
    (λ c. at_keys room_at 16 (8 ∷ 11 ∷ 18 ∷ 20 ∷ []) _ c.in-8.is (refl & refl & refl & refl & done))
    (λ c. at_keys room_at 8 (10 ∷ 41 ∷ 47 ∷ []) _ c.in-10.is (refl & refl & refl & done))
    returns_8)
