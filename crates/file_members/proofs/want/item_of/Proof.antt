-- Each list has its elements, and nothing else has any.
use Prim.Native.Nat.{ℕ}
use mathlib.Core.Path.{refl, sym, ap}
use mathlib.Core.List.{List, [], ◌∷◌}
use Rattle.json_members.proofs.Cases.{done, ◌&◌, at_keys, no_arm}
use Rattle.file_cells.specs.Wants.{kind_at, row_at, shape_of, item_in, item_at}
use Rattle.file_members.proofs.Numbers.{else_at, shape_past}
use Rattle.file_members.proofs.want.item_of.Statement.{statement}
use Rattle.file_members.proofs.want.item_of.Tie as tie

abbrev arms : List (List ℕ)
arms = (8 ∷ []) ∷ (11 ∷ []) ∷ (15 ∷ []) ∷ (16 ∷ []) ∷ (17 ∷ []) ∷ (18 ∷ []) ∷ (21 ∷ []) ∷ (22 ∷ []) ∷ (34 ∷ []) ∷ (10 ∷ 41 ∷ []) ∷ (47 ∷ []) ∷ []

returns_12 : tie.Need-returns-in_default
unfolding item_at shape_of row_at kind_at
returns_12 c =
    let want = c.args.want in
    sym (else_at item_at 0 113 arms refl (λ x h. ap item_in (shape_past x h)) want (no_arm arms want c.in_default.in_default-own.rest))

pub item_of_spec : {M : Type 1} → statement M
unfolding item_at shape_of row_at kind_at
item_of_spec =
    tie.close
    (tie.spec
    (λ c. rw c.in-8.is)
    (λ c. rw c.in-11.is)
    (λ c. rw c.in-15.is)
    (λ c. rw c.in-16.is)
    (λ c. rw c.in-17.is)
    (λ c. rw c.in-18.is)
    (λ c. rw c.in-21.is)
    (λ c. rw c.in-22.is)
    (λ c. rw c.in-34.is)
    (λ c. at_keys item_at 105 (10 ∷ 41 ∷ []) _ c.in-10.is (refl & refl & done))
    (λ c. rw c.in-47.is)
    returns_12)
