-- Each record has its members.
use Prim.Native.Nat.{ℕ}
use mathlib.Core.Path.{refl, sym}
use mathlib.Core.List.{List, [], ◌∷◌}
use Rattle.json_members.proofs.Cases.{done, ◌&◌, at_keys, no_arm}
use Rattle.file_cells.specs.Wants.{kind_at}
use Rattle.file_members.specs.Names.{count_of}
use Rattle.file_members.proofs.Numbers.{else_at, count_past}
use Rattle.file_members.proofs.kind.count_of.Statement.{statement}
use Rattle.file_members.proofs.kind.count_of.Tie as tie

abbrev arms : List (List ℕ)
arms = (0 ∷ []) ∷ (1 ∷ []) ∷ (2 ∷ 12 ∷ []) ∷ (3 ∷ 5 ∷ 7 ∷ []) ∷ (4 ∷ 6 ∷ 9 ∷ []) ∷ (10 ∷ []) ∷ (8 ∷ 11 ∷ []) ∷ []

returns_8 : tie.Need-returns-in_default
unfolding count_of kind_at
returns_8 c =
    let kind = c.args.kind in
    sym (else_at count_of 0 13 arms refl count_past kind (no_arm arms kind c.in_default.in_default-own.rest))

pub count_of_spec : {M : Type 1} → statement M
unfolding count_of kind_at
count_of_spec =
    tie.close
    (tie.spec
    (λ c. rw c.in-0.is)
    (λ c. rw c.in-1.is)
    (λ c. at_keys count_of 3 (2 ∷ 12 ∷ []) _ c.in-2.is (refl & refl & done))
    (λ c. at_keys count_of 4 (3 ∷ 5 ∷ 7 ∷ []) _ c.in-3.is (refl & refl & refl & done))
    (λ c. at_keys count_of 2 (4 ∷ 6 ∷ 9 ∷ []) _ c.in-4.is (refl & refl & refl & done))
    (λ c. rw c.in-10.is)
    (λ c. at_keys count_of 5 (8 ∷ 11 ∷ []) _ c.in-8.is (refl & refl & done))
    returns_8)
