-- Each record has its size.
use Prim.Native.Nat.{ℕ}
use mathlib.Core.Path.{refl, sym}
use mathlib.Core.List.{List, [], ◌∷◌}
use Rattle.json_members.proofs.Cases.{done, ◌&◌, at_keys, no_arm}
use Rattle.file_cells.specs.Wants.{kind_at}
use Rattle.file_members.specs.Names.{kind_size_at}
use Rattle.file_members.proofs.Numbers.{else_at, kind_size_past}
use Rattle.file_members.proofs.cell.kind_size.Statement.{statement}
use Rattle.file_members.proofs.cell.kind_size.Tie as tie

abbrev arms : List (List ℕ)
arms = (0 ∷ []) ∷ (1 ∷ []) ∷ (2 ∷ []) ∷ (4 ∷ 6 ∷ []) ∷ (3 ∷ 5 ∷ 7 ∷ []) ∷ (8 ∷ []) ∷ (9 ∷ []) ∷ (10 ∷ []) ∷ (11 ∷ []) ∷ (12 ∷ []) ∷ []

returns_11 : tie.Need-returns-in_default
unfolding kind_size_at kind_at
returns_11 c =
    let kind = c.args.kind in
    sym (else_at kind_size_at 0 13 arms refl kind_size_past kind (no_arm arms kind c.in_default.in_default-own.rest))

pub kind_size_spec : {M : Type 1} → statement M
unfolding kind_size_at kind_at
kind_size_spec =
    tie.close
    (tie.spec
    (λ c. rw c.in-0.is)
    (λ c. rw c.in-1.is)
    (λ c. rw c.in-2.is)
    (λ c. at_keys kind_size_at 67 (4 ∷ 6 ∷ []) _ c.in-4.is (refl & refl & done))
    (λ c. at_keys kind_size_at 8 (3 ∷ 5 ∷ 7 ∷ []) _ c.in-3.is (refl & refl & refl & done))
    (λ c. rw c.in-8.is)
    (λ c. rw c.in-9.is)
    (λ c. rw c.in-10.is)
    (λ c. rw c.in-11.is)
    (λ c. rw c.in-12.is)
    returns_11)
