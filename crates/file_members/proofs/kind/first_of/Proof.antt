-- Each record has its first member.
use Prim.Native.Nat.{ℕ}
use mathlib.Core.Path.{refl, sym}
use mathlib.Core.List.{List, [], ◌∷◌}
use Rattle.json_members.proofs.Cases.{no_arm}
use Rattle.file_cells.specs.Wants.{kind_at}
use Rattle.file_members.specs.Names.{first_of}
use Rattle.file_members.proofs.Numbers.{else_at, first_past}
use Rattle.file_members.proofs.kind.first_of.Statement.{statement}
use Rattle.file_members.proofs.kind.first_of.Tie as tie

abbrev arms : List (List ℕ)
arms = (0 ∷ []) ∷ (1 ∷ []) ∷ (2 ∷ []) ∷ (3 ∷ []) ∷ (4 ∷ []) ∷ (5 ∷ []) ∷ (6 ∷ []) ∷ (7 ∷ []) ∷ (8 ∷ []) ∷ (9 ∷ []) ∷ (10 ∷ []) ∷ (11 ∷ []) ∷ (12 ∷ []) ∷ []

returns_14 : tie.Need-returns-in_default
unfolding first_of kind_at
returns_14 c =
    let kind = c.args.kind in
    sym (else_at first_of 0 13 arms refl first_past kind (no_arm arms kind c.in_default.in_default-own.rest))

pub first_of_spec : {M : Type 1} → statement M
unfolding first_of kind_at
first_of_spec =
    tie.close
    (tie.spec
    (λ c. rw c.in-0.is)
    (λ c. rw c.in-1.is)
    (λ c. rw c.in-2.is)
    (λ c. rw c.in-3.is)
    (λ c. rw c.in-4.is)
    (λ c. rw c.in-5.is)
    (λ c. rw c.in-6.is)
    (λ c. rw c.in-7.is)
    (λ c. rw c.in-8.is)
    (λ c. rw c.in-9.is)
    (λ c. rw c.in-10.is)
    (λ c. rw c.in-11.is)
    (λ c. rw c.in-12.is)
    returns_14)
