-- The members of the file, one behind another.
use Prim.Native.Nat.{ℕ}
use mathlib.Core.Path.{refl, sym}
use mathlib.Core.List.{List, [], ◌∷◌}
use Rattle.json_members.proofs.Cases.{no_arm}
use mathlib.Core.Bool.{cond}
use borrow.Author.Tests.{le-ltb}
use lib.Dec.{ltb}
use Rattle.file_cells.specs.Cells.{size_of, offset_at}
use Rattle.file_members.proofs.Numbers.{else_at}
use Rattle.file_members.proofs.cell.file_offset.Statement.{statement}
use Rattle.file_members.proofs.cell.file_offset.Tie as tie

abbrev arms : List (List ℕ)
arms = (2 ∷ []) ∷ (3 ∷ []) ∷ (4 ∷ []) ∷ (5 ∷ []) ∷ (6 ∷ []) ∷ (7 ∷ []) ∷ (8 ∷ []) ∷ (9 ∷ []) ∷ (10 ∷ []) ∷ (11 ∷ []) ∷ (12 ∷ []) ∷ (13 ∷ []) ∷ (14 ∷ []) ∷ (15 ∷ []) ∷ (16 ∷ []) ∷ (17 ∷ []) ∷ (18 ∷ []) ∷ (19 ∷ []) ∷ (20 ∷ []) ∷ (21 ∷ []) ∷ (22 ∷ []) ∷ (23 ∷ []) ∷ []

returns_23 : tie.Need-returns-in_default
unfolding offset_at size_of
returns_23 c =
    let spot = c.args.spot in
    sym (else_at (λ s. cond (ltb s 24) (offset_at s) 0) 0 24 arms refl (λ x h. rw (le-ltb x 24 h)) spot (no_arm arms spot c.in_default.in_default-own.rest))

pub file_offset_spec : {M : Type 1} → statement M
unfolding offset_at size_of
file_offset_spec =
    tie.close
    (tie.spec
    (λ c. rw c.in-2.is)
    (λ c. rw c.in-3.is)
    (λ c. rw c.in-4.is)
    (λ c. rw c.in-5.is)
    (λ c. rw c.in-6.is)
    (λ c. rw c.in-7.is)
    (λ c. rw c.in-8.is)
    (λ c. rw c.in-9.is)
    (λ c. rw c.in-10.is)
    (λ c. rw c.in-11.is)
    (λ c. rw c.in-12.is)
    (λ c. rw c.in-13.is)
    (λ c. rw c.in-14.is)
    (λ c. rw c.in-15.is)
    (λ c. rw c.in-16.is)
    (λ c. rw c.in-17.is)
    (λ c. rw c.in-18.is)
    (λ c. rw c.in-19.is)
    (λ c. rw c.in-20.is)
    (λ c. rw c.in-21.is)
    (λ c. rw c.in-22.is)
    (λ c. rw c.in-23.is)
    returns_23)
