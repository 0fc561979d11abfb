-- Lists, records and what is passed over have their sizes, and every other member has two.
use Prim.Native.Nat.{ℕ}
use mathlib.Core.Path.{refl, sym}
use mathlib.Core.List.{List, [], ◌∷◌}
use borrow.Author.Tests.{ne_eqb}
use Rattle.json_members.proofs.Cases.{done, ◌&◌, at_keys, no_arm}
use Rattle.file_cells.specs.Wants.{row_at, shape_of_row}
use Rattle.file_cells.specs.Cells.{size_of}
use Rattle.file_members.proofs.Numbers.{below_at}
use Rattle.file_members.proofs.Cells.{member_size_past}
use Rattle.file_members.proofs.cell.member_size.Statement.{statement}
use Rattle.file_members.proofs.cell.member_size.Tie as tie

abbrev arms : List (List ℕ)
arms = (7 ∷ []) ∷ (8 ∷ []) ∷ (11 ∷ 18 ∷ []) ∷ (15 ∷ []) ∷ (16 ∷ []) ∷ (17 ∷ []) ∷ (34 ∷ []) ∷ (20 ∷ 22 ∷ []) ∷ (21 ∷ []) ∷ (10 ∷ 41 ∷ 47 ∷ []) ∷ (30 ∷ 32 ∷ 64 ∷ []) ∷ (31 ∷ 65 ∷ []) ∷ []

abbrev size_here : ℕ → ℕ
size_here spot = size_of (shape_of_row (row_at spot))

returns_15 : tie.Need-returns-in_default
unfolding row_at size_of
returns_15 c =
    let spot = c.args.spot in
    sym (below_at size_here 2 69 ((0 ∷ []) ∷ arms) refl spot c.if-spot-ge-MEMBERS.false (rw (ne_eqb spot 0 c.if-spot-eq-NOTHING.false) (no_arm arms spot c.in_default.in_default-own.rest)))

pub member_size_spec : {M : Type 1} → statement M
unfolding row_at size_of
member_size_spec =
    tie.close
    (tie.spec
    (λ c. rw c.if-spot-eq-NOTHING.true)
    (λ c. sym (member_size_past _ c.if-spot-ge-MEMBERS.true))
    (λ c. rw c.in-7.is)
    (λ c. rw c.in-8.is)
    (λ c. at_keys size_here 1073 (11 ∷ 18 ∷ []) _ c.in-11.is (refl & refl & done))
    (λ c. rw c.in-15.is)
    (λ c. rw c.in-16.is)
    (λ c. rw c.in-17.is)
    (λ c. rw c.in-34.is)
    (λ c. at_keys size_here 193 (20 ∷ 22 ∷ []) _ c.in-20.is (refl & refl & done))
    (λ c. rw c.in-21.is)
    (λ c. at_keys size_here 65 (10 ∷ 41 ∷ 47 ∷ []) _ c.in-10.is (refl & refl & refl & done))
    (λ c. at_keys size_here 0 (30 ∷ 32 ∷ 64 ∷ []) _ c.in-30.is (refl & refl & refl & done))
    (λ c. at_keys size_here 0 (31 ∷ 65 ∷ []) _ c.in-31.is (refl & refl & done))
    returns_15)
