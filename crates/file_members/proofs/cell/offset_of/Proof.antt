-- The members of the other records, and those of the file.
use Prim.Native.Nat.{ℕ}
use mathlib.Core.Path.{◌≡◌, refl, sym, ◌∙◌}
use mathlib.Core.Bool.{false, cond}
use mathlib.Core.List.{List, [], ◌∷◌}
use native.Mathlib.Omega.{arith}
use borrow.Author.Rules.{rules}
use borrow.Author.Tests.{le-ltb}
use borrow.Table.Steps.{cases}
use lib.Dec.{ltb}
use Rattle.json_members.proofs.Cases.{is_key, done, ◌&◌, at_keys, no_arm}
use Rattle.file_cells.specs.Cells.{size_of, offset_at}
use Rattle.file_members.proofs.Numbers.{else_at}
use Rattle.file_members.proofs.Cells.{offset_past}
use Rattle.file_members.proofs.cell.offset_of.Statement.{statement}
use Rattle.file_members.proofs.cell.offset_of.Tie as tie

abbrev arms : List (List ℕ)
arms = (25 ∷ 34 ∷ 37 ∷ 41 ∷ 43 ∷ 47 ∷ 49 ∷ 53 ∷ 58 ∷ 60 ∷ 62 ∷ 67 ∷ []) ∷ (26 ∷ 38 ∷ 44 ∷ 50 ∷ 54 ∷ 63 ∷ 68 ∷ []) ∷ (27 ∷ 39 ∷ 45 ∷ 51 ∷ 55 ∷ 64 ∷ []) ∷ (65 ∷ []) ∷ (28 ∷ 56 ∷ []) ∷ (29 ∷ []) ∷ (30 ∷ 32 ∷ []) ∷ (31 ∷ []) ∷ (35 ∷ []) ∷ []

begins : (spot : ℕ) → is_key arms spot ≡ false → cond (ltb spot 24) 0 (offset_at spot) ≡ 0
unfolding offset_at size_of
begins spot m = else_at (λ s. cond (ltb s 24) 0 (offset_at s)) 0 69 arms refl (λ x h. rw (le-ltb x 24 (omega arith)) (offset_past x h)) spot m

-- what is none of these is the file's, or begins its record
of_file : (spot : ℕ) → is_key arms spot ≡ false → cond (ltb spot 24) (offset_at spot) 0 ≡ offset_at spot
of_file spot m = cases (ltb spot 24) (λ t. rw t) (λ f. rw f (sym (rw f at (begins spot m))))

pub offset_of_spec : {M : Type 1} → statement M
unfolding offset_at size_of
offset_of_spec =
    tie.close
    (tie.spec
    (λ c κs. search rules)
    (λ c. at_keys offset_at 2 (25 ∷ 34 ∷ 37 ∷ 41 ∷ 43 ∷ 47 ∷ 49 ∷ 53 ∷ 58 ∷ 60 ∷ 62 ∷ 67 ∷ []) _ c.in-25.is (refl & refl & refl & refl & refl & refl & refl & refl & refl & refl & refl & refl & done))
    (λ c. at_keys offset_at 4 (26 ∷ 38 ∷ 44 ∷ 50 ∷ 54 ∷ 63 ∷ 68 ∷ []) _ c.in-26.is (refl & refl & refl & refl & refl & refl & refl & done))
    (λ c. at_keys offset_at 6 (27 ∷ 39 ∷ 45 ∷ 51 ∷ 55 ∷ 64 ∷ []) _ c.in-27.is (refl & refl & refl & refl & refl & refl & done))
    (λ c. rw c.in-65.is)
    (λ c. at_keys offset_at 8 (28 ∷ 56 ∷ []) _ c.in-28.is (refl & refl & done))
    (λ c. rw c.in-29.is)
    (λ c. at_keys offset_at 12 (30 ∷ 32 ∷ []) _ c.in-30.is (refl & refl & done))
    (λ c. rw c.in-31.is)
    (λ c. rw c.in-35.is)
    (λ c. c.file_offset.ensures ∙ of_file c.args.spot (no_arm arms c.args.spot c.in_default.in_default-own.rest)))
