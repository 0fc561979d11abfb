-- The theorems on two offices are not empty: four calls that are computed, of either office one that is accepted and one that is refused with 35; and walks from the other's refs.
use Prim.Native.Nat.{ℕ}
use mathlib.Core.Path.{◌≡◌, refl, sym, ap, subst, ◌∙◌}
use mathlib.Core.Bool.{true}
use mathlib.Core.List.{List, [], ◌∷◌, ◌++◌, map, Memᴰ}
use mathlib.Core.Option.{none, some}
use lib.IntN.{ℤ, pos}
use Rattle.records.specs.declared.metadata.TableMetadata.{TableMetadata}
use Rattle.rules.specs.Names.{main_name}
use Rattle.rules.specs.Offices.{first_office, second_office}
use Rattle.rules.specs.Register.{NamedRef, Metadata, Update}
use Rattle.rules.specs.Register.Update.{SetBranchSnapshot, RemoveSnapshots, SetRef}
use Rattle.rules.specs.Walk.{Listed, ancestors, record_ancestors}
use Rattle.rules.specs.Layout.{laid_metadata, read_metadata}
use Rattle.rules.specs.Answer.{laid_outcome}
use Rattle.rules.specs.Others.{others_refs}
use Rattle.rules.specs.OfficeWalks.{is_closed}
use Rattle.rules.specs.Examples.{snap, branch_to, tag_to, owned, draft, extra, drafted}
use Rattle.rules.proofs.Examples.{computed}
use Rattle.rules.proofs.Slots.Reread.{reread_metadata}
use Rattle.theorems.proofs.Run.{Call}
use Rattle.theorems.proofs.Chains.{Chain, end_over}
use Rattle.theorems.proofs.Offices.{OfOffice, calls_closed_walks_stay}
use Rattle.theorems.proofs.LaidCalls.{laid_call, next, Laid, laid}

-- ---- four calls

-- 1 is the parent of 2, and 2 that of 3; `d` is office 2's, at 2, and `main` office 1's, at 3. The history is 1, 2, 3
abbrev shared : Metadata
shared = drafted second_office (branch_to 2)

-- office 2 commits 4, whose parent is 2, to `d`, and makes the tag `e` at 1
abbrev commits₂ : List Update
commits₂ = SetBranchSnapshot draft (snap 4 (some (pos 2)) 6 (pos 400000)) ∷ SetRef extra (tag_to 1) ∷ []

-- it may not remove 3, which `main` names
abbrev removes₂ : List Update
removes₂ = RemoveSnapshots (pos 3 ∷ []) ∷ []

-- office 1 commits 5, whose parent is 3, to `main`
abbrev commits₁ : List Update
commits₁ = SetBranchSnapshot main_name (snap 5 (some (pos 3)) 7 (pos 500000)) ∷ []

-- it may not remove 2, which `d` reaches
abbrev removes₁ : List Update
removes₁ = RemoveSnapshots (pos 2 ∷ []) ∷ []

-- what the accepted ones lead to
abbrev after₂ : Metadata
after₂ = next second_office shared commits₂

abbrev after₁ : Metadata
after₁ = next first_office after₂ commits₁

laid_commit₂ : Laid second_office shared commits₂
unfolding computed
laid_commit₂ = laid second_office shared commits₂ refl refl

laid_removal₂ : Laid second_office after₂ removes₂
unfolding computed
laid_removal₂ = laid second_office after₂ removes₂ refl refl

laid_commit₁ : Laid first_office after₂ commits₁
unfolding computed
laid_commit₁ = laid first_office after₂ commits₁ refl refl

laid_removal₁ : Laid first_office after₁ removes₁
unfolding computed
laid_removal₁ = laid first_office after₁ removes₁ refl refl

abbrev pub offices_start : TableMetadata
offices_start = laid_metadata shared

abbrev pub second_calls : List Call
second_calls = laid_call second_office shared commits₂ ∷ laid_call second_office after₂ removes₂ ∷ []

abbrev pub first_calls : List Call
first_calls = laid_call first_office after₂ commits₁ ∷ laid_call first_office after₁ removes₁ ∷ []

-- the two of office 2, each from what the one before answered, and then the two of office 1
pub second_calls_lem : Chain offices_start second_calls
second_calls_lem = (refl, (laid_commit₂.metadata, tt))

pub first_calls_lem : Chain (end_over offices_start second_calls) first_calls
unfolding computed
first_calls_lem = (laid_removal₂.metadata, (laid_commit₁.metadata, tt))

pub second_of_office : OfOffice second_office second_calls
second_of_office = (refl, (refl, tt))

pub first_of_office : OfOffice first_office first_calls
first_of_office = (refl, (refl, tt))

-- of each office the first is accepted, and the second is refused with 35
pub offices_numbers : map (λ (c : Call). c.answered.number) (second_calls ++ first_calls) ≡ 0 ∷ 35 ∷ 0 ∷ 35 ∷ []
unfolding computed laid_outcome
offices_numbers = row laid_commit₂.number laid_removal₂.number laid_commit₁.number laid_removal₁.number
  where
    row : {a b c d a' b' c' d' : ℕ} → a ≡ a' → b ≡ b' → c ≡ c' → d ≡ d' → a ∷ b ∷ c ∷ d ∷ [] ≡ a' ∷ b' ∷ c' ∷ d' ∷ []
    row p q r s = rw (p, q, r, s)

-- ---- what the other office has stays, and is something

-- what the calls of each lead to
second_ends : read_metadata (end_over offices_start second_calls) ≡ after₂
unfolding computed
second_ends = ap read_metadata (sym laid_removal₂.metadata) ∙ reread_metadata after₂

first_ends : read_metadata (end_over (end_over offices_start second_calls) first_calls) ≡ after₁
unfolding computed
first_ends = ap read_metadata (sym laid_removal₁.metadata) ∙ reread_metadata after₁

-- all refs, before and after: `d` and `e` are office 2's, the last of them new, and `main` office 1's
pub offices_refs : ((read_metadata offices_start).refs ≡ owned 2 draft (branch_to 2) ∷ owned 1 main_name (branch_to 3) ∷ [])
    × ((read_metadata (end_over offices_start second_calls)).refs ≡ owned 2 draft (branch_to 4) ∷ owned 2 extra (tag_to 1) ∷ owned 1 main_name (branch_to 3) ∷ [])
    × ((read_metadata (end_over (end_over offices_start second_calls) first_calls)).refs ≡ owned 2 draft (branch_to 4) ∷ owned 2 extra (tag_to 1) ∷ owned 1 main_name (branch_to 5) ∷ [])
unfolding computed
offices_refs = (ap (λ (m : Metadata). m.refs) (reread_metadata shared), ap (λ (m : Metadata). m.refs) second_ends, ap (λ (m : Metadata). m.refs) first_ends)

-- a ref of the other office, from which a walk ends at a parentless snapshot and lists these
record Walked (office : ℕ) (r : NamedRef) (ids : List ℤ) (m : Metadata) : Type 0 where
  theirs : Memᴰ r (others_refs office m.refs)
  closed : is_closed m.snapshots (record_ancestors m.snapshots r.reference.snapshot none) ≡ true
  lists : record_ancestors m.snapshots r.reference.snapshot none ≡ Listed ids

-- lists them after the calls of an office too
walked_on : (office : ℕ) (m : TableMetadata) (cs : List Call) → Chain m cs → OfOffice office cs → (r : NamedRef) (ids : List ℤ) → Walked office r ids (read_metadata m)
    → record_ancestors (read_metadata (end_over m cs)).snapshots r.reference.snapshot none ≡ Listed ids
walked_on office m cs h o r ids w = (calls_closed_walks_stay office m cs h o r w.theirs w.closed).same none ∙ w.lists

walked_shared : Walked second_office (owned 1 main_name (branch_to 3)) (pos 3 ∷ pos 2 ∷ pos 1 ∷ []) shared
unfolding computed ancestors is_closed
walked_shared = record { theirs = Memᴰ.head refl; closed = refl; lists = refl }

walked_after : Walked first_office (owned 2 draft (branch_to 4)) (pos 4 ∷ pos 2 ∷ pos 1 ∷ []) after₂
unfolding computed ancestors is_closed
walked_after = record { theirs = Memᴰ.head refl; closed = refl; lists = refl }

-- the walk from `main` ends at 1, which has no parent, before the calls of office 2, and so after them
pub second_walk : record_ancestors (read_metadata (end_over offices_start second_calls)).snapshots (pos 3) none ≡ Listed (pos 3 ∷ pos 2 ∷ pos 1 ∷ [])
second_walk =
    walked_on second_office offices_start second_calls second_calls_lem second_of_office (owned 1 main_name (branch_to 3)) (pos 3 ∷ pos 2 ∷ pos 1 ∷ [])
    (subst (Walked second_office (owned 1 main_name (branch_to 3)) (pos 3 ∷ pos 2 ∷ pos 1 ∷ [])) (sym (reread_metadata shared)) walked_shared)

-- that from `d` does so before the calls of office 1, and so after them
pub first_walk : record_ancestors (read_metadata (end_over (end_over offices_start second_calls) first_calls)).snapshots (pos 4) none ≡ Listed (pos 4 ∷ pos 2 ∷ pos 1 ∷ [])
first_walk =
    walked_on first_office (end_over offices_start second_calls) first_calls first_calls_lem first_of_office (owned 2 draft (branch_to 4)) (pos 4 ∷ pos 2 ∷ pos 1 ∷ [])
    (subst (Walked first_office (owned 2 draft (branch_to 4)) (pos 4 ∷ pos 2 ∷ pos 1 ∷ [])) (sym second_ends) walked_after)
