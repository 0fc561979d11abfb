-- What a search in a table finds: the first that passes the test, which stands at the place that it gives.
use Prim.Native.Nat.{ℕ}
use mathlib.Core.Path.{◌≡◌, ◌∙◌}
use mathlib.Core.Bool.{Bool}
use borrow.Author.Tests.{ltb-true}
use borrow.Table.Steps.{cases}
use lib.Dec.{ltb}
use lib.ListN.{get_or}
use Rattle.rules.specs.Words.{first}
use Rattle.rules.specs.Layout.{given}
use Rattle.search.specs.Places.{index_of}
use Rattle.search.proofs.Places.{first_at}
use Rattle.tables.proofs.Table.{Kind, Tidy, listed, read_length, at}

-- there is one exactly if the place is within the count
pub found_at : {K : Kind} {t : K.Whole} → Tidy K t → (p : K.Plain → Bool) {i : ℕ} → i ≡ index_of p (listed K t) → (d : K.Slot) → first p (listed K t) ≡ given (ltb i (K.count t)) (K.read (get_or (K.items t) i d))
found_at {K} {t} h p {i} q d =
    first_at p (K.read d) (listed K t)
    ∙ rw (← q, read_length h)
    (cases (ltb i (K.count t))
    (λ b. rw (b, at h i d (ltb-true i (K.count t) b)))
    (λ f. rw f))
