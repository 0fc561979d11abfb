-- Where lists of ids stand, and how many elements a list has.
use Prim.Native.Nat.{ℕ, ◌≤◌}
use mathlib.Core.List.{List}
use native.Mathlib.Omega.{arith}
use borrow.Author.Tests.{leb-true}
use borrow.Table.Steps.{cases}
use lib.Dec.{eqb, leb}
use Rattle.json_store.specs.Numbers.{magnitude_at, count_at}
use Rattle.json_store.specs.Puts.{ids_at}

pub ids_small : (item : ℕ) → ids_at item ≤ 96
unfolding ids_at
ids_small item = cases (eqb item 24) (λ t. rw t (omega arith)) (λ f. rw f (cases (eqb item 25) (λ t. rw t (omega arith)) (λ g. rw g (omega arith))))

pub count_small : (room : ℕ) (numbers : List ℕ) (list : ℕ) → count_at room numbers list ≤ room
unfolding count_at
count_small room numbers list = cases (leb (magnitude_at numbers list) room) (λ t. rw t (leb-true _ room t)) (λ f. rw f (omega arith))
