-- Members that are looked for one after another.
use Prim.Native.Nat.{ℕ, suc, ◌+◌, ◌-◌, ◌≤◌, ◌<◌}
use mathlib.Core.Path.{◌≡◌, refl}
use mathlib.Core.Bool.{Bool, true, false}
use mathlib.Core.List.{List}
use native.Mathlib.Numerals.{add-one}
use native.Mathlib.Omega.{arith}
use borrow.Author.Tests.{leb-true, leb-false}
use borrow.Table.Steps.{cases}
use lib.Dec.{leb}
use Rattle.json_members.proofs.Cases.{all_below_lem}
use Rattle.file_cells.specs.Wants.{kind_at}
use Rattle.file_members.specs.Names.{first_of, count_of}
use Rattle.file_members.specs.Flags.{lacks_at, lacking}
use Rattle.file_members.proofs.Numbers.{first_past, count_past}

-- as many flags as members are enough, and the members' numbers are small
pub count_room : (kind : ℕ) → count_of kind ≤ 23
unfolding count_of kind_at
count_room kind =
    cases (leb 13 kind)
    (λ t. let z = count_past kind (leb-true 13 kind t) in omega arith)
    (λ f. leb-true (count_of kind) 23 (all_below_lem 13 (λ k. leb (count_of k) 23) refl kind (leb-false 13 kind f)))

pub first_room : (kind : ℕ) → first_of kind ≤ 66
unfolding first_of kind_at
first_room kind =
    cases (leb 13 kind)
    (λ t. let z = first_past kind (leb-true 13 kind t) in omega arith)
    (λ f. leb-true (first_of kind) 66 (all_below_lem 13 (λ k. leb (first_of k) 66) refl kind (leb-false 13 kind f)))

pub lacks_first : (version first count : ℕ) (flags : List Bool) → lacking version first count 0 flags ≡ lacking version first (count - 0) 0 flags
lacks_first version first count flags = let n : count - 0 ≡ count = omega arith in rw n

module _ (version first count i : ℕ) (flags : List Bool) where
  pub lacks_here : i < count → lacks_at version first i flags ≡ true → lacking version first (count - i) i flags ≡ true
  unfolding lacking
  lacks_here h e =
      let n : count - i ≡ suc (count - (i + 1)) = omega arith in
      rw (n, e)

  pub lacks_further : i < count → lacks_at version first i flags ≡ false → lacking version first (count - i) i flags ≡ lacking version first (count - (i + 1)) (i + 1) flags
  unfolding lacking
  lacks_further h e =
      let n : count - i ≡ suc (count - (i + 1)) = omega arith in
      rw (n, e, add-one i)

  pub lacks_none : count ≤ i → lacking version first (count - i) i flags ≡ false
  unfolding lacking
  lacks_none h =
      let n : count - i ≡ 0 = omega arith in
      rw n
