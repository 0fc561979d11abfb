-- Members that are looked for one after another.
use Prim.Native.Nat.{ℕ, suc, ◌+◌, ◌-◌, ◌≤◌, ◌<◌}
use mathlib.Core.Path.{◌≡◌}
use mathlib.Core.Bool.{true, false}
use mathlib.Core.List.{List}
use native.Mathlib.Numerals.{add-one}
use native.Mathlib.Omega.{arith}
use Rattle.json_members.specs.Slots.{seen_in}
use Rattle.json_members.specs.Marks.{lacking, lacks_any}

module _ (to spot : ℕ) (slots : List ℕ) where
  pub lacks_here : spot ≤ to → seen_in slots spot ≡ false → lacks_any spot to slots ≡ true
  unfolding lacking
  lacks_here h e =
      let n : suc to - spot ≡ suc (to - spot) = omega arith in
      rw (n, e)

  pub lacks_further : spot ≤ to → seen_in slots spot ≡ true → lacks_any spot to slots ≡ lacks_any (spot + 1) to slots
  unfolding lacking
  lacks_further h e =
      let n : suc to - spot ≡ suc (suc to - (spot + 1)) = omega arith in
      rw (n, e, add-one spot)

  pub lacks_none : to < spot → lacks_any spot to slots ≡ false
  unfolding lacking
  lacks_none h =
      let n : suc to - spot ≡ 0 = omega arith in
      rw n
