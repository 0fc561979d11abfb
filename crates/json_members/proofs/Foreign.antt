-- Names of other rows, refused one after another.
use Prim.Native.Nat.{ℕ, suc, ◌+◌, ◌-◌, ◌≤◌, ◌<◌}
use mathlib.Core.Path.{◌≡◌}
use mathlib.Core.List.{List}
use native.Mathlib.Numerals.{add-one}
use native.Mathlib.Omega.{arith}
use Rattle.json_members.specs.declared.row.Row.{Row}
use Rattle.json_members.specs.Model.{refusing_foreign, refusing_foreigns}

module _ (r : Row) (spot : ℕ) (slots : List ℕ) where
  pub foreigns_more : spot ≤ 23 → refusing_foreigns (24 - spot) r spot slots ≡ refusing_foreigns (24 - (spot + 1)) r (spot + 1) (refusing_foreign r spot slots)
  unfolding refusing_foreigns
  foreigns_more h =
      let n : 24 - spot ≡ suc (24 - (spot + 1)) = omega arith in
      rw (n, add-one spot)

  pub foreigns_done : 23 < spot → refusing_foreigns (24 - spot) r spot slots ≡ slots
  unfolding refusing_foreigns
  foreigns_done h =
      let n : 24 - spot ≡ 0 = omega arith in
      rw n
