-- Bounds of places among the cells.
use Prim.Native.Nat.{ℕ, ◌*◌, ◌≤◌}
use native.Mathlib.Nat.{mul-le-mul}

pub product_small : (count size : ℕ) → count ≤ 128 → size ≤ 9047 → count * size ≤ 1158016
product_small count size h k = mul-le-mul h k
