-- What is found of a table that is looked at once: its slots passed, its keys ascend too, and the keys.
use Rattle.std.specs.Prelude.{ℕ, ◌≤◌, ◌≡◌, Bool, true, ◌&&◌, List, map, leb, ℤ, length, take}
use Rattle.std.specs.Int.Signed.{lt_z}
use Rattle.rules.specs.Words.{all, ascending}
use Rattle.rules.specs.Capacities.{snapshot_room}
use Rattle.formed.specs.declared.order.Keys.{Keys}

-- of so many numbers
pub record Told (filled : Bool) (count : ℕ) (ids : List ℤ) (k : Keys) : Type 0 where
  pub slots : k.filled ≡ filled
  pub order : k.formed ≡ (filled && ascending lt_z (take count ids))
  pub few : k.count ≤ snapshot_room
  pub keys : filled ≡ true → take k.count k.ids ≡ take count ids

-- of a table that is read as a list
pub record Found {A : Type 0} (tidy : Bool) (room : ℕ) (formed : A → Bool) (key : A → ℤ) (l : List A) (k : Keys) : Type 0 where
  pub slots : k.filled ≡ (tidy && (leb (length l) room && all formed l))
  pub order : k.formed ≡ (tidy && (leb (length l) room && all formed l && ascending (λ a b. lt_z (key a) (key b)) l))
  pub few : k.count ≤ snapshot_room
  pub keys : k.filled ≡ true → take k.count k.ids ≡ map key l
