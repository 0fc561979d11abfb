-- The time of a snapshot stands where its id does.
use Prim.Native.Nat.{ℕ, suc}
use mathlib.Core.Path.{◌≡◌, refl, ap}
use mathlib.Core.Bool.{Bool, true, false, cond}
use mathlib.Core.List.{List, [], ◌∷◌}
use mathlib.Core.Option.{none, some}
use native.Mathlib.Omega.{arith}
use borrow.Author.Tests.{lt-ltb}
use lib.Dec.{ltb, leb-suc-suc}
use lib.IntN.{ℤ, pos}
use lib.ListN.{length, get_or}
use Rattle.rules.specs.Words.{eq_z, some_with, first}
use Rattle.rules.specs.Window.{is_before}
use Rattle.rules.specs.Register.{Snapshot}
use Rattle.rules.specs.WellFormed.{has_snapshot}
use Rattle.rules.specs.RefUpdates.{time_of}
use Rattle.rules.specs.Walk.{snapshot_ids}
use Rattle.rules.specs.Layout.{given}
use Rattle.expiry.specs.Found.{place_in, snapshot_times, is_older_at}

time_at : (snapshots : List Snapshot) (id : ℤ)
    → given (ltb (place_in (snapshot_ids snapshots) id) (length (snapshot_times snapshots))) (get_or (snapshot_times snapshots) (place_in (snapshot_ids snapshots) id) (pos 0)) ≡ time_of id snapshots
time_at [] id = refl
time_at (s ∷ snapshots) id = go (time_at snapshots id) (eq_z s.id id)
  where
    k : ℕ
    k = place_in (snapshot_ids snapshots) id

    n : ℕ
    n = length (snapshot_times snapshots)

    go : given (ltb k n) (get_or (snapshot_times snapshots) k (pos 0)) ≡ time_of id snapshots
        → (b : Bool) → given (ltb (cond b 0 (suc k)) (suc n)) (get_or (s.time ∷ snapshot_times snapshots) (cond b 0 (suc k)) (pos 0)) ≡ elim (cond b (some s) (first (has_snapshot id) snapshots)) [ none ↦ none | some x ↦ some x.time ]
    go e true = rw (lt-ltb 0 (suc n) (omega arith))
    go e false = rw (leb-suc-suc (suc k) n) e

-- so whether it is past an age is asked at its place
pub older_at : (snapshots : List Snapshot) (id : ℤ) (age clock : ℤ) {times : List ℤ} {place : ℕ} → times ≡ snapshot_times snapshots → place ≡ place_in (snapshot_ids snapshots) id
    → is_older_at times place age clock ≡ some_with (λ time. is_before age time clock) (time_of id snapshots)
older_at snapshots id age clock e f = rw (e, f) (ap (some_with (λ time. is_before age time clock)) (time_at snapshots id))
