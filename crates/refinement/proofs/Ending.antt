-- The run's loop ends: each turn leaves fewer to come.
use Prim.Native.Nat.{ℕ, ◌+◌, ◌*◌, ◌-◌, ◌<◌}
use native.Mathlib.Omega.{arith}
use mathlib.Core.Path.{◌≡◌}
use mathlib.Core.Bool.{Bool, true, false, cond}
use lib.Dec.{eqb}
use borrow.Author.Tests.{ne_eqb}
use borrow.Table.Steps.{cases}

-- of each update four turns at most are left: to decide, to store, and both again for the second half of a branch commit
abbrev pub turns : Bool → Bool → ℕ
turns waits half = cond waits (cond half 3 1) (cond half 2 4)

-- a decision was stored
pub stored_less : (number listed place next : ℕ) (half : Bool) {waits : Bool} → number ≡ 0 → waits ≡ true → place < listed → next ≡ cond half place (place + 1) → (n : ℕ) → n ≡ 0 → cond (eqb n 0) (4 * (listed - next) + turns false half) 0 < cond (eqb number 0) (4 * (listed - place) + turns waits half) 0
stored_less number listed place next half {waits} z w l q n y = rw (z, w, y, q) (cases half (λ t. rw t (omega arith)) (λ f. rw f (omega arith)))

-- the run is refused
pub refused_less : (number listed place : ℕ) (half waits : Bool) → number ≡ 0 → (n : ℕ) (next : ℕ) (a b : Bool) → (n ≡ 0 → ⊥) → cond (eqb n 0) (4 * (listed - next) + turns a b) 0 < cond (eqb number 0) (4 * (listed - place) + turns waits half) 0
refused_less number listed place half waits z n next a b y = rw (z, ne_eqb n 0 y) (cases waits (λ t. cases half (λ u. rw (t, u) (omega arith)) (λ u. rw (t, u) (omega arith))) (λ t. cases half (λ u. rw (t, u) (omega arith)) (λ u. rw (t, u) (omega arith))))

-- an update was decided
pub decided_less : (number listed place : ℕ) (half : Bool) {waits : Bool} → number ≡ 0 → waits ≡ false → cond (eqb number 0) (4 * (listed - place) + turns true false) 0 < cond (eqb number 0) (4 * (listed - place) + turns waits half) 0
decided_less number listed place half z w = rw (z, w) (cases half (λ t. rw t (omega arith)) (λ f. rw f (omega arith)))

-- or the first half of a branch commit
pub halved_less : (number listed place : ℕ) (half now : Bool) {waits : Bool} → number ≡ 0 → waits ≡ false → (now ≡ true → half ≡ false) → cond (eqb number 0) (4 * (listed - place) + turns true now) 0 < cond (eqb number 0) (4 * (listed - place) + turns waits half) 0
halved_less number listed place half now z w h = rw (z, w) (cases now (λ t. rw (t, h t) (omega arith)) (λ f. rw f (cases half (λ t. rw t (omega arith)) (λ u. rw u (omega arith)))))
