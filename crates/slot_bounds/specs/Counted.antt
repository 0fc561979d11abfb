-- Slots that a reader used.
use Rattle.std.specs.Prelude.{ℕ, ◌≤◌, ◌≡◌, List, length, take}

-- n counts slots at the front. The second part follows from the first; both stand here so that lending the front asks no proof
abbrev pub Counted : {A : Type 0} → ℕ → List A → Type 0
Counted n slots = (n ≤ length slots) × (n ≡ length (take n slots))
