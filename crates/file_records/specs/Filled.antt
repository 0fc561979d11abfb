-- Slots that were filled, one by one, with what was made of their numbers.
use Rattle.std.specs.Prelude.{ℕ, ◌<◌, ◌≡◌, List}
use Rattle.std.proofs.Math.Seq.{sets}
use Rattle.json_store.specs.Made.{each}

-- whatever tells what is made of each number tells the slots
abbrev pub Fills : {T : Type 0} → (ℕ → T → Type 0) → ℕ → List T → List T → Type 0
Fills {T} Made n before after = (f : ℕ → T) → ((i : ℕ) (x : T) → i < n → Made i x → x ≡ f i) → after ≡ sets before 0 (each f n)
