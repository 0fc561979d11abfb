-- What is made of the numbers from `i` on is left to store.
use Rattle.std.proofs.Common.{◌≡◌, ℕ, ◌<◌, drop}
use Rattle.std.proofs.Math.Seq.{sets}
use Rattle.json_store.specs.Made.{each}
use Rattle.file_records.proofs.slots.fill.Given as goal

abbrev pub invariant-loop-i : goal.invariant-loop-i
invariant-loop-i g l = (f : ℕ → _) → ((i : ℕ) (x : _) → i < l.count → goal.F-post g l.made i x → x ≡ f i) → sets l.initial.slots 0 (each f l.count) ≡ sets l.slots l.i (drop l.i (each f l.count))
