-- Bytes that are added to those that are kept, one call after another.
use Prim.Native.Nat.{ℕ, ◌+◌, ◌/◌, ◌%◌, ◌≤◌, ◌<◌}
use mathlib.Core.Path.{◌≡◌}
use mathlib.Core.List.{List, [], ◌∷◌}
use native.Mathlib.Omega.{arith}
use borrow.Author.Tests.{lt-ltb, le-ltb}
use Rattle.json_rule.specs.Values.{utf8}
use Rattle.json_machine.specs.Digest.{Keeps, Held, held, counted, keeping}

-- a byte by another name
pub keeps_one : {slots after : List ℕ} {len n : ℕ} (b c : ℕ) → b ≡ c → Keeps slots len (b ∷ []) n after → Keeps slots len (c ∷ []) n after
keeps_one b c e k = rw e at k

-- a byte, and then others
pub keeps_more : {slots between after : List ℕ} {len n m : ℕ} {bs : List ℕ} (b c : ℕ) → b ≡ c → Keeps slots len (b ∷ []) n between → Keeps between n bs m after → Keeps slots len (c ∷ bs) m after
keeps_more b c e k l = let j = keeps_one b c e k in record { counts = rw j.counts at l.counts; bytes = rw (j.counts, j.bytes) at l.bytes }

-- a character in UTF-8, by its length
module _ {slots after : List ℕ} {len n : ℕ} (c : ℕ) where
  pub keeps_single : c < 128 → Keeps slots len (c ∷ []) n after → Keeps slots len (utf8 c) n after
  unfolding utf8
  keeps_single h k = rw (lt-ltb c 128 h) k

  pub keeps_two : 128 ≤ c → c < 2048 → Keeps slots len ((192 + c / 64) ∷ (128 + c % 64) ∷ []) n after → Keeps slots len (utf8 c) n after
  unfolding utf8
  keeps_two h g k = rw (le-ltb c 128 h, lt-ltb c 2048 g) k

  pub keeps_three : 2048 ≤ c → c < 65536 → Keeps slots len ((224 + c / 4096) ∷ (128 + c / 64 % 64) ∷ (128 + c % 64) ∷ []) n after → Keeps slots len (utf8 c) n after
  unfolding utf8
  keeps_three h g k = rw (le-ltb c 128 (omega arith), le-ltb c 2048 h, lt-ltb c 65536 g) k

  pub keeps_four : 65536 ≤ c → Keeps slots len ((240 + c / 262144) ∷ (128 + c / 4096 % 64) ∷ (128 + c / 64 % 64) ∷ (128 + c % 64) ∷ []) n after → Keeps slots len (utf8 c) n after
  unfolding utf8
  keeps_four h k = rw (le-ltb c 128 (omega arith), le-ltb c 2048 (omega arith), le-ltb c 65536 h) k

-- a text whose bytes these are
pub keeps_held : {n : ℕ} {after bs : List ℕ} (h : Held) → Keeps h.slots h.text.len bs n after → held (counted n h.text) after ≡ keeping bs h
unfolding keeping
keeps_held h k = rw (k.counts, k.bytes)
