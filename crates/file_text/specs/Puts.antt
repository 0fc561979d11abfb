-- Bytes are put into a buffer at a place, and the place behind them is told. Places are counted up to 2^64 - 1 and no further. What a buffer holds then is said only
-- where there is room: whoever writes asks that first, by putting everything into a buffer that does not matter.
use Rattle.std.specs.Prelude.{ℕ, ◌+◌, ◌^◌, ◌≤◌, ◌<◌, ◌≡◌, Bool, cond, List, [], leb, length}
use Rattle.std.proofs.lemmas.List.Edits.{sets}

-- the place so many bytes further on
unfoldable pub past : ℕ → ℕ → ℕ
past place n = cond (leb (place + n) 18446744073709551615) (place + n) 18446744073709551615

pub record Puts (before : List ℕ) (place : ℕ) (text : List ℕ) (end : ℕ) (after : List ℕ) : Type 0 where
  pub ends : end ≡ past place (length text)
  pub bytes : place + length text ≤ length before → length before < 2 ^ 64 → after ≡ sets before place text

-- a text that may be left out
abbrev pub only_if : Bool → List ℕ → List ℕ
only_if wanted text = cond wanted text []
