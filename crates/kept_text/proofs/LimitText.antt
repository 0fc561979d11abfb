-- What is kept of a limit's text, in slots.
use Prim.Native.Nat.{ℕ, ◌+◌, ◌<◌, ◌≤◌}
use mathlib.Core.Path.{◌≡◌}
use mathlib.Core.Bool.{true, false}
use mathlib.Core.List.{List}
use native.Mathlib.Numerals.{add-one}
use borrow.Author.Tests.{lt-ltb, le-ltb}
use lib.ListN.{length, set, take}
use lib.Seq.{take-suc-set, length-take-le}
use Rattle.kept_text.specs.LimitText.{is_spare, keep_byte}

-- ---- one more byte

module _ (text : List ℕ) (len b : ℕ) (h : len ≤ length text) where
  pub spare : is_spare (take len text) b ≡ true → take len text ≡ keep_byte (length text) (take len text) b
  unfolding keep_byte
  spare e = rw e

  module _ (e : is_spare (take len text) b ≡ false) where
    pub stored : len < length text → take (len + 1) (set text len b) ≡ keep_byte (length text) (take len text) b
    unfolding keep_byte
    stored k = rw (e, length-take-le len text h, lt-ltb len (length text) k, add-one, take-suc-set text len b k)

    pub full : length text ≤ len → take len text ≡ keep_byte (length text) (take len text) b
    unfolding keep_byte
    full k = rw (e, length-take-le len text h, le-ltb len (length text) k)
