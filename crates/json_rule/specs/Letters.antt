-- Texts of the rules as bytes: names, words and actions are written here as they stand in a text, in letters of ASCII.
use Rattle.std.specs.Prelude.{ℕ}
use Prim.Native.Char.{code}
use Prim.Native.String.{String, [], ◌∷◌}
use mathlib.Core.List as Lists

abbrev pub bytes : String → Lists.List ℕ
bytes [] = Lists.[]
bytes (c ∷ s) = Lists.◌∷◌ (code c) (bytes s)
