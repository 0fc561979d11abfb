-- An element put at a place of a list, those from there on one further.
use Prim.Native.Nat.{ℕ, zero, suc, ◌+◌, ◌≤◌}
use native.Mathlib.Omega.{arith}
use mathlib.Core.Path.{◌≡◌, refl}
use mathlib.Core.List.{List, [], ◌∷◌, ◌++◌, map}
use lib.ListN.{length, take, drop, length-append, length-take, length-drop}

abbrev pub put_at : {A : Type 0} → ℕ → A → List A → List A
put_at at a l = take at l ++ a ∷ drop at l

pub map_put_at : {A B : Type 0} (f : A → B) (at : ℕ) (a : A) (l : List A) → map f (put_at at a l) ≡ put_at at (f a) (map f l)
map_put_at f zero a l = refl
map_put_at f (suc at) a [] = refl
map_put_at f (suc at) a (x ∷ l) = rw (map_put_at f at a l)

pub put_at_length : {A : Type 0} (at : ℕ) (a : A) (l : List A) → at ≤ length l → length (put_at at a l) ≡ length l + 1
put_at_length at a l h = simp (length-append, length-take, length-drop) (omega arith)
