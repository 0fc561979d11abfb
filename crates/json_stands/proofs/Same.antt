-- Slots are those of one state only.
use Prim.Native.Nat.{ℕ}
use mathlib.Core.Path.{◌≡◌, sym, ap, ◌∙◌}
use mathlib.Core.List.{List, ◌++◌}
use lib.ListN.{length, get_or, take, drop}
use lib.Seq.{take_at, drop_at}
use Rattle.json_stands.proofs.Laid.{State, Sized, laid}

-- two lists of which the first parts are as long are the same in both parts
module _ (a b c d : List ℕ) (n : ℕ) (x : length a ≡ n) (y : length b ≡ n) (e : a ++ c ≡ b ++ d) where
  first_same : a ≡ b
  first_same = sym (take_at a c n x) ∙ (ap (take n) e ∙ take_at b d n y)

  then_same : c ≡ d
  then_same = sym (drop_at a c n x) ∙ (ap (drop n) e ∙ drop_at b d n y)

module _ (a b : State) (y : Sized a.held.marks a.held.places) (z : Sized b.held.marks b.held.places) (e : laid a ≡ laid b) where
  at : (i : ℕ) → get_or (laid a) i 0 ≡ get_or (laid b) i 0
  at i = ap (λ (l : List ℕ). get_or l i 0) e

  behind : a.held.marks ++ a.held.places ≡ b.held.marks ++ b.held.places
  behind = ap (drop 16) e

  same_marks : a.held.marks ≡ b.held.marks
  same_marks = first_same a.held.marks b.held.marks a.held.places b.held.places 64 y.marks_all z.marks_all behind

  same_places : a.held.places ≡ b.held.places
  same_places = then_same a.held.marks b.held.marks a.held.places b.held.places 64 y.marks_all z.marks_all behind

  pub same_held : a.held ≡ b.held
  same_held = rw (at 5, at 8, at 9, at 10, at 11, at 12, at 13, at 14, at 15, same_marks, same_places)

  pub same_state : a ≡ b
  same_state = rw (at 0, at 1, at 2, at 3, at 4, at 6, at 7, same_held)
