-- Slots that are filled one after the other: the first so many of a list, and blanks.
use Prim.Native.Nat.{ℕ, ◌+◌, ◌-◌, ◌≤◌, ◌<◌}
use native.Mathlib.Omega.{arith}
use mathlib.Core.Path.{◌≡◌, ap, ap₂, ◌∙◌}
use mathlib.Core.List.{List}
use lib.ListN.{length, get_or, set, take, replicate}
use lib.Seq.{take_all}
use Rattle.rules.specs.Layout.{pad}
use Rattle.tables.proofs.Keyed.{pad_more}

pub record Filled {A : Type 0} (room : ℕ) (b : A) (l items : List A) (i : ℕ) : Type 0 where
  pub slots : items ≡ pad room b (take i l)

pub filled_start : {A : Type 0} {room : ℕ} {b : A} {l items : List A} → items ≡ replicate room b → Filled room b l items 0
filled_start {room = room} {b = b} e = let z : room ≡ room - 0 = omega arith in record { slots = e ∙ ap (λ (k : ℕ). replicate k b) z }

module _ {A : Type 0} {room : ℕ} {b : A} {l items : List A} {i : ℕ} (f : Filled room b l items i) where
  pub filled_on : (d : A) {x : A} → i < length l → length l ≤ room → x ≡ get_or l i d → Filled room b l (set items i x) (i + 1)
  filled_on d h k e = record { slots = ap₂ (λ (s : List A) (y : A). set s i y) f.slots e ∙ pad_more room i b d l h k }

  pub filled_all : length l ≤ i → items ≡ pad room b l
  filled_all h = f.slots ∙ ap (pad room b) (take_all i l h)
