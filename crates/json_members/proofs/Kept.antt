-- A text that is kept whole is what is kept of it. One that is not, and one without bytes, is longer than what any record holds.
use Prim.Native.Nat.{ℕ, zero, suc, ◌≤◌}
use mathlib.Core.Path.{◌≡◌, refl, sym, ap, ◌∙◌}
use mathlib.Core.List.{List, [], ◌∷◌}
use mathlib.Core.Option.{Option, none, some}
use native.Mathlib.Omega.{arith}
use borrow.Author.Tests.{le-leb, lt-leb, leb-true, leb-false}
use borrow.Table.Steps.{cases}
use lib.Dec.{leb}
use lib.ListN.{length, take}
use lib.Seq.{take_all}
use Rattle.json_machine.proofs.Slots.{First}
use Rattle.json_members.specs.Kept.{front, TextKept}
use Rattle.json_members.proofs.Fronts.{front_length}

front_is_take : (n : ℕ) (slots : List ℕ) → n ≤ length slots → front n slots ≡ take n slots
unfolding front
front_is_take zero slots h = refl
front_is_take (suc n) [] h = absurd (omega arith)
front_is_take (suc n) (b ∷ slots) h = ap (λ (l : List ℕ). b ∷ l) (front_is_take n slots (omega arith))

-- what is told of a text, and of one without bytes
abbrev pub told_of : {A : Type 0} → (List ℕ → A) → A → Option (List ℕ) → A
told_of f other none = other
told_of f other (some text) = f text

module _ (kept : List ℕ) (len : ℕ) where
  whole : (text : List ℕ) → First kept len text → length text ≤ 97 → front len kept ≡ text
  whole text f h = front_is_take len kept (omega (arith, f.count, f.long)) ∙ f.bytes ∙ take_all 97 text h

  -- where the same is told of each text that is so long
  pub kept_told : {A : Type 0} (f : List ℕ → A) (other : A) → ((text : List ℕ) → 97 ≤ length text → f text ≡ other) → (x : Option (List ℕ)) → TextKept kept len x → f (front len kept) ≡ told_of f other x
  kept_told f other long none k = long (front len kept) (omega (arith, front_length len kept, k))
  kept_told f other long (some text) k =
      cases (leb (length text) 97)
      (λ t. ap f (whole text k (leb-true (length text) 97 t)))
      (λ n. let h = leb-false (length text) 97 n in
      long (front len kept) (omega (arith, front_length len kept, k.count)) ∙ sym (long text (omega arith)))

  -- whether it fits
  pub length_told : (text : List ℕ) (room : ℕ) → First kept len text → room ≤ 96 → leb len room ≡ leb (length text) room
  length_told text room f h =
      cases (leb (length text) room)
      (λ t. rw t (le-leb len room (omega (arith, leb-true (length text) room t, f.count))))
      (λ n. rw n (lt-leb len room (omega (arith, leb-false (length text) room n, f.count))))
