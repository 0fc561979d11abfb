-- The counted slots of an array one after the other; one that is not there is blank.
use Prim.Native.Nat.{ℕ, ◌+◌, ◌-◌, ◌≤◌, ◌<◌}
use native.Mathlib.Numerals.{add-one}
use native.Mathlib.Omega.{arith}
use mathlib.Core.Path.{◌≡◌, sym, ap, ◌∙◌}
use mathlib.Core.List.{List, ◌∷◌, ◌++◌}
use borrow.Author.Tests.{leb-true, leb-false, ltb-true, ltb-false}
use borrow.Table.Steps.{cases}
use lib.Dec.{leb, ltb}
use lib.ListN.{length, get_or, take, drop, replicate, get_or-append, get_or-replicate}
use lib.Seq.{length-take-le, take_all, get_or-take, get_or-append-add, drop-cons}
use Rattle.std.proofs.lemmas.List.{get_or_past}
use Rattle.rules.specs.Layout.{counted}
use Rattle.rules.proofs.Slots.Relaid.{length_counted}

module _ {A : Type 0} (blank : A) (l : List A) (n : ℕ) where
  pub there : (i : ℕ) (d : A) → i < n → i < length l → get_or (counted blank l n) i d ≡ get_or l i d
  there i d h k =
      let within : i < length (take n l) =
      cases (leb n (length l)) (λ e. omega (arith, length-take-le n l (leb-true n (length l) e))) (λ e. let m = leb-false n (length l) e in omega (arith, ap length (take_all n l (omega arith)))) in
      get_or-append (take n l) (replicate (n - length l) blank) d i within ∙ get_or-take n l i d h

  pub not_there : (i : ℕ) (d : A) → i < n → length l ≤ i → get_or (counted blank l n) i d ≡ blank
  not_there i d h k =
      let e : length l + (i - length l) ≡ i = omega arith in
      ap (λ (m : List A). get_or (m ++ replicate (n - length l) blank) i d) (take_all n l (omega arith))
      ∙ ap (λ (j : ℕ). get_or (l ++ replicate (n - length l) blank) j d) (sym e)
      ∙ get_or-append-add l (replicate (n - length l) blank) (i - length l) d
      ∙ get_or-replicate (n - length l) (i - length l) blank d (omega arith)

  -- the rest from a slot on
  pub from_slot : (i : ℕ) → i < n → drop i (counted blank l n) ≡ get_or l i blank ∷ drop (i + 1) (counted blank l n)
  from_slot i h =
      let k : i < length (counted blank l n) = omega (arith, length_counted blank l n) in
      let slot : get_or (counted blank l n) i blank ≡ get_or l i blank =
      cases (ltb i (length l)) (λ e. there i blank h (ltb-true i (length l) e)) (λ e. let m = ltb-false i (length l) e in not_there i blank h m ∙ sym (get_or_past l i blank m)) in
      drop-cons (counted blank l n) i blank k ∙ rw (slot, ← add-one)
