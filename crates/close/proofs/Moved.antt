-- Slots whose elements are moved to the front, in place: those that are passed have what they shall have, and those that are not have what they had.
use Prim.Native.Nat.{ℕ, zero, suc, ◌+◌, ◌-◌, ◌≤◌, ◌<◌}
use native.Mathlib.Omega.{arith}
use mathlib.Core.Path.{◌≡◌, refl, sym, ap, ◌∙◌}
use mathlib.Core.List.{List, [], ◌∷◌, map}
use borrow.Author.Tests.{eqb-true, eqb-false, ltb-true, ltb-false}
use borrow.Table.Steps.{cases}
use lib.Dec.{eqb, ltb}
use lib.ListN.{length, get_or, set, drop, replicate, length-append, length-replicate, length-set, length-drop, get_or-replicate, get_or-append}
use lib.Seq.{drop-cons, get_or-drop, get_or-append-add, get_or-set_same, get_or-set_other, ext_get_or}
use Rattle.rules.specs.Layout.{pad}

-- an element that is there is the same, whatever would stand for it
same_at : {A : Type 0} (l : List A) (i : ℕ) (d e : A) → i < length l → get_or l i d ≡ get_or l i e
same_at l i d e h = let a = drop-cons l i d h in let b = drop-cons l i e h in cc

pub drop_map : {A B : Type 0} (f : A → B) (n : ℕ) (l : List A) → drop n (map f l) ≡ map f (drop n l)
drop_map f zero l = refl
drop_map f (suc n) [] = refl
drop_map f (suc n) (x ∷ l) = drop_map f n l

module _ {A : Type 0} (room : ℕ) (b : A) (xs : List A) where
  pad_length : length xs ≤ room → length (pad room b xs) ≡ room
  pad_length h = simp (length-append, length-replicate) (omega arith)

  pad_at : (k : ℕ) (d : A) → k < length xs → get_or (pad room b xs) k d ≡ get_or xs k d
  pad_at k d h = get_or-append xs _ d k h

  pad_past : (k : ℕ) (d : A) → length xs ≤ k → k < room → get_or (pad room b xs) k d ≡ b
  pad_past k d h f =
      let e : k ≡ length xs + (k - length xs) = omega arith in
      ap (λ (j : ℕ). get_or (pad room b xs) j d) e ∙ get_or-append-add xs (replicate (room - length xs) b) (k - length xs) d ∙ get_or-replicate (room - length xs) (k - length xs) b d (omega arith)

-- the slots before i are those of the list without its first ones, and those from i on are those of the list
pub record Moved {A : Type 0} (room : ℕ) (b : A) (xs : List A) (gone i : ℕ) (items : List A) : Type 0 where
  pub long : length items ≡ room
  pub done : (d : A) (k : ℕ) → k < i → get_or items k d ≡ get_or (pad room b (drop gone xs)) k d
  pub kept : (d : A) (k : ℕ) → i ≤ k → get_or items k d ≡ get_or (pad room b xs) k d

module _ {A : Type 0} {room : ℕ} {b : A} {xs : List A} {gone : ℕ} (fits : length xs ≤ room) where
  pub moved_start : {items : List A} → items ≡ pad room b xs → Moved room b xs gone 0 items
  moved_start e = record { long = ap length e ∙ pad_length room b xs fits; done = λ d k h. absurd (omega arith); kept = λ d k h. ap (λ (l : List A). get_or l k d) e }

  module _ {i : ℕ} {items : List A} (s : Moved room b xs gone i items) where
    pub moved_on : (e : A) → i < length xs → ((d : A) → e ≡ get_or (pad room b (drop gone xs)) i d) → Moved room b xs gone (i + 1) (set items i e)
    moved_on e h f =
        record {
          long = length-set items i e ∙ s.long;
          done =
              λ d k l.
              cases (eqb k i)
              (λ y. let q : k ≡ i = eqb-true k i y in rw q (get_or-set_same items i e d (omega (arith, s.long)) ∙ f d))
              (λ n. get_or-set_other items i k e d (eqb-false k i n) ∙ s.done d k (omega (arith, eqb-false k i n)));
          kept = λ d k l. get_or-set_other items i k e d (λ q. omega (arith, q)) ∙ s.kept d k (omega arith);
        }

    -- what goes to the slot: an element of the list, or none where all have gone
    pub moved_here : (d : A) → i + gone < length xs → (c : A) → get_or items (i + gone) d ≡ get_or (pad room b (drop gone xs)) i c
    moved_here d h c =
        let e : i + gone ≡ gone + i = omega arith in
        let n : i < length (drop gone xs) = omega (arith, length-drop gone xs) in
        s.kept d (i + gone) (omega arith)
        ∙ pad_at room b xs (i + gone) d h
        ∙ same_at xs (i + gone) d c h
        ∙ ap (λ (k : ℕ). get_or xs k c) e
        ∙ sym (get_or-drop gone xs i c)
        ∙ sym (pad_at room b (drop gone xs) i c n)

    pub moved_none : length xs ≤ i + gone → i < length xs → (c : A) → b ≡ get_or (pad room b (drop gone xs)) i c
    moved_none h f c = sym (pad_past room b (drop gone xs) i c (omega (arith, length-drop gone xs)) (omega arith))

    pub moved_end : length xs ≤ i → items ≡ pad room b (drop gone xs)
    moved_end h =
        let n : length (drop gone xs) ≤ room = omega (arith, length-drop gone xs) in
        ext_get_or b items (pad room b (drop gone xs)) (s.long ∙ sym (pad_length room b (drop gone xs) n))
        (λ k l. cases (ltb k i)
        (λ y. s.done b k (ltb-true k i y))
        (λ z. let w : i ≤ k = ltb-false k i z in
        s.kept b k w ∙ pad_past room b xs k b (omega arith) (omega (arith, s.long)) ∙ sym (pad_past room b (drop gone xs) k b (omega (arith, length-drop gone xs)) (omega (arith, s.long)))))
