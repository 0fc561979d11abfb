-- What is read of two records, and what stands in them: numbers behind flags, and the counted slots of arrays.
use Prim.Native.Nat.{ℕ, suc, ◌-◌, ◌≤◌}
use native.Mathlib.Omega.{arith}
use mathlib.Core.Path.{◌≡◌, refl, sym, ap, ap₂, ◌∙◌}
use mathlib.Core.Bool.{Bool, true, false, not, beq, ◌&&◌, ◌||◌}
use mathlib.Core.List.{List, [], ◌∷◌, map}
use borrow.Author.Tests.{ne_eqb}
use borrow.Table.Steps.{cases}
use lib.Dec.{eqb}
use lib.IntN.{ℤ}
use lib.ListN.{length, take, replicate, length-take, length-map}
use lib.Seq.{take_at}
use Rattle.std.proofs.Common.{int_eq}
use Rattle.rules.specs.Words.{eq_z, same_option, same_list}
use Rattle.rules.specs.Layout.{given, counted, pad}
use Rattle.rules.proofs.Slots.Relaid.{length_counted, counted_take}
use Rattle.equality.proofs.Derived.{numbers}

-- both flags are set and the numbers equal, or neither is set
pub same_given : (h : Bool) (x : ℤ) (g : Bool) (y : ℤ) {same : Bool} → same ≡ int_eq x y → (beq h g && (not h || same)) ≡ same_option eq_z (given h x) (given g y)
same_given true x true y e = e ∙ numbers x y
same_given true x false y e = refl
same_given false x true y e = refl
same_given false x false y e = refl

unequal_lengths : {A : Type 0} (same : A → A → Bool) (l r : List A) → (length l ≡ length r → ⊥) → same_list same l r ≡ false
unequal_lengths same [] [] h = absurd (h refl)
unequal_lengths same [] (y ∷ r) h = refl
unequal_lengths same (x ∷ l) [] h = refl
unequal_lengths same (x ∷ l) (y ∷ r) h = cases (same x y) (λ t. rw t (unequal_lengths same l r (λ e. h (ap suc e)))) (λ f. rw f)

-- the first elements of an array that comes back, read and laid again, come back
taken_back : {A B : Type 0} (rd : A → B) (ld : B → A) (room n : ℕ) (b : A) (items : List A) → n ≤ length items
    → pad room b (map ld (map rd (counted b items n))) ≡ items → map ld (map rd (take n items)) ≡ take n items
taken_back rd ld room n b items h e =
    let l = map ld (map rd (take n items)) in
    let k : length l ≡ n = simp (length-map, length-take) (omega arith) in
    let f : pad room b l ≡ items = rw (counted_take b items n h) at e in
    sym (take_at l (replicate (room - length l) b) n k) ∙ ap (take n) f

module _ {A B : Type 0} (rd : A → B) (same : B → B → Bool) where
  same_map : (xs ys : List A) → same_list (λ (x y : A). same (rd x) (rd y)) xs ys ≡ same_list same (map rd xs) (map rd ys)
  same_map [] [] = refl
  same_map [] (y ∷ ys) = refl
  same_map (x ∷ xs) [] = refl
  same_map (x ∷ xs) (y ∷ ys) = ap (λ (z : Bool). same (rd x) (rd y) && z) (same_map xs ys)

  -- of lists that come back, compared as they are
  lists_alike : {alike : A → A → Bool} (ld : B → A) → ((x y : A) → ld (rd x) ≡ x → ld (rd y) ≡ y → alike x y ≡ same (rd x) (rd y))
      → (xs ys : List A) → map ld (map rd xs) ≡ xs → map ld (map rd ys) ≡ ys → same_list alike xs ys ≡ same_list same (map rd xs) (map rd ys)
  lists_alike ld s [] [] p q = refl
  lists_alike ld s [] (y ∷ ys) p q = refl
  lists_alike ld s (x ∷ xs) [] p q = refl
  lists_alike ld s (x ∷ xs) (y ∷ ys) p q = ap₂ ◌&&◌ (s x y (cc) (cc)) (lists_alike ld s xs ys (cc) (cc))

  module _ (b : A) (xs ys : List A) (m n : ℕ) where
    long : (l : List A) (k : ℕ) → length (map rd (counted b l k)) ≡ k
    long l k = length-map (counted b l k) rd ∙ length_counted b l k

    -- other counts
    pub counts_differ : (m ≡ n → ⊥) → eqb m n ≡ same_list same (map rd (counted b xs m)) (map rd (counted b ys n))
    counts_differ h = ne_eqb m n h ∙ sym (unequal_lengths same (map rd (counted b xs m)) (map rd (counted b ys n)) (λ e. h (sym (long xs m) ∙ e ∙ long ys n)))

    -- the same count, and so many slots compared
    pub counts_agree : m ≡ n → m ≤ length xs → m ≤ length ys → {z : Bool} → z ≡ same_list (λ (x y : A). same (rd x) (rd y)) (take m xs) (take m ys) → z ≡ same_list same (map rd (counted b xs m)) (map rd (counted b ys n))
    counts_agree e p q h = h ∙ same_map (take m xs) (take m ys) ∙ rw (← e, counted_take b xs m p, counted_take b ys m q)

    -- the same count, and so many slots of two arrays that come back compared as they are
    pub laid_agree : {alike : A → A → Bool} (ld : B → A) (room : ℕ) → ((x y : A) → ld (rd x) ≡ x → ld (rd y) ≡ y → alike x y ≡ same (rd x) (rd y)) → m ≡ n → m ≤ length xs → m ≤ length ys
        → pad room b (map ld (map rd (counted b xs m))) ≡ xs → pad room b (map ld (map rd (counted b ys n))) ≡ ys
        → {z : Bool} → z ≡ same_list alike (take m xs) (take m ys) → z ≡ same_list same (map rd (counted b xs m)) (map rd (counted b ys n))
    laid_agree ld room s e p q u v h =
        let v' = rw (← e) at v in
        h ∙ lists_alike ld s (take m xs) (take m ys) (taken_back rd ld room m b xs p u) (taken_back rd ld room m b ys q v')
        ∙ rw (← e, counted_take b xs m p, counted_take b ys m q)
