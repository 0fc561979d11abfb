-- One for each of so many, one by one.
use Prim.Native.Nat.{ℕ, zero, suc, ◌+◌, ◌≤◌, ◌<◌}
use mathlib.Core.Path.{◌≡◌, refl, sym, ap, ◌∙◌}
use mathlib.Core.List.{List, [], ◌∷◌, map}
use native.Mathlib.Nat.{add-zero, zero-add, add-suc, suc-add}
use native.Mathlib.Omega.{arith}
use lib.ListN.{length, get_or, drop, set, replicate}
use lib.Seq.{sets}
use Rattle.rules.specs.Layout.{pad}
use Rattle.json_store.specs.Made.{counted_up, each}
use Rattle.json_store.proofs.Stores.{sets_on, stored_end}

module _ {A : Type 0} (f : ℕ → A) where
  counted_length : (i n : ℕ) → length (map f (counted_up i n)) ≡ n
  counted_length i zero = refl
  counted_length i (suc n) = ap suc (counted_length (suc i) n)

  counted_at_lem : (i n k : ℕ) (d : A) → k < n → get_or (map f (counted_up i n)) k d ≡ f (i + k)
  counted_at_lem i zero k d h = absurd (omega arith)
  counted_at_lem i (suc n) zero d h = rw (add-zero i)
  counted_at_lem i (suc n) (suc k) d h = counted_at_lem (suc i) n k d (omega arith) ∙ ap f (omega (arith, suc-add i k, add-suc i k))

  pub each_length : (n : ℕ) → length (each f n) ≡ n
  each_length n = counted_length 0 n

  pub each_at : (n k : ℕ) (d : A) → k < n → get_or (each f n) k d ≡ f k
  each_at n k d h = counted_at_lem 0 n k d h ∙ ap f (zero-add k)

map_map : {A B : Type 0} (g : A → B) (f : ℕ → A) (l : List ℕ) → map g (map f l) ≡ map (λ i. g (f i)) l
map_map g f [] = refl
map_map g f (x ∷ l) = ap (λ (r : List _). g (f x) ∷ r) (map_map g f l)

-- what is left to store, as records
module _ {A B : Type 0} (g : A → B) (f : ℕ → A) (n : ℕ) where
  pub each_more : (l : List B) (i : ℕ) (b d : B) → i < n → b ≡ g (f i) → sets l i (drop i (map g (each f n))) ≡ sets (set l i b) (i + 1) (drop (i + 1) (map g (each f n)))
  each_more l i b d h e =
      rw (map_map g f (counted_up 0 n))
      (sets_on l i (each (λ k. g (f k)) n) d b (omega (arith, each_length (λ k. g (f k)) n)) (e ∙ sym (each_at (λ k. g (f k)) n i d h)))

  pub each_end : (room : ℕ) (blank : B) (l : List B) (i : ℕ) → n ≤ room → n ≤ i → sets (replicate room blank) 0 (map g (each f n)) ≡ sets l i (drop i (map g (each f n))) → l ≡ pad room blank (map g (each f n))
  each_end room blank l i h hi e =
      let long : length (map g (each f n)) ≡ n = ap length (map_map g f (counted_up 0 n)) ∙ each_length (λ k. g (f k)) n in
      stored_end room blank (map g (each f n)) l i (omega arith) (omega arith) e
