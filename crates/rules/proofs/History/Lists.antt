-- Laws of lists for the history of a run: what stands after the last element that passes a test, what is kept of two lists joined, and which element is their last.
use Prim.Native.Nat.{ℕ, zero, suc, ◌-◌}
use native.Mathlib.Nat.{sub-zero, zero-sub, suc-sub-suc}
use native.Mathlib.Omega.{arith}
use mathlib.Core.Path.{◌≡◌, refl, ap}
use mathlib.Core.Bool.{Bool, true, false, not, ◌||◌, false≢true}
use mathlib.Core.List.Memᴰ
use mathlib.Core.List.{List, [], ◌∷◌, ◌++◌, map, Memᴰ}
use mathlib.Core.Logic.{⊎_elim}
use mathlib.Core.Option.{Option, none, some}
use lib.IntN.{ℤ}
use lib.ListN.{length, drop}
use Rattle.rules.specs.Words.{eq_z, or_else, all, any, keep, last_of, after_last, is_in}
use Rattle.rules.proofs.Checks.{by_test, both, or_left, or_right, by_either, neither}
use Rattle.rules.proofs.Orders.{numbers_told}
use Rattle.rules.proofs.Tables.{all_head, all_tail, any_keep, all_drop}
use Rattle.rules.proofs.Replay.Lists.{keep_append, keep_all}

-- ---- numbers in lists

-- a test that holds for one that stands in the list holds for some of it
pub in_any : (p : ℤ → Bool) (l : List ℤ) (x : ℤ) → is_in l x ≡ true → p x ≡ true → any p l ≡ true
in_any p [] x e h = e
in_any p (y ∷ l) x e h = by_either (eq_z x y) (is_in l x) (λ q. or_left (any p l) (rw (numbers_told.equal x y q) at h)) (λ q. or_right (p y) (in_any p l x q h)) e

module _ {A : Type 0} (key : A → ℤ) where
  -- the key of one of a list is among its keys
  key_in : (x : ℤ) (l : List A) → any (λ a. eq_z (key a) x) l ≡ true → is_in (map key l) x ≡ true
  key_in x [] h = h
  key_in x (a ∷ l) h =
      by_either (eq_z (key a) x) (any (λ a. eq_z (key a) x) l)
      (λ q. or_left (is_in (map key l) x) {a = eq_z x (key a)} (rw (numbers_told.equal (key a) x q) (numbers_told.itself x)))
      (λ q. or_right (eq_z x (key a)) (key_in x l q)) h

  -- what a test that holds for all says of each whose key is among the keys of the list
  pub all_keyed : (p q : A → Bool) (l : List A) → ((x : A) → any (λ a. eq_z (key a) (key x)) l ≡ true → p x ≡ true → q x ≡ true) → all p l ≡ true → all q l ≡ true
  all_keyed p q [] f h = refl
  all_keyed p q (x ∷ l) f h =
      both
      (f x (or_left (any (λ a. eq_z (key a) (key x)) l) (numbers_told.itself (key x))) (all_head p x l h))
      (all_keyed p q l (λ y k. f y (or_right (eq_z (key x) (key y)) k)) (all_tail p x l h))

  -- one that is sought is among the others, or its key is among those that went
  pub stays_or_goes : (ids : List ℤ) (l : List A) (x : ℤ) → any (λ a. eq_z (key a) x) l ≡ true
      → any (λ a. eq_z (key a) x) (keep (λ a. not (is_in ids (key a))) l) || is_in (map key (keep (λ a. is_in ids (key a)) l)) x ≡ true
  stays_or_goes ids l x h = go (is_in ids x) refl
    where
      go : (t : Bool) → is_in ids x ≡ t → any (λ a. eq_z (key a) x) (keep (λ a. not (is_in ids (key a))) l) || is_in (map key (keep (λ a. is_in ids (key a)) l)) x ≡ true
      go true e =
          or_right (any (λ a. eq_z (key a) x) (keep (λ a. not (is_in ids (key a))) l))
          (key_in x (keep (λ a. is_in ids (key a)) l) (any_keep (λ a. eq_z (key a) x) (λ a. is_in ids (key a)) (λ a q. rw (numbers_told.equal (key a) x q) e) l h))
      go false e =
          or_left (is_in (map key (keep (λ a. is_in ids (key a)) l)) x)
          (any_keep (λ a. eq_z (key a) x) (λ a. not (is_in ids (key a))) (λ a q. rw (numbers_told.equal (key a) x q, e)) l h)

-- ---- what stands after the last of some

module _ {A : Type 0} where
  -- a test that holds for none fails for each
  none_any : (p : A → Bool) (l : List A) → any p l ≡ false → all (λ x. not (p x)) l ≡ true
  none_any p [] e = refl
  none_any p (x ∷ l) e = let k = neither (p x) (any p l) e in both (ap not k.0) (none_any p l k.1)

  -- those that stand there fail the test
  pub after_last_none : (p : A → Bool) (l : List A) → all (λ x. not (p x)) (after_last p l) ≡ true
  after_last_none p [] = refl
  after_last_none p (x ∷ l) =
      let P : List A → Type 0 = λ r. all (λ x. not (p x)) r ≡ true in
      by_test P (any p l)
      (λ e. after_last_none p l)
      (λ e. by_test P (p x) (λ f. none_any p l e) (λ f. both (ap not f) (none_any p l e)))

  -- a list is another without its first elements
  pub record Dropped (l r : List A) : Type 0 where
    pub count : ℕ
    pub is : r ≡ drop count l

  -- what stands after the last of some is such a list
  pub after_last_drop : (p : A → Bool) (l : List A) → Dropped l (after_last p l)
  after_last_drop p [] = record { count = 0; is = refl }
  after_last_drop p (x ∷ l) =
      let ih : Dropped l (after_last p l) = after_last_drop p l in
      by_test (Dropped (x ∷ l)) (any p l)
      (λ e. record { count = suc ih.count; is = ih.is })
      (λ e. by_test (Dropped (x ∷ l)) (p x) (λ f. record { count = 1; is = refl }) (λ f. record { count = 0; is = refl }))

  -- two lists joined, without their first elements
  drop_append : (n : ℕ) (xs ys : List A) → drop n (xs ++ ys) ≡ drop n xs ++ drop (n - length xs) ys
  drop_append zero xs ys = rw zero-sub
  drop_append (suc n) [] ys = rw sub-zero
  drop_append (suc n) (x ∷ xs) ys = rw suc-sub-suc (drop_append n xs ys)

  -- what is kept of two lists joined, without their first elements, where the test holds for all of the first list
  pub keep_second : (p : A → Bool) (n : ℕ) (xs ys : List A) → all p xs ≡ true → keep p (drop n (xs ++ ys)) ≡ drop n xs ++ keep p (drop (n - length xs) ys)
  keep_second p n xs ys h = rw (drop_append n xs ys, keep_append p (drop n xs) (drop (n - length xs) ys), keep_all p (drop n xs) (all_drop p n xs h))

  -- ---- the last

  -- the last of two lists joined is the second's, or the first's where the second has none
  pub last_append : (xs ys : List A) → last_of (xs ++ ys) ≡ elim (last_of ys) [ none ↦ last_of xs | some y ↦ some y ]
  last_append [] ys = elim (last_of ys) as (λ (o : Option A). o ≡ elim o [ none ↦ none | some y ↦ some y ]) [ none ↦ refl | some y ↦ refl ]
  last_append (x ∷ xs) ys = rw (last_append xs ys) (go (last_of ys))
    where
      go : (o : Option A) → some (or_else (elim o [ none ↦ last_of xs | some y ↦ some y ]) x) ≡ elim o [ none ↦ some (or_else (last_of xs) x) | some y ↦ some y ]
      go none = refl
      go (some y) = refl

  -- ---- what stands in a list

  -- what holds for all holds for each that stands in the list
  pub all_in : (p : A → Bool) (l : List A) {a : A} → all p l ≡ true → Memᴰ a l → p a ≡ true
  all_in p [] h k = absurd (Memᴰ.not-nil k)
  all_in p (x ∷ l) h k = ⊎_elim (λ q. rw q (all_head p x l h)) (λ q. all_in p l (all_tail p x l h) q) (Memᴰ.cases_cons k)

  -- a test that holds for one that stands in the list holds for some of it, and the other way round
  pub found_any : (p : A → Bool) (l : List A) {a : A} → Memᴰ a l → p a ≡ true → any p l ≡ true
  found_any p [] k h = absurd (Memᴰ.not-nil k)
  found_any p (x ∷ l) k h = ⊎_elim (λ q. or_left (any p l) (rw q at h)) (λ q. or_right (p x) (found_any p l q h)) (Memᴰ.cases_cons k)

  pub any_found : (p : A → Bool) (l : List A) → any p l ≡ true → (a : A) × Memᴰ a l × (p a ≡ true)
  any_found p [] h = absurd (false≢true h)
  any_found p (x ∷ l) h = by_either (p x) (any p l) (λ q. (x, Memᴰ.head refl, q)) (λ q. let k = any_found p l q in (k.0, Memᴰ.tail k.1, k.2)) h

  -- what stands in a part of a list stands in the list
  pub in_drop : (n : ℕ) (l : List A) {a : A} → Memᴰ a (drop n l) → Memᴰ a l
  in_drop zero l h = h
  in_drop (suc n) [] h = h
  in_drop (suc n) (x ∷ l) h = Memᴰ.tail (in_drop n l h)

  pub in_keep : (p : A → Bool) (l : List A) {a : A} → Memᴰ a (keep p l) → Memᴰ a l
  in_keep p [] h = h
  in_keep p (x ∷ l) {a} h =
      by_test (λ (r : List A). Memᴰ a r → Memᴰ a (x ∷ l)) (p x)
      (λ e k. ⊎_elim (λ q. Memᴰ.head q) (λ q. Memᴰ.tail (in_keep p l q)) (Memᴰ.cases_cons k))
      (λ e k. Memᴰ.tail (in_keep p l k)) h

  -- so does its last
  pub in_last : (l : List A) {a : A} → last_of l ≡ some a → Memᴰ a l
  in_last [] e = absurd (let z : ◌≡◌ {A = ℕ} 0 1 = cc in omega arith)
  in_last (x ∷ l) {a} e = go (last_of l) (λ q. in_last l q) e
    where
      go : (o : Option A) → (o ≡ some a → Memᴰ a l) → some (or_else o x) ≡ some a → Memᴰ a (x ∷ l)
      go none ih e = let q : a ≡ x = cc in Memᴰ.head q
      go (some y) ih e = Memᴰ.tail (ih e)
