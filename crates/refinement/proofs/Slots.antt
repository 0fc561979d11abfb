-- Arrays that are filled from the front, and what is collected from a list.
use Prim.Native.Nat.{ℕ, suc, ◌+◌, ◌-◌, ◌≤◌, ◌<◌}
use native.Mathlib.Omega.{arith}
use mathlib.Core.Path.{◌≡◌, ap}
use mathlib.Core.List.{List, [], ◌∷◌, ◌++◌, append_assoc}
use mathlib.Core.Option.{Option, none, some}
use lib.ListN.{length, take, set, replicate, length-append, length-replicate}
use lib.Seq.{set-append_seam, take-append_seam}
use Rattle.rules.specs.Words.{collect}
use Rattle.rules.specs.Layout.{pad}
use Rattle.rules.proofs.Checks.{by_option}

module _ {A : Type 0} (b : A) (room : ℕ) where
  pub pad_length : (l : List A) → length l ≤ room → length (pad room b l) ≡ room
  pad_length l h = simp (length-append, length-replicate) (omega arith)

  -- a store behind the elements
  pub pad_push : (l : List A) (x : A) → length l < room → set (pad room b l) (length l) x ≡ pad room b (l ++ (x ∷ []))
  pad_push l x h =
      let k : room - length l ≡ suc (room - length (l ++ (x ∷ []))) = omega (arith, length-append l (x ∷ [])) in
      rw (k, set-append_seam l b (replicate (room - length (l ++ (x ∷ []))) b) x, append_assoc l (x ∷ []) (replicate (room - length (l ++ (x ∷ []))) b))

  -- as many as there are elements
  pub pad_front : (l : List A) → take (length l) (pad room b l) ≡ l
  pad_front l = take-append_seam l (replicate (room - length l) b)

-- ---- what is collected

module _ {A B : Type 0} (f : A → Option B) where
  pub collect_length : (l : List A) → length (collect f l) ≤ length l
  collect_length [] = omega arith
  collect_length (x ∷ l) = by_option (λ (k : List B). length k ≤ suc (length l)) (f x) (λ e. omega (arith, collect_length l)) (λ y e. omega (arith, collect_length l))

  pub collect_none : (l : List A) (x : A) → f x ≡ none → collect f (l ++ (x ∷ [])) ≡ collect f l
  collect_none [] x e = rw e
  collect_none (y ∷ l) x e = go (f y) (collect_none l x e)
    where
      go : (o : Option B) → collect f (l ++ (x ∷ [])) ≡ collect f l → ◌≡◌ {A = List B} (elim o [ none ↦ collect f (l ++ (x ∷ [])) | some z ↦ z ∷ collect f (l ++ (x ∷ [])) ]) (elim o [ none ↦ collect f l | some z ↦ z ∷ collect f l ])
      go none q = q
      go (some z) q = ap (λ (k : List B). z ∷ k) q

  pub collect_some : (l : List A) (x : A) (w : B) → f x ≡ some w → collect f (l ++ (x ∷ [])) ≡ collect f l ++ (w ∷ [])
  collect_some [] x w e = rw e
  collect_some (y ∷ l) x w e = go (f y) (collect_some l x w e)
    where
      go : (o : Option B) → collect f (l ++ (x ∷ [])) ≡ collect f l ++ (w ∷ []) → ◌≡◌ {A = List B} (elim o [ none ↦ collect f (l ++ (x ∷ [])) | some z ↦ z ∷ collect f (l ++ (x ∷ [])) ]) (elim o [ none ↦ collect f l | some z ↦ z ∷ collect f l ] ++ (w ∷ []))
      go none q = q
      go (some z) q = ap (λ (k : List B). z ∷ k) q

-- ---- the last element

pub last_cancels : {A : Type 0} (l : List A) (x y : A) → l ++ (x ∷ []) ≡ l ++ (y ∷ []) → x ≡ y
last_cancels [] x y e = cc
last_cancels (z ∷ l) x y e = last_cancels l x y (cc)

pub no_longer : {A : Type 0} (l : List A) (x : A) → l ≡ l ++ (x ∷ []) → ⊥
no_longer l x e = omega (arith, ap length e, length-append l (x ∷ []))
