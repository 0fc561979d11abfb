-- A `match` on a number: what holds in an arm, and where the number is none of the keys.
use Prim.Native.Nat.{ℕ, zero, suc, ◌≤◌, ◌<◌}
use mathlib.Core.Path.{◌≡◌, refl, sym, ap, ◌∙◌}
use mathlib.Core.Bool.{Bool, true, false, not, ◌&&◌, ◌||◌, true≢false}
use mathlib.Core.List.{List, [], ◌∷◌}
use mathlib.Core.Logic.{inl, inr}
use native.Mathlib.Omega.{arith}
use borrow.Author.Tests.{eqb-true, eqb-false, ne_eqb, leb-true, leb-false, not-true}
use borrow.Table.Steps.{cases}
use lib.Dec.{eqb, leb}
use types.Run.{OneOf}
use Rattle.rules.specs.Words.{all, any}
use Rattle.rules.proofs.Checks.{and_left, and_right}
use Rattle.json_members.specs.Spots.{beside}

-- ---- what holds of each of some numbers

pub data Every (P : ℕ → Type 0) : List ℕ → Type 0 where
  done : Every P []
  ◌&◌ : {k : ℕ} {ks : List ℕ} → P k → Every P ks → Every P (k ∷ ks)

infixr 20 ◌&◌
-- ---- an arm of several keys

pub at_keys : {A : Type 0} (f : ℕ → A) (y : A) (ks : List ℕ) (x : ℕ) → OneOf ks x → Every (λ k. f k ≡ y) ks → y ≡ f x
at_keys f y [] x h done = absurd h
at_keys f y (k ∷ []) x h (e & done) = sym (ap f h ∙ e)
at_keys f y (k ∷ l ∷ ks) x (inl h) (e & es) = sym (ap f h ∙ e)
at_keys f y (k ∷ l ∷ ks) x (inr h) (e & es) = at_keys f y (l ∷ ks) x h es

-- ---- where no key is the number

-- none of the keys of the arms, beside what is known before
abbrev pub NoArm : Type 0 → List (List ℕ) → ℕ → Type 0
NoArm N [] x = N
NoArm N (ks ∷ arms) x = NoArm (N × (OneOf ks x → ⊥)) arms x

abbrev pub is_key : List (List ℕ) → ℕ → Bool
is_key arms x = any (λ ks. any (eqb x) ks) arms

no_key : (ks : List ℕ) (x : ℕ) → (OneOf ks x → ⊥) → any (eqb x) ks ≡ false
no_key [] x n = refl
no_key (k ∷ []) x n = rw (ne_eqb x k n)
no_key (k ∷ l ∷ ks) x n = rw (ne_eqb x k (λ e. n (inl e))) (no_key (l ∷ ks) x (λ e. n (inr e)))

record Missed (N : Type 0) (arms : List (List ℕ)) (x : ℕ) : Type 0 where
  known : N
  missed : is_key arms x ≡ false

missed_all : {N : Type 0} (arms : List (List ℕ)) (x : ℕ) → NoArm N arms x → Missed N arms x
missed_all [] x n = record { known = n; missed = refl }
missed_all (ks ∷ arms) x n = let m = missed_all arms x n in record { known = m.known.0; missed = rw (no_key ks x m.known.1) m.missed }

pub no_arm : (arms : List (List ℕ)) (x : ℕ) → NoArm Unit arms x → is_key arms x ≡ false
no_arm arms x n = (missed_all arms x n).missed

-- then a table whose numbers are keys has nothing beside it
pub beside_other : {A : Type 0} (other : A) (ps : List (ℕ × A)) (arms : List (List ℕ)) (x : ℕ) → all (λ p. is_key arms p.0) ps ≡ true → is_key arms x ≡ false → beside other ps x ≡ other
beside_other other [] arms x a n = refl
beside_other other (p ∷ ps) arms x a n =
    rw (ne_eqb x p.0 (λ e. true≢false (sym (and_left (is_key arms p.0) _ a) ∙ sym (ap (is_key arms) e) ∙ n)))
    (beside_other other ps arms x (and_right (is_key arms p.0) _ a) n)

-- ---- tests of all numbers below a bound

abbrev pub all_below : ℕ → (ℕ → Bool) → Bool
all_below zero p = true
all_below (suc n) p = p n && all_below n p

pub all_below_lem : (n : ℕ) (p : ℕ → Bool) → all_below n p ≡ true → (x : ℕ) → x < n → p x ≡ true
all_below_lem zero p a x h = absurd (omega arith)
all_below_lem (suc n) p a x h =
    cases (eqb x n)
    (λ e. ap p (eqb-true x n e) ∙ and_left (p n) _ a)
    (λ e. all_below_lem n p (and_right (p n) _ a) x (omega (arith, eqb-false x n e)))

-- a test that holds of keys alone below a bound, and of nothing past it
pub only_keys : (f : ℕ → Bool) (n : ℕ) (arms : List (List ℕ)) → all_below n (λ k. is_key arms k || not (f k)) ≡ true → ((x : ℕ) → n ≤ x → f x ≡ false) → (x : ℕ) → is_key arms x ≡ false → f x ≡ false
only_keys f n arms a past x m =
    cases (leb n x) (λ t. past x (leb-true n x t))
    (λ t. not-true (f x) (rw m at (all_below_lem n (λ k. is_key arms k || not (f k)) a x (leb-false n x t))))

-- ---- what holds at each key, and where none is the number

pub by_keys : (P : ℕ → Type 0) (ks : List ℕ) (x : ℕ) → Every P ks → (any (eqb x) ks ≡ false → P x) → P x
by_keys P [] x done other = other refl
by_keys P (k ∷ ks) x (e & es) other = cases (eqb x k) (λ t. rw (eqb-true x k t) e) (λ f. by_keys P ks x es (λ n. other (rw f n)))
