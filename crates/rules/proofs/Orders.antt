-- The orders by which tables are kept: whole numbers, and names by bytes with a prefix first, are strict orders; their equality tests tell equal ones.
use Prim.Native.Nat.{ℕ, ◌≤◌, ◌<◌}
use native.Mathlib.Nat.{le_refl}
use native.Mathlib.Omega.{arith}
use mathlib.Core.Path.{◌≡◌, refl, sym, ap, ap₂}
use mathlib.Core.Bool.{Bool, true, false, ◌&&◌, false≢true, true≢false, and-false}
use mathlib.Core.List.{List, [], ◌∷◌}
use lib.Dec.{eqb, ltb, eqb-suc-zero}
use lib.IntN.{ℤ, pos, negsuc, suc_ℤ}
use lib.Signed.{lt_z, non_neg}
use borrow.Author.Tests.{ltb-true, ltb-false, lt-ltb, le-ltb, eqb-true, eq-eqb}
use Rattle.rules.specs.Words.{eq_z, highest, same_bytes}
use Rattle.rules.specs.Names.{name_below}
use Rattle.rules.proofs.Checks.{by_test, both, and_left, and_right, or_left, or_right, by_either, neither}

-- a strict order in which two keys are equal if neither is below the other
pub record Ordered {K : Type 0} (lt : K → K → Bool) : Type 0 where
  pub irreflexive : (a : K) → lt a a ≡ false
  pub transitive : (a b c : K) → lt a b ≡ true → lt b c ≡ true → lt a c ≡ true
  pub connected : (a b : K) → lt a b ≡ false → lt b a ≡ false → a ≡ b

-- a test that tells equal ones
pub record Tells {K : Type 0} (same : K → K → Bool) : Type 0 where
  pub equal : (a b : K) → same a b ≡ true → a ≡ b
  pub itself : (a : K) → same a a ≡ true

-- ---- whole numbers

lt_z_irreflexive : (a : ℤ) → lt_z a a ≡ false
lt_z_irreflexive (pos a) = le-ltb a a (le_refl a)
lt_z_irreflexive (negsuc a) = le-ltb a a (le_refl a)

lt_z_transitive : (a b c : ℤ) → lt_z a b ≡ true → lt_z b c ≡ true → lt_z a c ≡ true
lt_z_transitive (pos a) (pos b) (pos c) h k = lt-ltb a c (omega (arith, ltb-true a b h, ltb-true b c k))
lt_z_transitive (pos a) (pos b) (negsuc c) h k = k
lt_z_transitive (pos a) (negsuc b) c h k = absurd (false≢true h)
lt_z_transitive (negsuc a) (pos b) (pos c) h k = refl
lt_z_transitive (negsuc a) (pos b) (negsuc c) h k = absurd (false≢true k)
lt_z_transitive (negsuc a) (negsuc b) (pos c) h k = refl
lt_z_transitive (negsuc a) (negsuc b) (negsuc c) h k = lt-ltb c a (omega (arith, ltb-true b a h, ltb-true c b k))

lt_z_connected : (a b : ℤ) → lt_z a b ≡ false → lt_z b a ≡ false → a ≡ b
lt_z_connected (pos a) (pos b) h k = ap pos (omega (arith, ltb-false a b h, ltb-false b a k))
lt_z_connected (pos a) (negsuc b) h k = absurd (true≢false k)
lt_z_connected (negsuc a) (pos b) h k = absurd (true≢false h)
lt_z_connected (negsuc a) (negsuc b) h k = ap negsuc (omega (arith, ltb-false b a h, ltb-false a b k))

pub numbers_ordered : Ordered lt_z
numbers_ordered = record { irreflexive = lt_z_irreflexive; transitive = lt_z_transitive; connected = lt_z_connected }

pub eq_z_equal : (a b : ℤ) → eq_z a b ≡ true → a ≡ b
eq_z_equal (pos a) (pos b) h = ap pos (eqb-true a b h)
eq_z_equal (pos a) (negsuc b) h = absurd (false≢true h)
eq_z_equal (negsuc a) (pos b) h = absurd (false≢true h)
eq_z_equal (negsuc a) (negsuc b) h = ap negsuc (eqb-true a b h)

eq_z_same : (a : ℤ) → eq_z a a ≡ true
eq_z_same (pos a) = eq-eqb a a refl
eq_z_same (negsuc a) = eq-eqb a a refl

pub numbers_told : Tells eq_z
numbers_told = record { equal = eq_z_equal; itself = eq_z_same }

-- ---- the highest of a list

not_below_non_neg : (a b : ℤ) → lt_z a b ≡ false → non_neg b ≡ true → non_neg a ≡ true
not_below_non_neg (pos a) b h k = refl
not_below_non_neg (negsuc a) (pos b) h k = absurd (true≢false h)
not_below_non_neg (negsuc a) (negsuc b) h k = k

pub highest_non_neg : (l : List ℤ) → non_neg (highest l) ≡ true
highest_non_neg [] = refl
highest_non_neg (x ∷ l) =
    let ih : non_neg (highest l) ≡ true = highest_non_neg l in
    by_test (λ (z : ℤ). non_neg z ≡ true) (lt_z x (highest l)) (λ e. ih) (λ e. not_below_non_neg x (highest l) e ih)

pub suc_non_neg : (z : ℤ) → non_neg z ≡ true → non_neg (suc_ℤ z) ≡ true
suc_non_neg (pos n) h = refl
suc_non_neg (negsuc n) h = absurd (false≢true h)

-- the number after one that is not below 0 is not 0
pub suc_not_zero : (z : ℤ) → non_neg z ≡ true → eq_z (suc_ℤ z) (pos 0) ≡ false
suc_not_zero (pos n) h = eqb-suc-zero n
suc_not_zero (negsuc n) h = absurd (false≢true h)

-- ---- names

-- one name is below another by its first byte, or by the rest
by_below : {P : Type 0} (a b : ℕ) (xs ys : List ℕ) → (a < b → P) → (a ≡ b → name_below xs ys ≡ true → P) → name_below (a ∷ xs) (b ∷ ys) ≡ true → P
by_below a b xs ys f g =
    by_either (ltb a b) (eqb a b && name_below xs ys)
    (λ e. f (ltb-true a b e))
    (λ e. g (eqb-true a b (and_left (eqb a b) (name_below xs ys) e)) (and_right (eqb a b) (name_below xs ys) e))

below_first : (a b : ℕ) (xs ys : List ℕ) → a < b → name_below (a ∷ xs) (b ∷ ys) ≡ true
below_first a b xs ys h = or_left (eqb a b && name_below xs ys) (lt-ltb a b h)

below_rest : (a b : ℕ) (xs ys : List ℕ) → a ≡ b → name_below xs ys ≡ true → name_below (a ∷ xs) (b ∷ ys) ≡ true
below_rest a b xs ys e h = or_right (ltb a b) (both (eq-eqb a b e) h)

name_below_irreflexive : (a : List ℕ) → name_below a a ≡ false
name_below_irreflexive [] = refl
name_below_irreflexive (a ∷ xs) = rw (le-ltb a a (le_refl a), name_below_irreflexive xs) (and-false (eqb a a))

name_below_transitive : (a b c : List ℕ) → name_below a b ≡ true → name_below b c ≡ true → name_below a c ≡ true
name_below_transitive [] [] c h k = absurd (false≢true h)
name_below_transitive [] (b ∷ ys) [] h k = absurd (false≢true k)
name_below_transitive [] (b ∷ ys) (c ∷ zs) h k = refl
name_below_transitive (a ∷ xs) [] c h k = absurd (false≢true h)
name_below_transitive (a ∷ xs) (b ∷ ys) [] h k = absurd (false≢true k)
name_below_transitive (a ∷ xs) (b ∷ ys) (c ∷ zs) h k =
    by_below a b xs ys
    (λ p. by_below b c ys zs (λ q. below_first a c xs zs (omega arith)) (λ q v. below_first a c xs zs (omega arith)) k)
    (λ p u. by_below b c ys zs (λ q. below_first a c xs zs (omega arith)) (λ q v. below_rest a c xs zs (omega arith) (name_below_transitive xs ys zs u v)) k)
    h

name_below_connected : (a b : List ℕ) → name_below a b ≡ false → name_below b a ≡ false → a ≡ b
name_below_connected [] [] h k = refl
name_below_connected [] (b ∷ ys) h k = absurd (true≢false h)
name_below_connected (a ∷ xs) [] h k = absurd (true≢false k)
name_below_connected (a ∷ xs) (b ∷ ys) h k =
    let p : (ltb a b ≡ false) × ((eqb a b && name_below xs ys) ≡ false) = neither (ltb a b) (eqb a b && name_below xs ys) h in
    let q : (ltb b a ≡ false) × ((eqb b a && name_below ys xs) ≡ false) = neither (ltb b a) (eqb b a && name_below ys xs) k in
    let e : a ≡ b = omega (arith, ltb-false a b p.0, ltb-false b a q.0) in
    ap₂ ◌∷◌ e (name_below_connected xs ys (rw (eq-eqb a b e) at p.1) (rw (eq-eqb b a (sym e)) at q.1))

pub names_ordered : Ordered name_below
names_ordered = record { irreflexive = name_below_irreflexive; transitive = name_below_transitive; connected = name_below_connected }

same_bytes_equal : (a b : List ℕ) → same_bytes a b ≡ true → a ≡ b
same_bytes_equal [] [] h = refl
same_bytes_equal [] (b ∷ ys) h = absurd (false≢true h)
same_bytes_equal (a ∷ xs) [] h = absurd (false≢true h)
same_bytes_equal (a ∷ xs) (b ∷ ys) h = ap₂ ◌∷◌ (eqb-true a b (and_left (eqb a b) (same_bytes xs ys) h)) (same_bytes_equal xs ys (and_right (eqb a b) (same_bytes xs ys) h))

same_bytes_same : (a : List ℕ) → same_bytes a a ≡ true
same_bytes_same [] = refl
same_bytes_same (a ∷ xs) = both (eq-eqb a a refl) (same_bytes_same xs)

pub names_told_lem : Tells same_bytes
names_told_lem = record { equal = same_bytes_equal; itself = same_bytes_same }
