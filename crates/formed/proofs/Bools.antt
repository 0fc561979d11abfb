-- Tests joined in another order.
use mathlib.Core.Path.{◌≡◌, refl, sym, ap, ◌∙◌}
use mathlib.Core.Bool.{Bool, true, false, ◌&&◌, and_assoc, and-false}
use mathlib.Core.List.{List, [], ◌∷◌, map}
use Rattle.rules.specs.Words.{all}
use Rattle.rules.proofs.Checks.{and_all}

-- pairs of tests, taken apart into the first of each and the second of each
pub interchange : (a b c d : Bool) → ((a && b) && (c && d)) ≡ ((a && c) && (b && d))
interchange true true c d = refl
interchange true false c d = sym (and-false c)
interchange false b c d = refl

-- of every element both tests
pub all_both : {A : Type 0} (p q : A → Bool) (l : List A) → all (λ (x : A). p x && q x) l ≡ (all p l && all q l)
all_both p q [] = refl
all_both p q (x ∷ l) = ap (λ (z : Bool). (p x && q x) && z) (all_both p q l) ∙ interchange (p x) (q x) (all p l) (all q l)

-- a last test that is made where those before it passed
pub asked : (a b c : Bool) {ok r : Bool} → ok ≡ (a && b) → ok ≡ true → r ≡ c → r ≡ (a && (b && c))
asked a b c e t h = h ∙ sym (rw (← and_assoc a b c, ← e, t))

pub not_asked : (a b c : Bool) {ok : Bool} → ok ≡ (a && b) → ok ≡ false → false ≡ (a && (b && c))
not_asked a b c e f = sym (rw (← and_assoc a b c, ← e, f))

-- any number of pairs of tests, taken apart
pub apart : (a b : Bool) (l : List (Bool × Bool)) → and_all (a && b) (map (λ (x : Bool × Bool). x.0 && x.1) l) ≡ (and_all a (map (λ (x : Bool × Bool). x.0) l) && and_all b (map (λ (x : Bool × Bool). x.1) l))
apart a b [] = refl
apart a b (x ∷ l) = ap (λ (z : Bool). and_all z (map (λ (y : Bool × Bool). y.0 && y.1) l)) (interchange a b x.0 x.1) ∙ apart (a && x.0) (b && x.1) l
