-- Where the first element stands for which a test holds; the length where it holds for none.
use Rattle.std.specs.Prelude.{ℕ, suc, Bool, cond, List, [], ◌∷◌}

abbrev pub index_of : {A : Type 0} → (A → Bool) → List A → ℕ
index_of p [] = 0
index_of p (x ∷ xs) = cond (p x) 0 (suc (index_of p xs))
