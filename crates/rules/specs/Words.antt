-- The words that the rules are written in: tests, lists, whole numbers, what may be absent. Nothing here is document 01's.
use Rattle.std.specs.Prelude.{ℕ, ◌+◌, Bool, true, false, cond, not, ◌&&◌, ◌||◌, List, [], ◌∷◌, eqb, ℤ, pos, negsuc}
use Rattle.std.proofs.Math.Option.{Option, none, some}
use Rattle.std.specs.Int.Signed.{lt_z}

-- ---- whole numbers

-- the two numbers are equal
abbrev pub eq_z : ℤ → ℤ → Bool
eq_z (pos a) (pos b) = eqb a b
eq_z (pos a) (negsuc b) = false
eq_z (negsuc a) (pos b) = false
eq_z (negsuc a) (negsuc b) = eqb a b

-- the larger of the two
abbrev pub larger : ℤ → ℤ → ℤ
larger a b = cond (lt_z a b) b a

-- ---- what may be absent

module _ {A : Type 0} where
  abbrev pub is_some : Option A → Bool
  is_some none = false
  is_some (some a) = true

  abbrev pub or_else : Option A → A → A
  or_else none b = b
  or_else (some a) b = a

  -- the test holds of it, where it is there
  abbrev pub if_some : (A → Bool) → Option A → Bool
  if_some p none = true
  if_some p (some a) = p a

  -- it is there, and the test holds of it
  abbrev pub some_with : (A → Bool) → Option A → Bool
  some_with p none = false
  some_with p (some a) = p a

  -- both absent, or both there and the same
  abbrev pub same_option : (A → A → Bool) → Option A → Option A → Bool
  same_option same none none = true
  same_option same none (some b) = false
  same_option same (some a) none = false
  same_option same (some a) (some b) = same a b

-- ---- lists

module _ {A : Type 0} where
  abbrev pub all : (A → Bool) → List A → Bool
  all p [] = true
  all p (x ∷ xs) = p x && all p xs

  abbrev pub any : (A → Bool) → List A → Bool
  any p [] = false
  any p (x ∷ xs) = p x || any p xs

  -- those for which the test holds, in their order
  abbrev pub keep : (A → Bool) → List A → List A
  keep p [] = []
  keep p (x ∷ xs) = cond (p x) (x ∷ keep p xs) (keep p xs)

  -- the first for which the test holds
  abbrev pub first : (A → Bool) → List A → Option A
  first p [] = none
  first p (x ∷ xs) = cond (p x) (some x) (first p xs)

  abbrev pub last_of : List A → Option A
  last_of [] = none
  last_of (x ∷ xs) = some (or_else (last_of xs) x)

  -- what stands after the last for which the test holds; all, where it holds for none
  abbrev pub after_last : (A → Bool) → List A → List A
  after_last p [] = []
  after_last p (x ∷ xs) = cond (any p xs) (after_last p xs) (cond (p x) xs (x ∷ xs))

  -- no elements
  abbrev pub is_empty : List A → Bool
  is_empty [] = true
  is_empty (x ∷ xs) = false

  -- as many elements, the same one by one
  abbrev pub same_list : (A → A → Bool) → List A → List A → Bool
  same_list same [] [] = true
  same_list same [] (y ∷ ys) = false
  same_list same (x ∷ xs) [] = false
  same_list same (x ∷ xs) (y ∷ ys) = same x y && same_list same xs ys

  -- the test holds of each two, the earlier of them given first
  abbrev pub each_pair : (A → A → Bool) → List A → Bool
  each_pair r [] = true
  each_pair r (x ∷ xs) = all (r x) xs && each_pair r xs

  -- no two are the same
  abbrev pub unequal_by : (A → A → Bool) → List A → Bool
  unequal_by same [] = true
  unequal_by same (x ∷ xs) = not (any (same x) xs) && unequal_by same xs

  -- the sum of what each counts
  abbrev pub total : (A → ℕ) → List A → ℕ
  total f [] = 0
  total f (x ∷ xs) = f x + total f xs

-- what each gives, of those that give something
abbrev pub collect : {A B : Type 0} → (A → Option B) → List A → List B
collect f [] = []
collect f (x ∷ xs) = elim (f x) [ none ↦ collect f xs | some y ↦ y ∷ collect f xs ]

-- what each of a list makes with the one that stands at its place in another
abbrev pub pair_up : {A B C : Type 0} → (A → B → C) → List A → List B → List C
pair_up f [] ys = []
pair_up f (x ∷ xs) [] = []
pair_up f (x ∷ xs) (y ∷ ys) = f x y ∷ pair_up f xs ys

-- the same bytes
abbrev pub same_bytes : List ℕ → List ℕ → Bool
same_bytes = same_list eqb

-- the number stands in the list
abbrev pub is_in : List ℤ → ℤ → Bool
is_in l x = any (eq_z x) l

-- no number stands twice
abbrev pub unequal : List ℤ → Bool
unequal = unequal_by eq_z

-- the highest number of a list of which none is below 0; 0 where there is none
abbrev pub highest : List ℤ → ℤ
highest [] = pos 0
highest (x ∷ xs) = larger x (highest xs)

-- the smaller of two numbers where both are there, else the one that is
abbrev pub lesser : Option ℤ → Option ℤ → Option ℤ
lesser none b = b
lesser (some a) none = some a
lesser (some a) (some b) = some (cond (lt_z b a) b a)

-- the smallest number of a list, where it has one
abbrev pub smallest : List ℤ → Option ℤ
smallest [] = none
smallest (x ∷ xs) = lesser (some x) (smallest xs)

-- ---- tables by key: below says which of two elements comes first, so neither is below the other exactly if their keys are equal

module _ {A : Type 0} (below : A → A → Bool) where
  -- each element is below all that follow it, so no key stands twice
  abbrev pub ascending : List A → Bool
  ascending l = each_pair below l

  -- the element in its place; it takes the place of one with its key
  abbrev pub put : A → List A → List A
  put a [] = a ∷ []
  put a (x ∷ xs) = cond (below a x) (a ∷ x ∷ xs) (cond (below x a) (x ∷ put a xs) (a ∷ xs))

-- ---- checks in order

-- a check: the test for its failure, and its number
abbrev pub Check : Type 0
Check = Bool × ℕ

-- the number of the first check that fails; 0 where none does
abbrev pub first_of : List Check → ℕ
first_of [] = 0
first_of (x ∷ xs) = cond x.0 x.1 (first_of xs)
