-- Tests and checks: what a test that passed says of its parts, and what it says that no check of a list failed.
use Prim.Native.Nat.{ℕ, ◌<◌}
use native.Mathlib.Omega.{arith}
use mathlib.Core.Path.{◌≡◌, refl}
use mathlib.Core.Bool.{Bool, true, false, cond, ◌&&◌, ◌||◌, false≢true, true≢false}
use mathlib.Core.List.{List, [], ◌∷◌, ◌++◌}
use mathlib.Core.Option.{Option, none, some}
use lib.Dec.{ltb, leb}
use lib.ListN.{length}
use borrow.Author.Tests.{ltb-true}
use Rattle.rules.specs.Words.{is_some, all, unequal_by, same_bytes, unequal, first_of, Check}
use Rattle.rules.specs.Capacities.{schema_field_room}
use Rattle.rules.specs.Register.{Schema, PartitionField, PartitionSpec}
use Rattle.rules.specs.Partitions.{is_redundant, partition_names, partition_ids}
use Rattle.rules.specs.WellFormed.{field_ids, field_names, schema_field_formed, offered_spec_formed, spec_formed}

-- ---- tests

-- what holds of both choices, each under its answer, holds of the choice
pub by_test : {A : Type 0} (P : A → Type 0) (b : Bool) {x y : A} → (b ≡ true → P x) → (b ≡ false → P y) → P (cond b x y)
by_test P true f g = f refl
by_test P false f g = g refl

-- the same of what may be absent
pub by_option : {A B : Type 0} (P : B → Type 0) (o : Option A) {x : B} {f : A → B} → (o ≡ none → P x) → ((a : A) → o ≡ some a → P (f a)) → P (elim o [ none ↦ x | some a ↦ f a ])
by_option P none g h = g refl
by_option P (some a) g h = h a refl

-- an answer that is not the second choice is the first, and the test holds
pub only_then : {A : Type 0} (b : Bool) {x y z : A} → (y ≡ z → ⊥) → cond b x y ≡ z → (b ≡ true) × (x ≡ z)
only_then true n e = (refl, e)
only_then false n e = absurd (n e)

pub both : {a b : Bool} → a ≡ true → b ≡ true → (a && b) ≡ true
both p q = rw (p, q)

pub and_left : (a b : Bool) → (a && b) ≡ true → a ≡ true
and_left true b e = refl
and_left false b e = absurd (false≢true e)

pub and_right : (a b : Bool) → (a && b) ≡ true → b ≡ true
and_right true b e = e
and_right false b e = absurd (false≢true e)

pub or_left : (b : Bool) {a : Bool} → a ≡ true → (a || b) ≡ true
or_left b p = rw p

pub or_right : (a : Bool) {b : Bool} → b ≡ true → (a || b) ≡ true
or_right true q = refl
or_right false q = q

-- what follows from each of two tests follows where one of them holds
pub by_either : {P : Type 0} (a b : Bool) → (a ≡ true → P) → (b ≡ true → P) → (a || b) ≡ true → P
by_either true b f g e = f refl
by_either false b f g e = g e

pub neither : (a b : Bool) → (a || b) ≡ false → (a ≡ false) × (b ≡ false)
neither true b e = absurd (true≢false e)
neither false b e = (refl, e)

-- ---- many tests at once

-- a test and more, as `a && b && c` brackets them
abbrev pub and_all : Bool → List Bool → Bool
and_all a [] = a
and_all a (b ∷ bs) = and_all (a && b) bs

-- each of them holds
abbrev pub Hold : List Bool → Type 0
Hold [] = Unit {0}
Hold (b ∷ bs) = (b ≡ true) × Hold bs

pub parts : (a : Bool) (bs : List Bool) → and_all a bs ≡ true → Hold (a ∷ bs)
parts a [] e = (e, tt)
parts a (b ∷ bs) e = let k : Hold ((a && b) ∷ bs) = parts (a && b) bs e in (and_left a b k.0, (and_right a b k.0, k.1))

pub whole : (a : Bool) (bs : List Bool) → Hold (a ∷ bs) → and_all a bs ≡ true
whole a [] k = k.0
whole a (b ∷ bs) k = whole (a && b) bs (both k.0 k.1.0, k.1.1)

-- what is asked of a schema beside its id
abbrev pub schema_tests : Schema → List Bool
schema_tests s = leb (length s.fields) schema_field_room ∷ all schema_field_formed s.fields ∷ unequal (field_ids s) ∷ unequal_by same_bytes (field_names s) ∷ []

-- what is asked of a spec that is held, beside what is asked of every one
abbrev pub spec_tests : PartitionSpec → List Bool
spec_tests s = all (λ (f : PartitionField). is_some f.id) s.fields ∷ unequal_by same_bytes (partition_names s) ∷ unequal (partition_ids s) ∷ unequal_by is_redundant s.fields ∷ []

pub offered_of : (s : PartitionSpec) → spec_formed s ≡ true → offered_spec_formed s ≡ true
offered_of s e = (parts (offered_spec_formed s) (spec_tests s) e).0

-- ---- checks in order

-- no number is 0, so that 0 says that none failed
abbrev pub numbered : List Check → Bool
numbered cs = all (λ (c : Check). ltb 0 c.1) cs

-- none of them failed
abbrev pub Passed : List Check → Type 0
Passed [] = Unit {0}
Passed (c ∷ cs) = (c.0 ≡ false) × Passed cs

failed : {A : Type 0} (n : ℕ) → ltb 0 n ≡ true → n ≡ 0 → A
failed n p e = absurd (let l : 0 < n = ltb-true 0 n p in omega arith)

pub passed : (cs : List Check) → numbered cs ≡ true → first_of cs ≡ 0 → Passed cs
passed [] p e = tt
passed (c ∷ cs) p e = go c.0 refl (passed cs (and_right (ltb 0 c.1) (numbered cs) p)) e
  where
    go : (b : Bool) → c.0 ≡ b → (first_of cs ≡ 0 → Passed cs) → cond b c.1 (first_of cs) ≡ 0 → Passed (c ∷ cs)
    go true q ih e = failed c.1 (and_left (ltb 0 c.1) (numbered cs) p) e
    go false q ih e = (q, ih e)

-- checks that are made only where a test fails
pub passed_unless : (b : Bool) (cs : List Check) → numbered cs ≡ true → b ≡ false → first_of (cond b [] cs) ≡ 0 → Passed cs
passed_unless b cs p n e = passed cs p (rw n at e)

-- none of a list and of another after it
pub passed_before : (cs ds : List Check) → first_of (cs ++ ds) ≡ 0 → first_of cs ≡ 0
passed_before [] ds e = refl
passed_before (c ∷ cs) ds e = go c.0 (passed_before cs ds) e
  where
    go : (b : Bool) → (first_of (cs ++ ds) ≡ 0 → first_of cs ≡ 0) → cond b c.1 (first_of (cs ++ ds)) ≡ 0 → cond b c.1 (first_of cs) ≡ 0
    go true ih e = e
    go false ih e = ih e

pub passed_after : (cs ds : List Check) → numbered cs ≡ true → first_of (cs ++ ds) ≡ 0 → first_of ds ≡ 0
passed_after [] ds p e = e
passed_after (c ∷ cs) ds p e = go c.0 (passed_after cs ds (and_right (ltb 0 c.1) (numbered cs) p)) e
  where
    go : (b : Bool) → (first_of (cs ++ ds) ≡ 0 → first_of ds ≡ 0) → cond b c.1 (first_of (cs ++ ds)) ≡ 0 → first_of ds ≡ 0
    go true ih e = failed c.1 (and_left (ltb 0 c.1) (numbered cs) p) e
    go false ih e = ih e

-- the number of checks that fail, and of others after them
pub first_before : (cs ds : List Check) → (first_of cs ≡ 0 → ⊥) → first_of (cs ++ ds) ≡ first_of cs
first_before [] ds e = absurd (e refl)
first_before (c ∷ cs) ds e = go c.0 (first_before cs ds) e
  where
    go : (b : Bool) → ((first_of cs ≡ 0 → ⊥) → first_of (cs ++ ds) ≡ first_of cs) → (cond b c.1 (first_of cs) ≡ 0 → ⊥) → cond b c.1 (first_of (cs ++ ds)) ≡ cond b c.1 (first_of cs)
    go true ih e = refl
    go false ih e = ih e

pub first_after : (cs ds : List Check) → numbered cs ≡ true → first_of cs ≡ 0 → first_of (cs ++ ds) ≡ first_of ds
first_after [] ds p e = refl
first_after (c ∷ cs) ds p e = go c.0 (first_after cs ds (and_right (ltb 0 c.1) (numbered cs) p)) e
  where
    go : (b : Bool) → (first_of cs ≡ 0 → first_of (cs ++ ds) ≡ first_of ds) → cond b c.1 (first_of cs) ≡ 0 → cond b c.1 (first_of (cs ++ ds)) ≡ first_of ds
    go true ih e = absurd (let l : 0 < c.1 = ltb-true 0 c.1 (and_left (ltb 0 c.1) (numbered cs) p) in omega arith)
    go false ih e = ih e
