-- The least refusal so far, in the numbers of a state.
use Prim.Native.Nat.{ℕ}
use native.Mathlib.Nat.{le_refl}
use mathlib.Core.Path.{◌≡◌, refl, sym, ap, ◌∙◌}
use mathlib.Core.Bool.{Bool, true, false, cond, ◌&&◌, ◌||◌}
use mathlib.Core.List.{List, [], ◌∷◌}
use mathlib.Core.Option.{Option, none, some}
use borrow.Author.Tests.{eqb-true, eqb-false, eq-eqb, ne_eqb, le-ltb}
use borrow.Table.Steps.{cases}
use lib.Dec.{eqb, ltb}
use Rattle.json_rule.specs.Tree.{Defect}
use Rattle.json_rule.specs.Defects.{is_sooner, unless}
use Rattle.json_judge.specs.Refusal.{sooner, refusing as withDefects}
use Rattle.json_members.specs.Refusing.{sooner_in, refusing}
use Rattle.json_stands.proofs.Laid.{Held, State, laid, changed}

-- a number and a place stand for a refusal, or for none
pub data RefusalIs : ℕ → ℕ → Option Defect → Type 0 where
  accepted : RefusalIs 0 0 none
  refused : {n p : ℕ} → (n ≡ 0 → ⊥) → RefusalIs n p (some (record { place = p; number = n }))

-- a refusal comes before another
abbrev is_before : ℕ → ℕ → ℕ → ℕ → Bool
is_before n p k q = cond (eqb n 0) true (cond (eqb p q) (ltb k n) (ltb q p))

before_is : (n p k q : ℕ) → (n ≡ 0 → ⊥) → is_before n p k q ≡ is_sooner (record { place = q; number = k }) (record { place = p; number = n })
before_is n p k q h =
    rw (ne_eqb n 0 h)
    (cases (eqb p q)
    (λ t. let e : p ≡ q = eqb-true p q t in rw (t, eq-eqb q p (sym e), le-ltb q p (rw e (le_refl q))))
    (λ f. rw (f, ne_eqb q p (λ e. eqb-false p q f (sym e))) (or_nothing_lem (ltb q p))))
  where
    or_nothing_lem : (b : Bool) → b ≡ (b || false)
    or_nothing_lem true = refl
    or_nothing_lem false = refl

-- with one more
sooner_is : {n p : ℕ} {r : Option Defect} → RefusalIs n p r → (k q : ℕ) → (k ≡ 0 → ⊥)
    → RefusalIs (cond (is_before n p k q) k n) (cond (is_before n p k q) q p) (sooner r (some (record { place = q; number = k })))
sooner_is accepted k q h = refused h
sooner_is (refused {n} {p} g) k q h =
    cases (is_before n p k q)
    (λ t. rw (t, sym (before_is n p k q g) ∙ t) (refused h))
    (λ f. rw (f, sym (before_is n p k q g) ∙ f) (refused g))

-- the slots are those of a state with another refusal
pub record Refused (s : State) (slots : List ℕ) (r : Option Defect) : Type 0 where
  pub number : ℕ
  pub place : ℕ
  pub laid_so : slots ≡ laid (changed number place s.held s)
  pub is : RefusalIs number place r

module _ (s : State) {r : Option Defect} (is : RefusalIs s.number s.place r) where
  pub not_refused : Refused s (laid s) r
  not_refused = record { number = s.number; place = s.place; laid_so = refl; is = is }

  pub refuse_laid : (k q : ℕ) → (k ≡ 0 → ⊥) → Refused s (refusing k q (laid s)) (sooner r (some (record { place = q; number = k })))
  unfolding refusing sooner_in
  refuse_laid k q h =
      record {
        number = cond (is_before s.number s.place k q) k s.number;
        place = cond (is_before s.number s.place k q) q s.place;
        laid_so = cases (is_before s.number s.place k q) (λ t. rw t) (λ f. rw f);
        is = sooner_is is k q h;
      }

  -- where a test fails
  pub unless_laid : (holds : Bool) (k q : ℕ) → (k ≡ 0 → ⊥) → Refused s (cond holds (laid s) (refusing k q (laid s))) (withDefects (unless holds q k) r)
  unless_laid true k q h = not_refused
  unless_laid false k q h = refuse_laid k q h
