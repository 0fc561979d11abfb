-- The id that an added one gets: it fits, and where it is new none of the held ones has it, and all are below it.
use Prim.Native.Nat.{ℕ, zero, suc, ◌^◌, ◌-◌}
use mathlib.Core.Path.{◌≡◌, refl, sym, ap, subst, ◌∙◌}
use mathlib.Core.Bool.{Bool, true, false, not, true≢false}
use mathlib.Core.List.{List, [], ◌∷◌, ◌++◌, map}
use mathlib.Core.Option.{Option, none, some}
use native.Mathlib.Omega.{arith}
use borrow.Author.Tests.{eq-eqb, ne_eqb, ltb-true, ltb-false, lt-ltb, not-false}
use borrow.Table.Steps.{cases}
use lib.Dec.{ltb, leb-suc-suc}
use lib.IntN.{ℤ, pos, negsuc, suc_ℤ}
use lib.ListN.{length, get_or}
use lib.Signed.{lt_z}
use lib.Pow.{pow_pos}
use mir.Syntax.{Width}
use mir.Val.{SFits, hbits}
use Rattle.rules.specs.Words.{eq_z, larger, any, first, highest, put}
use Rattle.rules.specs.Layout.{given}
use Rattle.rules.proofs.Checks.{by_test}
use Rattle.rules.proofs.Orders.{numbers_ordered, numbers_told}
use Rattle.search.specs.Places.{index_of}
use Rattle.search.proofs.Successors.{next_fits}
use Rattle.builder.specs.Added.{FromIds, Numbered}

-- ---- it fits

module _ (w : Width) where
  abbrev top : ℤ
  top = pos (2 ^ hbits w - 1)

  top_fits : SFits w top
  top_fits = record { sfits = omega (arith, pow_pos (hbits w)) }

  -- what fits is not below the largest exactly if it is the largest
  at_largest : (z : ℤ) → SFits w z → not (lt_z z top) ≡ eq_z z top
  at_largest (pos n) f =
      let m = 2 ^ hbits w - 1 in
      cases (ltb n m)
      (λ t. rw t (sym (ne_eqb n m (λ q. omega (arith, ltb-true n m t)))))
      (λ e. rw e (sym (eq-eqb n m (omega (arith, ltb-false n m e, f.sfits)))))
  at_largest (negsuc n) f = refl

  pub larger_fits : (a b : ℤ) → SFits w a → SFits w b → SFits w (larger a b)
  larger_fits a b f g = by_test (λ (z : ℤ). SFits w z) (lt_z a b) (λ t. g) (λ e. f)

  pub highest_fits : (l : List ℤ) → ((k : ℕ) → SFits w (get_or l k (pos 0))) → SFits w (highest l)
  highest_fits [] f = record { sfits = pow_pos (hbits w) }
  highest_fits (x ∷ l) f = larger_fits x (highest l) (f 0) (highest_fits l (λ k. f (suc k)))

  module _ {ids : List ℤ} (fits : (k : ℕ) → SFits w (get_or ids k (pos 0))) {place : ℕ} {last : Option ℤ} {found exhausted is_last : Bool} {id : ℤ} (g : FromIds ids place top last found exhausted is_last id) where
    pub given_fits : SFits w id
    given_fits =
        let h = highest_fits ids fits in
        subst (SFits w) (sym g.gets)
        (by_test (λ (z : ℤ). SFits w z) (ltb place (length ids)) (λ t. fits place)
        (λ e. by_test (λ (z : ℤ). SFits w z) (lt_z (highest ids) top) (λ t. next_fits w (highest ids) top h top_fits t) (λ n. h)))

    -- where an equal one is found, or none is, of the ids and the id by other names
    pub numbered : {reused : Option ℤ} {ids' : List ℤ} {last' : Option ℤ} {id' : ℤ} → ids ≡ ids' → last ≡ last' → id' ≡ id → reused ≡ given (ltb place (length ids)) (get_or ids place (pos 0))
        → Numbered reused (eq_z (highest ids') top) (suc_ℤ (highest ids')) last' found exhausted is_last id'
    numbered e v q r =
        let o = at_largest (highest ids) (highest_fits ids fits) in
        rw (← e, ← v, q)
        (record {
          held = λ t. r ∙ rw (g.gets, sym g.stands ∙ t);
          again = g.again;
          new = λ f. r ∙ rw (sym g.stands ∙ f);
          over = λ f. g.over f ∙ o;
          gets = λ f n. let b : lt_z (highest ids) top ≡ true = not-false _ (o ∙ n) in g.gets ∙ rw (sym g.stands ∙ f, b);
        })

-- the id of the first that passes is that at its place among the ids
pub reused_at : {A : Type 0} (p : A → Bool) (key : A → ℤ) (l : List A) {i : ℕ} → i ≡ index_of p l → {ids : List ℤ} → ids ≡ map key l
    → ◌≡◌ {A = Option ℤ} (elim (first p l) [ none ↦ none | some x ↦ some (key x) ]) (given (ltb i (length ids)) (get_or ids i (pos 0)))
reused_at {A} p key l {i} q {ids} e = go l ∙ (λ j. given (ltb (sym q j) (length (sym e j))) (get_or (sym e j) (sym q j) (pos 0)))
  where
    go : (l : List A) → ◌≡◌ {A = Option ℤ} (elim (first p l) [ none ↦ none | some x ↦ some (key x) ]) (given (ltb (index_of p l) (length (map key l))) (get_or (map key l) (index_of p l) (pos 0)))
    go [] = refl
    go (x ∷ l) =
        cases (p x)
        (λ t. rw (t, lt-ltb 0 (suc (length (map key l))) (omega arith)))
        (λ f. rw (f, leb-suc-suc (suc (index_of p l)) (length (map key l))) (go l))

-- ---- none of the held ones has it

below_next : (z : ℤ) → lt_z z (suc_ℤ z) ≡ true
below_next (pos n) = lt-ltb n (suc n) (omega arith)
below_next (negsuc zero) = refl
below_next (negsuc (suc n)) = lt-ltb n (suc n) (omega arith)

-- what is below a number is below one that is not below that
below_above : (m a b : ℤ) → lt_z a b ≡ false → lt_z m b ≡ true → lt_z m a ≡ true
below_above m a b t g = cases (lt_z b a) (λ q. numbers_ordered.transitive m b a g q) (λ q. ap (lt_z m) (numbers_ordered.connected a b t q) ∙ g)

-- what is not below the larger of two is below neither
not_below_both : (m a b : ℤ) → lt_z m (larger a b) ≡ false → (lt_z m a ≡ false) × (lt_z m b ≡ false)
not_below_both m a b e =
    cases (lt_z a b)
    (λ t. let f : lt_z m b ≡ false = rw t at e in
    (cases (lt_z m a) (λ g. absurd (true≢false (sym (numbers_ordered.transitive m a b g t) ∙ f))) (λ g. g), f))
    (λ t. let f : lt_z m a ≡ false = rw t at e in
    (f, cases (lt_z m b) (λ g. absurd (true≢false (sym (below_above m a b t g) ∙ f))) (λ g. g)))

-- a number from which on none stands in the list has a successor that does not stand there
next_not_held : {A : Type 0} (key : A → ℤ) (m : ℤ) (l : List A) → lt_z m (highest (map key l)) ≡ false → any (λ (x : A). eq_z (key x) (suc_ℤ m)) l ≡ false
next_not_held key m [] e = refl
next_not_held key m (x ∷ l) e =
    let b : (lt_z m (key x) ≡ false) × (lt_z m (highest (map key l)) ≡ false) = not_below_both m (key x) (highest (map key l)) e in
    let n : eq_z (key x) (suc_ℤ m) ≡ false = cases (eq_z (key x) (suc_ℤ m)) (λ t. absurd (true≢false (sym (below_next m) ∙ ap (lt_z m) (sym (numbers_told.equal (key x) (suc_ℤ m) t)) ∙ b.0))) (λ f. f) in
    rw (n, next_not_held key m l b.1)

pub highest_not_held : {A : Type 0} (key : A → ℤ) (l : List A) → any (λ (x : A). eq_z (key x) (suc_ℤ (highest (map key l)))) l ≡ false
highest_not_held key l = next_not_held key (highest (map key l)) l (numbers_ordered.irreflexive (highest (map key l)))

-- ---- all are below it

not_turned : (a b : ℤ) → lt_z a b ≡ true → lt_z b a ≡ false
not_turned a b h = cases (lt_z b a) (λ t. absurd (true≢false (sym (numbers_ordered.transitive a b a h t) ∙ numbers_ordered.irreflexive a))) (λ f. f)

-- what is above the larger of two is above both
above_both : (a b z : ℤ) → lt_z (larger a b) z ≡ true → (lt_z a z ≡ true) × (lt_z b z ≡ true)
above_both a b z h =
    cases (lt_z a b)
    (λ t. let k : lt_z b z ≡ true = rw t at h in (numbers_ordered.transitive a b z t k, k))
    (λ f. let k : lt_z a z ≡ true = rw f at h in
    (k, cases (lt_z b a) (λ t. numbers_ordered.transitive b a z t k) (λ g. ap (λ (y : ℤ). lt_z y z) (sym (numbers_ordered.connected a b f g)) ∙ k)))

put_above : {A : Type 0} (key : A → ℤ) (a : A) (l : List A) → lt_z (highest (map key l)) (key a) ≡ true → put (λ (x y : A). lt_z (key x) (key y)) a l ≡ l ++ (a ∷ [])
put_above key a [] h = refl
put_above {A} key a (x ∷ l) h =
    let k = above_both (key x) (highest (map key l)) (key a) h in
    rw (not_turned (key x) (key a) k.0, k.0) (ap (λ (y : List A). x ∷ y) (put_above key a l k.1))

-- one under the next id goes to the end of the table
pub put_next : {A : Type 0} (key : A → ℤ) (a : A) (l : List A) → key a ≡ suc_ℤ (highest (map key l)) → put (λ (x y : A). lt_z (key x) (key y)) a l ≡ l ++ (a ∷ [])
put_next key a l e = put_above key a l (ap (lt_z (highest (map key l))) e ∙ below_next (highest (map key l)))
