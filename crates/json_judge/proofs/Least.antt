-- Laws of the sooner of two refusals: in whatever order defects are found, the least of them is the same.
use Prim.Native.Nat.{ℕ, ◌<◌}
use native.Mathlib.Nat.{le_refl}
use native.Mathlib.Omega.{arith}
use mathlib.Core.Path.{◌≡◌, refl, sym, ap, ap₂, ◌∙◌}
use mathlib.Core.Bool.{Bool, true, false, cond, ◌&&◌, true≢false, and-false}
use mathlib.Core.List.{List, [], ◌∷◌, ◌++◌}
use mathlib.Core.Option.{Option, none, some}
use lib.Dec.{eqb, ltb}
use borrow.Table.Steps.{cases}
use borrow.Author.Tests.{ltb-true, ltb-false, lt-ltb, le-ltb, eqb-true, eq-eqb}
use Rattle.rules.proofs.Checks.{both, and_left, and_right, or_left, or_right, by_either, neither}
use Rattle.rules.proofs.Orders.{Ordered}
use Rattle.json_rule.specs.Tree.{Defect}
use Rattle.json_rule.specs.Defects.{is_sooner, least}
use Rattle.json_judge.specs.Refusal.{sooner}

-- ---- the order

by_sooner : {P : Type 0} (a b : Defect) → (a.place < b.place → P) → (a.place ≡ b.place → a.number < b.number → P) → is_sooner a b ≡ true → P
by_sooner a b f g =
    by_either (ltb a.place b.place) (eqb a.place b.place && ltb a.number b.number)
    (λ e. f (ltb-true a.place b.place e))
    (λ e. g (eqb-true a.place b.place (and_left (eqb a.place b.place) (ltb a.number b.number) e)) (ltb-true a.number b.number (and_right (eqb a.place b.place) (ltb a.number b.number) e)))

earlier : (a b : Defect) → a.place < b.place → is_sooner a b ≡ true
earlier a b h = or_left (eqb a.place b.place && ltb a.number b.number) (lt-ltb a.place b.place h)

lower : (a b : Defect) → a.place ≡ b.place → a.number < b.number → is_sooner a b ≡ true
lower a b e h = or_right (ltb a.place b.place) (both (eq-eqb a.place b.place e) (lt-ltb a.number b.number h))

sooner_irreflexive : (a : Defect) → is_sooner a a ≡ false
sooner_irreflexive a = rw (le-ltb a.place a.place (le_refl a.place), le-ltb a.number a.number (le_refl a.number)) (and-false (eqb a.place a.place))

sooner_transitive : (a b c : Defect) → is_sooner a b ≡ true → is_sooner b c ≡ true → is_sooner a c ≡ true
sooner_transitive a b c h k =
    by_sooner a b
    (λ p. by_sooner b c (λ q. earlier a c (omega arith)) (λ q v. earlier a c (omega arith)) k)
    (λ p u. by_sooner b c (λ q. earlier a c (omega arith)) (λ q v. lower a c (omega arith) (omega arith)) k)
    h

sooner_connected : (a b : Defect) → is_sooner a b ≡ false → is_sooner b a ≡ false → a ≡ b
sooner_connected a b h k =
    let p : (ltb a.place b.place ≡ false) × ((eqb a.place b.place && ltb a.number b.number) ≡ false) = neither (ltb a.place b.place) (eqb a.place b.place && ltb a.number b.number) h in
    let q : (ltb b.place a.place ≡ false) × ((eqb b.place a.place && ltb b.number a.number) ≡ false) = neither (ltb b.place a.place) (eqb b.place a.place && ltb b.number a.number) k in
    let e : a.place ≡ b.place = omega (arith, ltb-false a.place b.place p.0, ltb-false b.place a.place q.0) in
    let m : ltb a.number b.number ≡ false = rw (eq-eqb a.place b.place e) at p.1 in
    let n : ltb b.number a.number ≡ false = rw (eq-eqb b.place a.place (sym e)) at q.1 in
    ap₂ (λ (x y : ℕ). record { place = x; number = y }) e (omega (arith, ltb-false a.number b.number m, ltb-false b.number a.number n))

-- ---- any strict order: the lesser of two

module _ {K : Type 0} (lt : K → K → Bool) (o : Ordered lt) where
  -- the second, where it is below the first
  abbrev lesser : K → K → K
  lesser a b = cond (lt b a) b a

  not_both : (a b : K) → lt a b ≡ true → lt b a ≡ true → ⊥
  not_both a b h k = true≢false (sym (o.transitive a b a h k) ∙ o.irreflexive a)

  lesser_commutes : (a b : K) → lesser a b ≡ lesser b a
  lesser_commutes a b =
      cases (lt b a)
      (λ h. cases (lt a b) (λ k. absurd (not_both a b k h)) (λ k. rw (h, k)))
      (λ h. cases (lt a b) (λ k. rw (h, k)) (λ k. rw (h, k) (o.connected a b k h)))

  not_below : (a b c : K) → lt b a ≡ false → lt c b ≡ false → lt c a ≡ false
  not_below a b c h k =
      cases (lt c a)
      (λ t. cases (lt a b)
      (λ u. absurd (true≢false (sym (o.transitive c a b t u) ∙ k)))
      (λ u. absurd (true≢false (sym t ∙ (ap (λ (x : K). lt c x) (o.connected a b u h) ∙ k)))))
      (λ t. t)

  lesser_associates : (a b c : K) → lesser (lesser a b) c ≡ lesser a (lesser b c)
  lesser_associates a b c =
      cases (lt b a)
      (λ h. cases (lt c b) (λ k. rw (h, k, o.transitive c b a k h)) (λ k. rw (h, k, h)))
      (λ h. cases (lt c b) (λ k. rw (h, k)) (λ k. rw (h, k, h, not_below a b c h k)))

-- ---- the sooner of two refusals

ordered : Ordered is_sooner
ordered = record { irreflexive = sooner_irreflexive; transitive = sooner_transitive; connected = sooner_connected }

both_there : (a b : Defect) → sooner (some a) (some b) ≡ some (lesser is_sooner ordered a b)
both_there a b = cases (is_sooner b a) (λ h. rw h) (λ h. rw h)

pub sooner_none : (a : Option Defect) → sooner none a ≡ a
sooner_none none = refl
sooner_none (some a) = refl

pub sooner_itself : (a : Option Defect) → sooner a a ≡ a
sooner_itself none = refl
sooner_itself (some a) = rw (sooner_irreflexive a)

pub sooner_commutes : (a b : Option Defect) → sooner a b ≡ sooner b a
sooner_commutes none none = refl
sooner_commutes none (some b) = refl
sooner_commutes (some a) none = refl
sooner_commutes (some a) (some b) = both_there a b ∙ (ap some (lesser_commutes is_sooner ordered a b) ∙ sym (both_there b a))

pub sooner_associates : (a b c : Option Defect) → sooner (sooner a b) c ≡ sooner a (sooner b c)
sooner_associates a b none = refl
sooner_associates a none (some c) = ap (λ (x : Option Defect). sooner a x) (sym (sooner_none (some c)))
sooner_associates none (some b) (some c) = sym (sooner_none (sooner (some b) (some c)))
sooner_associates (some a) (some b) (some c) =
    ap (λ (x : Option Defect). sooner x (some c)) (both_there a b)
    ∙ (both_there (lesser is_sooner ordered a b) c
    ∙ (ap some (lesser_associates is_sooner ordered a b c)
    ∙ (sym (both_there a (lesser is_sooner ordered b c))
    ∙ ap (λ (x : Option Defect). sooner (some a) x) (sym (both_there b c)))))

pub sooner_swaps : (a b c : Option Defect) → sooner a (sooner b c) ≡ sooner b (sooner a c)
sooner_swaps a b c = sym (sooner_associates a b c) ∙ (ap (λ (x : Option Defect). sooner x c) (sooner_commutes a b) ∙ sooner_associates b a c)

-- ---- of lists

pub least_cons : (d : Defect) (ds : List Defect) → least (d ∷ ds) ≡ sooner (some d) (least ds)
least_cons d ds = go (least ds)
  where
    go : (e : Option Defect) → (elim e as (λ x. Option Defect) [ none ↦ some d | some e ↦ cond (is_sooner e d) (some e) (some d) ]) ≡ sooner (some d) e
    go none = refl
    go (some e) = refl

pub least_append : (a b : List Defect) → least (a ++ b) ≡ sooner (least a) (least b)
least_append [] b = sym (sooner_none (least b))
least_append (d ∷ ds) b =
    least_cons d (ds ++ b)
    ∙ (ap (λ (x : Option Defect). sooner (some d) x) (least_append ds b)
    ∙ (sym (sooner_associates (some d) (least ds) (least b)) ∙ ap (λ (x : Option Defect). sooner x (least b)) (sym (least_cons d ds))))

-- ---- in another order

pub regroup : (r d o i : Option Defect) → sooner (sooner r d) (sooner o i) ≡ sooner r (sooner o (sooner d i))
regroup r d o i = simp (sooner_associates, sooner_swaps d o i)

-- a defect that was found already changes nothing
pub found_twice : (r c d o i : Option Defect) → sooner c o ≡ c → sooner (sooner (sooner r c) d) (sooner o i) ≡ sooner r (sooner c (sooner d i))
found_twice r c d o i e =
    simp (sooner_associates, sooner_swaps d o i)
    (ap (λ (x : Option Defect). sooner r x) (sym (sooner_associates c o (sooner d i)) ∙ ap (λ (x : Option Defect). sooner x (sooner d i)) e))

-- of two that say the same beside a defect, the second is as good
pub order_old : (r d m f g x : Option Defect) → sooner d f ≡ sooner d g → sooner (sooner r d) (sooner m (sooner f x)) ≡ sooner r (sooner (sooner d m) (sooner g x))
order_old r d m f g x e =
    simp sooner_associates
    (ap (λ (y : Option Defect). sooner r y)
    (ap (λ (y : Option Defect). sooner d y) (sooner_swaps m f x)
    ∙ (sym (sooner_associates d f (sooner m x))
    ∙ (ap (λ (y : Option Defect). sooner y (sooner m x)) e
    ∙ (sooner_associates d g (sooner m x) ∙ ap (λ (y : Option Defect). sooner d y) (sooner_swaps g m x))))))

-- what is said before and after a value makes up what is left to say
pub order_new : (r p d k m f g x : Option Defect) → sooner p (sooner k f) ≡ g
    → sooner (sooner (sooner (sooner r p) d) k) (sooner m (sooner f x)) ≡ sooner r (sooner (sooner d m) (sooner g x))
order_new r p d k m f g x e =
    rw (← e) (simp (sooner_associates, sooner_swaps d m (sooner p (sooner k (sooner f x))), sooner_swaps k m (sooner f x), sooner_swaps p m (sooner k (sooner f x)), sooner_swaps p d (sooner m (sooner k (sooner f x)))))

-- a defect that was found already may be found again later
pub found_later : (d p f n : Option Defect) → sooner d f ≡ d → sooner d (sooner p n) ≡ sooner d (sooner p (sooner f n))
found_later d p f n e =
    ap (λ (y : Option Defect). sooner y (sooner p n)) (sym e)
    ∙ (sooner_associates d f (sooner p n) ∙ ap (λ (y : Option Defect). sooner d y) (sooner_swaps f p n))

pub least_three : (a b c : List Defect) → least (a ++ b ++ c) ≡ sooner (least a) (sooner (least b) (least c))
least_three a b c = least_append (a ++ b) c ∙ (ap (λ (x : Option Defect). sooner x (least c)) (least_append a b) ∙ sooner_associates (least a) (least b) (least c))

-- ---- nothing is wrong

pub never_none : (r : Option Defect) (d : Defect) → sooner r (some d) ≡ none → ⊥
never_none none d e = let z : ◌≡◌ {A = ℕ} 0 1 = cc in omega arith
never_none (some b) d e =
    cases (is_sooner d b)
    (λ s. let f : some d ≡ none = rw s at e in let z : ◌≡◌ {A = ℕ} 0 1 = cc in omega arith)
    (λ s. let f : some b ≡ none = rw s at e in let z : ◌≡◌ {A = ℕ} 0 1 = cc in omega arith)

pub least_none : (ds : List Defect) → least ds ≡ none → ds ≡ []
least_none [] e = refl
least_none (d ∷ ds) e = absurd (never_none (least ds) d (sooner_commutes (least ds) (some d) ∙ (sym (least_cons d ds) ∙ e)))
