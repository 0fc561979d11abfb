-- Names that were seen before the action is known, and stand in other rows only: refused one by one as they were seen, or spot by spot.
use Prim.Native.Nat.{ℕ, zero, suc, ◌+◌, ◌≤◌, ◌<◌}
use mathlib.Core.Path.{◌≡◌, refl, sym, ap, ◌∙◌}
use mathlib.Core.Bool.{Bool, true, false, cond, not, ◌||◌, true≢false}
use mathlib.Core.List.{List, [], ◌∷◌}
use mathlib.Core.Option.{Option, none, some}
use native.Mathlib.Omega.{arith}
use borrow.Author.Tests.{eqb-true, eqb-false, ne_eqb, ltb-true}
use borrow.Table.Steps.{cases}
use lib.Dec.{eqb, ltb}
use lib.ListN.{get_or}
use Rattle.rules.specs.Words.{same_bytes}
use Rattle.rules.proofs.Checks.{by_either}
use Rattle.json_rule.specs.Tree.{Defect}
use Rattle.json_rule.specs.Members.{is_one_of}
use Rattle.json_rule.specs.Shapes.{AnUpdate, Action}
use Rattle.json_rule.specs.Defects.{not_published, unless, is_foreign, least}
use Rattle.json_judge.specs.Refusal.{sooner, refusing as withDefects}
use Rattle.json_judge.specs.Frames.{Seen, names_in, foreign_seen}
use Rattle.json_judge.proofs.Least.{sooner_commutes, sooner_associates, least_append}
use Rattle.json_members.specs.Words.{number_of}
use Rattle.json_members.specs.Spots.{row_at, name_at, member_named}
use Rattle.json_members.specs.Rows.{action_at, span_of, is_foreign_at}
use Rattle.json_members.specs.Model.{refusing_foreign, refusing_foreigns}
use Rattle.json_members.proofs.Cases.{all_below_lem}
use Rattle.json_members.proofs.Words.{same_self}
use Rattle.json_members.proofs.Actions.{foreign_told}
use Rattle.json_stands.proofs.Marked.{is_marked}
use Rattle.json_stands.proofs.Laid.{State, Sized, laid, changed, seen_laid, named_laid}
use Rattle.json_stands.proofs.Members.{is_member, names_apart, from_first, before_end}
use Rattle.json_stands.proofs.Refused.{RefusalIs, Refused, not_refused, refuse_laid}
use Rattle.json_stands.proofs.Open.{place_of, Once, never, also, UpdateSays}

-- ---- the least of what is said at each of so many spots, from one on

unfoldable said_from : ℕ → ℕ → (ℕ → Option Defect) → Option Defect → Option Defect
said_from zero m g r = r
said_from (suc n) m g r = said_from n (suc m) g (sooner r (g m))

-- the last of three may be heard second
sooner_turns : (a b c : Option Defect) → sooner (sooner a b) c ≡ sooner (sooner a c) b
sooner_turns a b c = sooner_associates a b c ∙ (ap (λ (x : Option Defect). sooner a x) (sooner_commutes b c) ∙ sym (sooner_associates a c b))

-- one that is heard before may be heard behind
said_behind : (n m : ℕ) (g : ℕ → Option Defect) (r d : Option Defect) → said_from n m g (sooner r d) ≡ sooner (said_from n m g r) d
unfolding said_from
said_behind zero m g r d = refl
said_behind (suc n) m g r d = ap (said_from n (suc m) g) (sooner_turns r d (g m)) ∙ said_behind n (suc m) g (sooner r (g m)) d

said_same : (n m : ℕ) (g k : ℕ → Option Defect) (r : Option Defect) → ((x : ℕ) → m ≤ x → x < m + n → g x ≡ k x) → said_from n m g r ≡ said_from n m k r
unfolding said_from
said_same zero m g k r h = refl
said_same (suc n) m g k r h =
    ap (λ (d : Option Defect). said_from n (suc m) g (sooner r d)) (h m (omega arith) (omega arith))
    ∙ said_same n (suc m) g k (sooner r (k m)) (λ x a b. h x (omega arith) (omega arith))

said_none : (n m : ℕ) (g : ℕ → Option Defect) (r : Option Defect) → ((x : ℕ) → g x ≡ none) → said_from n m g r ≡ r
unfolding said_from
said_none zero m g r h = refl
said_none (suc n) m g r h = ap (λ (d : Option Defect). said_from n (suc m) g (sooner r d)) (h m) ∙ said_none n (suc m) g r h

-- one more is said, at one of them
said_more : (n m : ℕ) (g k : ℕ → Option Defect) (x : ℕ) (r : Option Defect) → m ≤ x → x < m + n → g x ≡ none → ((y : ℕ) → m ≤ y → y < m + n → (y ≡ x → ⊥) → k y ≡ g y)
    → said_from n m k r ≡ sooner (said_from n m g r) (k x)
unfolding said_from
said_more zero m g k x r a b e h = absurd (omega arith)
said_more (suc n) m g k x r a b e h =
    cases (eqb m x)
    (λ t. let i : m ≡ x = eqb-true m x t in
    said_same n (suc m) k g (sooner r (k m)) (λ y c d. h y (omega arith) (omega arith) (λ z. omega arith))
    ∙ (said_behind n (suc m) g r (k m)
    ∙ (ap (λ (d : Option Defect). sooner (said_from n (suc m) g (sooner r d)) (k m)) (sym e ∙ ap g (sym i))
    ∙ ap (λ (y : ℕ). sooner (said_from n (suc m) g (sooner r (g m))) (k y)) i)))
    (λ f. let d : m ≡ x → ⊥ = eqb-false m x f in
    ap (λ (o : Option Defect). said_from n (suc m) k (sooner r o)) (h m (omega arith) (omega arith) d)
    ∙ said_more n (suc m) g k x (sooner r (g m)) (omega arith) (omega arith) e (λ y c b z. h y (omega arith) (omega arith) z))

-- ---- what is said at a spot

abbrev refused_there : Option ℕ → Option Defect
refused_there none = none
refused_there (some p) = some (record { place = p; number = not_published })

-- of a name, if it is foreign to the action and was seen
abbrev foreign_at : Action → List Seen → ℕ → Option Defect
foreign_at a seen m = cond (is_foreign a (name_at m)) (refused_there (place_of (name_at m) seen)) none

place_none : (name : List ℕ) (seen : List Seen) → is_one_of (names_in seen) name ≡ false → place_of name seen ≡ none
place_none name [] e = refl
place_none name (s ∷ seen) e =
    cases (same_bytes name s.name)
    (λ t. absurd (true≢false (rw t at e)))
    (λ f. rw f (place_none name seen (rw f at e)))

not_foreign : (b : Bool) → cond b (refused_there none) none ≡ none
not_foreign true = refl
not_foreign false = refl

-- one at a place
one_said : (b : Bool) (p : ℕ) → cond b (refused_there (some p)) none ≡ least (unless (not b) p not_published)
one_said true p = refl
one_said false p = refl

-- ---- as they were seen, and spot by spot

-- the spots of an update's members
update_member : (m : ℕ) → 3 ≤ m → m < 24 → is_member AnUpdate m ≡ true
update_member m a b = by_either (ltb m 3) (is_member AnUpdate m) (λ e. absurd (omega (arith, ltb-true m 3 e))) (λ e. e) (all_below_lem 24 (λ x. ltb x 3 || is_member AnUpdate x) refl m b)

module _ (a : Action) (seen : List Seen) (m place : ℕ) where
  abbrev now_seen : List Seen
  now_seen = record { name = name_at m; place = place } ∷ seen

  seen_here : foreign_at a now_seen m ≡ least (unless (not (is_foreign a (name_at m))) place not_published)
  seen_here = rw (same_self (name_at m)) (one_said (is_foreign a (name_at m)) place)

  seen_elsewhere : is_member AnUpdate m ≡ true → (y : ℕ) → 3 ≤ y → y < 24 → (y ≡ m → ⊥) → foreign_at a now_seen y ≡ foreign_at a seen y
  seen_elsewhere is y l u n = rw (names_apart AnUpdate y m (update_member y l u) is, ne_eqb y m n)

said_all : (a : Action) {seen : List Seen} (r : Option Defect) → Once seen → said_from 21 3 (foreign_at a seen) r ≡ withDefects (foreign_seen a seen) r
said_all a r never = said_none 21 3 (foreign_at a []) r (λ m. not_foreign (is_foreign a (name_at m)))
said_all a r (also {seen} {place} m is new o) =
    let d = least (unless (not (is_foreign a (name_at m))) place not_published) in
    said_more 21 3 (foreign_at a seen) (foreign_at a (now_seen a seen m place)) m r (from_first AnUpdate m is) (before_end AnUpdate m is) (rw (place_none (name_at m) seen new) (not_foreign (is_foreign a (name_at m)))) (seen_elsewhere a seen m place is)
    ∙ (ap (λ (x : Option Defect). sooner (said_from 21 3 (foreign_at a seen) r) x) (seen_here a seen m place)
    ∙ (ap (λ (x : Option Defect). sooner x d) (said_all a r o)
    ∙ (sooner_turns r (least (foreign_seen a seen)) d
    ∙ (sooner_associates r d (least (foreign_seen a seen))
    ∙ ap (λ (x : Option Defect). sooner r x) (sym (least_append (unless (not (is_foreign a (name_at m))) place not_published) (foreign_seen a seen)))))))

-- ---- in the slots

not_zero : not_published ≡ 0 → ⊥
not_zero e = omega arith

-- a name of an update is that of its spot
own_spot : (m : ℕ) → 3 ≤ m → m < 24 → member_named 2 (name_at m) ≡ m
unfolding member_named row_at number_of
own_spot m a b =
    by_either (ltb m 3) (eqb (member_named 2 (name_at m)) m) (λ e. absurd (omega (arith, ltb-true m 3 e))) (λ e. eqb-true (member_named 2 (name_at m)) m e)
    (all_below_lem 24 (λ x. ltb x 3 || eqb (member_named 2 (name_at x)) x) refl m b)

-- from a state with another refusal on
refused_more : (s : State) (number place : ℕ) {slots other : List ℕ} {r : Option Defect} → other ≡ slots → Refused (changed number place s.held s) slots r → Refused s other r
refused_more s number place e x = record { number = x.number; place = x.place; laid_so = e ∙ x.laid_so; is = x.is }

module _ (kind : ℕ) (a : Action) (is : action_at kind ≡ some a) where
  foreign_spot : (m : ℕ) → 3 ≤ m → m < 24 → is_foreign_at (span_of kind) m ≡ is_foreign a (name_at m)
  foreign_spot m l u = ap (is_foreign_at (span_of kind)) (sym (own_spot m l u)) ∙ sym (foreign_told kind a is (name_at m))

  module _ {seen : List Seen} where
    -- one spot
    refuse_spot : (s : State) {r : Option Defect} → Sized s.held.marks s.held.places → UpdateSays s.held.marks s.held.places seen → RefusalIs s.number s.place r → (m : ℕ) → 3 ≤ m → m < 24
        → Refused s (refusing_foreign (span_of kind) m (laid s)) (sooner r (foreign_at a seen m))
    unfolding refusing_foreign
    refuse_spot s z u rf m l h =
        cases (is_foreign_at (span_of kind) m)
        (λ t. cases (is_marked s.held.marks m)
        (λ k. rw (t, sym (foreign_spot m l h) ∙ t, seen_laid s z m (omega arith), k, named_laid s z m (omega arith), u.stands m (update_member m l h), k) (refuse_laid s rf not_published (get_or s.held.places m 0) not_zero))
        (λ k. rw (t, sym (foreign_spot m l h) ∙ t, seen_laid s z m (omega arith), k, u.stands m (update_member m l h), k) (not_refused s rf)))
        (λ t. rw (t, sym (foreign_spot m l h) ∙ t) (not_refused s rf))

    refuse_spots : (n m : ℕ) (s : State) {r : Option Defect} → Sized s.held.marks s.held.places → UpdateSays s.held.marks s.held.places seen → RefusalIs s.number s.place r → 3 ≤ m → m + n ≤ 24
        → Refused s (refusing_foreigns n (span_of kind) m (laid s)) (said_from n m (foreign_at a seen) r)
    unfolding refusing_foreigns said_from
    refuse_spots zero m s z u rf l h = not_refused s rf
    refuse_spots (suc n) m s z u rf l h =
        let x = refuse_spot s z u rf m l (omega arith) in
        refused_more s x.number x.place (ap (refusing_foreigns n (span_of kind) (suc m)) x.laid_so) (refuse_spots n (suc m) (changed x.number x.place s.held s) z u x.is (omega arith) (omega arith))

    -- all the spots of an update, where its action becomes known
    pub refuse_foreigns : (s : State) {r : Option Defect} → Sized s.held.marks s.held.places → UpdateSays s.held.marks s.held.places seen → RefusalIs s.number s.place r
        → Refused s (refusing_foreigns 21 (span_of kind) 3 (laid s)) (withDefects (foreign_seen a seen) r)
    refuse_foreigns s {r} z u rf =
        let x = refuse_spots 21 3 s z u rf (omega arith) (omega arith) in
        record { number = x.number; place = x.place; laid_so = x.laid_so; is = rw (said_all a r u.once) at x.is }
