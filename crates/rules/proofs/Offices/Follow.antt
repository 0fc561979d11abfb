-- Walks by their way: what a walk lists is what it passes, parent by parent; parents that agree on it give the same way; and where the snapshots are few enough,
-- what a snapshot reaches has the held snapshot itself and every held parent of what it has.
use Prim.Native.Nat.{ℕ, zero, suc, ◌<◌, ◌≤◌}
use native.Mathlib.Omega.{arith}
use mathlib.Core.Path.{◌≡◌, refl, sym, ap, ◌∙◌, subst}
use mathlib.Core.Bool.{Bool, true, false, cond, ◌||◌, false≢true}
use mathlib.Core.List.{List, [], ◌∷◌, ◌++◌, append-nil, append_assoc}
use mathlib.Core.Option.{Option, none, some}
use lib.IntN.{ℤ, negsuc}
use lib.ListN.{length, length-map}
use Rattle.rules.specs.Words.{eq_z, is_some, or_else, all, first, last_of, is_in}
use Rattle.rules.specs.Capacities.{snapshot_room}
use Rattle.rules.specs.Register.{Snapshot}
use Rattle.rules.specs.WellFormed.{has_snapshot, holds_snapshot}
use Rattle.rules.specs.Walk.{Walk, Listed, Twice, parent_of, follow, snapshot_ids, snapshot_parents, reach}
use Rattle.rules.specs.OfficeWalks.{Onward, Further, Cyclic}
use Rattle.rules.proofs.Checks.{both, or_left, or_right, by_either}
use Rattle.rules.proofs.Orders.{numbers_told}
use Rattle.rules.proofs.Tables.{first_any}
use Rattle.rules.proofs.Replay.Lists.{any_append}
use Rattle.rules.proofs.Replay.Keys.{in_all}
use Rattle.rules.proofs.Unlisted.{held, unlisted, none_listed, fewer}

-- ---- the way of a walk

-- from an id, parent by parent, these are passed, and the last step leads to the end
abbrev pub Way : (ℤ → Option ℤ) → ℤ → List ℤ → ℤ → Type 0
Way parent id [] end = id ≡ end
Way parent id (x ∷ l) end = (id ≡ x) × ((next : ℤ) × (parent x ≡ some next) × Way parent next l end)

module _ (parent : ℤ → Option ℤ) where
  -- it begins with its start, or ends there
  way_start : (id : ℤ) (l : List ℤ) (end : ℤ) → Way parent id l end → is_in (end ∷ l) id ≡ true
  way_start id [] end w = or_left false {a = eq_z id end} (rw w (numbers_told.itself end))
  way_start id (x ∷ l) end w = or_right (eq_z id end) (or_left (is_in l id) {a = eq_z id x} (rw w.0 (numbers_told.itself x)))

  -- the parent of one that is passed is passed too, or is the end
  way_on : (id : ℤ) (l : List ℤ) (end : ℤ) → Way parent id l end → (z n : ℤ) → is_in l z ≡ true → parent z ≡ some n → is_in (end ∷ l) n ≡ true
  way_on id [] end w z n h e = absurd (false≢true h)
  way_on id (x ∷ l) end w z n h e =
      let next : ℤ = w.1.0 in
      by_either (eq_z n end) (is_in l n)
      (or_left (eq_z n x || is_in l n))
      (λ q. or_right (eq_z n end) (or_right (eq_z n x) q))
      (by_either (eq_z z x) (is_in l z)
      (λ q. let s : z ≡ x = numbers_told.equal z x q in
      let f : parent x ≡ some next = w.1.1 in
      let g : parent x ≡ some n = rw s at e in
      let t : n ≡ next = cc in
      rw t (way_start next l end w.1.2))
      (λ q. way_on next l end w.1.2 z n q e) h)

  -- a test that holds for the start, if that is held, and goes on to each held parent holds for all that are passed
  way_all : (p : ℤ → Bool) → ((z n : ℤ) → p z ≡ true → parent z ≡ some n → is_some (parent n) ≡ true → p n ≡ true)
      → (id : ℤ) (l : List ℤ) (end : ℤ) → Way parent id l end → (is_some (parent id) ≡ true → p id ≡ true) → all p l ≡ true
  way_all p f id [] end w h = refl
  way_all p f id (x ∷ l) end w h =
      let k : is_some (parent id) ≡ true → p id ≡ true = h in
      let here : p x ≡ true = (rw w.0 at k) (rw w.1.1) in
      both here (way_all p f w.1.0 l end w.1.2 (f x w.1.0 here w.1.1))

  -- all that are passed are held
  pub way_held : (id : ℤ) (l : List ℤ) (end : ℤ) → Way parent id l end → all (λ (z : ℤ). is_some (parent z)) l ≡ true
  way_held id l end w = way_all (λ (z : ℤ). is_some (parent z)) (λ z n a b c. c) id l end w (λ h. h)

  -- the last step is from the last that is passed
  pub way_last : (id : ℤ) (l : List ℤ) (end : ℤ) → Way parent id l end → (last : ℤ) → last_of l ≡ some last → parent last ≡ some end
  way_last id [] end w last e = absurd (let z : ◌≡◌ {A = ℕ} 0 1 = cc in omega arith)
  way_last id (x ∷ []) end w last e = let s : x ≡ last = cc in rw (← s, w.1.1, w.1.2)
  way_last id (x ∷ y ∷ l) end w last e = way_last w.1.0 (y ∷ l) end w.1.2 last e

-- parents that agree on what is passed give the same way
pub way_agrees : (parent other : ℤ → Option ℤ) (id : ℤ) (l : List ℤ) (end : ℤ) → Way parent id l end → ((z : ℤ) → is_in l z ≡ true → other z ≡ parent z) → Way other id l end
way_agrees parent other id [] end w h = w
way_agrees parent other id (x ∷ l) end w h =
    (w.0, (w.1.0, h x (or_left (is_in l x) (numbers_told.itself x)) ∙ w.1.1, way_agrees parent other w.1.0 l end w.1.2 (λ z k. h z (or_right (eq_z z x) k))))

-- ---- walks

never_lists : {l : List ℤ} → Twice ≡ Listed l → ⊥
never_lists e = let z : ◌≡◌ {A = ℕ} 0 1 = cc in omega arith

-- a walk lists what was listed and what it passes then; where it could go on, it is told to stop
pub record Found (parent : ℤ → Option ℤ) (stops : List ℤ → ℤ → Bool) (listed : List ℤ) (id : ℤ) (l : List ℤ) : Type 0 where
  pub passed : List ℤ
  pub end : ℤ
  pub is : l ≡ listed ++ passed
  pub way : Way parent id passed end
  pub stopped : (next : ℤ) → parent end ≡ some next → stops l end ≡ true

-- from nothing listed, it passes all that it lists
pub whole_way : {parent : ℤ → Option ℤ} {stops : List ℤ → ℤ → Bool} {id : ℤ} {l : List ℤ} (k : Found parent stops [] id l) → Way parent id l k.end
whole_way {parent} {stops} {id} k = subst (λ (x : List ℤ). Way parent id x k.end) (sym k.is) k.way

module _ (parent : ℤ → Option ℤ) (stops : List ℤ → ℤ → Bool) where
  pub follow_found : (steps : ℕ) (listed : List ℤ) (id : ℤ) (l : List ℤ) → follow steps parent stops listed id ≡ Listed l → Found parent stops listed id l
  unfolding follow
  follow_found zero listed id l e = absurd (never_lists e)
  follow_found (suc steps) listed id l e = go (parent id) refl (stops listed id) refl (is_in listed id) (λ next. follow_found steps (listed ++ (id ∷ [])) next l) e
    where
      here : Listed listed ≡ Listed l → listed ≡ l
      here e = cc

      go : (o : Option ℤ) → parent id ≡ o → (s : Bool) → stops listed id ≡ s → (t : Bool)
          → ((next : ℤ) → follow steps parent stops (listed ++ (id ∷ [])) next ≡ Listed l → Found parent stops (listed ++ (id ∷ [])) next l)
          → elim o [ none ↦ Listed listed | some next ↦ cond s (Listed listed) (cond t Twice (follow steps parent stops (listed ++ (id ∷ [])) next)) ] ≡ Listed l → Found parent stops listed id l
      go none p s q t ih e = record {
        passed = [];
        end = id;
        is = sym (append-nil listed ∙ here e);
        way = refl;
        stopped = λ next x. absurd (let z : ◌≡◌ {A = ℕ} 0 1 = cc in omega arith);
      }
      go (some next) p true q t ih e = record { passed = []; end = id; is = sym (append-nil listed ∙ here e); way = refl; stopped = λ n x. rw (here e) at q }
      go (some next) p false q true ih e = absurd (never_lists e)
      go (some next) p false q false ih e =
          let f : Found parent stops (listed ++ (id ∷ [])) next l = ih next e in
          record { passed = id ∷ f.passed; end = f.end; is = f.is ∙ append_assoc listed (id ∷ []) f.passed; way = (refl, (next, p, f.way)); stopped = f.stopped }

  -- what is listed so far is a beginning of what is listed in the end
  pub follow_grows : (steps : ℕ) (listed : List ℤ) (id : ℤ) → Onward listed (follow steps parent stops listed id)
  unfolding follow
  follow_grows zero listed id = Cyclic refl
  follow_grows (suc steps) listed id = go (parent id) (stops listed id) (is_in listed id) (follow_grows steps (listed ++ (id ∷ [])))
    where
      stays : Onward listed (Listed listed)
      stays = Further [] (ap Listed (sym (append-nil listed)))

      longer : (w : Walk) → Onward (listed ++ (id ∷ [])) w → Onward listed w
      longer w (Further more e) = Further (id ∷ more) (e ∙ ap Listed (append_assoc listed (id ∷ []) more))
      longer w (Cyclic e) = Cyclic e

      go : (o : Option ℤ) (s t : Bool) → ((next : ℤ) → Onward (listed ++ (id ∷ [])) (follow steps parent stops (listed ++ (id ∷ [])) next))
          → Onward listed (elim o [ none ↦ Listed listed | some next ↦ cond s (Listed listed) (cond t Twice (follow steps parent stops (listed ++ (id ∷ [])) next)) ])
      go none s t ih = stays
      go (some next) true t ih = stays
      go (some next) false true ih = Cyclic refl
      go (some next) false false ih = longer _ (ih next)

module _ (parent other : ℤ → Option ℤ) (stops : List ℤ → ℤ → Bool) where
  -- parents that agree on the whole way and find no parent at its end give the same walk, wherever it is told to stop
  pub follow_same : (steps : ℕ) (listed : List ℤ) (id : ℤ) (l : List ℤ) (end : ℤ) → Way parent id l end → parent end ≡ none → other end ≡ none
      → ((z : ℤ) → is_in l z ≡ true → other z ≡ parent z) → follow steps other stops listed id ≡ follow steps parent stops listed id
  unfolding follow
  follow_same zero listed id l end w p q h = refl
  follow_same (suc steps) listed id [] end w p q h = rw (w, follow, p, q)
  follow_same (suc steps) listed id (x ∷ l) end w p q h =
      let next : ℤ = w.1.0 in
      let a : parent id ≡ some next = rw w.0 w.1.1 in
      let b : other id ≡ some next = rw w.0 (h x (or_left (is_in l x) (numbers_told.itself x)) ∙ w.1.1) in
      let ih : follow steps other stops (listed ++ (id ∷ [])) next ≡ follow steps parent stops (listed ++ (id ∷ [])) next = follow_same steps (listed ++ (id ∷ [])) next l end w.1.2 p q (λ z k. h z (or_right (eq_z z x) k)) in
      rw (follow, a, b, ih)

  -- parents that agree on what a walk lists go on from it
  pub follow_begins : (steps : ℕ) (listed : List ℤ) (id : ℤ) (l : List ℤ) → follow steps parent stops listed id ≡ Listed l
      → ((z : ℤ) → is_in l z ≡ true → other z ≡ parent z) → Onward l (follow steps other stops listed id)
  unfolding follow
  follow_begins zero listed id l e h = absurd (never_lists e)
  follow_begins (suc steps) listed id l e h =
      go (parent id) refl (stops listed id) refl (is_in listed id) refl (λ next x. follow_begins steps (listed ++ (id ∷ [])) next l x h) e
    where
      so_far : Listed listed ≡ Listed l → Onward l (follow (suc steps) other stops listed id)
      so_far e = let s : listed ≡ l = cc in subst (λ (x : List ℤ). Onward x (follow (suc steps) other stops listed id)) s (follow_grows other stops (suc steps) listed id)

      passes : (next : ℤ) → follow steps parent stops (listed ++ (id ∷ [])) next ≡ Listed l → is_in l id ≡ true
      passes next e =
          let f : Found parent stops (listed ++ (id ∷ [])) next l = follow_found parent stops steps (listed ++ (id ∷ [])) next l e in
          rw (f.is, any_append (eq_z id) (listed ++ (id ∷ [])) f.passed, any_append (eq_z id) listed (id ∷ []), numbers_told.itself id)
          (or_left (is_in f.passed id) (or_right (is_in listed id) refl))

      go : (o : Option ℤ) → parent id ≡ o → (s : Bool) → stops listed id ≡ s → (t : Bool) → is_in listed id ≡ t
          → ((next : ℤ) → follow steps parent stops (listed ++ (id ∷ [])) next ≡ Listed l → Onward l (follow steps other stops (listed ++ (id ∷ [])) next))
          → elim o [ none ↦ Listed listed | some next ↦ cond s (Listed listed) (cond t Twice (follow steps parent stops (listed ++ (id ∷ [])) next)) ] ≡ Listed l
          → Onward l (follow (suc steps) other stops listed id)
      go none p s q t r ih e = so_far e
      go (some next) p true q t r ih e = so_far e
      go (some next) p false q true r ih e = absurd (never_lists e)
      go (some next) p false q false r ih e = rw (follow, h id (passes next e), p, q, r) (ih next e)

-- ---- the parents of snapshots

abbrev pub parent_in : List Snapshot → ℤ → Option ℤ
parent_in l = parent_of (snapshot_ids l) (snapshot_parents l)

-- what a record, where there is one, says of the parent
abbrev pub parent_field : Option Snapshot → Option ℤ
parent_field none = none
parent_field (some s) = some (or_else s.parent (negsuc 0))

-- the parent is that of the record
pub parent_record : (l : List Snapshot) (id : ℤ) → parent_in l id ≡ parent_field (first (has_snapshot id) l)
parent_record [] id = refl
parent_record (s ∷ l) id = go (eq_z s.id id) (parent_record l id)
  where
    go : (t : Bool) → parent_in l id ≡ parent_field (first (has_snapshot id) l)
        → cond t (some (or_else s.parent (negsuc 0))) (parent_in l id) ≡ parent_field (cond t (some s) (first (has_snapshot id) l))
    go true ih = refl
    go false ih = ih

-- the held snapshots are those that have one
pub parent_held : (l : List Snapshot) (id : ℤ) → is_some (parent_in l id) ≡ holds_snapshot l id
parent_held l id = ap is_some (parent_record l id) ∙ go (first (has_snapshot id) l) ∙ first_any (has_snapshot id) l
  where
    go : (o : Option Snapshot) → is_some (parent_field o) ≡ is_some o
    go none = refl
    go (some s) = refl

-- ---- what a snapshot reaches

-- while fewer ids are left than steps, a walk that stops at what it has listed finds its list
lists : (ids parents : List ℤ) (steps : ℕ) (listed : List ℤ) (id : ℤ) → unlisted listed ids < steps → (l : List ℤ) × (follow steps (parent_of ids parents) is_in listed id ≡ Listed l)
unfolding follow
lists ids parents zero listed id h = absurd (omega arith)
lists ids parents (suc steps) listed id h = go (parent_of ids parents id) refl (is_in listed id) refl (λ next. lists ids parents steps (listed ++ (id ∷ [])) next)
  where
    on : ℤ → Walk
    on next = follow steps (parent_of ids parents) is_in (listed ++ (id ∷ [])) next

    go : (o : Option ℤ) → parent_of ids parents id ≡ o → (t : Bool) → is_in listed id ≡ t
        → ((next : ℤ) → unlisted (listed ++ (id ∷ [])) ids < steps → (l : List ℤ) × (on next ≡ Listed l))
        → (l : List ℤ) × (elim o [ none ↦ Listed listed | some next ↦ cond t (Listed listed) (cond t Twice (on next)) ] ≡ Listed l)
    go none p t q ih = (listed, refl)
    go (some next) p true q ih = (listed, refl)
    go (some next) p false q ih = ih next (omega (arith, fewer listed id ids (held ids parents id p) q))

-- what is there
pub some_of : {A : Type 0} (o : Option A) → is_some o ≡ true → (a : A) × (o ≡ some a)
some_of none h = absurd (false≢true h)
some_of (some a) h = (a, refl)

module _ (snapshots : List Snapshot) (few : length snapshots ≤ snapshot_room) (start : ℤ) where
  reach_found : Found (parent_in snapshots) is_in [] start (reach snapshots start)
  unfolding reach
  reach_found =
      let ids : List ℤ = snapshot_ids snapshots in
      let k = lists ids (snapshot_parents snapshots) (suc snapshot_room) [] start (omega (arith, none_listed ids, length-map snapshots (λ (s : Snapshot). s.id))) in
      rw k.1 (follow_found (parent_in snapshots) is_in (suc snapshot_room) [] start k.0 k.1)

  -- its way passes all of it
  pub reach_way : (end : ℤ) × Way (parent_in snapshots) start (reach snapshots start) end
  reach_way = (reach_found.end, whole_way reach_found)

  -- where that ends nothing is held, or it is reached already
  reach_end : (n : ℤ) → is_in (reach_way.0 ∷ reach snapshots start) n ≡ true → is_some (parent_in snapshots n) ≡ true → is_in (reach snapshots start) n ≡ true
  unfolding reach_way
  reach_end n h k =
      by_either (eq_z n reach_way.0) (is_in (reach snapshots start) n)
      (λ q. let s : n ≡ reach_way.0 = numbers_told.equal n reach_way.0 q in
      let p = some_of (parent_in snapshots n) k in
      rw s (reach_found.stopped p.0 (ap (parent_in snapshots) (sym s) ∙ p.1)))
      (λ q. q) h

  -- the snapshot itself is reached where it is held
  pub reach_start : holds_snapshot snapshots start ≡ true → is_in (reach snapshots start) start ≡ true
  reach_start h = reach_end start (way_start (parent_in snapshots) start (reach snapshots start) reach_way.0 reach_way.1) (parent_held snapshots start ∙ h)

  -- and so is every held parent of what is reached
  reach_on : (z n : ℤ) → is_in (reach snapshots start) z ≡ true → parent_in snapshots z ≡ some n → is_some (parent_in snapshots n) ≡ true → is_in (reach snapshots start) n ≡ true
  reach_on z n h e k = reach_end n (way_on (parent_in snapshots) start (reach snapshots start) reach_way.0 reach_way.1 z n h e) k

  -- what is reached is held
  pub reach_held : (z : ℤ) → is_in (reach snapshots start) z ≡ true → holds_snapshot snapshots z ≡ true
  reach_held z h =
      sym (parent_held snapshots z)
      ∙ in_all (λ (x : ℤ). is_some (parent_in snapshots x)) (reach snapshots start) z (way_held (parent_in snapshots) start (reach snapshots start) reach_way.0 reach_way.1) h

  -- whatever a way from the snapshot passes is reached
  pub way_reached : (l : List ℤ) (end : ℤ) → Way (parent_in snapshots) start l end → (z : ℤ) → is_in l z ≡ true → is_in (reach snapshots start) z ≡ true
  way_reached l end w z =
      in_all (is_in (reach snapshots start)) l z
      (way_all (parent_in snapshots) (is_in (reach snapshots start)) reach_on start l end w (λ h. reach_start (sym (parent_held snapshots start) ∙ h)))
