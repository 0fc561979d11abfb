-- Walks over fewer snapshots: a walk with any stopping test lists a beginning of what it listed over more, and the same where all that it listed is held alike.
use Prim.Native.Nat.{ℕ, zero, suc, ◌≤◌}
use native.Mathlib.Omega.{arith}
use mathlib.Core.Path.{◌≡◌, refl, sym, ap, ◌∙◌, subst}
use mathlib.Core.Bool.{Bool, true, false, cond, ◌&&◌, true≢false, or-true}
use mathlib.Core.List.{List, [], ◌∷◌, ◌++◌, append-nil, append_assoc}
use mathlib.Core.Option.{Option, none, some}
use lib.Dec.{eqb}
use lib.IntN.{ℤ, pos}
use lib.ListN.{length}
use lib.Signed.{le_z}
use borrow.Table.Steps.{cases}
use Rattle.rules.specs.Words.{eq_z, is_some, keep, first, is_in}
use Rattle.rules.specs.Capacities.{snapshot_room}
use Rattle.rules.specs.Register.{Snapshot, Reference}
use Rattle.rules.specs.WellFormed.{branch}
use Rattle.rules.specs.Walk.{Walk, Listed, Twice, follow, listed_ids, reach}
use Rattle.rules.specs.RefUpdates.{time_of}
use Rattle.rules.specs.OfficeWalks.{Onward, Further, Cyclic}
use Rattle.rules.proofs.Checks.{by_test}
use Rattle.rules.proofs.Orders.{numbers_told}
use Rattle.rules.proofs.Replay.Lists.{any_append}
use Rattle.rules.proofs.Offices.Follow.{Found, follow_found, follow_grows, parent_in, parent_field, parent_record, parent_held, reach_start}
use Rattle.rules.proofs.Offices.Reach.{record_of}
use Rattle.retention.specs.Retention.{Policy, is_older, count_of, age_of, is_past, retained, is_twice}

-- ---- walks with any parents and any stopping test

-- a walk ends in front of one that is not held, and of one at which it is told to stop
follow_ends : (parent : ℤ → Option ℤ) (stops : List ℤ → ℤ → Bool) (steps : ℕ) (listed : List ℤ) (id : ℤ) → (is_some (parent id) ≡ true → stops listed id ≡ true)
    → follow (suc steps) parent stops listed id ≡ Listed listed
unfolding follow
follow_ends parent stops steps listed id h = go (parent id) h
  where
    on : ℤ → Walk
    on next = follow steps parent stops (listed ++ (id ∷ [])) next

    go : (o : Option ℤ) → (is_some o ≡ true → stops listed id ≡ true) → elim o [ none ↦ Listed listed | some next ↦ cond (stops listed id) (Listed listed) (cond (is_in listed id) Twice (on next)) ] ≡ Listed listed
    go none h = refl
    go (some next) h = rw (h refl)

-- Of two walks the second has fewer parents, each of them the same, and stops at each that it holds if the first does.
pub record Fewer (parent other : ℤ → Option ℤ) (stops stopsToo : List ℤ → ℤ → Bool) : Type 0 where
  pub same : (z : ℤ) → is_some (other z) ≡ true → other z ≡ parent z
  pub stopped : (listed : List ℤ) (z : ℤ) → is_some (other z) ≡ true → stops listed z ≡ true → stopsToo listed z ≡ true

module _ (parent other : ℤ → Option ℤ) (stops stopsToo : List ℤ → ℤ → Bool) where
  -- the second ends in front of one that the first lists: the first went on there, and the second stops or does not hold it
  pub record Halts (listed : List ℤ) (z : ℤ) : Type 0 where
    pub held : is_some (parent z) ≡ true
    pub passed : stops listed z ≡ false
    pub ended : is_some (other z) ≡ true → stopsToo listed z ≡ true

  -- the second lists a beginning of what the first lists
  pub record Begins (l : List ℤ) (w : Walk) : Type 0 where
    pub listed : List ℤ
    pub rest : List ℤ
    pub is : w ≡ Listed listed
    pub whole : l ≡ listed ++ rest
    pub ends : (z : ℤ) (zs : List ℤ) → rest ≡ z ∷ zs → Halts listed z

  pub follow_fewer : Fewer parent other stops stopsToo → (steps : ℕ) (listed : List ℤ) (id : ℤ) (l : List ℤ) → follow steps parent stops listed id ≡ Listed l
      → Begins l (follow steps other stopsToo listed id)
  unfolding follow
  follow_fewer f zero listed id l e = absurd (let z : ◌≡◌ {A = ℕ} 0 1 = cc in omega arith)
  follow_fewer f (suc steps) listed id l e = go (parent id) refl (stops listed id) refl (is_in listed id) refl (λ next. follow_fewer f steps (listed ++ (id ∷ [])) next l) e
    where
      first_on : ℤ → Walk
      first_on next = follow steps parent stops (listed ++ (id ∷ [])) next

      second : Walk
      second = follow (suc steps) other stopsToo listed id

      -- both end here
      both_end : (is_some (other id) ≡ true → stopsToo listed id ≡ true) → Listed listed ≡ Listed l → Begins l second
      both_end h e = record {
        listed = listed;
        rest = [];
        is = follow_ends other stopsToo steps listed id h;
        whole = (let s : l ≡ listed = cc in s ∙ sym (append-nil listed));
        ends = λ z zs q. absurd (let z : ◌≡◌ {A = ℕ} 0 1 = cc in omega arith);
      }

      -- the second alone
      second_ends : (next : ℤ) → first_on next ≡ Listed l → Halts listed id → Begins l second
      second_ends next e k =
          let g : Found parent stops (listed ++ (id ∷ [])) next l = follow_found parent stops steps (listed ++ (id ∷ [])) next l e in
          record {
            listed = listed;
            rest = id ∷ g.passed;
            is = follow_ends other stopsToo steps listed id k.ended;
            whole = g.is ∙ append_assoc listed (id ∷ []) g.passed;
            ends = λ z zs q. let s : id ≡ z = cc in subst (Halts listed) s k;
          }

      go : (o : Option ℤ) → parent id ≡ o → (s : Bool) → stops listed id ≡ s → (t : Bool) → is_in listed id ≡ t
          → ((next : ℤ) → first_on next ≡ Listed l → Begins l (follow steps other stopsToo (listed ++ (id ∷ [])) next))
          → elim o [ none ↦ Listed listed | some next ↦ cond s (Listed listed) (cond t Twice (first_on next)) ] ≡ Listed l → Begins l second
      go none p s q t r ih e = both_end (λ h. absurd (true≢false (sym h ∙ ap is_some (f.same id h ∙ p)))) e
      go (some next) p true q t r ih e = both_end (λ h. f.stopped listed id h q) e
      go (some next) p false q true r ih e = absurd (let z : ◌≡◌ {A = ℕ} 0 1 = cc in omega arith)
      go (some next) p false q false r ih e =
          cases (is_some (other id))
          (λ h. cases (stopsToo listed id)
          (λ s. second_ends next e (record { held = rw p; passed = q; ended = λ h. s }))
          (λ s. rw (follow, f.same id h ∙ p, s, r) (ih next e)))
          (λ n. second_ends next e (record { held = rw p; passed = q; ended = λ h. absurd (true≢false (sym h ∙ n)) }))

-- the same walk, where all that it lists is held alike and it stops alike at what is held
pub follow_alike : (parent other : ℤ → Option ℤ) (stops stopsToo : List ℤ → ℤ → Bool) → ((z : ℤ) → is_some (other z) ≡ true → other z ≡ parent z)
    → ((listed : List ℤ) (z : ℤ) → is_some (other z) ≡ true → stopsToo listed z ≡ stops listed z) → (steps : ℕ) (listed : List ℤ) (id : ℤ) (l : List ℤ) → follow steps parent stops listed id ≡ Listed l
    → ((z : ℤ) → is_in l z ≡ true → other z ≡ parent z) → follow steps other stopsToo listed id ≡ Listed l
follow_alike parent other stops stopsToo same alike steps listed id l e here = by_rest b.rest refl
  where
    b : Begins parent other stops stopsToo l (follow steps other stopsToo listed id)
    b = follow_fewer parent other stops stopsToo (record { same = same; stopped = λ listed z h s. alike listed z h ∙ s }) steps listed id l e

    by_rest : (rest : List ℤ) → b.rest ≡ rest → follow steps other stopsToo listed id ≡ Listed l
    by_rest [] q = b.is ∙ ap Listed (sym (b.whole ∙ ap (λ (x : List ℤ). b.listed ++ x) q ∙ append-nil b.listed))
    by_rest (z ∷ zs) q =
        let k : Halts parent other stops stopsToo b.listed z = b.ends z zs q in
        let z-in : is_in l z ≡ true = rw (b.whole ∙ ap (λ (x : List ℤ). b.listed ++ x) q, any_append (eq_z z) b.listed (z ∷ zs), numbers_told.itself z) (or-true (is_in b.listed z)) in
        let held : is_some (other z) ≡ true = rw (here z z-in) k.held in
        absurd (true≢false (sym (k.ended held) ∙ alike b.listed z held ∙ k.passed))

-- ---- fewer snapshots

-- of a table by number without some of its numbers: one that stays is found as it was, and the others are not
first_left : {A : Type 0} (key : A → ℤ) (q : ℤ → Bool) (l : List A) (k : ℤ) → first (λ x. eq_z (key x) k) (keep (λ x. q (key x)) l) ≡ cond (q k) (first (λ x. eq_z (key x) k) l) none
first_left key q [] k = by_test (λ (o : Option _). none ≡ o) (q k) (λ e. refl) (λ e. refl)
first_left key q (x ∷ l) k =
    cases (eq_z (key x) k)
    (λ t. let s : key x ≡ k = numbers_told.equal (key x) k t in
    rw (ap q s) (cases (q k) (λ u. rw (u, t)) (λ u. rw (u, first_left key q l k, u))))
    (λ f. cases (q (key x)) (λ u. rw (u, f) (first_left key q l k)) (λ u. rw (u, f) (first_left key q l k)))

-- what a ref keeps is a list where its walk meets no snapshot twice
pub retained_lists : (p : Policy) (l : List Snapshot) (r : Reference) → is_twice (retained p l r) ≡ false → retained p l r ≡ Listed (listed_ids (retained p l r))
unfolding retained
retained_lists p l r n =
    cases (eqb r.kind branch)
    (λ t. rw t (go (follow (suc snapshot_room) (parent_in l) (is_past p l r) [] r.snapshot) (follow_grows (parent_in l) (is_past p l r) (suc snapshot_room) [] r.snapshot) (rw t at n)))
    (λ f. rw f)
  where
    go : (w : Walk) → Onward [] w → is_twice w ≡ false → w ≡ Listed (listed_ids w)
    go w (Further more e) n = rw e
    go w (Cyclic e) n = absurd (true≢false (sym (ap is_twice e) ∙ n))

-- where the snapshots are few enough, what one reaches is what the walk lists that a repeat ends
reach_lists : (l : List Snapshot) → length l ≤ snapshot_room → (start : ℤ) → follow (suc snapshot_room) (parent_in l) is_in [] start ≡ Listed (reach l start)
unfolding reach
reach_lists l few start = go (follow_grows (parent_in l) is_in (suc snapshot_room) [] start)
  where
    walk : Walk
    walk = follow (suc snapshot_room) (parent_in l) is_in [] start

    go : Onward [] walk → walk ≡ Listed (listed_ids walk)
    go (Further more e) = rw e
    go (Cyclic e) =
        cases (is_some (parent_in l start))
        (λ h. absurd (true≢false (sym (reach_start l few start (sym (parent_held l start) ∙ h)) ∙ ap (λ (w : Walk). is_in (listed_ids w) start) e)))
        (λ n. absurd (let z : ◌≡◌ {A = ℕ} 0 1 = cc (follow_ends (parent_in l) is_in snapshot_room [] start (λ h. absurd (true≢false (sym h ∙ n)))) in omega arith))

module _ (q : ℤ → Bool) (l : List Snapshot) where
  -- those of a table whose ids pass the test
  abbrev pub left : List Snapshot
  left = keep (λ (s : Snapshot). q s.id) l

  -- a snapshot that is left has the record that it had, and any other has none
  left_record : (id : ℤ) → record_of left id ≡ cond (q id) (record_of l id) none
  left_record id = first_left (λ (s : Snapshot). s.id) q l id

  pub left_alike : (id : ℤ) → q id ≡ true → record_of left id ≡ record_of l id
  left_alike id t = left_record id ∙ rw t

  left_parent : (id : ℤ) → q id ≡ true → parent_in left id ≡ parent_in l id
  left_parent id t = parent_record left id ∙ ap parent_field (left_alike id t) ∙ sym (parent_record l id)

  -- so what is held then is left
  pub left_held : (id : ℤ) → is_some (parent_in left id) ≡ true → q id ≡ true
  left_held id h =
      cases (q id)
      (λ t. t)
      (λ f. let gone : record_of left id ≡ none = left_record id ∙ rw f in
      absurd (true≢false (sym h ∙ ap is_some (parent_record left id ∙ ap parent_field gone))))

  -- what is older then was older
  pub left_older : (p : Policy) (limit id : ℤ) → is_older p left limit id ≡ q id && is_older p l limit id
  left_older p limit id = rw (left_record id, time_of) (cases (q id) (λ t. rw t) (λ f. rw f))

  -- a walk over them is a beginning of what it was
  pub left_fewer : (stops : List ℤ → ℤ → Bool) → Fewer (parent_in l) (parent_in left) stops stops
  left_fewer stops = record { same = λ z h. left_parent z (left_held z h); stopped = λ listed z h s. s }

  -- a ref keeps then what it kept, where all of that is left
  left_listed : (p : Policy) (r : Reference) (ids : List ℤ) → retained p l r ≡ Listed ids → ((z : ℤ) → is_in ids z ≡ true → q z ≡ true) → retained p left r ≡ Listed ids
  unfolding retained
  left_listed p r ids e h =
      cases (eqb r.kind branch)
      (λ t. rw t (follow_alike (parent_in l) (parent_in left) (is_past p l r) (is_past p left r) (λ z k. left_parent z (left_held z k))
      (λ listed z k. ap (λ (b : Bool). le_z (count_of p r) (pos (length listed)) && b) (left_older p (age_of p r) z ∙ rw (left_held z k)))
      (suc snapshot_room) [] r.snapshot ids (rw t at e) (λ z k. left_parent z (h z k))))
      (λ f. rw f (rw f at e))

  pub left_retained : (p : Policy) (r : Reference) → is_twice (retained p l r) ≡ false → ((z : ℤ) → is_in (listed_ids (retained p l r)) z ≡ true → q z ≡ true) → retained p left r ≡ retained p l r
  left_retained p r n h = left_listed p r (listed_ids (retained p l r)) (retained_lists p l r n) h ∙ sym (retained_lists p l r n)

  -- a snapshot reaches then what it reached
  pub left_reach : length l ≤ snapshot_room → (start : ℤ) → ((z : ℤ) → is_in (reach l start) z ≡ true → q z ≡ true) → reach left start ≡ reach l start
  unfolding reach
  left_reach few start h =
      ap listed_ids
      (follow_alike (parent_in l) (parent_in left) is_in is_in (λ z k. left_parent z (left_held z k)) (λ listed z k. refl) (suc snapshot_room) [] start (reach l start) (reach_lists l few start)
      (λ z k. left_parent z (h z k)))
