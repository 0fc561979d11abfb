-- What an accepted expiry says of its metadata and its policy, and that no ref which stays loses its snapshot: the first of a branch's walk is within the
-- count, a tag keeps what it names, and the other office's ref reaches it.
use Prim.Native.Nat.{ℕ, suc, ◌≤◌}
use native.Mathlib.Omega.{arith}
use mathlib.Core.Path.{◌≡◌, refl, sym, ap, ◌∙◌}
use mathlib.Core.Bool.{Bool, true, false, not, ◌&&◌, false≢true, true≢false}
use mathlib.Core.List.{List, [], ◌∷◌, Memᴰ}
use mathlib.Core.Logic.{⊎_elim}
use mathlib.Core.Option.{Option, none, some}
use lib.Dec.{eqb}
use lib.IntN.{ℤ, pos, negsuc}
use lib.Signed.{le_z, non_neg}
use borrow.Author.Tests.{eqb-true, leb-true, lt-leb, not-true, not-false}
use borrow.Table.Steps.{cases}
use Rattle.rules.specs.Words.{or_else, if_some, all, any, keep, is_in, first_of}
use Rattle.rules.specs.Replies.{accepted}
use Rattle.rules.specs.Capacities.{snapshot_room, ref_room}
use Rattle.rules.specs.Offices.{is_office}
use Rattle.rules.specs.Names.{is_main}
use Rattle.rules.specs.Register.{Snapshot, Reference, NamedRef, Metadata}
use Rattle.rules.specs.WellFormed.{at_least_one, branch, name_formed, kind_formed, retention_formed, reference_formed, owner_formed, ref_formed, ref_below, refs_formed, has_snapshot, holds_snapshot, points_in, refs_held, metadata_formed}
use Rattle.rules.specs.Walk.{Walk, follow, listed_ids, reach}
use Rattle.rules.specs.OfficeWalks.{Onward, Further, Cyclic}
use Rattle.rules.specs.Others.{is_second, is_others_ref, others_refs, is_logged, is_needed}
use Rattle.rules.proofs.Checks.{by_test, both, or_left, or_right, parts, passed}
use Rattle.rules.proofs.Orders.{numbers_told}
use Rattle.rules.proofs.Tables.{any_keep, table_parts_lem}
use Rattle.rules.proofs.Sound.Metadata.{formed_sound}
use Rattle.rules.proofs.History.Lists.{all_in, found_any, in_keep}
use Rattle.rules.proofs.Offices.Follow.{parent_in, parent_held, some_of, follow_grows, reach_start}
use Rattle.rules.proofs.Offices.Refs.{snapshots_few}
use Rattle.retention.specs.Retention.{Policy, is_older, ref_age_of, count_of, is_past, goes, remaining_refs, own_refs, retained, is_twice, is_cyclic, is_retained, remaining_snapshots}
use Rattle.retention.specs.Expiry.{expiring_updates, policy_formed, expiry_checks, expiry}

-- ---- an accepted expiry

-- what it says that an expiry is accepted: none of its checks failed, and its updates are those of the rule
pub record Expires (p : Policy) (m : Metadata) : Type 0 where
  pub formed : metadata_formed m ≡ true
  pub office : is_office p.office ≡ true
  pub policy : policy_formed p ≡ true
  pub acyclic : is_cyclic p m ≡ false
  pub updates : (expiry p m).updates ≡ expiring_updates p m

pub expiry_accepted : (p : Policy) (m : Metadata) → (expiry p m).number ≡ accepted → Expires p m
unfolding expiry expiry_checks
expiry_accepted p m e =
    let n : ℕ = first_of (expiry_checks p m) in
    cases (eqb n accepted)
    (λ t. let k = passed (expiry_checks p m) refl (eqb-true n accepted t) in
    record {
      formed = not-false (metadata_formed m) k.0;
      office = not-false (is_office p.office) k.1.0;
      policy = not-false (policy_formed p) k.1.1.0;
      acyclic = k.1.1.1.0;
      updates = rw t;
    })
    (λ f. absurd (false≢true (sym f ∙ ap (λ (x : ℕ). eqb x accepted) (rw f at e))))

-- ---- a ref that goes

-- it is not `main`, and it is the office's own
pub goes_parts : (p : Policy) (l : List Snapshot) (r : NamedRef) → goes p l r ≡ true → (is_main r.name ≡ false) × (is_others_ref p.office r ≡ false)
unfolding goes
goes_parts p l r h =
    let k = parts (not (is_main r.name)) (not (is_others_ref p.office r) ∷ is_older p l (ref_age_of p r.reference) r.reference.snapshot ∷ []) h in
    (not-true (is_main r.name) k.0, not-true (is_others_ref p.office r) k.1.0)

-- ---- tests

-- a test fails where something would follow from it that does not hold
pub fails : (a : Bool) {b : Bool} → (a ≡ true → b ≡ true) → b ≡ false → a ≡ false
fails true f e = sym (f refl) ∙ e
fails false f e = refl

-- ---- what stands in a list

module _ {A : Type 0} where
  -- a test that holds for each that stands in a list holds for all of it
  pub all_each : (p : A → Bool) (l : List A) → ((a : A) → Memᴰ a l → p a ≡ true) → all p l ≡ true
  all_each p [] f = refl
  all_each p (x ∷ l) f = both (f x (mathlib.Core.List.Memᴰ.head refl)) (all_each p l (λ a k. f a (mathlib.Core.List.Memᴰ.tail k)))

  -- one that stands in a list and passes the test is kept
  pub in_kept : (p : A → Bool) (l : List A) {a : A} → Memᴰ a l → p a ≡ true → Memᴰ a (keep p l)
  in_kept p [] k h = k
  in_kept p (x ∷ l) {a} k h =
      by_test (Memᴰ a) (p x)
      (λ e. ⊎_elim (λ q. mathlib.Core.List.Memᴰ.head q) (λ q. mathlib.Core.List.Memᴰ.tail (in_kept p l q h)) (mathlib.Core.List.Memᴰ.cases_cons k))
      (λ e. ⊎_elim (λ q. absurd (true≢false (sym h ∙ (rw (← q) at e)))) (λ q. in_kept p l q h) (mathlib.Core.List.Memᴰ.cases_cons k))

  -- where a test holds for none of a list it fails for each that stands there
  pub none_in : (p : A → Bool) (l : List A) {a : A} → any p l ≡ false → Memᴰ a l → p a ≡ false
  none_in p l {a} h k = fails (p a) (found_any p l k) h

-- ---- the snapshot of a ref is among what it keeps

-- a count is at least 1
count_formed : (p : Policy) (r : Reference) → policy_formed p ≡ true → reference_formed r ≡ true → at_least_one (count_of p r) ≡ true
count_formed p r h k =
    go r.min_snapshots
    (parts (if_some at_least_one r.min_snapshots) (if_some at_least_one r.max_snapshot_age ∷ if_some at_least_one r.max_ref_age ∷ [])
    (parts (non_neg r.snapshot) (kind_formed r ∷ retention_formed r ∷ []) k).1.1.0).0
  where
    go : (o : Option ℤ) → if_some at_least_one o ≡ true → at_least_one (or_else o p.min_snapshots) ≡ true
    go none q = (parts (at_least_one p.min_snapshots) (at_least_one p.max_snapshot_age ∷ at_least_one p.max_ref_age ∷ []) h).0
    go (some n) q = q

-- so it has room for the first
one_above_none : (n : ℤ) → at_least_one n ≡ true → le_z n (pos 0) ≡ false
one_above_none (pos n) h = let l : 1 ≤ n = leb-true 1 n h in lt-leb n 0 (omega arith)
one_above_none (negsuc n) h = absurd (false≢true h)

-- what began with an id and met none twice has that id
begun_has : (id : ℤ) (w : Walk) → Onward (id ∷ []) w → is_twice w ≡ false → is_in (listed_ids w) id ≡ true
begun_has id w (Further more e) n = rw e (or_left (is_in more id) (numbers_told.itself id))
begun_has id w (Cyclic e) n = absurd (true≢false (sym (ap is_twice e) ∙ n))

-- a walk from a held id that it is not told to stop at begins with that id
begins : (parent : ℤ → Option ℤ) (stops : List ℤ → ℤ → Bool) (steps : ℕ) (id next : ℤ) → parent id ≡ some next → stops [] id ≡ false → Onward (id ∷ []) (follow (suc steps) parent stops [] id)
unfolding follow
begins parent stops steps id next e n = rw (follow, e, n) (follow_grows parent stops steps (id ∷ []) next)

pub retained_start : (p : Policy) (l : List Snapshot) (r : Reference) → policy_formed p ≡ true → reference_formed r ≡ true → holds_snapshot l r.snapshot ≡ true → is_twice (retained p l r) ≡ false
    → is_in (listed_ids (retained p l r)) r.snapshot ≡ true
unfolding retained
retained_start p l r f g h n =
    let id : ℤ = r.snapshot in
    let k = some_of (parent_in l id) (parent_held l id ∙ h) in
    let within : is_past p l r [] id ≡ false = rw (one_above_none (count_of p r) (count_formed p r f g)) in
    cases (eqb r.kind branch)
    (λ b. rw b (begun_has id (follow (suc snapshot_room) (parent_in l) (is_past p l r) [] id) (begins (parent_in l) (is_past p l r) snapshot_room id k.0 k.1 within) (rw b at n)))
    (λ t. rw t (or_left false (numbers_told.itself id)))

-- ---- what every ref that stays keeps

module _ (p : Policy) (m : Metadata) (k : Expires p m) where
  -- every ref is well formed and points to a held snapshot
  pub ref_formed_lem : (r : NamedRef) → Memᴰ r m.refs → ref_formed r ≡ true
  unfolding refs_formed
  ref_formed_lem r i = all_in ref_formed m.refs (table_parts_lem ref_room ref_formed ref_below m.refs (formed_sound m k.formed).refs).1 i

  ref_held : (r : NamedRef) → Memᴰ r m.refs → points_in m.snapshots r ≡ true
  unfolding refs_held
  ref_held r i = all_in (points_in m.snapshots) m.refs (formed_sound m k.formed).refs_held i

  -- an own one keeps its snapshot
  own_keeps : (r : NamedRef) → Memᴰ r (remaining_refs p m) → is_others_ref p.office r ≡ false → is_retained p m r.reference.snapshot ≡ true
  unfolding is_retained
  own_keeps r i o =
      let id : ℤ = r.reference.snapshot in
      let within : Memᴰ r m.refs = in_keep (λ x. not (goes p m.snapshots x)) m.refs i in
      let own : Memᴰ r (own_refs p m) = in_kept (λ x. not (is_others_ref p.office x)) (remaining_refs p m) i (ap not o) in
      let f : reference_formed r.reference ≡ true = (parts (name_formed r.name) (reference_formed r.reference ∷ owner_formed r ∷ []) (ref_formed_lem r within)).1.0 in
      let n : is_twice (retained p m.snapshots r.reference) ≡ false = none_in (λ (x : NamedRef). is_twice (retained p m.snapshots x.reference)) (own_refs p m) k.acyclic own in
      or_left (is_needed p.office m id)
      (found_any (λ (x : NamedRef). is_in (listed_ids (retained p m.snapshots x.reference)) id) (own_refs p m) own
      (retained_start p m.snapshots r.reference k.policy f (ref_held r within) n))

  -- what the other office's ref names, that office needs
  other_keeps : (r : NamedRef) → Memᴰ r m.refs → is_others_ref p.office r ≡ true → is_retained p m r.reference.snapshot ≡ true
  unfolding is_retained
  other_keeps r i o =
      let id : ℤ = r.reference.snapshot in
      or_right (any (λ (x : NamedRef). is_in (listed_ids (retained p m.snapshots x.reference)) id) (own_refs p m))
      (or_left (is_second p.office && is_logged m id)
      (found_any (λ (x : NamedRef). is_in (reach m.snapshots x.reference.snapshot) id) (others_refs p.office m.refs)
      (in_kept (is_others_ref p.office) m.refs i o)
      (reach_start m.snapshots (snapshots_few m (formed_sound m k.formed)) id (ref_held r i))))

  pub ref_keeps : (r : NamedRef) → Memᴰ r (remaining_refs p m) → is_retained p m r.reference.snapshot ≡ true
  ref_keeps r i = cases (is_others_ref p.office r) (other_keeps r (in_keep (λ x. not (goes p m.snapshots x)) m.refs i)) (own_keeps r i)

  -- a held snapshot that is to stay stays
  pub stays_held : (id : ℤ) → holds_snapshot m.snapshots id ≡ true → is_retained p m id ≡ true → holds_snapshot (remaining_snapshots p m) id ≡ true
  stays_held id h q = any_keep (has_snapshot id) (λ (s : Snapshot). is_retained p m s.id) (λ s e. rw (numbers_told.equal s.id id e) q) m.snapshots h

  -- no ref that stays loses its snapshot
  pub all_keep_theirs : all (points_in (remaining_snapshots p m)) (remaining_refs p m) ≡ true
  all_keep_theirs =
      all_each (points_in (remaining_snapshots p m)) (remaining_refs p m)
      (λ r i. stays_held r.reference.snapshot (ref_held r (in_keep (λ x. not (goes p m.snapshots x)) m.refs i)) (ref_keeps r i))

pub refs_keep_theirs : (p : Policy) (m : Metadata) → (expiry p m).number ≡ accepted → all (points_in (remaining_snapshots p m)) (remaining_refs p m) ≡ true
refs_keep_theirs p m e = all_keep_theirs p m (expiry_accepted p m e)
