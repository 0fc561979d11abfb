-- A later clock drops and removes at least as much, and is refused no more: each age grows with the clock, so that a walk is told to stop no later.
use Prim.Native.Nat.{ℕ, zero, suc}
use mathlib.Core.Path.{◌≡◌, refl, sym, ap, ◌∙◌}
use mathlib.Core.Bool.{Bool, true, false, cond, not, ◌&&◌, false≢true, true≢false}
use mathlib.Core.List.{List, [], ◌∷◌, ◌++◌, Memᴰ}
use mathlib.Core.Option.{Option, none, some}
use lib.Dec.{eqb}
use lib.IntN.{ℤ, pos, ◌+ℤ◌}
use lib.ListN.{length}
use lib.Signed.{lt_z, le_z, le_z_yes, lt_z_yes, lt_z_no, <ℤ-≤ℤ_trans, clash_ℤ}
use borrow.Author.Tests.{not-true}
use borrow.Table.Steps.{cases}
use Rattle.rules.specs.Words.{eq_z, some_with, any, keep, is_in}
use Rattle.rules.specs.Replies.{accepted}
use Rattle.rules.specs.Capacities.{snapshot_room}
use Rattle.rules.specs.Names.{is_main}
use Rattle.rules.specs.Window.{is_before}
use Rattle.rules.specs.Register.{Snapshot, Reference, NamedRef, Metadata}
use Rattle.rules.specs.WellFormed.{branch}
use Rattle.rules.specs.Walk.{Walk, Listed, Twice, follow, listed_ids, snapshot_ids}
use Rattle.rules.specs.OfficeWalks.{Onward, Further, Cyclic}
use Rattle.rules.specs.RefUpdates.{time_of}
use Rattle.rules.specs.Others.{is_others_ref, is_needed}
use Rattle.rules.proofs.Checks.{both, and_left, and_right, or_left, or_right, by_either}
use Rattle.rules.proofs.Tables.{all_kept}
use Rattle.rules.proofs.Replay.Lists.{any_append}
use Rattle.rules.proofs.History.Lists.{all_in, found_any, any_found, in_keep}
use Rattle.rules.proofs.Offices.Follow.{parent_in, follow_grows}
use Rattle.retention.specs.Retention.{Policy, is_older, count_of, age_of, ref_age_of, is_past, goes, dropped_refs, remaining_refs, own_refs, retained, is_twice, is_cyclic, is_retained, going_ids}
use Rattle.retention.specs.Expiry.{expiry_checks, expiry}
use Rattle.retention.proofs.Stay.{Expires, expiry_accepted, fails, in_kept, none_in}

-- ---- walks that are told to stop sooner

-- one walk lists a beginning of what another lists, unless that one meets a snapshot twice; it does so itself only if that one does
pub data Shorter (w w' : Walk) : Type 0 where
  Begins : (ids : List ℤ) → w ≡ Listed ids → Onward ids w' → Shorter w w'
  BothTwice : w ≡ Twice → w' ≡ Twice → Shorter w w'

module _ (parent : ℤ → Option ℤ) (stops sooner : List ℤ → ℤ → Bool) (implies : (listed : List ℤ) (id : ℤ) → stops listed id ≡ true → sooner listed id ≡ true) where
  -- where one is told to stop the other is, if it came so far
  pub stops_sooner : (steps : ℕ) (listed : List ℤ) (id : ℤ) → Shorter (follow steps parent sooner listed id) (follow steps parent stops listed id)
  unfolding follow
  stops_sooner zero listed id = BothTwice refl refl
  stops_sooner (suc steps) listed id =
      go (parent id) (stops listed id) (sooner listed id) (is_in listed id) (implies listed id) (stops_sooner steps (listed ++ (id ∷ []))) (follow_grows parent stops (suc steps) listed id)
    where
      step : (ℤ → Walk) → Bool → Bool → Option ℤ → Walk
      step on s t o = elim o [ none ↦ Listed listed | some next ↦ cond s (Listed listed) (cond t Twice (on next)) ]

      on : (List ℤ → ℤ → Bool) → ℤ → Walk
      on test = follow steps parent test (listed ++ (id ∷ []))

      go : (o : Option ℤ) (s s' t : Bool) → (s ≡ true → s' ≡ true) → ((next : ℤ) → Shorter (on sooner next) (on stops next)) → Onward listed (step (on stops) s t o) → Shorter (step (on sooner) s' t o) (step (on stops) s t o)
      go none s s' t h ih g = Begins listed refl g
      go (some next) s true t h ih g = Begins listed refl g
      go (some next) true false t h ih g = absurd (false≢true (h refl))
      go (some next) false false true h ih g = BothTwice refl refl
      go (some next) false false false h ih g = ih next

-- ---- a test that holds for more keeps more

keep_more : {A : Type 0} (p q : A → Bool) → ((a : A) → p a ≡ true → q a ≡ true) → (l : List A) {a : A} → Memᴰ a (keep p l) → Memᴰ a (keep q l)
keep_more p q f l {a} k = in_kept q l (in_keep p l k) (f a (all_in p (keep p l) (all_kept p l) k))

-- ---- a later clock

-- a time before one clock is before a later one
before_later : (a b c : ℤ) → lt_z a b ≡ true → le_z b c ≡ true → lt_z a c ≡ true
before_later a b c h k = cases (lt_z a c) (λ t. t) (λ f. clash_ℤ (<ℤ-≤ℤ_trans (lt_z_yes {a = a} {b = b} (rw h tt)) (le_z_yes {a = b} {b = c} (rw k tt))) (lt_z_no {a = a} {b = c} (rw f tt)))

-- the same policy by another clock
abbrev pub with_clock : ℤ → Policy → Policy
with_clock clock p = record { clock = clock; min_snapshots = p.min_snapshots; max_snapshot_age = p.max_snapshot_age; max_ref_age = p.max_ref_age; office = p.office }

module _ (p : Policy) (clock : ℤ) (later : le_z p.clock clock ≡ true) where
  abbrev p' : Policy
  p' = with_clock clock p

  module _ (l : List Snapshot) where
    -- what is older than a limit is so later
    older_later : (limit id : ℤ) → is_older p l limit id ≡ true → is_older p' l limit id ≡ true
    unfolding is_before
    older_later limit id h = go (time_of id l) h
      where
        go : (o : Option ℤ) → some_with (λ time. is_before limit time p.clock) o ≡ true → some_with (λ time. is_before limit time clock) o ≡ true
        go none e = e
        go (some time) e = before_later (time +ℤ limit) p.clock clock e later

    -- a ref that goes goes by a later clock
    pub goes_later : (r : NamedRef) → goes p l r ≡ true → goes p' l r ≡ true
    unfolding goes
    goes_later r h =
        let own : Bool = not (is_main r.name) && not (is_others_ref p.office r) in
        let limit : ℤ = ref_age_of p r.reference in
        let id : ℤ = r.reference.snapshot in
        both (and_left own (is_older p l limit id) h) (older_later limit id (and_right own (is_older p l limit id) h))

    -- a snapshot that is past both limits is so later, and the walk stops there
    past_later : (r : Reference) (listed : List ℤ) (id : ℤ) → is_past p l r listed id ≡ true → is_past p' l r listed id ≡ true
    past_later r listed id h =
        let counted : Bool = le_z (count_of p r) (pos (length listed)) in
        both (and_left counted (is_older p l (age_of p r) id) h) (older_later (age_of p r) id (and_right counted (is_older p l (age_of p r) id) h))

    pub retained_later : (r : Reference) → Shorter (retained p' l r) (retained p l r)
    unfolding retained
    retained_later r =
        cases (eqb r.kind branch)
        (λ b. rw b (stops_sooner (parent_in l) (is_past p l r) (is_past p' l r) (past_later r) (suc snapshot_room) [] r.snapshot))
        (λ t. rw t (Begins (r.snapshot ∷ []) refl (Further [] refl)))

  module _ (m : Metadata) where
    -- a ref of the office's own that stays by the later clock stays
    own_earlier : {r : NamedRef} → Memᴰ r (own_refs p' m) → Memᴰ r (own_refs p m)
    own_earlier {r} k =
        let own : NamedRef → Bool = λ x. not (is_others_ref p.office x) in
        let stays : Policy → NamedRef → Bool = λ policy x. not (goes policy m.snapshots x) in
        in_kept own (remaining_refs p m)
        (keep_more (stays p') (stays p) (λ x h. ap not (fails (goes p m.snapshots x) (goes_later m.snapshots x) (not-true (goes p' m.snapshots x) h))) m.refs (in_keep own (remaining_refs p' m) k))
        (all_in own (own_refs p' m) (all_kept own (remaining_refs p' m)) k)

    -- a cycle that is met by the later clock is met
    cyclic_earlier : is_cyclic p' m ≡ true → is_cyclic p m ≡ true
    cyclic_earlier h =
        let twice : Policy → NamedRef → Bool = λ policy x. is_twice (retained policy m.snapshots x.reference) in
        let k = any_found (twice p') (own_refs p' m) h in
        found_any (twice p) (own_refs p m) (own_earlier k.1) (go (retained_later m.snapshots k.0.reference) k.2)
      where
        go : {w w' : Walk} → Shorter w w' → is_twice w ≡ true → is_twice w' ≡ true
        go (Begins ids e o) t = absurd (false≢true (sym (ap is_twice e) ∙ t))
        go (BothTwice e f) t = ap is_twice f

    -- what is retained by the later clock is retained, where no cycle is met
    retained_earlier : is_cyclic p m ≡ false → (id : ℤ) → is_retained p' m id ≡ true → is_retained p m id ≡ true
    unfolding is_retained
    retained_earlier n id =
        let lists : Policy → NamedRef → Bool = λ policy x. is_in (listed_ids (retained policy m.snapshots x.reference)) id in
        by_either (any (lists p') (own_refs p' m)) (is_needed p.office m id)
        (λ h. let k = any_found (lists p') (own_refs p' m) h in
        let here : Memᴰ k.0 (own_refs p m) = own_earlier k.1 in
        or_left (is_needed p.office m id) (found_any (lists p) (own_refs p m) here (go (retained_later m.snapshots k.0.reference) (none_in _ (own_refs p m) n here) k.2)))
        (or_right (any (lists p) (own_refs p m)))
      where
        onward : {ids : List ℤ} {w' : Walk} → Onward ids w' → is_twice w' ≡ false → is_in ids id ≡ true → is_in (listed_ids w') id ≡ true
        onward {ids} (Further more e) f t = rw (e, any_append (eq_z id) ids more) (or_left (is_in more id) t)
        onward (Cyclic e) f t = absurd (true≢false (sym (ap is_twice e) ∙ f))

        go : {w w' : Walk} → Shorter w w' → is_twice w' ≡ false → is_in (listed_ids w) id ≡ true → is_in (listed_ids w') id ≡ true
        go (Begins ids e o) f t = onward o f (rw e at t)
        go (BothTwice e g) f t = absurd (true≢false (sym (ap is_twice g) ∙ f))

    -- ---- the list

    -- every ref that is dropped is dropped by the later clock
    pub later_drops : {r : NamedRef} → Memᴰ r (dropped_refs p m) → Memᴰ r (dropped_refs p' m)
    later_drops = keep_more (goes p m.snapshots) (goes p' m.snapshots) (goes_later m.snapshots) m.refs

    module _ (e : (expiry p m).number ≡ accepted) where
      acyclic : is_cyclic p m ≡ false
      acyclic = (expiry_accepted p m e).acyclic

      -- and every snapshot that is removed is removed
      pub later_removes : {id : ℤ} → Memᴰ id (going_ids p m) → Memᴰ id (going_ids p' m)
      later_removes =
          keep_more (λ id. not (is_retained p m id)) (λ id. not (is_retained p' m id))
          (λ id h. ap not (fails (is_retained p' m id) (retained_earlier acyclic id) (not-true (is_retained p m id) h))) (snapshot_ids m.snapshots)

      -- and what is accepted is accepted
      pub later_accepted : (expiry p' m).number ≡ accepted
      unfolding expiry expiry_checks
      later_accepted =
          let k : Expires p m = expiry_accepted p m e in
          rw (k.formed, k.office, k.policy, fails (is_cyclic p' m) cyclic_earlier acyclic)
