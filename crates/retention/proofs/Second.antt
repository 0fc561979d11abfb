-- A second list is empty: where the refs and the snapshots that go are gone, each own ref keeps what it kept, the other office's refs reach what they reached,
-- and so nothing more goes.
use Prim.Native.Nat.{ℕ}
use native.Mathlib.Omega.{arith}
use mathlib.Core.Path.{◌≡◌, refl, sym, ap, ap₂, ◌∙◌, subst}
use mathlib.Core.Bool.{Bool, true, false, not, ◌&&◌, ◌||◌, and-false}
use mathlib.Core.List.{List, [], ◌∷◌, Memᴰ}
use lib.Dec.{eqb}
use lib.IntN.{ℤ}
use lib.ListN.{length}
use borrow.Author.Tests.{not-true}
use borrow.Table.Steps.{cases}
use Rattle.rules.specs.Words.{is_some, all, any, keep, is_in, first_of}
use Rattle.rules.specs.Replies.{accepted}
use Rattle.rules.specs.Register.{Snapshot, NamedRef, FileEntry, Metadata, Update, Terms, Outcome}
use Rattle.rules.specs.Register.Outcome.{Refused, Accepted}
use Rattle.rules.specs.WellFormed.{has_snapshot, holds_snapshot, metadata_formed}
use Rattle.rules.specs.Walk.{Walk, snapshot_ids, listed_ids, reach}
use Rattle.rules.specs.Others.{is_second, is_others_ref, others_refs, is_logged, others_reach, is_needed}
use Rattle.rules.specs.Close.{expired}
use Rattle.rules.specs.Run.{run}
use Rattle.rules.specs.OfficeWalks.{HeldAlike}
use Rattle.rules.proofs.Checks.{by_test, or_left, or_right}
use Rattle.rules.proofs.Tables.{all_head, all_tail, all_kept, all_then, all_read, keep_among, first_any}
use Rattle.rules.proofs.Sound.Metadata.{formed_sound}
use Rattle.rules.proofs.Sound.Run.{accepted_formed}
use Rattle.rules.proofs.Replay.Lists.{keep_all}
use Rattle.rules.proofs.History.Lists.{found_any}
use Rattle.rules.proofs.Offices.Follow.{parent_held}
use Rattle.rules.proofs.Offices.Refs.{snapshots_few}
use Rattle.rules.proofs.Offices.Reach.{record_of, held_alike}
use Rattle.retention.specs.Retention.{Policy, ref_age_of, goes, dropped_refs, remaining_refs, own_refs, retained, is_twice, is_retained, remaining_snapshots, going_ids}
use Rattle.retention.specs.Expiry.{expiring_updates, expiry_checks, expiry, Expiry}
use Rattle.retention.specs.Outcome.{remaining, remaining_log, list_start_checks, list_close_checks, list_outcome}
use Rattle.retention.proofs.Run.{expiry_run}
use Rattle.retention.proofs.Stay.{Expires, expiry_accepted, none_in}
use Rattle.retention.proofs.Walks.{left, left_alike, left_held, left_older, left_retained, left_reach}

-- ---- lists

module _ {A : Type 0} where
  -- two tests that agree on what stands in a list
  any_alike : (p q : A → Bool) (l : List A) → ((a : A) → Memᴰ a l → p a ≡ q a) → any p l ≡ any q l
  any_alike p q [] h = refl
  any_alike p q (x ∷ l) h = ap₂ ◌||◌ (h x (Memᴰ.head refl)) (any_alike p q l (λ a k. h a (Memᴰ.tail k)))

  -- nothing is kept where all fail the test
  keep_none : (p : A → Bool) (l : List A) → all (λ x. not (p x)) l ≡ true → keep p l ≡ []
  keep_none p [] h = refl
  keep_none p (x ∷ l) h = rw (not-true (p x) (all_head (λ y. not (p y)) x l h)) (keep_none p l (all_tail (λ y. not (p y)) x l h))

-- ---- what is kept, where only that is left

-- a ref that stays stays again, whichever snapshots are left
left_stays : (p : Policy) (q : ℤ → Bool) (l : List Snapshot) (r : NamedRef) → not (goes p l r) ≡ true → not (goes p (left q l) r) ≡ true
unfolding goes
left_stays p q l r h =
    let limit : ℤ = ref_age_of p r.reference in
    let id : ℤ = r.reference.snapshot in
    rw (left_older q l p limit id) (cases (q id) (λ t. rw t h) (λ f. rw (f, and-false)))

-- the other office's refs always stay
others_stay : (p : Policy) (l : List Snapshot) (r : NamedRef) → is_others_ref p.office r ≡ true → not (goes p l r) ≡ true
unfolding goes
others_stay p l r h = rw (h, and-false)

-- a snapshot that is held then has the record that it had
pub kept_alike : (p : Policy) (m : Metadata) (id : ℤ) → holds_snapshot (remaining_snapshots p m) id ≡ true → HeldAlike m.snapshots (remaining_snapshots p m) id
kept_alike p m id h =
    let rest : List Snapshot = remaining_snapshots p m in
    let same : record_of rest id ≡ record_of m.snapshots id = left_alike (is_retained p m) m.snapshots id (left_held (is_retained p m) m.snapshots id (parent_held rest id ∙ h)) in
    held_alike m.snapshots rest id (sym (ap is_some same ∙ first_any (has_snapshot id) m.snapshots) ∙ first_any (has_snapshot id) rest ∙ h) same

module _ (p : Policy) (m : Metadata) (k : Expires p m) where
  -- what an own ref keeps is kept
  own_kept : (r : NamedRef) → Memᴰ r (own_refs p m) → (z : ℤ) → is_in (listed_ids (retained p m.snapshots r.reference)) z ≡ true → is_retained p m z ≡ true
  unfolding is_retained
  own_kept r i z h =
      or_left (is_needed p.office m z) (found_any (λ (x : NamedRef). is_in (listed_ids (retained p m.snapshots x.reference)) z) (own_refs p m) i h)

  -- and so is what the other office's refs reach
  others_kept : (r : NamedRef) → Memᴰ r (others_refs p.office m.refs) → (z : ℤ) → is_in (reach m.snapshots r.reference.snapshot) z ≡ true → is_retained p m z ≡ true
  unfolding is_retained
  others_kept r i z h =
      or_right (any (λ (x : NamedRef). is_in (listed_ids (retained p m.snapshots x.reference)) z) (own_refs p m))
      (or_left (is_second p.office && is_logged m z) (found_any (λ (x : NamedRef). is_in (reach m.snapshots x.reference.snapshot) z) (others_refs p.office m.refs) i h))

  -- so over what is left an own ref keeps what it kept,
  not_twice : (r : NamedRef) → Memᴰ r (own_refs p m) → is_twice (retained p m.snapshots r.reference) ≡ false
  not_twice r i = none_in (λ (x : NamedRef). is_twice (retained p m.snapshots x.reference)) (own_refs p m) k.acyclic i

  pub retained_again : (r : NamedRef) → Memᴰ r (own_refs p m) → retained p (remaining_snapshots p m) r.reference ≡ retained p m.snapshots r.reference
  retained_again r i = left_retained (is_retained p m) m.snapshots p r.reference (not_twice r i) (own_kept r i)

  -- and the other office's refs reach what they reached
  pub reach_again : (r : NamedRef) → Memᴰ r (others_refs p.office m.refs) → reach (remaining_snapshots p m) r.reference.snapshot ≡ reach m.snapshots r.reference.snapshot
  reach_again r i = left_reach (is_retained p m) m.snapshots (snapshots_few m (formed_sound m k.formed)) r.reference.snapshot (others_kept r i)

-- ---- the metadata that is left

-- the refs and the snapshots that go are gone, and the snapshot log is what the list leaves of it
pub record Left (p : Policy) (m m' : Metadata) : Type 0 where
  pub snapshots : m'.snapshots ≡ remaining_snapshots p m
  pub refs : m'.refs ≡ remaining_refs p m
  pub snapshot_log : m'.snapshot_log ≡ remaining_log p m

-- no updates, and no refusal
abbrev pub empty_list : Expiry
empty_list = record { number = accepted; updates = [] }

module _ (p : Policy) (m : Metadata) (k : Expires p m) (m' : Metadata) (s : Left p m m') where
  -- every ref that stayed stays
  all_stay : all (λ x. not (goes p m'.snapshots x)) m'.refs ≡ true
  all_stay =
      rw (s.snapshots, s.refs) (all_then (λ x. not (goes p m.snapshots x)) (λ x. not (goes p (remaining_snapshots p m) x)) (left_stays p (is_retained p m) m.snapshots) (remaining_refs p m)
      (all_kept (λ x. not (goes p m.snapshots x)) m.refs))

  refs_again : remaining_refs p m' ≡ remaining_refs p m
  refs_again = keep_all (λ x. not (goes p m'.snapshots x)) m'.refs all_stay ∙ s.refs

  none_dropped : dropped_refs p m' ≡ []
  none_dropped = keep_none (goes p m'.snapshots) m'.refs all_stay

  own_again : own_refs p m' ≡ own_refs p m
  own_again = ap (keep (λ x. not (is_others_ref p.office x))) refs_again

  -- what an own ref keeps, asked in any way
  own_alike : (t : Walk → Bool) → any (λ (x : NamedRef). t (retained p m'.snapshots x.reference)) (own_refs p m') ≡ any (λ (x : NamedRef). t (retained p m.snapshots x.reference)) (own_refs p m)
  own_alike t = rw (own_again, s.snapshots) (any_alike _ _ (own_refs p m) (λ x i. ap t (retained_again p m k x i)))

  others_again : others_refs p.office m'.refs ≡ others_refs p.office m.refs
  others_again =
      rw s.refs (keep_among (is_others_ref p.office) (λ x. not (goes p m.snapshots x)) m.refs
      (all_then (is_others_ref p.office) (λ x. not (goes p m.snapshots x)) (others_stay p m.snapshots) (others_refs p.office m.refs) (all_kept (is_others_ref p.office) m.refs)))

  reach_alike : (id : ℤ) → others_reach p.office m' id ≡ others_reach p.office m id
  reach_alike id = rw (others_again, s.snapshots) (any_alike _ _ (others_refs p.office m.refs) (λ x i. ap (λ (ids : List ℤ). is_in ids id) (reach_again p m k x i)))

  -- the list of the second office leaves the snapshot log
  log_alike : (id : ℤ) → is_second p.office && is_logged m' id ≡ is_second p.office && is_logged m id
  log_alike id = rw s.snapshot_log (cases (is_second p.office) (λ t. rw t) (λ f. rw f))

  -- so the same snapshots are to stay,
  retained_alike : (id : ℤ) → is_retained p m' id ≡ is_retained p m id
  unfolding is_retained
  retained_alike id = ap₂ ◌||◌ (own_alike (λ w. is_in (listed_ids w) id)) (ap₂ ◌||◌ (reach_alike id) (log_alike id))

  -- and no other is held
  none_going : going_ids p m' ≡ []
  none_going =
      let stay : Snapshot → Bool = λ x. is_retained p m x.id in
      ap₂ (λ (q : ℤ → Bool) (l : List Snapshot). keep (λ id. not (q id)) (snapshot_ids l)) (λ i id. retained_alike id i) s.snapshots
      ∙ keep_none (λ id. not (is_retained p m id)) (snapshot_ids (remaining_snapshots p m))
      (all_read (λ (x : Snapshot). x.id) (λ id. not (not (is_retained p m id))) (remaining_snapshots p m)
      ∙ all_then stay (λ x. not (not (stay x))) (λ x h. rw h) (remaining_snapshots p m) (all_kept stay m.snapshots))

  pub second_empty : metadata_formed m' ≡ true → expiry p m' ≡ empty_list
  unfolding expiry expiry_checks expiring_updates
  second_empty f = rw (f, k.office, k.policy, own_alike is_twice ∙ k.acyclic, none_dropped, none_going)

-- ---- after a run of the list

-- an outcome that is accepted leaves just what is to stay
abbrev Leaves : Policy → Metadata → Outcome → Type 0
Leaves p m o = (m' : Metadata) (log : List Update) (expired : List FileEntry) → o ≡ Accepted m' log expired → Left p m m'

refusal_leaves : (p : Policy) (m : Metadata) (number place : ℕ) → Leaves p m (Refused number place)
refusal_leaves p m number place m' log expired e = absurd (let z : ◌≡◌ {A = ℕ} 0 1 = cc in omega arith)

accepted_leaves : (p : Policy) (m x : Metadata) (us : List Update) (gone : List FileEntry) → Left p m x → Leaves p m (Accepted x us gone)
accepted_leaves p m x us gone k m' log expired e = let s : x ≡ m' = cc in subst (Left p m) s k

outcome_leaves : (terms : Terms) (p : Policy) (m : Metadata) → Leaves p m (list_outcome terms p m)
unfolding list_outcome remaining
outcome_leaves terms p m =
    by_test (Leaves p m) (eqb (first_of (list_start_checks terms)) accepted)
    (λ s. by_test (Leaves p m) (eqb (first_of (list_close_checks terms p m)) accepted)
    (λ c. accepted_leaves p m _ (expiring_updates p m) (expired terms m) (record { snapshots = refl; refs = refl; snapshot_log = refl }))
    (λ c. refusal_leaves p m (first_of (list_close_checks terms p m)) (length (expiring_updates p m))))
    (λ s. refusal_leaves p m (first_of (list_start_checks terms)) 0)

module _ (terms : Terms) (p : Policy) (m : Metadata) (a : (expiry p m).number ≡ accepted) (o : terms.office ≡ p.office)
    {m' : Metadata} {log : List Update} {expired : List FileEntry} (e : run terms m (expiry p m).updates ≡ Accepted m' log expired) where
  -- an accepted run of the list leaves just what is to stay,
  pub list_leaves : Left p m m'
  list_leaves = outcome_leaves terms p m m' log expired (sym (expiry_run terms p m a o) ∙ e)

  -- and from the metadata that it answers the same policy's list is empty and accepted
  pub second_list_empty : expiry p m' ≡ empty_list
  second_list_empty = second_empty p m (expiry_accepted p m a) m' list_leaves (accepted_formed terms m (expiry p m).updates m' log expired e)
