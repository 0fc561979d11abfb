-- What a removal takes of what the other office needs, asked of the refs and of the log: whether what a ref reaches is removed, and whether an entry's snapshot
-- is removed and held. All that a ref reaches is held.
use Prim.Native.Nat.{ℕ, ◌≤◌}
use mathlib.Core.Path.{◌≡◌, refl, sym, ap, ap₂, ◌∙◌}
use mathlib.Core.Bool.{Bool, true, false, ◌&&◌, ◌||◌, or-false}
use mathlib.Core.List.{List, [], ◌∷◌}
use borrow.Table.Steps.{cases}
use lib.IntN.{ℤ}
use lib.ListN.{length}
use Rattle.rules.specs.Words.{eq_z, any, keep, is_in}
use Rattle.rules.specs.Capacities.{snapshot_room}
use Rattle.rules.specs.Register.{Snapshot, NamedRef, LogEntry, Metadata}
use Rattle.rules.specs.Walk.{snapshot_ids, snapshot_parents, reach}
use Rattle.rules.specs.SnapshotUpdates.{held_snapshots}
use Rattle.rules.specs.Others.{is_second, is_others_ref, others_refs, others_reach, is_logged, is_needed}
use Rattle.rules.proofs.Checks.{or_left, or_right}
use Rattle.rules.proofs.Orders.{numbers_told}
use Rattle.rules.proofs.Tables.{any_none, any_or, any_turned}
use Rattle.rules.proofs.Replay.Keys.{held_in}
use Rattle.rules.proofs.Unlisted.{held}
use Rattle.rules.proofs.Offices.Follow.{parent_in, parent_held, some_of, reach_held}
use Rattle.search.proofs.Places.{eq_z_turned}
use Rattle.offices.specs.Reach.{reach_of, ref_reaches, entry_names}

-- ---- tests of any

any_with : {A : Type 0} (b : Bool) (p : A → Bool) (l : List A) → any (λ x. b && p x) l ≡ (b && any p l)
any_with true p l = refl
any_with false p l = any_none (λ x. false) (λ x. refl) l

any_of_kept : {A : Type 0} (p q : A → Bool) (l : List A) → any q (keep p l) ≡ any (λ x. p x && q x) l
any_of_kept p q [] = refl
any_of_kept p q (x ∷ l) = cases (p x) (λ t. rw (t, any_of_kept p q l)) (λ f. rw (f, any_of_kept p q l))

-- tests that agree on the numbers of a list
any_alike : (p q : ℤ → Bool) (l : List ℤ) → ((x : ℤ) → is_in l x ≡ true → p x ≡ q x) → any p l ≡ any q l
any_alike p q [] h = refl
any_alike p q (x ∷ l) h = ap₂ (λ (a b : Bool). a || b) (h x (or_left (is_in l x) (numbers_told.itself x))) (any_alike p q l (λ y k. h y (or_right (eq_z y x) k)))

-- two lists meet, asked from either
pub meet_turned : (l m : List ℤ) → any (is_in l) m ≡ any (is_in m) l
meet_turned l m = any_turned eq_z m l ∙ ap (λ (q : ℤ → Bool). any q l) (λ i x. any (λ y. eq_z_turned y x i) m)

-- ---- what is needed

module _ (removed : List ℤ) (snapshots : List Snapshot) where
  abbrev gone : List ℤ
  gone = held_snapshots removed snapshots

  -- what goes is removed and held
  gone_in : (id : ℤ) → is_in gone id ≡ (is_in removed id && is_in (snapshot_ids snapshots) id)
  gone_in = held_in (λ (s : Snapshot). s.id) removed snapshots

  module _ (few : length snapshots ≤ snapshot_room) (start : ℤ) where
    reach_listed : (id : ℤ) → is_in (reach snapshots start) id ≡ true → is_in (snapshot_ids snapshots) id ≡ true
    reach_listed id h =
        let k = some_of (parent_in snapshots id) (parent_held snapshots id ∙ reach_held snapshots few start id h) in
        held (snapshot_ids snapshots) (snapshot_parents snapshots) id k.1

    -- what is reached goes where it is removed
    reached_goes : any (is_in (reach snapshots start)) gone ≡ any (is_in removed) (reach_of (snapshot_ids snapshots) (snapshot_parents snapshots) start)
    unfolding reach reach_of
    reached_goes =
        meet_turned (reach snapshots start) gone
        ∙ any_alike (is_in gone) (is_in removed) (reach snapshots start) (λ id h. gone_in id ∙ rw (reach_listed id h) (and_true (is_in removed id)))
      where
        and_true : (t : Bool) → t && true ≡ t
        and_true true = refl
        and_true false = refl

module _ (office : ℕ) (m : Metadata) (few : length m.snapshots ≤ snapshot_room) (removed : List ℤ) where
  abbrev ids : List ℤ
  ids = snapshot_ids m.snapshots

  abbrev parents : List ℤ
  parents = snapshot_parents m.snapshots

  abbrev goes : List ℤ
  goes = held_snapshots removed m.snapshots

  refs_need : any (others_reach office m) goes ≡ any (ref_reaches office ids parents removed) m.refs
  refs_need =
      any_turned (λ (id : ℤ) (r : NamedRef). is_in (reach m.snapshots r.reference.snapshot) id) goes (others_refs office m.refs)
      ∙ ap (λ (q : NamedRef → Bool). any q (others_refs office m.refs)) (λ i r. reached_goes removed m.snapshots few r.reference.snapshot i)
      ∙ any_of_kept (is_others_ref office) _ m.refs

  log_needs : any (is_logged m) goes ≡ any (entry_names ids removed) m.snapshot_log
  log_needs =
      any_turned (λ (id : ℤ) (e : LogEntry). eq_z e.snapshot id) goes m.snapshot_log
      ∙ ap (λ (q : LogEntry → Bool). any q m.snapshot_log) (λ i e. gone_in removed m.snapshots e.snapshot i)

  needed_is : any (is_needed office m) goes ≡ (any (ref_reaches office ids parents removed) m.refs || (is_second office && any (entry_names ids removed) m.snapshot_log))
  needed_is =
      any_or (others_reach office m) (λ id. is_second office && is_logged m id) goes
      ∙ ap₂ (λ (a b : Bool). a || b) refs_need (any_with (is_second office) (is_logged m) goes ∙ ap (λ (b : Bool). is_second office && b) log_needs)

-- as it is asked of tables that show the metadata, with their ids and parents
module _ (office : ℕ) (m : Metadata) (removed : List ℤ) {refs : List NamedRef} {snapshots : List Snapshot} {log : List LogEntry} {ids parents : List ℤ}
    (named : refs ≡ m.refs) (shown : snapshots ≡ m.snapshots) (history : log ≡ m.snapshot_log)
    (few : length snapshots ≤ snapshot_room) (keys : ids ≡ snapshot_ids snapshots) (over : parents ≡ snapshot_parents snapshots) where
  told : (any (ref_reaches office ids parents removed) refs || (is_second office && any (entry_names ids removed) log)) ≡ any (is_needed office m) (held_snapshots removed m.snapshots)
  told = rw (keys, over, shown, named, history) (sym (needed_is office m (rw shown at few) removed))

  -- of the second office's removal
  pub needed_second : is_second office ≡ true → (any (ref_reaches office ids parents removed) refs || any (entry_names ids removed) log) ≡ any (is_needed office m) (held_snapshots removed m.snapshots)
  needed_second e = rw e at told

  -- of the first's
  pub needed_first : is_second office ≡ false → any (ref_reaches office ids parents removed) refs ≡ any (is_needed office m) (held_snapshots removed m.snapshots)
  needed_first e = sym (or-false (any (ref_reaches office ids parents removed) refs)) ∙ (rw e at told)
