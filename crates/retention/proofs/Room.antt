-- How many snapshots fit after an expiry: 64 less those that it keeps, and one more is 19.
use Prim.Native.Nat.{ℕ, suc, ◌+◌, ◌≤◌, ◌<◌}
use native.Mathlib.Nat.{zero-add}
use native.Mathlib.Omega.{arith}
use mathlib.Core.Path.{◌≡◌, refl, sym, ap, ◌∙◌, subst}
use mathlib.Core.Bool.{Bool, true, false, not, true≢false}
use mathlib.Core.List.{List, [], ◌∷◌, ◌++◌, map}
use lib.Dec.{eqb, leb}
use lib.ListN.{length, take}
use borrow.Author.Tests.{eqb-true, eqb-false, lt-leb, le-leb}
use borrow.Table.Steps.{cases}
use Rattle.rules.specs.Words.{any, keep, put, first_of, Check}
use Rattle.rules.specs.Replies.{accepted, update_not_formed, table_full, others_to_change}
use Rattle.rules.specs.Capacities.{snapshot_room}
use Rattle.rules.specs.Register.{Snapshot, FileEntry, Metadata, Update, Terms, State}
use Rattle.rules.specs.Register.Outcome.{Refused, Accepted}
use Rattle.rules.specs.Register.Update.{AddSnapshot}
use Rattle.rules.specs.WellFormed.{snapshot_formed, update_formed}
use Rattle.rules.specs.SnapshotUpdates.{add_snapshot_checks, add_snapshot}
use Rattle.rules.specs.Others.{is_others}
use Rattle.rules.specs.Updates.{offers_formed, checks, update_number, effect}
use Rattle.rules.specs.Close.{close_checks}
use Rattle.rules.specs.Run.{Ran, run_from, started, close, closing_log, close_ran, start_checks, run}
use Rattle.rules.specs.Run.Ran.{Stopped, Reached}
use Rattle.rules.proofs.Checks.{by_test, only_then, neither, first_after}
use Rattle.rules.proofs.Orders.{Ordered, Tells, numbers_ordered, numbers_told}
use Rattle.rules.proofs.Tables.{by_key}
use Rattle.rules.proofs.Sound.Metadata.{Sound}
use Rattle.rules.proofs.Sound.Snapshots.{add_new}
use Rattle.rules.proofs.Sound.Updates.{accepted_checks}
use Rattle.rules.proofs.Sound.Accepted.{Ends, run_accepted}
use Rattle.rules.proofs.Sound.Run.{not_reached, same_state, run_sound}
use Rattle.rules.proofs.Offices.Refs.{snapshots_few, accepted_start}
use Rattle.retention.specs.Retention.{Policy, is_retained, remaining_snapshots, going_ids}
use Rattle.retention.specs.Expiry.{expiry}
use Rattle.retention.specs.Outcome.{remaining}
use Rattle.retention.proofs.Stay.{Expires, expiry_accepted}
use Rattle.retention.proofs.Run.Reached.{ended, list_reached}
use Rattle.retention.proofs.Commit.{first_other, Without}

-- ---- what stays and what goes

split_length : {A B : Type 0} (key : A → B) (p : B → Bool) (l : List A) → length (keep (λ x. p (key x)) l) + length (keep (λ y. not (p y)) (map key l)) ≡ length l
split_length key p [] = refl
split_length key p (x ∷ l) =
    let ih : length (keep (λ x. p (key x)) l) + length (keep (λ y. not (p y)) (map key l)) ≡ length l = split_length key p l in
    cases (p (key x)) (λ t. rw t (omega arith)) (λ f. rw f (omega arith))

-- every snapshot stays or goes
pub kept_and_going : (p : Policy) (m : Metadata) → length (remaining_snapshots p m) + length (going_ids p m) ≡ length m.snapshots
kept_and_going p m = split_length (λ (s : Snapshot). s.id) (is_retained p m) m.snapshots

-- ---- one addition

-- a key that is not held takes a place of its own
put_length_new : {A K : Type 0} {lt same : K → K → Bool} → Ordered lt → Tells same → (key : A → K) (a : A) (l : List A) → any (λ (x : A). same (key x) (key a)) l ≡ false → length (put (by_key lt key) a l) ≡ suc (length l)
put_length_new o t key a [] n = refl
put_length_new {A} {K} {lt} {same} o t key a (x ∷ l) n =
    let k = neither (same (key x) (key a)) (any (λ (y : A). same (key y) (key a)) l) n in
    let P : List A → Type 0 = λ r. length r ≡ suc (suc (length l)) in
    by_test P (lt (key a) (key x))
    (λ e. refl)
    (λ e. by_test P (lt (key x) (key a))
    (λ f. ap suc (put_length_new o t key a l k.1))
    (λ f. absurd (true≢false (sym (rw (o.connected (key x) (key a) f e) (t.itself (key a))) ∙ k.0))))

abbrev pub held : State → ℕ
held st = length st.metadata.snapshots

module _ (terms : Terms) (s : Snapshot) (st : State) where
  -- an addition that is accepted makes the table longer by one
  one_longer : update_number terms (AddSnapshot s) st ≡ 0 → held (effect terms (AddSnapshot s) st) ≡ suc (held st)
  unfolding checks effect add_snapshot
  one_longer e = put_length_new numbers_ordered numbers_told (λ (x : Snapshot). x.id) s st.metadata.snapshots (add_new terms.tolerance s st (accepted_checks terms (AddSnapshot s) st e))

  -- where there is room it is not refused with 19
  room_no_19 : held st < snapshot_room → eqb (update_number terms (AddSnapshot s) st) table_full ≡ false
  unfolding update_number checks add_snapshot_checks
  room_no_19 h =
      let u : Update = AddSnapshot s in
      let form : List Check = (not (update_formed u), update_not_formed) ∷ (not (offers_formed terms u), update_not_formed) ∷ (is_others terms.office u st.metadata, others_to_change) ∷ [] in
      first_other table_full refl (form ++ add_snapshot_checks terms.tolerance s st) (rw (lt-leb snapshot_room (held st) h))

  -- what is asked of an addition before 19: 5, 6, 7, 8, 10, 9 and 11
  abbrev pub other_checks : List Check
  other_checks = take 7 (add_snapshot_checks terms.tolerance s st)

  -- where there is none, and no other check fails, it is
  pub full_is_19 : snapshot_formed s ≡ true → first_of other_checks ≡ 0 → snapshot_room ≤ held st → update_number terms (AddSnapshot s) st ≡ table_full
  unfolding update_number update_formed offers_formed is_others checks add_snapshot_checks
  full_is_19 f e h = rw f (first_after other_checks ((leb snapshot_room (held st), table_full) ∷ []) refl e ∙ rw (le-leb snapshot_room (held st) h))

-- ---- many additions

module _ (terms : Terms) where
  -- they make the table longer by their number
  pub additions_length : (ss : List Snapshot) (place : ℕ) (st st' : State) → run_from terms (map AddSnapshot ss) place st ≡ Reached st'
      → held st' ≡ held st + length ss
  unfolding run_from
  additions_length [] place st st' e = rw (same_state st st' e) (omega arith)
  additions_length (s ∷ ss) place st st' e =
      let n : ℕ = update_number terms (AddSnapshot s) st in
      let k = only_then (eqb n accepted) (not_reached n place st') e in
      omega (arith, additions_length ss (suc place) (effect terms (AddSnapshot s) st) st' k.1, one_longer terms s st (eqb-true n accepted k.0))

  -- as many as there is room for are not refused with 19
  pub additions_no_19 : (ss : List Snapshot) (place : ℕ) (st : State) → held st + length ss ≤ snapshot_room
      → (number at : ℕ) → run_from terms (map AddSnapshot ss) place st ≡ Stopped number at → eqb number table_full ≡ false
  unfolding run_from
  additions_no_19 [] place st h number at e = absurd (not_reached number at st (sym e))
  additions_no_19 (s ∷ ss) place st h number at e =
      let u : Update = AddSnapshot s in
      let n : ℕ = update_number terms u st in
      cases (eqb n accepted)
      (λ t. additions_no_19 ss (suc place) (effect terms u st) (omega (arith, one_longer terms s st (eqb-true n accepted t))) number at (rw t at e))
      (λ f. let stopped : Stopped n place ≡ Stopped number at = rw f at e in
      let same : n ≡ number = cc in
      rw (← same) (room_no_19 terms s st (omega arith)))

-- ---- after the list

-- a run goes on where its first updates lead
runs_on_from : (terms : Terms) (xs ys : List Update) (place : ℕ) (a b : State) → run_from terms xs place a ≡ Reached b → run_from terms (xs ++ ys) place a ≡ run_from terms ys (place + length xs) b
unfolding run_from
runs_on_from terms [] ys place a b e = rw (same_state a b e) (ap (λ (k : ℕ). run_from terms ys k b) (omega arith))
runs_on_from terms (x ∷ xs) ys place a b e =
    let n : ℕ = update_number terms x a in
    let k = only_then (eqb n accepted) (not_reached n place b) e in
    rw k.0 (runs_on_from terms xs ys (suc place) (effect terms x a) b k.1 ∙ ap (λ (k : ℕ). run_from terms ys k b) (omega arith))

runs_on : (terms : Terms) (xs ys : List Update) (a b : State) → run_from terms xs 0 a ≡ Reached b → run_from terms (xs ++ ys) 0 a ≡ run_from terms ys (length xs) b
runs_on terms xs ys a b e = runs_on_from terms xs ys 0 a b e ∙ rw zero-add

-- the list of an expiry, and additions after it
abbrev pub list_and : Policy → Metadata → List Snapshot → List Update
list_and p m ss = (expiry p m).updates ++ map AddSnapshot ss

module _ (terms : Terms) (p : Policy) (m : Metadata) (e : (expiry p m).number ≡ accepted) (o : terms.office ≡ p.office) where
  -- they start where the list leads
  list_and_reached : (ss : List Snapshot) → run_from terms (list_and p m ss) 0 (started m) ≡ run_from terms (map AddSnapshot ss) (length (expiry p m).updates) (ended p m)
  list_and_reached ss =
      let k : Expires p m = expiry_accepted p m e in
      runs_on terms (expiry p m).updates (map AddSnapshot ss) (started m) (ended p m) (ap (λ (us : List Update). run_from terms us 0 (started m)) k.updates ∙ list_reached p m k terms o)

  module _ (ss : List Snapshot) where
    -- 64 less the kept snapshots fit: none of them is refused with 19
    pub room_after : length (remaining_snapshots p m) + length ss ≤ snapshot_room → (number place : ℕ) → run terms m (list_and p m ss) ≡ Refused number place → number ≡ table_full → ⊥
    unfolding run start_checks close close_checks remaining
    room_after h number place q = eqb-false number table_full (subst (Without table_full) q without)
      where
        closing : (r : Ran) → run_from terms (map AddSnapshot ss) (length (expiry p m).updates) (ended p m) ≡ r → Without table_full (close_ran terms (list_and p m ss) r)
        closing (Stopped n at) k = additions_no_19 terms ss (length (expiry p m).updates) (ended p m) h n at k
        closing (Reached st) k =
            let cs : List Check = close_checks terms (closing_log terms st) st.metadata in
            by_test (Without table_full) (eqb (first_of cs) accepted) (λ t. tt) (λ f. first_other table_full refl cs refl)

        without : Without table_full (run terms m (list_and p m ss))
        without =
            let cs : List Check = start_checks terms m (list_and p m ss) in
            by_test (Without table_full) (eqb (first_of cs) accepted)
            (λ t. rw (list_and_reached ss) (closing (run_from terms (map AddSnapshot ss) (length (expiry p m).updates) (ended p m)) refl))
            (λ f. first_other table_full refl cs refl)

    -- no more than that are accepted
    pub no_more_after : (m' : Metadata) (log : List Update) (expired : List FileEntry) → run terms m (list_and p m ss) ≡ Accepted m' log expired → length (remaining_snapshots p m) + length ss ≤ snapshot_room
    unfolding remaining
    no_more_after m' log expired q =
        let k : Ends terms m' log expired m (list_and p m ss) = run_accepted terms m' log expired m (list_and p m ss) q in
        let d : Sound k.end.metadata = run_sound terms k.office (list_and p m ss) 0 (started m) k.end k.reached (accepted_start k) in
        let longer : held k.end ≡ length (remaining_snapshots p m) + length ss =
        additions_length terms ss (length (expiry p m).updates) (ended p m) k.end (sym (list_and_reached ss) ∙ k.reached) in
        omega (arith, snapshots_few k.end.metadata d)

    -- where so many are accepted one more is 19, if the run passes 1, 2, 26 and 39 and no other check of that one fails
    pub one_more_is_19 : length (remaining_snapshots p m) + length ss ≡ snapshot_room → (st : State) → run_from terms (list_and p m ss) 0 (started m) ≡ Reached st
        → (s : Snapshot) → snapshot_formed s ≡ true → first_of (other_checks terms s st) ≡ 0
        → first_of (start_checks terms m (list_and p m ss ++ (AddSnapshot s ∷ []))) ≡ accepted → run terms m (list_and p m ss ++ (AddSnapshot s ∷ [])) ≡ Refused table_full (length (list_and p m ss))
    unfolding run run_from remaining
    one_more_is_19 h st q s f c g =
        let longer : held st ≡ length (remaining_snapshots p m) + length ss =
        additions_length terms ss (length (expiry p m).updates) (ended p m) st (sym (list_and_reached ss) ∙ q) in
        let full : update_number terms (AddSnapshot s) st ≡ table_full = full_is_19 terms s st f c (omega arith) in
        rw (g, runs_on terms (list_and p m ss) (AddSnapshot s ∷ []) (started m) st q, full)
