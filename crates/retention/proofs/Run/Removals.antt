-- A run of removals, part by part: where what goes ascends, is held, is needed by no other office and is named by no ref, every part is accepted and logged
-- as it is, and in the end those snapshots are gone and nothing else is changed.
use Prim.Native.Nat.{ℕ, suc, ◌≤◌}
use native.Mathlib.Omega.{arith}
use mathlib.Core.Path.{◌≡◌, refl, sym, ap, ap₂, ◌∙◌}
use mathlib.Core.Bool.{Bool, true, false, not}
use mathlib.Core.List.{List, [], ◌∷◌, ◌++◌, map, append-nil, append_assoc}
use lib.Dec.{leb}
use lib.IntN.{ℤ}
use lib.Signed.{lt_z, non_neg}
use lib.ListN.{length}
use borrow.Author.Tests.{eq-eqb, not-true}
use Rattle.rules.specs.Words.{eq_z, all, keep, is_empty, is_in, ascending}
use Rattle.rules.specs.Capacities.{snapshot_room, removal_room}
use Rattle.rules.specs.Register.{Snapshot, NamedRef, Metadata, Update, Terms, State, with_snapshots}
use Rattle.rules.specs.Register.Update.{RemoveSnapshots}
use Rattle.rules.specs.WellFormed.{snapshot_below, has_snapshot, points_in, update_formed}
use Rattle.rules.specs.Walk.{snapshot_ids}
use Rattle.rules.specs.SnapshotUpdates.{held_snapshots, other_snapshots, remove_snapshots}
use Rattle.rules.specs.Others.{is_needed, is_others}
use Rattle.rules.specs.Updates.{offers_formed, checks, update_number, effect}
use Rattle.rules.specs.Run.{run_from}
use Rattle.rules.specs.Run.Ran.{Reached}
use Rattle.rules.proofs.Checks.{both, and_left, and_right, or_left, or_right}
use Rattle.rules.proofs.Tables.{all_head, all_tail, all_then, all_parts, pairs_keep, keep_length}
use Rattle.rules.proofs.Replay.Lists.{keep_all, any_append}
use Rattle.rules.proofs.Replay.Keys.{in_all}
use Rattle.rules.proofs.Replay.Steps.{accepted_if}
use Rattle.retention.proofs.Stay.{fails}
use Rattle.retention.proofs.Parts.{together, is_part}
use Rattle.retention.proofs.Run.Lists.{keep_neither, keep_every, any_more, in_tested, all_numbers, none_numbers, ascending_parts, keys_kept, held_are}
use Rattle.retention.proofs.Run.Needed.{needed_before}

-- the state with these snapshots and this log
abbrev left : List Snapshot → List Update → State → State
left l log st = record { metadata = with_snapshots l st.metadata; own = st.own; added = st.added; log = log }

-- the state without the snapshots of these parts, each of which is logged
abbrev pub after_removals : List (List ℤ) → State → State
after_removals parts st = left (other_snapshots (together parts) st.metadata.snapshots) (st.log ++ map RemoveSnapshots parts) st

-- what is asked of the parts and of the state
pub record Removable (office : ℕ) (parts : List (List ℤ)) (m : Metadata) : Type 0 where
  pub few : length m.snapshots ≤ snapshot_room
  pub order : ascending snapshot_below m.snapshots ≡ true
  pub formed : all (is_part removal_room) parts ≡ true
  pub numbers : all non_neg (together parts) ≡ true
  pub ascend : ascending lt_z (together parts) ≡ true
  pub held : all (is_in (snapshot_ids m.snapshots)) (together parts) ≡ true
  pub unneeded : (id : ℤ) → is_in (together parts) id ≡ true → is_needed office m id ≡ false
  pub pointed : all (points_in (other_snapshots (together parts) m.snapshots)) m.refs ≡ true

-- ---- one part

-- a number of either of two lists stands in both together
in_second : (a b : List ℤ) (k : ℤ) → is_in b k ≡ true → is_in (a ++ b) k ≡ true
in_second a b k h = any_append (eq_z k) a b ∙ or_right (is_in a k) h

in_first : (a b : List ℤ) (k : ℤ) → is_in a k ≡ true → is_in (a ++ b) k ≡ true
in_first a b k h = any_append (eq_z k) a b ∙ or_left (is_in b k) h

-- what is not in both together is not in the first
not_in_first : (a b : List ℤ) (k : ℤ) → not (is_in (a ++ b) k) ≡ true → not (is_in a k) ≡ true
not_in_first a b k h = ap not (fails (is_in a k) (in_first a b k) (not-true (is_in (a ++ b) k) h))

-- those that stay without both stay without the first and then the second
others_both : (a b : List ℤ) (l : List Snapshot) → other_snapshots b (other_snapshots a l) ≡ other_snapshots (a ++ b) l
others_both a b l = keep_neither (λ s. is_in a s.id) (λ s. is_in b s.id) l ∙ ap (λ (p : Snapshot → Bool). keep p l) (λ i s. not (sym (any_append (eq_z s.id) a b) i))

module _ (terms : Terms) (part : List ℤ) (parts : List (List ℤ)) (st : State) (k : Removable terms.office (part ∷ parts) st.metadata) where
  -- the held ids of the part are the part
  part_held : held_snapshots part st.metadata.snapshots ≡ part
  part_held =
      held_are (λ (s : Snapshot). s.id) part st.metadata.snapshots
      (ascending_parts part (together parts) k.ascend).0
      k.order
      (all_parts (is_in (snapshot_ids st.metadata.snapshots)) part (together parts) k.held).0

  part_accepted : update_number terms (RemoveSnapshots part) st ≡ 0
  unfolding update_formed offers_formed is_others checks
  part_accepted =
      let formed : is_part removal_room part ≡ true = all_head (is_part removal_room) part parts k.formed in
      accepted_if terms (RemoveSnapshots part) st
      (both (and_right (not (is_empty part)) (leb (length part) removal_room) formed) (all_parts non_neg part (together parts) k.numbers).0)
      refl
      (rw part_held (none_numbers (is_needed terms.office st.metadata) part (λ id i. k.unneeded id (in_first part (together parts) id i))))
      refl

  -- no ref goes with it
  part_pointed : keep (points_in (other_snapshots part st.metadata.snapshots)) st.metadata.refs ≡ st.metadata.refs
  part_pointed =
      let l : List Snapshot = st.metadata.snapshots in
      keep_all (points_in (other_snapshots part l)) st.metadata.refs
      (all_then (points_in (other_snapshots (part ++ together parts) l)) (points_in (other_snapshots part l))
      (λ (r : NamedRef). any_more (has_snapshot r.reference.snapshot) (λ s. not (is_in (part ++ together parts) s.id)) (λ s. not (is_in part s.id)) (λ s. not_in_first part (together parts) s.id) l)
      st.metadata.refs k.pointed)

  abbrev next : State
  next = left (other_snapshots part st.metadata.snapshots) (st.log ++ (RemoveSnapshots part ∷ [])) st

  part_effect : effect terms (RemoveSnapshots part) st ≡ next
  unfolding effect remove_snapshots
  part_effect =
      let some : is_empty part ≡ false = not-true (is_empty part) (and_left (not (is_empty part)) (leb (length part) removal_room) (all_head (is_part removal_room) part parts k.formed)) in
      rw (part_held, some, part_pointed)

  -- what is to go later is held still
  later_held : (id : ℤ) → is_in (together parts) id ≡ true → is_in (snapshot_ids (other_snapshots part st.metadata.snapshots)) id ≡ true
  later_held id i =
      let l : List Snapshot = st.metadata.snapshots in
      let here : is_in (snapshot_ids l) id ≡ true = in_all (is_in (snapshot_ids l)) (together parts) id (all_parts (is_in (snapshot_ids l)) part (together parts) k.held).1 i in
      ap (λ (ids : List ℤ). is_in ids id) (keys_kept (λ (s : Snapshot). s.id) (λ z. not (is_in part z)) l)
      ∙ in_tested (λ z. not (is_in part z)) (snapshot_ids l) id
      ∙ rw ((ascending_parts part (together parts) k.ascend).2 id i, here)

  -- the others can go then
  part_leaves : Removable terms.office parts next.metadata
  part_leaves =
      let l : List Snapshot = st.metadata.snapshots in
      let p : Snapshot → Bool = λ s. not (is_in part s.id) in
      let rest : List ℤ = together parts in
      record {
        few = omega (arith, keep_length p l, k.few);
        order = pairs_keep snapshot_below p l k.order;
        formed = all_tail (is_part removal_room) part parts k.formed;
        numbers = (all_parts non_neg part rest k.numbers).1;
        ascend = (ascending_parts part rest k.ascend).1;
        held = all_numbers (is_in (snapshot_ids (other_snapshots part l))) rest later_held;
        unneeded = λ id i. fails (is_needed terms.office next.metadata id) (needed_before terms.office st.metadata p k.few k.order id) (k.unneeded id (in_second part rest id i));
        pointed = rw (others_both part rest l) k.pointed;
      }

-- ---- all of them

pub removals_run : (terms : Terms) (parts : List (List ℤ)) (place : ℕ) (st : State) → Removable terms.office parts st.metadata → run_from terms (map RemoveSnapshots parts) place st ≡ Reached (after_removals parts st)
unfolding run_from
removals_run terms [] place st k = sym (ap₂ (λ (l : List Snapshot) (log : List Update). Reached (left l log st)) (keep_every st.metadata.snapshots) (append-nil st.log))
removals_run terms (part ∷ parts) place st k =
    rw (eq-eqb (update_number terms (RemoveSnapshots part) st) 0 (part_accepted terms part parts st k), part_effect terms part parts st k)
    (removals_run terms parts (suc place) (next terms part parts st k) (part_leaves terms part parts st k)
    ∙ ap₂ (λ (l : List Snapshot) (log : List Update). Reached (left l log st))
    (others_both part (together parts) st.metadata.snapshots)
    (append_assoc st.log (RemoveSnapshots part ∷ []) (map RemoveSnapshots parts)))
