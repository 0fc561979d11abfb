-- Where the updates of an expiry's list lead: every one is accepted and logged, and what is left is the metadata without the refs and snapshots that go.
use Prim.Native.Nat.{ℕ, suc}
use mathlib.Core.Path.{◌≡◌, refl, sym, ap, ap₂, ◌∙◌}
use mathlib.Core.Bool.{Bool, true, false, not, ◌&&◌, and-true, not-not}
use mathlib.Core.List.{List, [], ◌∷◌, map, Memᴰ}
use mathlib.Core.Option.{none}
use lib.Dec.{eqb}
use lib.IntN.{ℤ, pos}
use lib.Signed.{lt_z, non_neg}
use borrow.Author.Tests.{eqb-true, not-true}
use Rattle.rules.specs.Words.{if_some, all, any, is_in, ascending}
use Rattle.rules.specs.Replies.{accepted}
use Rattle.rules.specs.Capacities.{snapshot_room, removal_room}
use Rattle.rules.specs.Register.{Snapshot, NamedRef, Metadata, Update, Terms, State, with_snapshots, with_refs}
use Rattle.rules.specs.Register.Update.{RemoveSnapshots}
use Rattle.rules.specs.WellFormed.{snapshot_formed, name_formed, reference_formed, owner_formed, snapshot_below, ref_below, snapshots_formed, update_formed}
use Rattle.rules.specs.Walk.{listed_ids, snapshot_ids}
use Rattle.rules.specs.SnapshotUpdates.{other_snapshots}
use Rattle.rules.specs.Others.{is_others_ref, others_refs, is_needed}
use Rattle.rules.specs.Updates.{update_number, effect}
use Rattle.rules.specs.Run.{run_from, started}
use Rattle.rules.specs.Run.Ran.{Reached}
use Rattle.rules.proofs.Checks.{only_then, both, and_left, and_right, neither, parts}
use Rattle.rules.proofs.Orders.{names_ordered, names_told_lem}
use Rattle.rules.proofs.Tables.{all_keep, all_kept, all_then, all_read, keep_among, pairs_keep, table_parts_lem}
use Rattle.rules.proofs.Sound.Metadata.{Sound, formed_sound}
use Rattle.rules.proofs.Sound.Updates.{accepted_form}
use Rattle.rules.proofs.Sound.Run.{not_reached}
use Rattle.rules.proofs.History.Lists.{all_in, in_keep}
use Rattle.rules.proofs.Offices.Refs.{refs_ascending, snapshots_few}
use Rattle.retention.specs.Retention.{Policy, goes, dropped_refs, remaining_refs, retained, own_refs, is_retained, remaining_snapshots, going_ids}
use Rattle.retention.specs.Expiry.{parts_of, expiring_updates}
use Rattle.retention.specs.Outcome.{remaining}
use Rattle.retention.proofs.Stay.{Expires, goes_parts, fails, ref_formed_lem, all_keep_theirs}
use Rattle.retention.proofs.Parts.{together, parts_together, parts_formed}
use Rattle.retention.proofs.Run.Lists.{keep_agrees, in_tested, all_numbers, key_among, keys_ascend, found_by_key, key_of_kept}
use Rattle.retention.proofs.Run.Removals.{Removable, after_removals, removals_run}
use Rattle.retention.proofs.Run.Drops.{other_refs, Droppable, after_drops, drops_run}

-- the state before the close
abbrev pub ended : Policy → Metadata → State
ended p m = record { metadata = remaining p m; own = none; added = (started m).added; log = expiring_updates p m }

-- ---- the refs that go

module _ (p : Policy) (m : Metadata) (k : Expires p m) where
  sound : Sound m
  sound = formed_sound m k.formed

  -- each that goes can be dropped
  dropped_droppable : (d : NamedRef) → Memᴰ d (dropped_refs p m) → Droppable p.office m.refs d
  dropped_droppable d i =
      let within : Memᴰ d m.refs = in_keep (goes p m.snapshots) m.refs i in
      let g = goes_parts p m.snapshots d (all_in (goes p m.snapshots) (dropped_refs p m) (all_kept (goes p m.snapshots) m.refs) i) in
      record {
        formed = (parts (name_formed d.name) (reference_formed d.reference ∷ owner_formed d ∷ []) (ref_formed_lem p m k d within)).0;
        unmain = g.0;
        own = g.1;
        found = found_by_key names_ordered (λ (r : NamedRef). r.name) names_told_lem m.refs (refs_ascending m sound) within;
      }

  -- those with other names than theirs are those that stay
  dropped_leave : other_refs (dropped_refs p m) m.refs ≡ remaining_refs p m
  dropped_leave =
      keep_agrees _ (λ r. not (goes p m.snapshots r)) m.refs
      (λ r i. ap not (key_of_kept names_ordered (λ (x : NamedRef). x.name) names_told_lem (goes p m.snapshots) m.refs r (refs_ascending m sound) i))

  -- the other office's stay
  others_stay : others_refs p.office (remaining_refs p m) ≡ others_refs p.office m.refs
  others_stay =
      keep_among (is_others_ref p.office) (λ r. not (goes p m.snapshots r)) m.refs
      (all_then (is_others_ref p.office) (λ r. not (goes p m.snapshots r))
      (λ r o. ap not (fails (goes p m.snapshots r) (λ g. ap not (goes_parts p m.snapshots r g).1) (ap not o)))
      (others_refs p.office m.refs) (all_kept (is_others_ref p.office) m.refs))

  -- ---- the snapshots that go

  snapshots_order : ascending snapshot_below m.snapshots ≡ true
  unfolding snapshots_formed
  snapshots_order = (table_parts_lem snapshot_room snapshot_formed snapshot_below m.snapshots sound.snapshots).2

  ids_formed_lem : all non_neg (snapshot_ids m.snapshots) ≡ true
  unfolding snapshots_formed
  ids_formed_lem =
      all_read (λ (s : Snapshot). s.id) non_neg m.snapshots
      ∙ all_then snapshot_formed (λ (s : Snapshot). non_neg s.id)
      (λ s f. (parts (non_neg s.id) (if_some non_neg s.parent ∷ non_neg s.sequence.0 ∷ []) f).0)
      m.snapshots (table_parts_lem snapshot_room snapshot_formed snapshot_below m.snapshots sound.snapshots).1

  -- what goes is held, and is not to stay
  pub going_is : (id : ℤ) → is_in (going_ids p m) id ≡ (not (is_retained p m id) && is_in (snapshot_ids m.snapshots) id)
  going_is = in_tested (λ id. not (is_retained p m id)) (snapshot_ids m.snapshots)

  -- the others are those that stay
  going_leave : other_snapshots (going_ids p m) m.snapshots ≡ remaining_snapshots p m
  going_leave =
      keep_agrees (λ (s : Snapshot). not (is_in (going_ids p m) s.id)) (λ (s : Snapshot). is_retained p m s.id) m.snapshots
      (λ s i. rw (going_is s.id, key_among (λ (x : Snapshot). x.id) m.snapshots i, and-true (not (is_retained p m s.id))) (not-not (is_retained p m s.id)))

  -- none of them is needed by the other office, and none by a ref that stays
  going_unneeded : (id : ℤ) → is_in (going_ids p m) id ≡ true → is_needed p.office m id ≡ false
  unfolding is_retained
  going_unneeded id i =
      (neither (any (λ (r : NamedRef). is_in (listed_ids (retained p m.snapshots r.reference)) id) (own_refs p m)) (is_needed p.office m id)
      (not-true (is_retained p m id) (and_left (not (is_retained p m id)) (is_in (snapshot_ids m.snapshots) id) (sym (going_is id) ∙ i)))).1

  abbrev going_parts : List (List ℤ)
  going_parts = parts_of removal_room (going_ids p m)

  -- where the refs are dropped the parts can go
  going_removable : Removable p.office going_parts (with_refs (remaining_refs p m) m)
  going_removable =
      let q : ℤ → Bool = λ id. not (is_retained p m id) in
      let ids : List ℤ = snapshot_ids m.snapshots in
      let whole : together going_parts ≡ going_ids p m = parts_together 15 (going_ids p m) in
      record {
        few = snapshots_few m sound;
        order = snapshots_order;
        formed = parts_formed 15 (going_ids p m);
        numbers = rw whole (all_keep non_neg q ids ids_formed_lem);
        ascend = rw whole (pairs_keep lt_z q ids (keys_ascend (λ (s : Snapshot). s.id) m.snapshots snapshots_order));
        held = rw whole (all_numbers (is_in ids) (going_ids p m) (λ id i. and_right (q id) (is_in ids id) (sym (going_is id) ∙ i)));
        unneeded = λ id i. rw others_stay (going_unneeded id (rw whole at i));
        pointed = rw (whole, going_leave) (all_keep_theirs p m k);
      }

  -- ---- the list

  -- without both the metadata is what remains
  both_gone : after_removals going_parts (after_drops (dropped_refs p m) (started m)) ≡ ended p m
  unfolding expiring_updates remaining
  both_gone =
      ap₂ (λ (l : List Snapshot) (refs : List NamedRef). record { metadata = with_refs refs (with_snapshots l m); own = none; added = (started m).added; log = expiring_updates p m })
      (ap (λ (ids : List ℤ). other_snapshots ids m.snapshots) (parts_together 15 (going_ids p m)) ∙ going_leave)
      dropped_leave

  pub list_reached : (terms : Terms) → terms.office ≡ p.office → run_from terms (expiring_updates p m) 0 (started m) ≡ Reached (ended p m)
  unfolding expiring_updates
  list_reached terms o =
      let l : List NamedRef = dropped_refs p m in
      drops_run terms l (map RemoveSnapshots going_parts) 0 (started m) (Reached (ended p m))
      (pairs_keep ref_below (goes p m.snapshots) m.refs (refs_ascending m sound))
      (λ d i. rw o (dropped_droppable d i))
      (λ q. removals_run terms going_parts q (after_drops l (started m)) (rw (o, dropped_leave) going_removable) ∙ ap Reached both_gone)

-- ---- its form

-- updates that are run to the end are well formed
reached_formed : (terms : Terms) (us : List Update) (place : ℕ) (st st' : State) → run_from terms us place st ≡ Reached st' → all update_formed us ≡ true
unfolding run_from
reached_formed terms [] place st st' e = refl
reached_formed terms (u ∷ us) place st st' e =
    let n : ℕ = update_number terms u st in
    let k = only_then (eqb n accepted) (not_reached n place st') e in
    both (accepted_form terms u st (eqb-true n accepted k.0)) (reached_formed terms us (suc place) (effect terms u st) st' k.1)

-- so every update of the list is
pub list_formed : (p : Policy) (m : Metadata) → Expires p m → all update_formed (expiring_updates p m) ≡ true
list_formed p m k =
    let terms : Terms = record { clock = p.clock; tolerance = pos 0; file = none; limit = none; office = p.office; offers = [] } in
    reached_formed terms (expiring_updates p m) 0 (started m) (ended p m) (list_reached p m k terms refl)
