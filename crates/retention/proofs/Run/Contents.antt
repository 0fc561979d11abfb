-- What an expiry's list says: it counts at most 16 and 4, sets no `main`, and removes snapshots exactly if some go.
use Prim.Native.Nat.{◌≤◌}
use native.Mathlib.Omega.{arith}
use mathlib.Core.Path.{◌≡◌, refl, sym, ap, ap₂, ◌∙◌}
use mathlib.Core.Bool.{Bool, true, false, not, ◌&&◌, ◌||◌, and-false}
use mathlib.Core.List.{List, [], ◌∷◌, ◌++◌, map}
use mathlib.Core.Option.{none}
use lib.ListN.{length, length-map}
use Rattle.rules.specs.Words.{any, is_empty, total, collect}
use Rattle.rules.specs.Capacities.{snapshot_room, ref_room, removal_room, list_room}
use Rattle.rules.specs.Register.{Snapshot, NamedRef, Metadata, Update}
use Rattle.rules.specs.Register.Update.{RemoveSnapshots, RemoveRef}
use Rattle.rules.specs.WellFormed.{ref_formed, ref_below, refs_formed, metadata_formed}
use Rattle.rules.specs.Walk.{snapshot_ids}
use Rattle.rules.specs.ChangeLog.{main_target, is_snapshot_removal, logs_main, logs_removal}
use Rattle.rules.specs.Run.{weight, list_sum}
use Rattle.rules.proofs.Tables.{keep_length, table_parts_lem}
use Rattle.rules.proofs.Sound.Metadata.{Sound, formed_sound}
use Rattle.rules.proofs.Replay.Lists.{any_append, collect_append, total_append}
use Rattle.rules.proofs.Offices.Refs.{snapshots_few}
use Rattle.retention.specs.Retention.{Policy, goes, dropped_refs, is_retained, going_ids}
use Rattle.retention.specs.Expiry.{parts_of, expiring_updates}
use Rattle.retention.proofs.Parts.{parts_few, parts_none}
use Rattle.retention.proofs.Run.Drops.{drops}

-- ---- what is said of each of some updates of one kind

module _ {A : Type 0} (update : A → Update) where
  -- where each counts 1, all count their number
  total_ones : ((x : A) → weight (update x) ≡ 1) → (l : List A) → total weight (map update l) ≡ length l
  total_ones f [] = refl
  total_ones f (x ∷ l) = omega (arith, f x, total_ones f l)

  -- where none sets `main`, nothing is collected
  collect_none : ((x : A) → main_target (update x) ≡ none) → (l : List A) → collect main_target (map update l) ≡ []
  collect_none f [] = refl
  collect_none f (x ∷ l) = rw (collect, f x) (collect_none f l)

  -- where each removes snapshots, or none does, so do some of them, if there are any
  any_same : (b : Bool) → ((x : A) → is_snapshot_removal (update x) ≡ b) → (l : List A) → any is_snapshot_removal (map update l) ≡ (b && not (is_empty l))
  any_same b f [] = sym (and-false b)
  any_same b f (x ∷ l) = rw (f x, any_same b f l) (go b (is_empty l))
    where
      go : (b c : Bool) → (b || (b && not c)) ≡ (b && true)
      go true c = refl
      go false c = refl

module _ (p : Policy) (m : Metadata) where
  abbrev dropping : List Update
  dropping = drops (dropped_refs p m)

  abbrev removing : List Update
  removing = map RemoveSnapshots (parts_of removal_room (going_ids p m))

  dropped_few : Sound m → length (dropped_refs p m) ≤ ref_room
  unfolding refs_formed
  dropped_few d = omega (arith, keep_length (goes p m.snapshots) m.refs, (table_parts_lem ref_room ref_formed ref_below m.refs d.refs).0)

  going_few : Sound m → length (going_ids p m) ≤ snapshot_room
  going_few d =
      omega
      (arith, keep_length (λ id. not (is_retained p m id)) (snapshot_ids m.snapshots), length-map m.snapshots (λ (s : Snapshot). s.id), snapshots_few m d)

  pub list_short : metadata_formed m ≡ true → list_sum (expiring_updates p m) ≤ list_room
  unfolding list_sum expiring_updates
  list_short f =
      let d : Sound m = formed_sound m f in
      omega
      (arith, total_append weight dropping removing, total_ones (λ (r : NamedRef). RemoveRef r.name) (λ r. refl) (dropped_refs p m), total_ones RemoveSnapshots (λ ids. refl) (parts_of removal_room (going_ids p m)), dropped_few d, parts_few removal_room 4 (going_ids p m) (going_few d))

  pub list_no_main : logs_main (expiring_updates p m) ≡ []
  unfolding logs_main expiring_updates
  list_no_main =
      collect_append main_target dropping removing
      ∙ ap₂ ◌++◌ (collect_none (λ (r : NamedRef). RemoveRef r.name) (λ r. refl) (dropped_refs p m)) (collect_none RemoveSnapshots (λ ids. refl) (parts_of removal_room (going_ids p m)))

  pub list_removes : logs_removal (expiring_updates p m) ≡ not (is_empty (going_ids p m))
  unfolding logs_removal expiring_updates
  list_removes =
      any_append is_snapshot_removal dropping removing
      ∙ ap₂ ◌||◌ (any_same (λ (r : NamedRef). RemoveRef r.name) false (λ r. refl) (dropped_refs p m)) (any_same RemoveSnapshots true (λ ids. refl) (parts_of removal_room (going_ids p m)))
      ∙ ap not (parts_none removal_room (going_ids p m))
