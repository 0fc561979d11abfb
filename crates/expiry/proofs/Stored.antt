-- The list stored update by update, laid out; and what goes, laid out.
use Prim.Native.Nat.{ℕ, ◌+◌, ◌*◌, ◌≤◌, ◌<◌}
use mathlib.Core.Path.{◌≡◌, sym, ap, ◌∙◌}
use mathlib.Core.Bool.{Bool}
use mathlib.Core.List.{List, [], map}
use native.Mathlib.Omega.{arith}
use lib.Dec.{eqb}
use lib.IntN.{ℤ}
use lib.ListN.{length, get_or, set, take, length-map}
use lib.Seq.{take_all}
use Rattle.records.specs.Blanks.{no_update}
use Rattle.records.specs.declared.reference.Refs.{Refs}
use Rattle.records.specs.declared.snapshot.Snapshots.{Snapshots}
use Rattle.records.specs.declared.update.TableUpdate.{TableUpdate}
use Rattle.rules.specs.Capacities.{list_room, removal_room}
use Rattle.rules.specs.Register.{NamedRef}
use Rattle.rules.specs.Register.Update.{RemoveSnapshots}
use Rattle.rules.specs.Walk.{snapshot_ids}
use Rattle.rules.specs.Layout.{pad, read_refs, laid_refs, read_snapshots, laid_snapshots}
use Rattle.rules.specs.Kinds.{laid_update, laid_updates}
use Rattle.rules.proofs.Slots.Reread.{reread_refs, reread_snapshots}
use Rattle.tables.specs.Laid.{LaidRefs, LaidSnapshots}
use Rattle.tables.proofs.Table.{within, read_length}
use Rattle.tables.proofs.Each.{tidy_refs, tidy_snapshots}
use Rattle.tables.proofs.Keyed.{pad_more}
use Rattle.retention.specs.Reasons.{nothing}
use Rattle.expiry.specs.List.{refs_going, snapshots_going, list_of, update_at}
use Rattle.expiry.specs.declared.policy.Reason.{Reason}
use Rattle.expiry.proofs.Leaving.{picked_length, picked_all}
use Rattle.expiry.proofs.Places.{list_at, list_count}
use Rattle.expiry.proofs.Slots.{map_at, ids_long}

-- ---- updates in slots

module _ (refs : List NamedRef) (ids : List ℤ) (few : length (list_of refs ids) ≤ list_room) where
  abbrev laid : List TableUpdate
  laid = map laid_update (list_of refs ids)

  long : length laid ≡ length (list_of refs ids)
  long = length-map (list_of refs ids) laid_update

  -- one more
  pub stored : {items : List TableUpdate} {place : ℕ} {u : TableUpdate} → place < length (list_of refs ids) → items ≡ pad list_room no_update (take place laid) → u ≡ laid_update (update_at refs ids place)
      → set items place u ≡ pad list_room no_update (take (place + 1) laid)
  stored {items} {place} {u} b h e =
      let d = RemoveSnapshots [] in
      let q : u ≡ get_or laid place no_update = e ∙ sym (map_at no_update laid_update d (list_of refs ids) place b ∙ ap laid_update (list_at ids refs place d b)) in
      rw (h, q) (pad_more list_room place no_update no_update laid (omega (arith, long)) (omega (arith, long)))

  -- all of them
  pub whole : {items : List TableUpdate} {place count : ℕ} → count ≡ length (list_of refs ids) → count ≤ place → items ≡ pad list_room no_update (take place laid) → record { items = items; count = count } ≡ laid_updates (list_of refs ids)
  unfolding laid_updates
  whole {items} {place} n b h i = record { items = (h ∙ ap (pad list_room no_update) (take_all place laid (omega (arith, n, long)))) i; count = n i }

-- ---- what goes is laid out

module _ {t r : Refs} (h : LaidRefs t) (going : List Bool) (e : r ≡ laid_refs (refs_going going (read_refs t))) where
  pub refs_read : read_refs r ≡ refs_going going (read_refs t)
  refs_read = ap read_refs e ∙ reread_refs (refs_going going (read_refs t))

  pub refs_laid : LaidRefs r
  refs_laid =
      record {
        back = ap laid_refs refs_read ∙ sym e;
        fits = rw refs_read (omega (arith, picked_length (λ b. b) going (read_refs t), h.fits));
        names = rw refs_read (picked_all (λ b. b) _ going (read_refs t) h.names);
      }

module _ {t r : Snapshots} (h : LaidSnapshots t) (stays : List Reason) (e : r ≡ laid_snapshots (snapshots_going stays (read_snapshots t))) where
  pub snapshots_read : read_snapshots r ≡ snapshots_going stays (read_snapshots t)
  snapshots_read = ap read_snapshots e ∙ reread_snapshots (snapshots_going stays (read_snapshots t))

  pub snapshots_laid : LaidSnapshots r
  snapshots_laid = record { back = ap laid_snapshots snapshots_read ∙ sym e; fits = rw snapshots_read (omega (arith, picked_length (λ (x : Reason). eqb x.why nothing) stays (read_snapshots t), h.fits)) }

-- how many updates the list has, and that they fit
module _ {t d : Refs} (h : LaidRefs t) (going : List Bool) (e : d ≡ laid_refs (refs_going going (read_refs t))) {s g : Snapshots} (k : LaidSnapshots s) (stays : List Reason) (f : g ≡ laid_snapshots (snapshots_going stays (read_snapshots s)))
    (n : ℕ) (above : g.count ≤ n * removal_room) (below : n * removal_room < g.count + removal_room) where
  pub counted : d.count + n ≡ length (list_of (read_refs d) (snapshot_ids (read_snapshots g)))
  counted =
      let m = ids_long (snapshots_laid k stays f) in
      sym (list_count (snapshot_ids (read_snapshots g)) (read_refs d) n (omega (arith, m)) (omega (arith, m)) ∙ ap (λ (j : ℕ). j + n) (read_length (tidy_refs (refs_laid h going e))))

  pub few : d.count + n < list_room
  few = omega (arith, within (tidy_refs (refs_laid h going e)), within (tidy_snapshots (snapshots_laid k stays f)))

  pub short : length (list_of (read_refs d) (snapshot_ids (read_snapshots g))) ≤ list_room
  short = omega (arith, counted, few)
