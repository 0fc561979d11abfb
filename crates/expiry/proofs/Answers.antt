-- From what is asked and found to what is answered.
use Prim.Native.Nat.{ℕ, ◌-◌}
use mathlib.Core.Path.{◌≡◌, refl, sym, ap, ap₂, ◌∙◌}
use mathlib.Core.Bool.{Bool, true, false, cond, not, ◌&&◌}
use mathlib.Core.List.{List, [], ◌∷◌, ◌++◌, map, map-map}
use native.Mathlib.Omega.{arith}
use borrow.Author.Tests.{ne_eqb, not-false}
use borrow.Table.Steps.{cases}
use lib.Dec.{eqb, leb}
use lib.IntN.{ℤ}
use lib.ListN.{length, replicate}
use Rattle.records.specs.declared.metadata.TableMetadata.{TableMetadata}
use Rattle.rules.specs.Words.{keep, first_of, Check, ascending}
use Rattle.rules.specs.Replies.{accepted, start_not_formed, update_not_formed, met_twice, office_unknown}
use Rattle.rules.specs.Capacities.{snapshot_room, ref_room, snapshot_log_room, name_room}
use Rattle.rules.specs.Offices.{is_office}
use Rattle.rules.specs.Register.{Snapshot, NamedRef, Metadata}
use Rattle.rules.specs.WellFormed.{name_formed, reference_formed, owner_formed, ref_formed, ref_below, snapshot_formed, snapshot_below, snapshots_formed, refs_formed, snapshot_log_formed, metadata_formed}
use Rattle.rules.specs.Walk.{snapshot_ids}
use Rattle.rules.specs.Blanks.{is_tidy_metadata}
use Rattle.rules.specs.Layout.{pad, read_refs, read_snapshots, read_snapshot_log, read_metadata, laid_metadata}
use Rattle.rules.proofs.Checks.{and_left, and_right, parts, passed, first_before, first_after}
use Rattle.rules.proofs.Tables.{all_then, table_parts_lem, log_fits_lem}
use Rattle.rules.proofs.Slots.Relaid.{relaid}
use Rattle.rules.proofs.Sound.Metadata.{Sound, formed_sound}
use Rattle.tables.specs.Laid.{LaidRefs, LaidSnapshots, LaidSnapshotLog}
use Rattle.retention.specs.Retention as rules
use Rattle.retention.specs.Retention.{goes, is_cyclic, is_retained, dropped_refs, going_ids}
use Rattle.retention.specs.Expiry.{expiring_updates, policy_formed, expiry_checks, expiry}
use Rattle.retention.specs.Reasons.{nothing, reason_of}
use Rattle.retention.proofs.Reason.{reason_kept}
use Rattle.retention.proofs.Run.Lists.{keys_kept}
use Rattle.expiry.specs.Answer.{read_policy, ruled, no_reason, laid_reason, laid_reasons}
use Rattle.expiry.specs.Found.{slotted, found_of}
use Rattle.expiry.specs.List.{picked, refs_going, snapshots_going, list_of}
use Rattle.expiry.specs.declared.policy.Policy.{Policy}
use Rattle.expiry.specs.declared.policy.Reason.{Reason}
use Rattle.expiry.specs.declared.kept.Found.{Found}
use Rattle.expiry.proofs.Leaving.{picked_none}

-- ---- the tables of well-formed metadata

module _ (m : TableMetadata) (e : (is_tidy_metadata m && metadata_formed (read_metadata m)) ≡ true) where
  formed : metadata_formed (read_metadata m) ≡ true
  formed = and_right (is_tidy_metadata m) (metadata_formed (read_metadata m)) e

  back : laid_metadata (read_metadata m) ≡ m
  back = relaid m (and_left (is_tidy_metadata m) (metadata_formed (read_metadata m)) e) formed

  sound : Sound (read_metadata m)
  sound = formed_sound (read_metadata m) formed

  pub snapshots_laid : LaidSnapshots m.snapshots
  unfolding snapshots_formed laid_metadata
  snapshots_laid = record { back = ap (λ (x : TableMetadata). x.snapshots) back; fits = (table_parts_lem snapshot_room snapshot_formed snapshot_below (read_snapshots m.snapshots) sound.snapshots).0 }

  pub snapshots_ascend : ascending snapshot_below (read_snapshots m.snapshots) ≡ true
  unfolding snapshots_formed
  snapshots_ascend = (table_parts_lem snapshot_room snapshot_formed snapshot_below (read_snapshots m.snapshots) sound.snapshots).2

  pub refs_laid : LaidRefs m.refs
  unfolding refs_formed laid_metadata
  refs_laid =
      let t = table_parts_lem ref_room ref_formed ref_below (read_refs m.refs) sound.refs in
      record {
        back = ap (λ (x : TableMetadata). x.refs) back;
        fits = t.0;
        names = all_then ref_formed (λ (x : NamedRef). leb (length x.name) name_room) (λ x k. (parts (name_formed x.name) (reference_formed x.reference ∷ owner_formed x ∷ []) k).0) (read_refs m.refs) t.1;
      }

  pub log_laid : LaidSnapshotLog m.snapshot_log
  unfolding snapshot_log_formed laid_metadata
  log_laid = record { back = ap (λ (x : TableMetadata). x.snapshot_log) back; fits = log_fits_lem snapshot_log_room _ (read_snapshot_log m.snapshot_log) sound.snapshot_log }

-- ---- the refusals

-- an expiry by its number
module _ (p : rules.Policy) (m : Metadata) where
  by_refusal : {n : ℕ} → first_of (expiry_checks p m) ≡ n → (n ≡ accepted → ⊥) → expiry p m ≡ record { number = n; updates = [] }
  unfolding expiry
  by_refusal {n} e f = rw (e, ne_eqb n accepted f)

  by_acceptance : first_of (expiry_checks p m) ≡ accepted → expiry p m ≡ record { number = accepted; updates = expiring_updates p m }
  unfolding expiry
  by_acceptance e = rw e

module _ (m : TableMetadata) (p : Policy) where
  abbrev asked : rules.Policy
  asked = read_policy p

  abbrev given : Metadata
  given = read_metadata m

  -- the checks that are made first
  abbrev checks : Bool → List Check
  checks formed = (not formed, start_not_formed) ∷ (not (is_office p.office), office_unknown) ∷ (not (policy_formed asked), update_not_formed) ∷ []

  abbrev is_formed : Bool
  is_formed = is_tidy_metadata m && metadata_formed given

  -- the number that they give, of metadata of which it was asked whether it is tidy and well formed
  module _ {formed : Bool} (h : formed ≡ is_formed) {n : ℕ} (q : n ≡ first_of (checks formed)) where
    so : n ≡ first_of (checks is_formed)
    so = q ∙ ap (λ (b : Bool). first_of (checks b)) h

    -- one of them fails
    pub refused_first : (n ≡ accepted → ⊥) → ruled m p ≡ record { number = n; updates = [] }
    unfolding expiry_checks
    refused_first f =
        cases (is_tidy_metadata m)
        (λ t. let k : n ≡ first_of (checks (metadata_formed given)) = rw t at so in
        rw t (by_refusal asked given (first_before (checks (metadata_formed given)) ((is_cyclic asked given, met_twice) ∷ []) (λ z. f (k ∙ z)) ∙ sym k) f))
        (λ t. rw t (ap (λ (k : ℕ). record { number = k; updates = [] }) (sym (rw t at so))))

    -- none of them does
    module _ (z : n ≡ accepted) where
      pub passed_first : is_formed ≡ true
      passed_first = not-false is_formed (passed (checks is_formed) refl (sym so ∙ z)).0

      tidy : is_tidy_metadata m ≡ true
      tidy = and_left (is_tidy_metadata m) (metadata_formed given) passed_first

      last : first_of (expiry_checks asked given) ≡ cond (is_cyclic asked given) met_twice accepted
      unfolding expiry_checks
      last =
          let k : n ≡ first_of (checks (metadata_formed given)) = rw tidy at so in
          first_after (checks (metadata_formed given)) ((is_cyclic asked given, met_twice) ∷ []) refl (sym k ∙ z)

      -- then 24 is left
      pub refused_last : is_cyclic asked given ≡ true → ruled m p ≡ record { number = met_twice; updates = [] }
      refused_last t = rw tidy (by_refusal asked given (last ∙ rw t) (λ q. omega (arith, q)))

      pub not_refused : is_cyclic asked given ≡ false → ruled m p ≡ record { number = accepted; updates = expiring_updates asked given }
      not_refused f = rw tidy (by_acceptance asked given (last ∙ rw f))

-- ---- what is found

module _ (p : rules.Policy) (m : Metadata) {f : Found} (e : f ≡ found_of p m) where
  pub found_cyclic : f.cyclic ≡ is_cyclic p m
  unfolding found_of
  found_cyclic = ap (λ (x : Found). x.cyclic) e

  pub found_reasons : f.reasons ≡ laid_reasons p m
  unfolding found_of
  found_reasons = ap (λ (x : Found). x.reasons) e

-- ---- the list

-- what was told of each is picked by what was told
picked_told : {A B : Type 0} (q : B → Bool) (f : A → B) (l : List A) (rest : List B) → picked q (map f l ++ rest) l ≡ keep (λ x. q (f x)) l
picked_told q f [] rest = picked_none q rest
picked_told q f (x ∷ l) rest = rw (picked_told q f l rest)

module _ (p : rules.Policy) (m : Metadata) where
  abbrev ids : List ℤ
  ids = snapshot_ids m.snapshots

  abbrev reason : ℤ → Reason
  reason id = laid_reason (reason_of p m id)

  -- no reason keeps it
  unkept : (id : ℤ) → eqb (reason_of p m id).why nothing ≡ not (is_retained p m id)
  unkept id = double (eqb (reason_of p m id).why nothing) ∙ ap not (sym (reason_kept p m id))
    where
      double : (b : Bool) → b ≡ not (not b)
      double true = refl
      double false = refl

  refs_going_lem : refs_going (pad ref_room false (map (goes p m.snapshots) m.refs)) m.refs ≡ dropped_refs p m
  refs_going_lem = picked_told (λ b. b) (goes p m.snapshots) m.refs _

  ids_going : snapshot_ids (snapshots_going (slotted no_reason reason ids) m.snapshots) ≡ going_ids p m
  ids_going =
      let key : Snapshot → ℤ = λ s. s.id in
      let rest : List Reason = replicate (snapshot_room - length (map reason ids)) no_reason in
      ap (λ (l : List Reason). snapshot_ids (snapshots_going (l ++ rest) m.snapshots)) (map-map reason key m.snapshots)
      ∙ ap snapshot_ids (picked_told (λ (r : Reason). eqb r.why nothing) (λ s. reason s.id) m.snapshots rest)
      ∙ keys_kept key (λ id. eqb (reason_of p m id).why nothing) m.snapshots
      ∙ ap (λ (h : ℤ → Bool). keep h ids) (λ i id. unkept id i)

  pub list_so : list_of (refs_going (laid_reasons p m).goes m.refs) (snapshot_ids (snapshots_going (laid_reasons p m).stays m.snapshots)) ≡ expiring_updates p m
  unfolding laid_reasons expiring_updates
  list_so = ap₂ list_of refs_going_lem ids_going
