-- Adding a partition spec, choosing the default one and removing some are replayed by what is logged. An added spec is logged with its final id and with the
-- ids that were given or reused; from these the same fresh ids follow again.
use Prim.Native.Nat.{ℕ, suc, ◌+◌, ◌*◌}
use native.Mathlib.Omega.{arith}
use mathlib.Core.Path.{◌≡◌, refl, sym, ap, ap₂, ◌∙◌, subst}
use mathlib.Core.Bool.{Bool, true, false, cond, not, ◌&&◌}
use mathlib.Core.List.{List, [], ◌∷◌, map}
use mathlib.Core.Option.{Option, none, some}
use lib.Dec.{leb}
use lib.IntN.{ℤ, suc_ℤ}
use lib.ListN.{length, take, drop, length-map}
use lib.Signed.{lt_z, non_neg}
use Rattle.rules.specs.Words.{eq_z, if_some, some_with, all, keep, first, is_empty, same_list, pair_up, is_in, highest, smallest, ascending, first_of}
use Rattle.rules.specs.Replies.{default_spec_removed}
use Rattle.rules.specs.Capacities.{spec_room, partition_field_room, partition_bytes}
use Rattle.rules.specs.Register.{PartitionField, PartitionSpec, SpecOffer, Metadata, Update, Terms, State, with_specs, with_metadata, with_default_spec, on_fields, logged}
use Rattle.rules.specs.Register.Update.{AddPartitionSpec, SetDefaultPartitionSpec, RemovePartitionSpecs}
use Rattle.rules.specs.Partitions.{same_partition, spec_ids, holds_spec}
use Rattle.rules.specs.WellFormed.{at_least_one, partition_field_formed, offered_spec_formed, spec_formed, spec_below, specs_formed, offered_ids_formed, update_formed}
use Rattle.rules.specs.Offers.{offered_partition, is_tidy_partition, partitions_of, offered_spec, is_tidy_spec, spec_offer_formed}
use Rattle.rules.specs.SchemaUpdates.{chosen, choice_checks, choice_logged}
use Rattle.rules.specs.SpecUpdates.{with_field_id, fields_of_all, like_ids, given_or_reused, reusing, is_clashing, is_misfit, is_repeating, reused_spec, completed, is_out_of_sequence, spec_checks, add_partition_spec_checks, added_spec, spec_named, spec_offered_as, reuse_spec, new_spec, spec_added, add_partition_spec, misfit_checks, set_default_partition_spec_checks, set_default_partition_spec, remove_partition_specs_checks, held_specs, remove_partition_specs}
use Rattle.rules.specs.Others.{is_others}
use Rattle.rules.specs.Updates.{offers_formed, checks, update_number, effect}
use Rattle.rules.specs.Replay.{strip}
use Rattle.rules.proofs.Checks.{both, and_left, parts, whole, passed, passed_after, first_after, offered_of}
use Rattle.rules.proofs.Orders.{highest_non_neg, suc_non_neg}
use Rattle.rules.proofs.Tables.{by_key, all_first, table_parts_lem}
use Rattle.rules.proofs.Slots.Laid.{all_map}
use Rattle.rules.proofs.Sound.Metadata.{Sound}
use Rattle.rules.proofs.Sound.Specs.{spec_offer_formed_lem, field_id, reusing_formed, spec_named_formed, choice_passed}
use Rattle.rules.proofs.Sound.Updates.{accepted_form, accepted_offers, accepted_own, accepted_checks}
use Rattle.rules.proofs.Replay.Keys.{held_formed, held_not_in, held_again, others_again}
use Rattle.rules.proofs.Replay.Choices.{Rechosen, rechosen}
use Rattle.rules.proofs.Replay.Steps.{with_log, accepted_if, Replays, nothing, once}

-- ---- reused ids, reused again

-- what was given or reused is given the second time
reused_again : (old : List PartitionField) (f : PartitionField) → given_or_reused old (with_field_id (given_or_reused old f) f) ≡ given_or_reused old f
reused_again old f = go f.id
  where
    found : Option ℤ
    found = smallest (like_ids old f)

    -- the one, or what is found
    either : Option ℤ → Option ℤ
    either o = elim o [ none ↦ found | some id ↦ some id ]

    itself : (o : Option ℤ) → o ≡ found → either o ≡ found
    itself none q = refl
    itself (some id) q = q

    go : (o : Option ℤ) → either (either o) ≡ either o
    go none = itself found refl
    go (some id) = refl

pub reusing_again : (l : List PartitionSpec) (id : ℤ) (s : PartitionSpec) → reusing l (spec_named id (reusing l s)) ≡ spec_named id (reusing l s)
unfolding reusing
reusing_again l id s = let e = each s.fields in λ i. record { id = id; fields = e i }
  where
    old : List PartitionField
    old = fields_of_all l

    reuse : PartitionField → PartitionField
    reuse f = with_field_id (given_or_reused old f) f

    each : (fs : List PartitionField) → map reuse (map reuse fs) ≡ map reuse fs
    each [] = refl
    each (f ∷ fs) = ap₂ {C = List PartitionField} ◌∷◌ (ap (λ (id : Option ℤ). with_field_id id f) (reused_again old f)) (each fs)

-- ---- an offer with the ids of a spec that it offers

-- the fields that bytes and ids say
abbrev fields_from : List ℕ → List (Option ℤ) → List PartitionField
fields_from bs ids = pair_up offered_partition (partitions_of (length ids) bs) ids

abbrev id_of : PartitionField → Option ℤ
id_of f = f.id

from_length : (bs : List ℕ) (ids : List (Option ℤ)) → length (fields_from bs ids) ≡ length ids
from_length bs [] = refl
from_length bs (id ∷ ids) = ap suc (from_length (drop partition_bytes bs) ids)

-- the same bytes with the ids of fields that differ in nothing else say these fields
from_again : (new : PartitionField → Option ℤ) (bs : List ℕ) (ids : List (Option ℤ))
    → fields_from bs (map id_of (map (λ (f : PartitionField). with_field_id (new f) f) (fields_from bs ids))) ≡ map (λ (f : PartitionField). with_field_id (new f) f) (fields_from bs ids)
from_again new bs [] = refl
from_again new bs (id ∷ ids) =
    let f : PartitionField = offered_partition (take partition_bytes bs) id in
    ap (λ (l : List PartitionField). with_field_id (new f) f ∷ l) (from_again new (drop partition_bytes bs) ids)

module _ (offers : List ℕ) (o : SpecOffer) (l : List PartitionSpec) (id : ℤ) where
  -- the spec with its reused ids, under another id, and the offer of it
  abbrev pub relogged : PartitionSpec
  relogged = spec_named id (reusing l (offered_spec offers o))

  abbrev pub reoffer : SpecOffer
  reoffer = spec_offered_as relogged o

  -- it offers this spec
  pub reoffered : offered_spec offers reoffer ≡ relogged
  unfolding offered_spec reusing
  reoffered = let e = from_again (given_or_reused (fields_of_all l)) (drop o.at offers) o.ids in λ i. record { id = id; fields = e i }

  -- which reuses nothing more
  pub reoffered_reuses : reusing l (offered_spec offers reoffer) ≡ relogged
  reoffered_reuses = ap (reusing l) reoffered ∙ reusing_again l id (offered_spec offers o)

  reoffer_length : length reoffer.ids ≡ length o.ids
  unfolding offered_spec reusing
  reoffer_length =
      let fs : List PartitionField = fields_from (drop o.at offers) o.ids in
      length-map relogged.fields id_of ∙ length-map fs (λ (f : PartitionField). with_field_id (given_or_reused (fields_of_all l) f) f) ∙ from_length (drop o.at offers) o.ids

  -- and is well formed where the spec is and the offer was
  pub reoffer_formed : offered_spec_formed relogged ≡ true → spec_offer_formed offers o ≡ true → spec_offer_formed offers reoffer ≡ true
  unfolding spec_offer_formed is_tidy_spec
  reoffer_formed h k =
      let tidy : ℕ → Bool = λ n. leb (o.at + n * partition_bytes) (length offers) && all is_tidy_partition (partitions_of n (drop o.at offers)) in
      both
      (subst (λ (n : ℕ). tidy n ≡ true) (sym reoffer_length) (and_left (is_tidy_spec offers o) (offered_spec_formed (offered_spec offers o)) k))
      (rw reoffered h)

-- the ids of a well-formed spec are those of a well-formed offer
pub offered_ids_formed_lem : (s : PartitionSpec) (o : SpecOffer) → offered_spec_formed s ≡ true → offered_ids_formed (spec_offered_as s o) ≡ true
offered_ids_formed_lem s o h =
    let k = parts (non_neg s.id) (leb (length s.fields) partition_field_room ∷ all partition_field_formed s.fields ∷ []) h in
    let ids : List (Option ℤ) = map id_of s.fields in
    whole (non_neg s.id) (leb (length ids) partition_field_room ∷ all (if_some at_least_one) ids ∷ [])
    (k.0, (rw (length-map s.fields id_of) k.1.0, (all_map (if_some at_least_one) partition_field_formed id_of field_id s.fields k.1.1.0, tt)))

-- ---- add partition spec

-- no check looks at a spec's own id
checks_unnamed : (id : ℤ) (s : PartitionSpec) (m : Metadata) → spec_checks (spec_named id s) m ≡ spec_checks s m
unfolding spec_checks is_clashing is_misfit is_repeating is_out_of_sequence completed
checks_unnamed id s m = refl

-- an accepted addition is accepted as it is logged
pub relogged_accepted : (terms : Terms) (id : ℤ) (o : SpecOffer) (st : State) → non_neg id ≡ true → update_number terms (AddPartitionSpec o) st ≡ 0 → Sound st.metadata
    → update_number terms (AddPartitionSpec (reoffer terms.offers o st.metadata.specs id)) st ≡ 0
unfolding checks add_partition_spec_checks update_formed offers_formed is_others
relogged_accepted terms id o st n e k =
    let offers : List ℕ = terms.offers in
    let l : List PartitionSpec = st.metadata.specs in
    let s : PartitionSpec = offered_spec offers o in
    let g : spec_offer_formed offers o ≡ true = accepted_offers terms (AddPartitionSpec o) st e in
    let f : offered_spec_formed (relogged offers o l id) ≡ true = spec_named_formed id (reusing l s) n (reusing_formed l s k.specs (spec_offer_formed_lem offers o g)) in
    let again : add_partition_spec_checks (offered_spec offers (reoffer offers o l id)) st ≡ add_partition_spec_checks s st = ap (λ (x : PartitionSpec). spec_checks x st.metadata) (reoffered_reuses offers o l id) ∙ checks_unnamed id (reusing l s) st.metadata in
    accepted_if terms (AddPartitionSpec (reoffer offers o l id)) st
    (offered_ids_formed_lem (relogged offers o l id) o f)
    (reoffer_formed offers o l id f g)
    (accepted_own terms (AddPartitionSpec o) st e)
    (rw again (accepted_checks terms (AddPartitionSpec o) st e))

held_specs_formed : (l : List PartitionSpec) → specs_formed l ≡ true → all spec_formed l ≡ true
unfolding specs_formed
held_specs_formed l h = (table_parts_lem spec_room spec_formed spec_below l h).1

-- a reused id is a held spec's, so it is at least 0
pub reused_spec_non_neg : (s : PartitionSpec) (l : List PartitionSpec) (id : ℤ) → specs_formed l ≡ true → reused_spec s l ≡ some id → non_neg id ≡ true
reused_spec_non_neg s l id h q = go (first same l) (all_first spec_formed same l (held_specs_formed l h)) q
  where
    same : PartitionSpec → Bool
    same x = same_list same_partition x.fields s.fields

    go : (f : Option PartitionSpec) → if_some spec_formed f ≡ true → ◌≡◌ {A = Option ℤ} (elim f [ none ↦ none | some x ↦ some x.id ]) (some id) → non_neg id ≡ true
    go none k q = absurd (let z : ◌≡◌ {A = ℕ} 0 1 = cc in omega arith)
    go (some x) k q =
        let e : x.id ≡ id = cc in
        rw e at (parts (non_neg x.id) (leb (length x.fields) partition_field_room ∷ all partition_field_formed x.fields ∷ []) (offered_of x k)).0

pub add_partition_spec_replays : (terms : Terms) (o : SpecOffer) (st : State) → update_number terms (AddPartitionSpec o) st ≡ 0 → Sound st.metadata → Replays terms 1 st (effect terms (AddPartitionSpec o) st)
unfolding effect add_partition_spec spec_added strip
add_partition_spec_replays terms o st e k = go (reused_spec r l) refl
  where
    l : List PartitionSpec
    l = st.metadata.specs

    r : PartitionSpec
    r = reusing l (offered_spec terms.offers o)

    new : ℤ
    new = suc_ℤ (highest (spec_ids l))

    entry : ℤ → Update
    entry id = AddPartitionSpec (reoffer terms.offers o l id)

    fresh : update_number terms (entry new) st ≡ 0
    fresh = relogged_accepted terms new o st (suc_non_neg (highest (spec_ids l)) (highest_non_neg (spec_ids l))) e k

    held : (id : ℤ) → reused_spec r l ≡ some id → update_number terms (entry id) st ≡ 0
    held id q = relogged_accepted terms id o st (reused_spec_non_neg r l id k.specs q) e k

    -- the entry adds the spec with the ids that were given or reused
    again : (id : ℤ) (log : List Update) → effect terms (entry id) (with_log log st) ≡ spec_added (reoffer terms.offers o l id) (spec_named id r) (with_log log st)
    again id log = ap (λ (s : PartitionSpec). spec_added (reoffer terms.offers o l id) s (with_log log st)) (reoffered_reuses terms.offers o l id)

    reuse : (id : ℤ) → reused_spec r l ≡ some id → (t : Bool) → some_with (eq_z id) st.added.spec ≡ t → Replays terms 1 st (cond t st (logged (entry id) (added_spec id st)))
    reuse id q true p = nothing terms 1 st
    reuse id q false p = once terms (entry id) st (logged (entry id) (added_spec id st)) refl (held id q) refl (λ log h. again id log ∙ rw (q, spec_added, p))

    go : (f : Option ℤ) → reused_spec r l ≡ f → Replays terms 1 st (elim f [ none ↦ new_spec o (spec_named new r) st | some id ↦ reuse_spec o (spec_named id r) st ])
    go none q = once terms (entry new) st (new_spec o (spec_named new r) st) refl fresh refl (λ log h. again new log ∙ rw (q, spec_added))
    go (some id) q = reuse id q (some_with (eq_z id) st.added.spec) refl

-- ---- set default partition spec

abbrev spec_logged : ℤ → State → ℤ
spec_logged id st = choice_logged (chosen id st.added.spec) st.added.spec

spec_rechosen : (terms : Terms) (id : ℤ) (st : State) → update_number terms (SetDefaultPartitionSpec id) st ≡ 0
    → Rechosen id st.added.spec st.metadata.fields.default_spec (holds_spec st.metadata.specs) (spec_logged id st)
unfolding checks update_formed
spec_rechosen terms id st e =
    rechosen id st.added.spec st.metadata.fields.default_spec (holds_spec st.metadata.specs)
    (accepted_form terms (SetDefaultPartitionSpec id) st e)
    (choice_passed id st (accepted_checks terms (SetDefaultPartitionSpec id) st e))

spec_accepted : (terms : Terms) (id : ℤ) (st : State) → update_number terms (SetDefaultPartitionSpec id) st ≡ 0 → update_number terms (SetDefaultPartitionSpec (spec_logged id st)) st ≡ 0
unfolding checks set_default_partition_spec_checks update_formed offers_formed is_others
spec_accepted terms id st e =
    let added : Option ℤ = st.added.spec in
    let default : ℤ = st.metadata.fields.default_spec in
    let held : ℤ → Bool = holds_spec st.metadata.specs in
    let r : Rechosen id added default held (spec_logged id st) = spec_rechosen terms id st e in
    accepted_if terms (SetDefaultPartitionSpec (spec_logged id st)) st r.formed refl (accepted_own terms (SetDefaultPartitionSpec id) st e)
    (first_after (choice_checks (spec_logged id st) added default held) (misfit_checks (chosen (spec_logged id st) added) st.metadata) refl r.passes
    ∙ ap (λ (c : ℤ). first_of (misfit_checks c st.metadata)) r.same
    ∙ passed_after (choice_checks id added default held) (misfit_checks (chosen id added) st.metadata) refl (accepted_checks terms (SetDefaultPartitionSpec id) st e))

pub set_default_partition_spec_replays : (terms : Terms) (id : ℤ) (st : State) → update_number terms (SetDefaultPartitionSpec id) st ≡ 0 → Replays terms 1 st (effect terms (SetDefaultPartitionSpec id) st)
unfolding effect set_default_partition_spec strip
set_default_partition_spec_replays terms id st e = go (eq_z (chosen id st.added.spec) st.metadata.fields.default_spec) refl
  where
    set : State
    set = logged (SetDefaultPartitionSpec (spec_logged id st)) (on_fields (with_default_spec (chosen id st.added.spec)) st)

    go : (t : Bool) → eq_z (chosen id st.added.spec) st.metadata.fields.default_spec ≡ t → Replays terms 1 st (cond t st set)
    go true q = nothing terms 1 st
    go false q = once terms (SetDefaultPartitionSpec (spec_logged id st)) st set refl (spec_accepted terms id st e) refl (λ l h. rw ((spec_rechosen terms id st e).same, q))

-- ---- remove partition specs

abbrev spec_id_of : PartitionSpec → ℤ
spec_id_of s = s.id

specs_ascending : (l : List PartitionSpec) → specs_formed l ≡ true → ascending (by_key lt_z spec_id_of) l ≡ true
unfolding specs_formed
specs_ascending l h = (table_parts_lem spec_room spec_formed spec_below l h).2

-- the default spec is not in the list, so it is not among the held ids of the list
held_accepted : (terms : Terms) (ids : List ℤ) (st : State) → update_number terms (RemovePartitionSpecs ids) st ≡ 0 → Sound st.metadata → update_number terms (RemovePartitionSpecs (held_specs ids st.metadata.specs)) st ≡ 0
unfolding checks update_formed offers_formed is_others remove_partition_specs_checks
held_accepted terms ids st e k =
    let p : is_in ids st.metadata.fields.default_spec ≡ false = (passed ((is_in ids st.metadata.fields.default_spec, default_spec_removed) ∷ []) refl (accepted_checks terms (RemovePartitionSpecs ids) st e)).0 in
    accepted_if terms (RemovePartitionSpecs (held_specs ids st.metadata.specs)) st
    (held_formed spec_id_of ids st.metadata.specs (specs_ascending st.metadata.specs k.specs) (accepted_form terms (RemovePartitionSpecs ids) st e))
    refl
    (accepted_own terms (RemovePartitionSpecs ids) st e)
    (rw (held_not_in spec_id_of ids st.metadata.specs st.metadata.fields.default_spec p))

pub remove_partition_specs_replays : (terms : Terms) (ids : List ℤ) (st : State) → update_number terms (RemovePartitionSpecs ids) st ≡ 0 → Sound st.metadata → Replays terms 1 st (effect terms (RemovePartitionSpecs ids) st)
unfolding effect remove_partition_specs strip
remove_partition_specs_replays terms ids st e k = go (is_empty held) refl
  where
    held : List ℤ
    held = held_specs ids st.metadata.specs

    removed : State
    removed = logged (RemovePartitionSpecs held) (with_metadata (with_specs (keep (λ s. not (is_in ids s.id)) st.metadata.specs) st.metadata) st)

    go : (t : Bool) → is_empty held ≡ t → Replays terms 1 st (cond t st removed)
    go true q = nothing terms 1 st
    go false q =
        once terms (RemovePartitionSpecs held) st removed refl (held_accepted terms ids st e k) refl
        (λ l h. rw (held_again spec_id_of ids st.metadata.specs, q, others_again spec_id_of ids st.metadata.specs))
