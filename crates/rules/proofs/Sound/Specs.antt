-- Adding, setting and removing partition specs keeps metadata sound: a spec with its reused and fresh ids is one that can be held.
use Prim.Native.Nat.{ℕ, ◌<◌}
use mathlib.Core.Path.{◌≡◌, refl, sym, ap, ◌∙◌}
use mathlib.Core.Bool.{Bool, true, false, cond, not, ◌&&◌, ◌||◌}
use mathlib.Core.List.{List, [], ◌∷◌, map}
use mathlib.Core.Option.{Option, none, some}
use lib.Dec.{leb}
use lib.IntN.{ℤ, suc_ℤ}
use lib.ListN.{length, length-map}
use lib.Signed.{lt_z, non_neg}
use borrow.Author.Tests.{leb-false, not-false}
use Rattle.rules.specs.Words.{eq_z, larger, is_some, if_some, some_with, all, any, keep, is_empty, same_bytes, unequal_by, is_in, unequal, highest, lesser, smallest, put, first_of, Check}
use Rattle.rules.specs.Replies.{name_clash, source_misfit}
use Rattle.rules.specs.Capacities.{spec_room, partition_field_room}
use Rattle.rules.specs.Register.{PartitionField, PartitionSpec, SpecOffer, Metadata, State, with_specs, with_last_partition}
use Rattle.rules.specs.Partitions.{is_redundant, partition_names, partition_ids, spec_ids, holds_spec}
use Rattle.rules.specs.WellFormed.{at_least_one, transform_formed, name_formed, partition_field_formed, offered_spec_formed, spec_formed, spec_below, specs_formed, default_spec_held, has_spec}
use Rattle.rules.specs.Offers.{is_tidy_spec, offered_spec, spec_offer_formed}
use Rattle.rules.specs.SchemaUpdates.{chosen, choice_checks}
use Rattle.rules.specs.SpecUpdates.{with_field_id, fields_of_all, is_like, like_ids, given_or_reused, reusing, current_fields, is_clashing, is_misfit, is_repeating, reused_spec, next_free, numbered, completed, new_spec_checks, spec_checks, add_partition_spec_checks, spec_named, reaches, new_spec, spec_added, add_partition_spec, misfit_checks, set_default_partition_spec_checks, set_default_partition_spec, remove_partition_specs_checks, held_specs, remove_partition_specs}
use Rattle.rules.proofs.Checks.{Hold, by_test, by_option, both, and_right, neither, parts, whole, spec_tests, offered_of, passed, passed_unless, passed_before, passed_after}
use Rattle.rules.proofs.Orders.{numbers_ordered, numbers_told, highest_non_neg, suc_non_neg}
use Rattle.rules.proofs.Tables.{all_head, all_tail, all_then, all_append, all_keep, any_put, any_keep, table_parts_lem, table_put, table_keep}
use Rattle.rules.proofs.Fresh.{ids_of, above_one, one_non_neg, larger_non_neg, all_if_in, next_above, fresh_unequal}
use Rattle.rules.proofs.Sound.Metadata.{Sound, SoundState, with_fields_lem, with_default_spec_lem, with_specs_lem}
use Rattle.rules.proofs.Sound.Singles.{partition_formed, partition_non_neg}
use Rattle.rules.proofs.Sound.Schemas.{chosen_held}

-- ---- offers

-- an offer that is well formed offers a well-formed spec
pub spec_offer_formed_lem : (offers : List ℕ) (o : SpecOffer) → spec_offer_formed offers o ≡ true → offered_spec_formed (offered_spec offers o) ≡ true
unfolding spec_offer_formed
spec_offer_formed_lem offers o h = and_right (is_tidy_spec offers o) (offered_spec_formed (offered_spec offers o)) h

-- ---- fields that differ in their ids alone

abbrev pub without_id : PartitionField → PartitionField
without_id f = with_field_id none f

-- the fields of the one are those of the other, but for their ids
abbrev pub Alike : List PartitionField → List PartitionField → Type 0
Alike fs gs = map without_id fs ≡ map without_id gs

unequal_read : {A B : Type 0} (f : A → B) (same : B → B → Bool) (l : List A) → unequal_by same (map f l) ≡ unequal_by (λ (x y : A). same (f x) (f y)) l
unequal_read f same [] = refl
unequal_read {A} f same (x ∷ l) = go (any_read l) (unequal_read f same l)
  where
    any_read : (l : List A) → any (same (f x)) (map f l) ≡ any (λ (y : A). same (f x) (f y)) l
    any_read [] = refl
    any_read (y ∷ l) = ap (λ (b : Bool). same (f x) (f y) || b) (any_read l)

    go : {a b c d : Bool} → a ≡ b → c ≡ d → (not a && c) ≡ (not b && d)
    go p q = rw (p, q)

-- a test of two fields that does not look at their ids
alike_unequal : (same : PartitionField → PartitionField → Bool) → ((f g : PartitionField) → same (without_id f) (without_id g) ≡ same f g) → (fs gs : List PartitionField) → Alike fs gs → unequal_by same fs ≡ unequal_by same gs
alike_unequal same h fs gs e = sym (without fs) ∙ ap (unequal_by same) e ∙ without gs
  where
    without : (l : List PartitionField) → unequal_by same (map without_id l) ≡ unequal_by same l
    without l = unequal_read without_id same l ∙ simp h

alike_names : (s t : PartitionSpec) → Alike s.fields t.fields → unequal_by same_bytes (partition_names s) ≡ unequal_by same_bytes (partition_names t)
alike_names s t e =
    let name : PartitionField → List ℕ = λ f. f.name in
    unequal_read name same_bytes s.fields
    ∙ alike_unequal (λ (f g : PartitionField). same_bytes f.name g.name) (λ f g. refl) s.fields t.fields e
    ∙ sym (unequal_read name same_bytes t.fields)

alike_redundant : (fs gs : List PartitionField) → Alike fs gs → unequal_by is_redundant fs ≡ unequal_by is_redundant gs
unfolding is_redundant
alike_redundant = alike_unequal is_redundant (λ f g. refl)

pub alike_length : (fs gs : List PartitionField) → Alike fs gs → length fs ≡ length gs
alike_length fs gs e = sym (length-map fs without_id) ∙ ap length e ∙ length-map gs without_id

-- ---- reused ids

module _ (old : List PartitionField) where
  abbrev reusing_field : PartitionField → PartitionField
  reusing_field f = with_field_id (given_or_reused old f) f

  reusing_alike_fields : (fs : List PartitionField) → Alike (map reusing_field fs) fs
  reusing_alike_fields [] = refl
  reusing_alike_fields (f ∷ fs) = ap (λ (l : List PartitionField). without_id f ∷ l) (reusing_alike_fields fs)

pub reusing_alike : (l : List PartitionSpec) (s : PartitionSpec) → Alike (reusing l s).fields s.fields
unfolding reusing
reusing_alike l s = reusing_alike_fields (fields_of_all l) s.fields

-- a test that holds for all ids that fields have, where they have one
abbrev of_id : (ℤ → Bool) → PartitionField → Bool
of_id p f = if_some p f.id

all_ids : (p : ℤ → Bool) (fs : List PartitionField) → all (of_id p) fs ≡ true → all p (ids_of fs) ≡ true
all_ids p [] h = refl
all_ids p (f ∷ fs) h = go f.id (all_head (of_id p) f fs h) (all_ids p fs (all_tail (of_id p) f fs h))
  where
    go : (o : Option ℤ) → if_some p o ≡ true → all p (ids_of fs) ≡ true → all p (elim o [ none ↦ ids_of fs | some id ↦ id ∷ ids_of fs ]) ≡ true
    go none k ih = ih
    go (some id) k ih = both k ih

all_smallest : (p : ℤ → Bool) (l : List ℤ) → all p l ≡ true → if_some p (smallest l) ≡ true
all_smallest p [] h = refl
all_smallest p (x ∷ l) h = go (smallest l) (all_smallest p l (all_tail p x l h))
  where
    go : (o : Option ℤ) → if_some p o ≡ true → if_some p (lesser (some x) o) ≡ true
    go none k = all_head p x l h
    go (some y) k = by_test (λ (z : ℤ). p z ≡ true) (lt_z y x) (λ e. k) (λ e. all_head p x l h)

-- what holds of the ids of old fields and of a given id holds of the id that is given or reused
pub reused_holds : (p : ℤ → Bool) (old : List PartitionField) (f : PartitionField) → all (of_id p) old ≡ true → of_id p f ≡ true → if_some p (given_or_reused old f) ≡ true
reused_holds p old f h k = go f.id k
  where
    go : (o : Option ℤ) → if_some p o ≡ true → if_some p (elim o [ none ↦ smallest (like_ids old f) | some id ↦ some id ]) ≡ true
    go none k = all_smallest p (like_ids old f) (all_ids p (keep (is_like f) old) (all_keep (of_id p) (is_like f) old h))
    go (some id) k = k

-- ---- well-formed fields

abbrev field_tests : PartitionField → List Bool
field_tests f = transform_formed f.transform f.buckets ∷ leb 1 (length f.name) ∷ name_formed f.name ∷ []

module _ (f : PartitionField) (h : partition_field_formed f ≡ true) where
  field_parts_lem : Hold (at_least_one f.source ∷ of_id at_least_one f ∷ field_tests f)
  field_parts_lem = parts (at_least_one f.source) (of_id at_least_one f ∷ field_tests f) h

  pub field_id : of_id at_least_one f ≡ true
  field_id = field_parts_lem.1.0

  -- with another id
  field_renumbered : (id : Option ℤ) → if_some at_least_one id ≡ true → partition_field_formed (with_field_id id f) ≡ true
  field_renumbered id k = whole (at_least_one f.source) (if_some at_least_one id ∷ field_tests f) (field_parts_lem.0, (k, field_parts_lem.1.1))

-- the fields of held specs are well formed
held_fields_lem : (l : List PartitionSpec) → all spec_formed l ≡ true → all partition_field_formed (fields_of_all l) ≡ true
held_fields_lem [] h = refl
held_fields_lem (s ∷ l) h =
    let k = parts (non_neg s.id) (leb (length s.fields) partition_field_room ∷ all partition_field_formed s.fields ∷ []) (offered_of s (all_head spec_formed s l h)) in
    all_append partition_field_formed s.fields (fields_of_all l) k.1.1.0 (held_fields_lem l (all_tail spec_formed s l h))

pub held_ids_lem : (l : List PartitionSpec) → specs_formed l ≡ true → all (of_id at_least_one) (fields_of_all l) ≡ true
unfolding specs_formed
held_ids_lem l h = all_then partition_field_formed (of_id at_least_one) field_id (fields_of_all l) (held_fields_lem l (table_parts_lem spec_room spec_formed spec_below l h).1)

-- an offered spec is well formed with its reused ids
reusing_fields_formed : (old : List PartitionField) → all (of_id at_least_one) old ≡ true → (fs : List PartitionField) → all partition_field_formed fs ≡ true → all partition_field_formed (map (reusing_field old) fs) ≡ true
reusing_fields_formed old o [] h = refl
reusing_fields_formed old o (f ∷ fs) h =
    let k : partition_field_formed f ≡ true = all_head partition_field_formed f fs h in
    both (field_renumbered f k (given_or_reused old f) (reused_holds at_least_one old f o (field_id f k))) (reusing_fields_formed old o fs (all_tail partition_field_formed f fs h))

pub reusing_formed : (l : List PartitionSpec) (s : PartitionSpec) → specs_formed l ≡ true → offered_spec_formed s ≡ true → offered_spec_formed (reusing l s) ≡ true
unfolding reusing
reusing_formed l s h k =
    let old : List PartitionField = fields_of_all l in
    let t = parts (non_neg s.id) (leb (length s.fields) partition_field_room ∷ all partition_field_formed s.fields ∷ []) k in
    whole (non_neg s.id) (leb (length (map (reusing_field old) s.fields)) partition_field_room ∷ all partition_field_formed (map (reusing_field old) s.fields) ∷ [])
    (t.0, (rw (length-map s.fields (reusing_field old)) t.1.0, (reusing_fields_formed old (held_ids_lem l h) s.fields t.1.1.0, tt)))

-- under another id
pub spec_named_formed : (id : ℤ) (s : PartitionSpec) → non_neg id ≡ true → offered_spec_formed s ≡ true → offered_spec_formed (spec_named id s) ≡ true
spec_named_formed id s n h =
    let more : List Bool = leb (length s.fields) partition_field_room ∷ all partition_field_formed s.fields ∷ [] in
    whole (non_neg id) more (n, (parts (non_neg s.id) more h).1)

-- ---- fresh ids

numbered_alike : (taken : List ℤ) (n : ℤ) (fs : List PartitionField) → Alike (numbered taken n fs) fs
unfolding numbered
numbered_alike taken n [] = refl
numbered_alike taken n (f ∷ fs) =
    by_option (λ (l : List PartitionField). map without_id l ≡ without_id f ∷ map without_id fs) f.id
    (λ q. ap (λ (l : List PartitionField). without_id f ∷ l) (numbered_alike taken (next_free taken n) fs))
    (λ id q. ap (λ (l : List PartitionField). without_id f ∷ l) (numbered_alike taken (larger n id) fs))

-- from a number of at least 0 on, each gets an id of at least 1
numbered_formed : (taken : List ℤ) (n : ℤ) (fs : List PartitionField) → non_neg n ≡ true → all partition_field_formed fs ≡ true → all partition_field_formed (numbered taken n fs) ≡ true
unfolding numbered
numbered_formed taken n [] z h = refl
numbered_formed taken n (f ∷ fs) z h =
    let k : partition_field_formed f ≡ true = all_head partition_field_formed f fs h in
    let ks : all partition_field_formed fs ≡ true = all_tail partition_field_formed f fs h in
    let x : ℤ = next_free taken n in
    let one : at_least_one x ≡ true = above_one n x z (next_above taken n) in
    by_option (λ (l : List PartitionField). all partition_field_formed l ≡ true) f.id
    (λ q. both (field_renumbered f k (some x) one) (numbered_formed taken x fs (one_non_neg x one) ks))
    (λ id q. both k (numbered_formed taken (larger n id) fs (larger_non_neg n id z) ks))

numbered_has_ids : (taken : List ℤ) (n : ℤ) (fs : List PartitionField) → all (λ (f : PartitionField). is_some f.id) (numbered taken n fs) ≡ true
unfolding numbered
numbered_has_ids taken n [] = refl
numbered_has_ids taken n (f ∷ fs) =
    by_option (λ (l : List PartitionField). all (λ (g : PartitionField). is_some g.id) l ≡ true) f.id
    (λ q. numbered_has_ids taken (next_free taken n) fs)
    (λ id q. both (ap is_some q) (numbered_has_ids taken (larger n id) fs))

-- ---- a spec that can be held

-- 31 leaves specs that repeat nothing
not_repeating : (s : PartitionSpec) → is_repeating s ≡ false → (unequal_by same_bytes (partition_names s) ≡ true) × (unequal_by is_redundant s.fields ≡ true) × (unequal (partition_ids s) ≡ true)
unfolding is_repeating
not_repeating s e =
    let names : Bool = not (unequal_by same_bytes (partition_names s)) in
    let redundant : Bool = not (unequal_by is_redundant s.fields) in
    let k = neither (names || redundant) (not (unequal (partition_ids s))) e in
    let j = neither names redundant k.0 in
    (not-false (unequal_by same_bytes (partition_names s)) j.0, not-false (unequal_by is_redundant s.fields) j.1, not-false (unequal (partition_ids s)) k.1)

-- with its fresh ids one that is well formed and repeats nothing can be held
pub completed_formed : (last : ℤ) (s : PartitionSpec) → non_neg last ≡ true → offered_spec_formed s ≡ true → is_repeating s ≡ false → spec_formed (completed last s) ≡ true
unfolding completed
completed_formed last s z h e =
    let fs : List PartitionField = numbered (partition_ids s) last s.fields in
    let full : PartitionSpec = record { id = s.id; fields = fs } in
    let a : Alike fs s.fields = numbered_alike (partition_ids s) last s.fields in
    let k = not_repeating s e in
    let t = parts (non_neg s.id) (leb (length s.fields) partition_field_room ∷ all partition_field_formed s.fields ∷ []) h in
    let offered : offered_spec_formed full ≡ true = whole (non_neg s.id) (leb (length fs) partition_field_room ∷ all partition_field_formed fs ∷ [])
    (t.0, (rw (alike_length fs s.fields a) t.1.0, (numbered_formed (partition_ids s) last s.fields z t.1.1.0, tt))) in
    whole (offered_spec_formed full) (spec_tests full) (
      offered,
      (
        numbered_has_ids (partition_ids s) last s.fields,
        (
          alike_names full s a ∙ k.0,
          (
            fresh_unequal (partition_ids s) last s.fields (all_if_in (is_in (partition_ids s)) (partition_ids s) (λ x m. m)) k.2,
            (alike_redundant fs s.fields a ∙ k.1, tt),
          ),
        ),
      ),
    )

-- ---- add partition spec

-- what the checks of a new spec leave: it repeats nothing, and there is room
pub new_spec_passed : (s : PartitionSpec) (m : Metadata) → reused_spec s m.specs ≡ none → first_of (spec_checks s m) ≡ 0 → (is_repeating s ≡ false) × (length m.specs < spec_room)
unfolding spec_checks
new_spec_passed s m n e =
    let first_two : List Check = (is_clashing (current_fields m) s || is_repeating s, name_clash) ∷ (is_misfit (current_fields m) s, source_misfit) ∷ [] in
    let rest : List Check = cond (is_some (reused_spec s m.specs)) [] (new_spec_checks s m) in
    let k = passed first_two refl (passed_before first_two rest e) in
    let j = passed_unless (is_some (reused_spec s m.specs)) (new_spec_checks s m) refl (ap is_some n) (passed_after first_two rest refl e) in
    ((neither (is_clashing (current_fields m) s) (is_repeating s) k.0).1, leb-false spec_room (length m.specs) j.1.1.0)

new_spec_sound : (o : SpecOffer) (s : PartitionSpec) (st : State) → spec_formed (completed st.metadata.fields.last_partition s) ≡ true → length st.metadata.specs < spec_room → Sound st.metadata → Sound (new_spec o s st).metadata
unfolding specs_formed default_spec_held
new_spec_sound o s st h r d =
    let m : Metadata = st.metadata in
    let last : ℤ = m.fields.last_partition in
    let full : PartitionSpec = completed last s in
    let l : List PartitionSpec = put spec_below full m.specs in
    let f : specs_formed l ≡ true = table_put numbers_ordered (λ (x : PartitionSpec). x.id) spec_room spec_formed full m.specs r h d.specs in
    let c : any (has_spec m.fields.default_spec) l ≡ true = any_put numbers_ordered (λ (x : PartitionSpec). x.id) (λ (k : ℤ). eq_z k m.fields.default_spec) full m.specs d.spec_held in
    with_fields_lem (with_specs l m) (with_specs_lem m d l f c) (with_last_partition (larger last (reaches full)) m.fields)
    (partition_formed m.fields d.fields (larger last (reaches full)) (larger_non_neg last (reaches full) (partition_non_neg m.fields d.fields)))
    refl refl refl

-- of a spec with its reused ids
spec_added_sound : (o : SpecOffer) (s : PartitionSpec) (st : State) → offered_spec_formed s ≡ true → first_of (spec_checks s st.metadata) ≡ 0 → Sound st.metadata → Sound (spec_added o s st).metadata
unfolding spec_added is_repeating
spec_added_sound o s st h e d =
    let m : Metadata = st.metadata in
    let id : ℤ = suc_ℤ (highest (spec_ids m.specs)) in
    let n : non_neg id ≡ true = suc_non_neg (highest (spec_ids m.specs)) (highest_non_neg (spec_ids m.specs)) in
    by_option SoundState (reused_spec s m.specs)
    (λ q.
    let k = new_spec_passed s m q e in
    new_spec_sound o (spec_named id s) st (completed_formed m.fields.last_partition (spec_named id s) (partition_non_neg m.fields d.fields) (spec_named_formed id s n h) k.0) k.1 d)
    (λ held q. by_test SoundState (some_with (eq_z held) st.added.spec) (λ g. d) (λ g. d))

pub add_partition_spec_sound : (o : SpecOffer) (s : PartitionSpec) (st : State) → offered_spec_formed s ≡ true → first_of (add_partition_spec_checks s st) ≡ 0 → Sound st.metadata → Sound (add_partition_spec o s st).metadata
unfolding add_partition_spec add_partition_spec_checks
add_partition_spec_sound o s st h e d = spec_added_sound o (reusing st.metadata.specs s) st (reusing_formed st.metadata.specs s d.specs h) e d

-- ---- set default partition spec

-- 14 and 15 come before 32
pub choice_passed : (id : ℤ) (st : State) → first_of (set_default_partition_spec_checks id st) ≡ 0 → first_of (choice_checks id st.added.spec st.metadata.fields.default_spec (holds_spec st.metadata.specs)) ≡ 0
unfolding set_default_partition_spec_checks
choice_passed id st e =
    passed_before (choice_checks id st.added.spec st.metadata.fields.default_spec (holds_spec st.metadata.specs)) (misfit_checks (chosen id st.added.spec) st.metadata) e

pub set_default_partition_spec_sound : (id : ℤ) (st : State) → first_of (set_default_partition_spec_checks id st) ≡ 0 → Sound st.metadata → Sound (set_default_partition_spec id st).metadata
unfolding set_default_partition_spec
set_default_partition_spec_sound id st e d =
    by_test SoundState (eq_z (chosen id st.added.spec) st.metadata.fields.default_spec)
    (λ n. d)
    (λ n. with_default_spec_lem st.metadata d (chosen id st.added.spec) (chosen_held id st.added.spec st.metadata.fields.default_spec (holds_spec st.metadata.specs) (choice_passed id st e) n))

-- ---- remove partition specs

-- 34: the default one stays
default_stays : (ids : List ℤ) (m : Metadata) → is_in ids m.fields.default_spec ≡ false → default_spec_held m ≡ true
    → any (has_spec m.fields.default_spec) (keep (λ (s : PartitionSpec). not (is_in ids s.id)) m.specs) ≡ true
unfolding default_spec_held
default_stays ids m e h =
    any_keep (has_spec m.fields.default_spec) (λ (s : PartitionSpec). not (is_in ids s.id))
    (λ (x : PartitionSpec) q. ap (λ (k : ℤ). not (is_in ids k)) (numbers_told.equal x.id m.fields.default_spec q) ∙ ap not e) m.specs h

pub remove_partition_specs_sound : (ids : List ℤ) (st : State) → first_of (remove_partition_specs_checks ids st) ≡ 0 → Sound st.metadata → Sound (remove_partition_specs ids st).metadata
unfolding remove_partition_specs remove_partition_specs_checks specs_formed
remove_partition_specs_sound ids st e d =
    let m : Metadata = st.metadata in
    let p : PartitionSpec → Bool = λ s. not (is_in ids s.id) in
    by_test SoundState (is_empty (held_specs ids m.specs))
    (λ f. d)
    (λ f. with_specs_lem m d (keep p m.specs) (table_keep spec_room spec_formed spec_below p m.specs d.specs) (default_stays ids m (passed (remove_partition_specs_checks ids st) refl e).0 d.spec_held))
