-- Walks from what stays: over the snapshots that are left every walk is a beginning of what it was, and that of a branch is at least as long as its count where
-- there were as many.
use Prim.Native.Nat.{ℕ, suc, ◌≤◌}
use native.Mathlib.Omega.{arith}
use mathlib.Core.Path.{◌≡◌, refl, sym, ap, ◌∙◌}
use mathlib.Core.Bool.{Bool, true, ◌||◌, false≢true}
use mathlib.Core.List.{List, [], ◌∷◌, ◌++◌, Memᴰ}
use mathlib.Core.Option.{Option, none}
use lib.Dec.{eqb}
use lib.IntN.{ℤ, pos, negsuc}
use lib.ListN.{length, take, length-map, length-append}
use lib.Seq.{take-append_seam}
use lib.Signed.{lt_z, le_z, non_neg}
use borrow.Author.Tests.{leb-true, eq-eqb, le-leb}
use Rattle.rules.specs.Words.{eq_z, or_else, some_with, all}
use Rattle.rules.specs.Replies.{accepted}
use Rattle.rules.specs.Capacities.{snapshot_room}
use Rattle.rules.specs.Register.{Snapshot, Reference, NamedRef, Metadata}
use Rattle.rules.specs.WellFormed.{branch, snapshot_formed, snapshot_below, snapshots_formed, metadata_formed}
use Rattle.rules.specs.Walk.{Walk, Listed, lists_formed, follow, ancestors, snapshot_ids, snapshot_parents, record_ancestors, listed_ids}
use Rattle.rules.proofs.Checks.{both, and_left, or_left, or_right}
use Rattle.rules.proofs.Tables.{all_then, all_read, pairs_read, table_parts_lem, table_keep}
use Rattle.rules.proofs.Sound.Metadata.{formed_sound}
use Rattle.rules.proofs.FieldIds.Runs.{ascending_unequal}
use Rattle.rules.proofs.Offices.Follow.{parent_in}
use Rattle.retention.specs.Retention.{Policy, count_of, is_past, own_refs, retained, is_retained, remaining_snapshots}
use Rattle.retention.specs.Expiry.{expiry}
use Rattle.retention.proofs.Stay.{Expires, expiry_accepted}
use Rattle.retention.proofs.Walks.{Begins, follow_fewer, left_fewer}
use Rattle.retention.proofs.Second.{retained_again}

-- ---- every walk

-- the walk ends in front of the excluded id
abbrev stops_at : Option ℤ → List ℤ → ℤ → Bool
stops_at excluded listed id = some_with (eq_z id) excluded

-- the ids and parents of well-formed snapshots are such as a walk asks for
lists_formed_lem : (l : List Snapshot) → snapshots_formed l ≡ true → lists_formed (snapshot_ids l) (snapshot_parents l) ≡ true
unfolding snapshots_formed
lists_formed_lem l f =
    let table : (length l ≤ snapshot_room) × (all snapshot_formed l ≡ true) × (_ ≡ true) = table_parts_lem snapshot_room snapshot_formed snapshot_below l f in
    let few : length l ≤ snapshot_room = table.0 in
    let ids : length (snapshot_ids l) ≡ length l = length-map l (λ (s : Snapshot). s.id) in
    let parents : length (snapshot_parents l) ≡ length l = length-map l (λ (s : Snapshot). or_else s.parent (negsuc 0)) in
    both (both (both (eq-eqb (length (snapshot_ids l)) (length (snapshot_parents l)) (omega arith)) (le-leb (length (snapshot_ids l)) snapshot_room (omega arith)))
    (ascending_unequal (snapshot_ids l) (pairs_read (λ (s : Snapshot). s.id) lt_z l ∙ table.2)))
    (all_read (λ (s : Snapshot). s.id) non_neg l ∙ all_then snapshot_formed (λ (s : Snapshot). non_neg s.id) (λ s h. and_left (non_neg s.id) _ (and_left _ _ h)) l table.1)

-- so that it is just followed
walk_follows : (l : List Snapshot) → snapshots_formed l ≡ true → (start : ℤ) (excluded : Option ℤ) → record_ancestors l start excluded ≡ follow (suc snapshot_room) (parent_in l) (stops_at excluded) [] start
unfolding ancestors
walk_follows l f start excluded = rw (lists_formed_lem l f)

-- a walk that lists a beginning of other ids
pub record Beginning (ids : List ℤ) (walk : Walk) : Type 0 where
  pub count : ℕ
  pub is : walk ≡ Listed (take count ids)

abbrev beginning : {parent other : ℤ → Option ℤ} {stops stopsToo : List ℤ → ℤ → Bool} {ids : List ℤ} {walk : Walk} → Begins parent other stops stopsToo ids walk → Beginning ids walk
beginning b = record { count = length b.listed; is = b.is ∙ ap Listed (sym (ap (take (length b.listed)) b.whole ∙ take-append_seam b.listed b.rest)) }

module _ (p : Policy) (m : Metadata) (f : metadata_formed m ≡ true) where
  before_formed : snapshots_formed m.snapshots ≡ true
  before_formed = (formed_sound m f).snapshots

  after_formed : snapshots_formed (remaining_snapshots p m) ≡ true
  unfolding snapshots_formed
  after_formed = table_keep snapshot_room snapshot_formed snapshot_below (λ (s : Snapshot). is_retained p m s.id) m.snapshots before_formed

  walk_left : (start : ℤ) (excluded : Option ℤ) (ids : List ℤ) → record_ancestors m.snapshots start excluded ≡ Listed ids
      → Begins (parent_in m.snapshots) (parent_in (remaining_snapshots p m)) (stops_at excluded) (stops_at excluded) ids (record_ancestors (remaining_snapshots p m) start excluded)
  walk_left start excluded ids e =
      rw (walk_follows (remaining_snapshots p m) after_formed start excluded)
      (follow_fewer _ _ _ _ (left_fewer (is_retained p m) m.snapshots (stops_at excluded)) (suc snapshot_room) [] start ids (sym (walk_follows m.snapshots before_formed start excluded) ∙ e))

  -- from any snapshot, up to any excluded id
  pub walk_begins : (start : ℤ) (excluded : Option ℤ) (ids : List ℤ) → record_ancestors m.snapshots start excluded ≡ Listed ids → Beginning ids (record_ancestors (remaining_snapshots p m) start excluded)
  walk_begins start excluded ids e = beginning (walk_left start excluded ids e)

-- ---- the walk of a branch

-- what a branch keeps is a beginning of its walk
retained_begins : (p : Policy) (l : List Snapshot) (r : Reference) → snapshots_formed l ≡ true → r.kind ≡ branch → (ids : List ℤ) → record_ancestors l r.snapshot none ≡ Listed ids
    → Begins (parent_in l) (parent_in l) (stops_at none) (is_past p l r) ids (retained p l r)
unfolding retained
retained_begins p l r f b ids e =
    rw (eq-eqb r.kind branch b)
    (follow_fewer _ _ _ _ (record { same = λ z h. refl; stopped = λ listed z h n. absurd (false≢true n) }) (suc snapshot_room) [] r.snapshot ids (sym (walk_follows l f r.snapshot none) ∙ e))

-- a number that is at most a count is at most a longer one
at_most_longer : (n : ℤ) {a b : ℕ} → a ≤ b → le_z n (pos a) ≡ true → le_z n (pos b) ≡ true
at_most_longer (pos n) {a} {b} h e = le-leb n b (omega (arith, leb-true n a e))
at_most_longer (negsuc n) h e = refl

-- a beginning that goes on from another: it is at least as long as a number that the other reaches, or the whole where the other is
long_enough : (count : ℤ) (ids kept rest listed more last : List ℤ) → ids ≡ kept ++ rest → ids ≡ listed ++ last → listed ≡ kept ++ more
    → ((z : ℤ) (zs : List ℤ) → rest ≡ z ∷ zs → le_z count (pos (length kept)) ≡ true) → le_z count (pos (length listed)) || eqb (length listed) (length ids) ≡ true
long_enough count ids kept [] listed more last e f g h =
    or_right (le_z count (pos (length listed)))
    (eq-eqb (length listed) (length ids) (omega (arith, simp length-append at (ap length e), simp length-append at (ap length f), simp length-append at (ap length g))))
long_enough count ids kept (z ∷ zs) listed more last e f g h =
    or_left (eqb (length listed) (length ids)) (at_most_longer count (omega (arith, simp length-append at (ap length g))) (h z zs refl))

-- a beginning that has as many as the count says, or is the whole
pub record BranchBegins (count : ℤ) (ids : List ℤ) (walk : Walk) : Type 0 where
  pub begins : Beginning ids walk
  pub enough : le_z count (pos begins.count) || eqb begins.count (length ids) ≡ true

-- of an own branch that stays
pub branch_walk_begins : (p : Policy) (m : Metadata) → (expiry p m).number ≡ accepted → (r : NamedRef) → Memᴰ r (own_refs p m) → r.reference.kind ≡ branch
    → (ids : List ℤ) → record_ancestors m.snapshots r.reference.snapshot none ≡ Listed ids
    → BranchBegins (count_of p r.reference) ids (record_ancestors (remaining_snapshots p m) r.reference.snapshot none)
branch_walk_begins p m a r i b ids e =
    let k : Expires p m = expiry_accepted p m a in
    let count : ℤ = count_of p r.reference in
    let after = walk_left p m k.formed r.reference.snapshot none ids e in
    let kept = retained_begins p m.snapshots r.reference (before_formed p m k.formed) b ids e in
    let again = retained_begins p (remaining_snapshots p m) r.reference (after_formed p m k.formed) b after.listed after.is in
    let same : again.listed ≡ kept.listed = ap listed_ids (sym again.is ∙ retained_again p m k r i ∙ kept.is) in
    let on : after.listed ≡ kept.listed ++ again.rest = again.whole ∙ ap (λ (x : List ℤ). x ++ again.rest) same in
    let reached : (z : ℤ) (zs : List ℤ) → kept.rest ≡ z ∷ zs → le_z count (pos (length kept.listed)) ≡ true = λ z zs q. let n = kept.ends z zs q in and_left _ _ (n.ended n.held) in
    record { begins = beginning after; enough = long_enough count ids kept.listed kept.rest after.listed again.rest after.rest kept.whole after.whole on reached }
