-- What an update's kind uses is tidy, and what it does not use is blank: a blank record is tidy.
use Prim.Native.Nat.{ℕ}
use mathlib.Core.Path.{◌≡◌, refl, sym, ◌∙◌}
use mathlib.Core.Bool.{Bool, true, false, cond, ◌&&◌, ◌||◌, or-false}
use mathlib.Core.List.{List, [], ◌∷◌}
use mathlib.Core.Logic.{◌⊎◌, inl, inr}
use borrow.Author.Tests.{eqb-true}
use lib.Dec.{eqb}
use lib.Signed.{non_neg}
use Rattle.records.specs.declared.snapshot.Snapshot.{Snapshot}
use Rattle.records.specs.declared.snapshot.SnapshotIds.{SnapshotIds}
use Rattle.records.specs.declared.reference.SnapshotReference.{SnapshotReference}
use Rattle.records.specs.declared.schema.SchemaIds.{SchemaIds}
use Rattle.records.specs.declared.sort_order.SortOrder.{SortOrder}
use Rattle.records.specs.declared.statistics.StatisticsFile.{StatisticsFile}
use Rattle.records.specs.declared.partition.SpecOffer.{SpecOffer}
use Rattle.records.specs.declared.partition.SpecIds.{SpecIds}
use Rattle.records.specs.declared.update.TableUpdate.{TableUpdate}
use Rattle.rules.specs.Words.{any}
use Rattle.rules.specs.Register.{Update}
use Rattle.rules.specs.Register.Update.{NotFormed}
use Rattle.rules.specs.WellFormed.{statistics_file_formed, update_formed}
use Rattle.rules.specs.Kinds.{set_statistics_kind, remove_statistics_kind, set_partition_statistics_kind, remove_partition_statistics_kind, fits_kinds, read_kind}
use Rattle.rules.specs.Blanks.{is_zero, is_zero_z, rest_blank, none_used, is_blank_snapshot_id, is_blank_schema_id, is_blank_sort_field, is_tidy_snapshot, is_blank_snapshot, is_tidy_snapshot_ids, is_blank_snapshot_ids, is_tidy_reference, is_blank_reference, is_tidy_schema_ids, is_blank_schema_ids, is_tidy_sort_order, is_blank_sort_order, is_tidy_statistics_file, is_blank_statistics_file, is_tidy_spec_offer, is_blank_spec_offer, is_blank_spec_id, is_tidy_spec_ids, is_blank_spec_ids}
use Rattle.rules.specs.Layout.{read_statistics_file}
use Rattle.rules.specs.Capacities.{removal_room, sort_field_room}
use Rattle.rules.proofs.Checks.{and_left, and_right}
use Rattle.rules.proofs.Slots.Relaid.{blank_snapshot, blank_reference, blank_statistics_file, blank_spec_offer}

-- ---- used or not

-- a kind that uses the record asks that it is tidy, and any other that it is blank, from which it is tidy
pub fits : (kinds : List ℕ) (k : ℕ) {used blank tidy r : Bool} → any (eqb k) kinds ≡ used → (blank ≡ true → tidy ≡ true) → r ≡ cond used tidy blank → r ≡ fits_kinds kinds k blank tidy
fits kinds k {used} {blank} {tidy} e t h = h ∙ rw e (go used blank t)
  where
    go : (u b : Bool) → (b ≡ true → tidy ≡ true) → cond u tidy b ≡ ((u || b) && tidy)
    go true b t = refl
    go false true t = sym (t refl)
    go false false t = refl

pub one_kind : (k a : ℕ) → any (eqb k) (a ∷ []) ≡ eqb k a
one_kind k a = or-false (eqb k a)

pub two_kinds : (k a b : ℕ) → any (eqb k) (a ∷ b ∷ []) ≡ (eqb k a || eqb k b)
two_kinds k a b = rw (or-false (eqb k b))

pub three_kinds : (k a b c : ℕ) → any (eqb k) (a ∷ b ∷ c ∷ []) ≡ (eqb k a || (eqb k b || eqb k c))
three_kinds k a b c = rw (or-false (eqb k c))

-- ---- a blank record is tidy

pub none_rest : {A : Type 0} (room : ℕ) (isBlank : A → Bool) (items : List A) (n : ℕ) → none_used room isBlank items n ≡ true → rest_blank room isBlank items n ≡ true
none_rest room isBlank items n e = rw (eqb-true n 0 (and_left (is_zero n) _ e)) (and_right (is_zero n) _ e)

pub blank_snapshot_tidy : (s : Snapshot) → is_blank_snapshot s ≡ true → is_tidy_snapshot s ≡ true
unfolding is_tidy_snapshot
blank_snapshot_tidy s e = rw (blank_snapshot s e)

pub blank_snapshot_ids_tidy : (t : SnapshotIds) → is_blank_snapshot_ids t ≡ true → is_tidy_snapshot_ids t ≡ true
unfolding is_blank_snapshot_ids is_tidy_snapshot_ids
blank_snapshot_ids_tidy t e = none_rest removal_room is_blank_snapshot_id t.items t.count e

pub blank_reference_tidy : (r : SnapshotReference) → is_blank_reference r ≡ true → is_tidy_reference r ≡ true
unfolding is_tidy_reference
blank_reference_tidy r e = rw (blank_reference r e)

pub blank_schema_ids_tidy : (t : SchemaIds) → is_blank_schema_ids t ≡ true → is_tidy_schema_ids t ≡ true
unfolding is_blank_schema_ids is_tidy_schema_ids
blank_schema_ids_tidy t e = none_rest removal_room is_blank_schema_id t.items t.count e

pub blank_order_tidy : (o : SortOrder) → is_blank_sort_order o ≡ true → is_tidy_sort_order o ≡ true
unfolding is_blank_sort_order is_tidy_sort_order
blank_order_tidy o e = none_rest sort_field_room is_blank_sort_field o.items o.count (and_right (is_zero_z o.order_id.0) _ e)

pub blank_statistics_file_tidy : (f : StatisticsFile) → is_blank_statistics_file f ≡ true → is_tidy_statistics_file f ≡ true
unfolding is_tidy_statistics_file
blank_statistics_file_tidy f e = rw (blank_statistics_file f e)

pub blank_spec_offer_tidy : (o : SpecOffer) → is_blank_spec_offer o ≡ true → is_tidy_spec_offer o ≡ true
unfolding is_tidy_spec_offer
blank_spec_offer_tidy o e = rw (blank_spec_offer o e)

pub blank_spec_ids_tidy : (t : SpecIds) → is_blank_spec_ids t ≡ true → is_tidy_spec_ids t ≡ true
unfolding is_blank_spec_ids is_tidy_spec_ids
blank_spec_ids_tidy t e = none_rest removal_room is_blank_spec_id t.items t.count e

-- ---- the update

-- an update is read by its kind where it is tidy
pub tidy_first : (b : Bool) (u : Update) (n : ℕ) → (b && update_formed u) ≡ update_formed (cond b u (NotFormed n))
unfolding update_formed
tidy_first true u n = refl
tidy_first false u n = refl

-- what is asked of the kinds that set a statistics file, and of those that remove one

pub sets_statistics : (u : TableUpdate) → (u.kind ≡ set_statistics_kind) ⊎ (u.kind ≡ set_partition_statistics_kind) → update_formed (read_kind u) ≡ statistics_file_formed (read_statistics_file u.statistics.file)
unfolding update_formed
sets_statistics u (inl e) = rw e
sets_statistics u (inr e) = rw e

pub removes_statistics : (u : TableUpdate) → (u.kind ≡ remove_statistics_kind) ⊎ (u.kind ≡ remove_partition_statistics_kind) → update_formed (read_kind u) ≡ non_neg u.statistics.removed.0
unfolding update_formed
removes_statistics u (inl e) = rw e
removes_statistics u (inr e) = rw e
