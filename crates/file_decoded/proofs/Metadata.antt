-- The metadata from the cells of a file and its bytes is the metadata that the rule says.
use Prim.Native.Nat.{ℕ, zero, suc}
use native.Mathlib.Omega.{arith}
use mathlib.Core.Path.{◌≡◌, refl, sym, ap, ◌∙◌}
use mathlib.Core.Bool.{true, false, cond, false≢true}
use mathlib.Core.List.{List, []}
use mathlib.Core.Option.{Option, none, some}
use borrow.Table.Steps.{cases}
use lib.Dec.{ltb}
use lib.IntN.{ℤ, pos}
use lib.ListN.{length, get_or, replicate, length-replicate}
use Rattle.rules.specs.Words.{or_else}
use Rattle.rules.specs.Capacities.{text_room}
use Rattle.json_rule.specs.Letters.{bytes}
use Rattle.json_rule.specs.Tree.{Defect, Json, Members, Text, text}
use Rattle.json_rule.specs.Members.{members_in, text_by, number_by, number_or0}
use Rattle.json_rule.specs.Records.{natural_of, uuid_of}
use Rattle.json_rule.specs.Shapes.{AUuid, u64}
use Rattle.json_rule.specs.Defects.{stop_defects}
use Rattle.json_judge.proofs.Right.{both_empty}
use Rattle.json_judge.proofs.Follow.{is_closed}
use Rattle.file_rule.specs.Tables.{TheFile, OfKind}
use Rattle.file_rule.specs.FileDefects.{version_of, defects, tree_defects, file_defects}
use Rattle.file_rule.specs.Import.{has, fields_of, metadata_of}
use Rattle.file_cells.specs.Wants.{passes_over}
use Rattle.file_cells.specs.Cells.{cell_room, size_of, size_at, offset_at}
use Rattle.file_cells.specs.Filled.{filled}
use Rattle.file_holds.specs.Holds.{Holds}
use Rattle.file_holds.proofs.Right.{record_shape}
use Rattle.file_holds.proofs.Held.{filled_holds}
use Rattle.file_records.specs.Decoded.{is_there, natural_at, maybe_at, maybe_narrow_at, text_at, uuid_at, fields_in, metadata_in}
use Rattle.file_decoded.specs.Found.{FoundAgain}
use Rattle.file_decoded.proofs.Again.{tree_found, tree_closed}
use Rattle.file_decoded.proofs.Reading.{is_known, always, HeldRecord, record_of_lem}
use Rattle.file_decoded.proofs.Scalars.{SingleReading, single, uuid_read, natural_read}
use Rattle.file_decoded.proofs.Inner.{outer, number64, number32, text as text_at_lem}
use Rattle.file_decoded.proofs.Lists.{record_size}
use Rattle.file_decoded.proofs.Versions.{known_version_lem, since_two, since_three, byte_version}
use Rattle.file_decoded.proofs.Tables.{snapshots_same, snapshot_log_same, metadata_log_same, statistics_table_same, partition_statistics_table_same, orders_same, schemas_same, current_schema_same, specs_same, default_spec_same, current_same, refs_table_same}

module _ (version : ℕ) (bs cells : List ℕ) (v : is_known version ≡ true) (ms : Members) (h : HeldRecord version bs cells TheFile 0 ms) where
  -- ---- single fields

  uuid_same : uuid_at bs cells 2 ≡ cond (has "table-uuid" ms) (uuid_of (text_by "table-uuid" ms)) (replicate 16 0)
  unfolding offset_at size_of
  uuid_same = uuid_read version bs cells (bytes "table-uuid") 2 ms (single version bs cells AUuid (bytes "table-uuid") 2 2 ms refl refl (outer version bs cells v h 1 _ refl refl (always version _ refl) 2 refl))

  location_same : text_at bs cells text_room 4 ≡ text_by "location" ms
  unfolding offset_at size_of
  location_same = text_at_lem version bs cells v h (bytes "location") 3 4 refl text_room (outer version bs cells v h 2 _ refl refl (always version _ refl) 4 refl)

  updated_same : maybe_at bs cells 8 ≡ number_by "last-updated-ms" ms
  unfolding offset_at size_of
  updated_same = number64 version bs cells v h (bytes "last-updated-ms") 5 8 refl (outer version bs cells v h 4 _ refl refl (always version _ refl) 8 refl)

  sequence_same : cond (ltb 1 version) (or_else (maybe_at bs cells 6) (pos 0)) (pos 0) ≡ cond (ltb 1 version) (number_or0 "last-sequence-number" ms) (pos 0)
  unfolding offset_at size_of
  sequence_same =
      cases (ltb 1 version)
      (λ b. rw (b, number64 version bs cells v h (bytes "last-sequence-number") 4 6 refl (outer version bs cells v h 3 _ refl refl (since_two version v _ b refl refl) 6 refl)))
      (λ b. rw b)

  none_there : (at : ℕ) → is_there cells at ≡ false → natural_at cells at ≡ 0
  unfolding natural_at
  none_there at e = rw e

  next_row_same : cond (ltb 2 version) (natural_at cells 9045) 0 ≡ cond (ltb 2 version) (natural_of (number_or0 "next-row-id" ms)) 0
  unfolding offset_at size_of
  next_row_same = cases (ltb 2 version) (λ b. rw b (go b (number_by "next-row-id" ms) refl)) (λ b. rw b)
    where
      read : ltb 2 version ≡ true → SingleReading version bs cells u64 (bytes "next-row-id") 9045 ms
      read b = single version bs cells u64 (bytes "next-row-id") 23 9045 ms refl refl (outer version bs cells v h 22 _ refl refl (since_three version v _ b refl) 9045 refl)

      go : ltb 2 version ≡ true → (o : Option ℤ) → number_by "next-row-id" ms ≡ o → natural_at cells 9045 ≡ natural_of (or_else o (pos 0))
      go b none e = none_there 9045 ((natural_read version bs cells (pos 0) (pos 18446744073709551615) (bytes "next-row-id") 9045 ms (λ z w. w) (read b)).0 e)
      go b (some z) e = ((natural_read version bs cells (pos 0) (pos 18446744073709551615) (bytes "next-row-id") 9045 ms (λ z w. w) (read b)).1 z e).1

  column_same : maybe_narrow_at bs cells 10 ≡ number_by "last-column-id" ms
  unfolding offset_at size_of
  column_same = number32 version bs cells v h (bytes "last-column-id") 6 10 refl (outer version bs cells v h 5 _ refl refl (always version _ refl) 10 refl)

  default_order_same : maybe_at bs cells 8464 ≡ number_by "default-sort-order-id" ms
  unfolding offset_at size_of
  default_order_same = number64 version bs cells v h (bytes "default-sort-order-id") 19 8464 refl (outer version bs cells v h 18 _ refl refl (always version _ refl) 8464 refl)

  partition_same : maybe_narrow_at bs cells 5592 ≡ number_by "last-partition-id" ms
  unfolding offset_at size_of
  partition_same = number32 version bs cells v h (bytes "last-partition-id") 13 5592 refl (outer version bs cells v h 12 _ refl refl (always version _ refl) 5592 refl)

  fields_same : fields_in bs cells version ≡ fields_of version ms
  unfolding fields_in fields_of
  fields_same =
      rw (byte_version version v, uuid_same, location_same, updated_same, sequence_same, next_row_same, column_same, current_same version bs cells v ms h, current_schema_same version bs cells v ms h, default_order_same, default_spec_same version bs cells v ms h, partition_same, specs_same version bs cells v ms h)

  -- ---- the metadata

  pub metadata_same : metadata_in bs cells version ≡ metadata_of version ms
  unfolding metadata_in metadata_of
  metadata_same =
      rw (fields_same, snapshots_same version bs cells v ms h, refs_table_same version bs cells v ms h, snapshot_log_same version bs cells v ms h, metadata_log_same version bs cells v ms h, schemas_same version bs cells v ms h, orders_same version bs cells v ms h, statistics_table_same version bs cells v ms h, partition_statistics_table_same version bs cells v ms h, specs_same version bs cells v ms h)

-- ---- a file

-- cells before anything is read
pub record Blank (cells : List ℕ) : Type 0 where
  pub long : length cells ≡ cell_room
  pub unused : (c : ℕ) → get_or cells c 0 ≡ 0

all_zero : (n c : ℕ) → ◌≡◌ {A = ℕ} (get_or (replicate n 0) c 0) 0
all_zero zero c = refl
all_zero (suc n) zero = refl
all_zero (suc n) (suc c) = all_zero n c

pub blank : Blank (replicate cell_room 0)
blank = record { long = length-replicate {A = ℕ} cell_room 0; unused = all_zero cell_room }

no_stop : (t : Text) → stop_defects t.stop ≡ [] → t.stop ≡ none
no_stop t e = go t.stop e
  where
    go : (o : Option Defect) → stop_defects o ≡ [] → o ≡ none
    go none e = refl
    go (some d) e = cc

module _ (bs : List ℕ) (x : Json) (tree : (text bs).tree ≡ some x) (fine : file_defects (text bs) ≡ []) where
  tree_fine : defects (version_of (members_in x)) 0 false (OfKind TheFile) x ≡ []
  unfolding file_defects
  tree_fine = rw tree at (both_empty (tree_defects (text bs).tree) (stop_defects (text bs).stop) fine).0

  closed : is_closed x ≡ true
  unfolding file_defects
  closed = tree_closed bs x tree (no_stop (text bs) (both_empty (tree_defects (text bs).tree) (stop_defects (text bs).stop) fine).1)

  module _ (start : List ℕ) (b : Blank start) where
    -- what the cells hold of it
    pub file_holds : Holds (version_of (members_in x)) 100 0 x (filled (version_of (members_in x)) 100 0 x start)
    file_holds =
        let s : size_at 100 ≡ cell_room = record_size TheFile in
        filled_holds (version_of (members_in x)) 100 0 0 false x start (λ p. absurd (false≢true (ap passes_over (sym (record_shape TheFile)) ∙ p))) (rw (record_shape TheFile) tree_fine) closed (λ c i j. b.unused c) (omega (arith, b.long))

    pub file_record : HeldRecord (version_of (members_in x)) bs (filled (version_of (members_in x)) 100 0 x start) TheFile 0 (members_in x)
    unfolding FoundAgain
    file_record = record_of_lem (version_of (members_in x)) bs (filled (version_of (members_in x)) 100 0 x start) TheFile 100 0 0 false x (record_shape TheFile) file_holds tree_fine closed (tree_found bs x tree)

    pub file_decoded : metadata_in bs (filled (version_of (members_in x)) 100 0 x start) (version_of (members_in x)) ≡ metadata_of (version_of (members_in x)) (members_in x)
    file_decoded =
        metadata_same (version_of (members_in x)) bs (filled (version_of (members_in x)) 100 0 x start) (known_version_lem bs (filled (version_of (members_in x)) 100 0 x start) (members_in x) file_record) (members_in x) file_record

  -- its version is 1, 2 or 3
  pub file_version : is_known (version_of (members_in x)) ≡ true
  file_version = known_version_lem bs (filled (version_of (members_in x)) 100 0 x (replicate cell_room 0)) (members_in x) (file_record (replicate cell_room 0) blank)
