-- The tables that cells say fit.
use Prim.Native.Nat.{ℕ}
use mathlib.Core.Path.{◌≡◌, refl}
use mathlib.Core.Bool.{true}
use mathlib.Core.List.{List}
use mathlib.Core.Option.{Option, none, some}
use lib.Dec.{leb}
use lib.IntN.{ℤ}
use lib.ListN.{length}
use Rattle.rules.specs.Capacities.{snapshot_room, ref_room, snapshot_log_room, metadata_log_room, schema_room, sort_order_room, spec_room, statistics_room}
use Rattle.rules.specs.Register.{NamedRef, Schema, SortOrder, PartitionSpec}
use Rattle.rules.proofs.Checks.{by_test, both}
use Rattle.file_rule.specs.Import.{main_at}
use Rattle.file_records.specs.Decoded.{is_there, item_at, snapshot_at, ref_at, log_entry_at, file_entry_at, statistics_at, schema_at, order_at, spec_at, schema_decides, spec_decides, schemas_in, specs_in, orders_in, current_in, refs_in, snapshots_in, snapshot_log_in, metadata_log_in, statistics_in}
use Rattle.file_laid.specs.Fits.{ref_fits, file_entry_fits, statistics_fits, schema_fits, order_fits, spec_fits, Within}
use Rattle.file_laid.proofs.Records.{few_each, within_each, ref_fits_lem, file_entry_fits_lem, statistics_fits_lem, schema_fits_lem, order_fits_lem, spec_fields_fit, spec_fits_lem}

-- `main` alone, or none
main_fits : (o : Option ℤ) → Within ref_room ref_fits (main_at o)
main_fits none = record { few = refl; each = refl }
main_fits (some id) = record { few = refl; each = refl }

module _ (file cells : List ℕ) where
  pub snapshots_fit : leb (length (snapshots_in file cells)) snapshot_room ≡ true
  unfolding snapshots_in
  snapshots_fit = few_each cells (λ i. snapshot_at file cells (item_at 12 5596 i)) snapshot_room 5596

  pub snapshot_log_fits : leb (length (snapshot_log_in file cells)) snapshot_log_room ≡ true
  unfolding snapshot_log_in
  snapshot_log_fits = few_each cells (λ i. log_entry_at file cells (item_at 4 6365 i)) snapshot_log_room 6365

  pub metadata_log_fits : Within metadata_log_room file_entry_fits (metadata_log_in file cells)
  unfolding metadata_log_in
  metadata_log_fits = within_each cells (λ i. file_entry_at file cells (item_at 4 6878 i)) metadata_log_room 6878 file_entry_fits (λ i. file_entry_fits_lem file cells (item_at 4 6878 i))

  pub statistics_table_fits : (list : ℕ) → Within statistics_room statistics_fits (statistics_in file cells list)
  unfolding statistics_in
  statistics_table_fits list = within_each cells (λ i. statistics_at file cells (item_at 6 list i)) statistics_room list statistics_fits (λ i. statistics_fits_lem file cells (item_at 6 list i))

  pub refs_fit : Within ref_room ref_fits (refs_in file cells)
  unfolding refs_in
  refs_fit =
      by_test (λ (l : List NamedRef). Within ref_room ref_fits l) (is_there cells 8466)
      (λ e. within_each cells (λ i. ref_at file cells (item_at 12 8466 i)) ref_room 8466 ref_fits (λ i. ref_fits_lem file cells (item_at 12 8466 i)))
      (λ e. main_fits (current_in file cells))

  pub schemas_fit : (version : ℕ) → Within schema_room schema_fits (schemas_in file cells version)
  unfolding schemas_in
  schemas_fit version =
      by_test (λ (l : List Schema). Within schema_room schema_fits l) (schema_decides file cells version)
      (λ e. record { few = refl; each = both (schema_fits_lem file cells 12) refl })
      (λ e. within_each cells (λ i. schema_at file cells (item_at 261 273 i)) schema_room 273 schema_fits (λ i. schema_fits_lem file cells (item_at 261 273 i)))

  pub orders_fit : Within sort_order_room order_fits (orders_in file cells)
  unfolding orders_in
  orders_fit =
      by_test (λ (l : List SortOrder). Within sort_order_room order_fits l) (is_there cells 7391)
      (λ e. within_each cells (λ i. order_at file cells (item_at 67 7391 i)) sort_order_room 7391 order_fits (λ i. order_fits_lem file cells (item_at 67 7391 i)))
      (λ e. record { few = refl; each = refl })

  pub specs_fit : (version : ℕ) → Within spec_room spec_fits (specs_in file cells version)
  unfolding specs_in
  specs_fit version =
      by_test (λ (l : List PartitionSpec). Within spec_room spec_fits l) (spec_decides file cells version)
      (λ e. let w = spec_fields_fit file cells 4452 in record { few = refl; each = both (both w.few w.each) refl })
      (λ e. within_each cells (λ i. spec_at file cells (item_at 67 4517 i)) spec_room 4517 spec_fits (λ i. spec_fits_lem file cells (item_at 67 4517 i)))
