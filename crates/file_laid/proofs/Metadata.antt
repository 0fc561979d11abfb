-- The metadata that the cells of a file and its bytes say, whatever they are: laid out it reads as it was, and it is tidy.
use Prim.Native.Nat.{ℕ}
use mathlib.Core.Path.{◌≡◌}
use mathlib.Core.Bool.{true}
use mathlib.Core.List.{List}
use Rattle.rules.specs.Capacities.{text_room, snapshot_room, ref_room, schema_room, sort_order_room, spec_room, statistics_room}
use Rattle.rules.specs.WellFormed.{snapshot_below, ref_below, schema_below, order_below, spec_below, statistics_below}
use Rattle.rules.specs.Blanks.{is_tidy_metadata}
use Rattle.rules.specs.Layout.{read_metadata, laid_metadata}
use Rattle.rules.proofs.Slots.Reread.{reread_metadata}
use Rattle.file_records.specs.Decoded.{schemas_in, specs_in, orders_in, refs_in, snapshots_in, statistics_in, fields_in, metadata_in}
use Rattle.file_laid.specs.Fits.{ref_fits, statistics_fits, schema_fits, order_fits, spec_fits, Fits}
use Rattle.file_laid.proofs.Tidy.{fits_tidy}
use Rattle.file_laid.proofs.Sorting.{sorted_few, sorted_within}
use Rattle.file_laid.proofs.Records.{text_fits}
use Rattle.file_laid.proofs.Tables.{snapshots_fit, snapshot_log_fits, metadata_log_fits, statistics_table_fits, refs_fit, schemas_fit, orders_fit, specs_fit}

module _ (bs cells : List ℕ) (version : ℕ) where
  pub metadata_fits_lem : Fits (metadata_in bs cells version)
  unfolding metadata_in fields_in
  metadata_fits_lem =
      record {
        location = text_fits bs cells text_room 4;
        snapshots = sorted_few snapshot_below snapshot_room (snapshots_in bs cells) (snapshots_fit bs cells);
        refs = sorted_within ref_below ref_room ref_fits (refs_in bs cells) (refs_fit bs cells);
        snapshot_log = snapshot_log_fits bs cells;
        metadata_log = metadata_log_fits bs cells;
        schemas = sorted_within schema_below schema_room schema_fits (schemas_in bs cells version) (schemas_fit bs cells version);
        orders = sorted_within order_below sort_order_room order_fits (orders_in bs cells) (orders_fit bs cells);
        statistics = sorted_within statistics_below statistics_room statistics_fits (statistics_in bs cells 8659) (statistics_table_fits bs cells 8659);
        partition_statistics = sorted_within statistics_below statistics_room statistics_fits (statistics_in bs cells 8852) (statistics_table_fits bs cells 8852);
        specs = sorted_within spec_below spec_room spec_fits (specs_in bs cells version) (specs_fit bs cells version);
      }

pub laid_read : (bs cells : List ℕ) (version : ℕ) → read_metadata (laid_metadata (metadata_in bs cells version)) ≡ metadata_in bs cells version
laid_read bs cells version = reread_metadata (metadata_in bs cells version)

pub laid_tidy : (bs cells : List ℕ) (version : ℕ) → is_tidy_metadata (laid_metadata (metadata_in bs cells version)) ≡ true
laid_tidy bs cells version = fits_tidy (metadata_in bs cells version) (metadata_fits_lem bs cells version)
