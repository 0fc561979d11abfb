-- Well-formed metadata has its snapshots laid out and no more log entries than slots, so that the loop asks what the rule asks.
use Prim.Native.Nat.{◌≤◌}
use native.Mathlib.Omega.{arith}
use mathlib.Core.Path.{◌≡◌, sym, ap, ◌∙◌}
use mathlib.Core.Bool.{Bool, true, ◌&&◌}
use borrow.Author.Rules.{rules}
use borrow.Author.Tests.{not-true, not-false}
use lib.Signed.{non_neg}
use Rattle.records.specs.Blanks.{no_log_entry}
use Rattle.records.specs.declared.metadata.TableMetadata.{TableMetadata}
use Rattle.rules.specs.Words.{all}
use Rattle.rules.specs.Capacities.{snapshot_room, snapshot_log_room}
use Rattle.rules.specs.Register as plain
use Rattle.rules.specs.WellFormed.{snapshot_formed, snapshot_below, snapshots_formed, snapshot_log_formed, holds_snapshot, metadata_formed}
use Rattle.rules.specs.Moment.{is_whole}
use Rattle.rules.specs.Blanks.{is_tidy_metadata}
use Rattle.rules.specs.Layout.{read_log_entry, read_snapshot_log, read_snapshots, read_metadata, laid_metadata}
use Rattle.rules.proofs.Checks.{and_left, and_right}
use Rattle.rules.proofs.Tables.{log_fits_lem, table_parts_lem}
use Rattle.rules.proofs.Slots.Relaid.{relaid}
use Rattle.rules.proofs.Sound.Metadata.{Sound, formed_sound}
use Rattle.tables.specs.Laid.{LaidSnapshots}
use Rattle.formed.proofs.Counted.{read_length}
use Rattle.histories.proofs.is_whole.Goals as goal

module _ (m : TableMetadata) (e : (is_tidy_metadata m && metadata_formed (read_metadata m)) ≡ true) where
  sound : Sound (read_metadata m)
  sound = formed_sound (read_metadata m) (and_right (is_tidy_metadata m) (metadata_formed (read_metadata m)) e)

  laid : LaidSnapshots m.snapshots
  unfolding snapshots_formed laid_metadata
  laid =
      record {
        back = ap (λ (x : TableMetadata). x.snapshots) (relaid m (and_left (is_tidy_metadata m) (metadata_formed (read_metadata m)) e) (and_right (is_tidy_metadata m) (metadata_formed (read_metadata m)) e));
        fits = (table_parts_lem snapshot_room snapshot_formed snapshot_below (read_snapshots m.snapshots) sound.snapshots).0;
      }

  entries : m.snapshot_log.count ≤ snapshot_log_room
  unfolding snapshot_log_formed
  entries =
      let log = m.snapshot_log in
      omega (arith, log_fits_lem snapshot_log_room (λ (x : plain.LogEntry). non_neg x.snapshot) (read_snapshot_log log) sound.snapshot_log, read_length read_log_entry no_log_entry log.items log.count)

  whole_is : {a : Bool} → a ≡ all (λ (x : plain.LogEntry). holds_snapshot (read_snapshots m.snapshots) x.snapshot) (read_snapshot_log m.snapshot_log) → a ≡ (is_tidy_metadata m && metadata_formed (read_metadata m) && is_whole (read_metadata m))
  unfolding is_whole
  whole_is p = p ∙ sym (rw e)

pub names_held-requires : goal.names_held-requires
names_held-requires c =
    let f = sym c.is_formed.ensures ∙ c.if-not-is_formed.false in
    record { count_le_snapshot_log_room = entries c.args.m f; laid_snapshots = laid c.args.m f }

pub returns : goal.returns
returns c = whole_is c.args.m (sym c.is_formed.ensures ∙ c.if-not-is_formed.false) c.names_held.ensures
