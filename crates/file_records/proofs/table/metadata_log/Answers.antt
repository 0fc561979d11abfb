-- Each in its slot.
use Rattle.std.proofs.Common.{ℕ, refl, ap, ◌∙◌, arith, rules}
use Rattle.records.specs.Blanks.{no_metadata_log}
use Rattle.records.specs.declared.metadata.MetadataLog.{MetadataLog}
use Rattle.rules.specs.Layout.{laid_metadata_log}
use Rattle.tables.proofs.Each.{made_metadata_log}
use Rattle.json_store.specs.Made.{each}
use Rattle.file_records.specs.Decoded.{item_at, file_entry_at, metadata_log_in}
use Rattle.file_records.proofs.Arranged.{table_laid}
use Rattle.file_records.proofs.Filling.{filled}
use Rattle.file_records.proofs.table.metadata_log.Goals as goal

pub returns : goal.returns
unfolding no_metadata_log metadata_log_in
returns c =
    table_laid made_metadata_log (filled c.count_of-count.ensures.within (ap (λ (t : MetadataLog). t.items) c.blank-log.ensures) c.fill.ensures (λ i x b p. search rules)) (omega arith) refl
    ∙ ap (λ (k : ℕ). laid_metadata_log (each (λ j. file_entry_at c.args.bytes.now c.args.cells.now (item_at 4 6878 j)) k)) c.count_of-count.ensures.count
