use Rattle.std.proofs.Common.{◌∙◌, pos}
use Rattle.rules.specs.Blanks.{is_tidy_metadata_log_entry, is_blank_metadata_log_entry}
use Rattle.rules.proofs.Slots.Relaid.{length_counted}
use Rattle.equality.proofs.Derived.{numbers}
use Rattle.formed.proofs.slots.MetadataLogEntrySlot.fits.Goals as goal

pub returns-then-is_used : goal.returns-then-is_used
unfolding is_tidy_metadata_log_entry
returns-then-is_used c =
    let f = c.args.self.now.metadata_file in
    rw (c.if-is_used.true, c.text_fits.ensures, length_counted 0 f.bytes f.len)

pub returns : goal.returns
unfolding is_blank_metadata_log_entry
returns c = rw (c.if-is_used.false, c.text_fits-2.ensures, c.eq.ensures ∙ numbers c.args.self.now.timestamp_ms.0 (pos 0))
