use Rattle.std.proofs.Common.{◌∙◌}
use Rattle.equality.proofs.Derived.{log_entry}
use Rattle.formed.proofs.Unused.{same_as_no_entry}
use Rattle.formed.proofs.slots.SnapshotLogEntrySlot.fits.Goals as goal

pub returns : goal.returns
returns c =
    let e = c.args.self.now in
    rw (c.if-is_used.false, c.eq.ensures ∙ log_entry e c.blank.result, c.blank.ensures) (same_as_no_entry e)
