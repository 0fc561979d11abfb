use Rattle.std.proofs.Common.{◌≡◌, length}
use Rattle.expiry.specs.Found.{overlay}
use Rattle.expiry.proofs.Overlaid.{mixed}
use Rattle.expiry.proofs.kept.overlaid.Given as goal

abbrev pub invariant-loop-k : goal.invariant-loop-k
invariant-loop-k l =
    (length l.fn.stays ≡ 64)
    × (length l.fn.slots ≡ 64)
    × (l.stays ≡ mixed (overlay l.by) l.k l.fn.stays l.fn.slots)
