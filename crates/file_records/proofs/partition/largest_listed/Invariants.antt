-- The largest of those from `i` on.
use Rattle.std.proofs.Common.{pos}
use Rattle.file_records.specs.Decoded.{count_at}
use Rattle.file_records.proofs.Largest.{Topped, highest_in}
use Rattle.file_records.proofs.partition.largest_listed.Given as goal

abbrev pub invariant-loop-i : goal.invariant-loop-i
invariant-loop-i l = Topped (pos 999) (highest_in l.bytes l.cells) (count_at l.cells 16 4517) l.highest.0 l.i
