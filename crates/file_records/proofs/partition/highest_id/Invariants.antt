-- The highest of those from `i` on.
use Rattle.std.proofs.Common.{pos}
use Rattle.file_records.specs.Decoded.{count_at}
use Rattle.file_records.proofs.Largest.{Topped, id_in}
use Rattle.file_records.proofs.partition.highest_id.Given as goal

abbrev pub invariant-loop-i : goal.invariant-loop-i
invariant-loop-i l = Topped (pos 0) (id_in l.bytes l.cells l.list) (count_at l.cells 8 l.list) l.highest.0 l.i
