-- Keeping all bytes is keeping those that are left.
use Rattle.std.proofs.Common.{drop}
use Rattle.std.proofs.Math.Seq.{slice}
use Rattle.json_lex.proofs.Parts.{Left}
use Rattle.json_lex.proofs.plain.keep_all.Given as goal

abbrev pub invariant-loop-byte : goal.invariant-loop-byte
invariant-loop-byte l = Left l.fn.kept l.len (slice l.from l.end l.part) l.kept l.count (drop l.byte-index l.byte-items)
