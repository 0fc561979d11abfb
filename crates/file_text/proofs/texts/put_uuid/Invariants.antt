-- Whatever puts the other digits has put all.
use Rattle.std.proofs.Common.{drop}
use Rattle.file_rule.specs.Files.{uuid_from}
use Rattle.file_text.proofs.Pieces.{Leads}
use Rattle.file_text.proofs.texts.put_uuid.Given as goal

abbrev pub invariant-loop-i : goal.invariant-loop-i
invariant-loop-i l = Leads l.initial.buffer l.initial.to (uuid_from 0 l.uuid) l.buffer l.to (uuid_from l.i (drop l.i l.uuid))
