-- Whatever puts the other bytes has put all.
use Rattle.std.proofs.Common.{drop}
use Rattle.rules.specs.Layout.{counted}
use Rattle.file_rule.specs.Written.{escaped_bytes}
use Rattle.file_text.proofs.Pieces.{Leads}
use Rattle.file_text.proofs.texts.put_quoted.Given as goal

abbrev pub invariant-loop-i : goal.invariant-loop-i
invariant-loop-i l = Leads l.initial.buffer l.initial.to (escaped_bytes (counted 0 l.bytes l.count)) l.buffer l.to (escaped_bytes (drop l.i (counted 0 l.bytes l.count)))
