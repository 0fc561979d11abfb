-- The bytes so far, laid out.
use Rattle.std.proofs.Common.{◌≡◌, take}
use Rattle.rules.specs.Capacities.{text_room}
use Rattle.rules.specs.Layout.{pad}
use Rattle.builder.proofs.text.text_of.Given as goal

abbrev pub invariant-loop-i : goal.invariant-loop-i
invariant-loop-i l = l.text.bytes ≡ pad text_room 0 (take l.i l.bytes)
