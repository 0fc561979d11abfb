-- The bytes so far fit, and the rest is asked of what they leave open.
use Rattle.std.proofs.Common.{◌≡◌, drop}
use Rattle.rules.specs.Layout.{counted}
use Rattle.file_rule.specs.Export.{is_utf8}
use Rattle.file_shown.specs.Characters.{goes_on_so}
use Rattle.file_shown.proofs.character.is_utf8.Given as goal

abbrev pub invariant-loop-i : goal.invariant-loop-i
invariant-loop-i l = is_utf8 (counted 0 l.bytes l.count) ≡ goes_on_so l.c (drop l.i (counted 0 l.bytes l.count))
