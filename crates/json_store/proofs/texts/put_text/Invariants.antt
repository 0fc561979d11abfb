-- The bytes that were passed are stored, so those that are left decide.
use Rattle.std.proofs.Common.{◌≡◌, ◌+◌, ◌%◌, drop, set}
use Rattle.std.proofs.lemmas.List.Edits.{sets}
use Rattle.json_members.specs.Kept.{front}
use Rattle.json_store.specs.Puts.{filled}
use Rattle.json_store.proofs.texts.put_text.Given as goal

abbrev pub invariant-loop-i : goal.invariant-loop-i
invariant-loop-i l =
    sets (set l.fn.texts l.at (l.len % 256)) (l.at + 1) (filled l.room (front l.len l.kept)) ≡ sets l.texts (l.at + 1 + l.i) (drop l.i (filled l.room (front l.len l.kept)))
