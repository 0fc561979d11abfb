-- None of those that were passed is it.
use Rattle.std.proofs.Common.{◌≡◌, false}
use Rattle.json_rule.specs.Members.{is_one_of}
use Rattle.json_members.specs.Kept.{front}
use Rattle.file_walk.specs.Named.{names_at}
use Rattle.file_walk.proofs.names.was_there.Given as goal

abbrev pub invariant-loop-place : goal.invariant-loop-place
invariant-loop-place l = is_one_of (names_at l.bytes l.places l.place-index) (front l.len l.kept) ≡ false
