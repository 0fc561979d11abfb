-- What is lacking of all members is lacking of those from `i` on.
use Rattle.std.proofs.Common.{◌≡◌, ◌-◌}
use Rattle.file_members.specs.Names.{first_of, count_of}
use Rattle.file_members.specs.Flags.{lacking}
use Rattle.file_members.proofs.seen.lacks_any.Given as goal

abbrev pub invariant-loop-i : goal.invariant-loop-i
invariant-loop-i l = lacking l.version (first_of l.kind) (count_of l.kind) 0 l.seen ≡ lacking l.version (first_of l.kind) (count_of l.kind - l.i) l.i l.seen
