-- The version of the file is that from the next name on. What is left of the file falls.
use Rattle.std.proofs.Common.{◌≡◌, ◌-◌, ◌≤◌, length}
use Rattle.json_tokens.specs.Tokens.{lexemes_at}
use Rattle.file_import.specs.Versions.{version_from, version_at_start}
use Rattle.file_import.proofs.version.version_of.Given as goal

abbrev pub invariant-loop-next : goal.invariant-loop-next
invariant-loop-next l = (version_from (length l.bytes) (lexemes_at l.bytes l.from) ≡ version_at_start (length l.bytes) (lexemes_at l.bytes 0)) × (l.from ≤ length l.bytes)

abbrev pub decreases-loop-next : goal.decreases-loop-next
decreases-loop-next l = length l.bytes - l.from
