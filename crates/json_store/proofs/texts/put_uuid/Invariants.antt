-- The bytes that were passed are stored, so those that are left decide.
use Rattle.std.proofs.Common.{◌≡◌, ◌+◌, drop}
use Rattle.std.proofs.lemmas.List.Edits.{sets}
use Rattle.json_store.specs.Puts.{uuid_bytes}
use Rattle.json_store.proofs.texts.put_uuid.Given as goal

abbrev pub invariant-loop-i : goal.invariant-loop-i
invariant-loop-i l = sets l.fn.texts 0 (uuid_bytes l.kept 0 16) ≡ sets l.texts (0 + l.i) (drop l.i (uuid_bytes l.kept 0 16))
