-- The bytes that were passed stand right, so those that are left decide.
use Rattle.std.proofs.Common.{◌≡◌, drop}
use Rattle.json_rule.specs.Defects.{is_uuid}
use Rattle.json_members.specs.Kept.{front}
use Rattle.json_members.proofs.Uuids.{form, follows}
use Rattle.json_members.proofs.uuid.is_uuid.Given as goal

abbrev pub invariant-loop-i : goal.invariant-loop-i
invariant-loop-i l = is_uuid (front l.len l.kept) ≡ follows (drop l.i form) (drop l.i (front 36 l.kept))
