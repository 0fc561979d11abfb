-- The fields that are left decide.
use Rattle.std.proofs.Common.{◌≡◌, drop}
use Rattle.rules.specs.Words.{all}
use Rattle.formed.proofs.Fields.{has_id}
use Rattle.formed.proofs.record.all_have_ids.Given as goal

abbrev pub invariant-loop-f : goal.invariant-loop-f
invariant-loop-f l = all has_id l.fields ≡ all has_id (drop l.f-index l.fields)
