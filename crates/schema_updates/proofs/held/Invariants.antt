-- The ids so far are those of the keys so far that are named.
use Rattle.std.proofs.Common.{◌≡◌, take}
use Rattle.rules.specs.Words.{is_in, keep}
use Rattle.rules.specs.Layout.{read_schema_ids, laid_schema_ids}
use Rattle.schema_updates.proofs.held.Given as goal

abbrev pub invariant-loop-key : goal.invariant-loop-key
invariant-loop-key l = l.held ≡ laid_schema_ids (keep (is_in (read_schema_ids l.named)) (take l.key-index l.key-items))
