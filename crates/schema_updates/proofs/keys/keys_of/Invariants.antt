-- The keys are those of the schemas so far.
use Rattle.std.proofs.Common.{◌≡◌, take}
use Rattle.rules.specs.Layout.{read_schemas}
use Rattle.schema_updates.specs.Keys.{laid_keys, KeysFit}
use Rattle.schema_updates.proofs.keys.keys_of.Given as goal

abbrev pub invariant-loop-schema : goal.invariant-loop-schema
invariant-loop-schema l = record { fit : KeysFit l.keys; laid : l.keys ≡ laid_keys (take l.schema-index (read_schemas l.fn.t)) }
