-- No slot is in use.
use native.Mathlib.Omega.{arith}
use mathlib.Core.Path.{refl}
use mir.Syntax.{w32}
use Rattle.tables.proofs.Keyed.{zeros_fit}
use Rattle.schema_updates.specs.Keys.{laid_keys}
use Rattle.schema_updates.proofs.keys.no_keys.Statement.{statement}
use Rattle.schema_updates.proofs.keys.no_keys.Tie as tie

pub no_keys_spec : {M : Type 1} → statement M
unfolding laid_keys
no_keys_spec = tie.close (tie.spec (λ c. (record { within = omega arith; narrow = zeros_fit w32 16 }, refl)))
