-- Where the id is not held there is no spec to ask.
use Rattle.std.proofs.Common.{◌≡◌, Bool, false, refl, sym, ◌∙◌}
use mathlib.Core.Bool.{true≢false}
use mathlib.Core.Option.{Option, none, some}
use Rattle.rules.specs.Words.{is_some, some_with, first}
use Rattle.rules.specs.WellFormed.{has_spec}
use Rattle.rules.specs.SpecUpdates.{is_misfit}
use Rattle.rules.specs.Layout.{read_schema, read_partition_specs}
use Rattle.rules.proofs.Tables.{first_any}
use Rattle.spec_updates.proofs.choice.is_held_misfit.Goals as goal

none_with : {A : Type 0} (p : A → Bool) (o : Option A) → is_some o ≡ false → false ≡ some_with p o
none_with p none e = refl
none_with p (some a) e = absurd (true≢false e)

pub returns-else-holds : goal.returns-else-holds
returns-else-holds c =
    let a = c.args in
    let specs = read_partition_specs a.t in
    c.if-holds.false ∙ none_with (is_misfit (read_schema a.s).fields) (first (has_spec a.id.0) specs) (first_any (has_spec a.id.0) specs ∙ sym c.holds.ensures ∙ c.if-holds.false)
