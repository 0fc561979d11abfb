use Rattle.std.proofs.Common.{◌≡◌, ap, ◌∙◌}
use mathlib.Core.Option.{Option}
use lib.IntN.{ℤ}
use Rattle.rules.specs.Words.{or_else}
use Rattle.rules.specs.Layout.{laid_fields}
use Rattle.builder.specs.Pieces.{laid_builder}
use Rattle.builder.proofs.State.{its_own}
use Rattle.ref_updates.proofs.as_main.Goals as goal

pub returns : goal.returns
unfolding laid_builder laid_fields
returns c st e =
    let t : c.own_or-after.result ≡ record { 0 = or_else st.own c.args.clock.0 } = λ i. record { 0 = (c.own_or-after.ensures ∙ ap (λ (o : Option ℤ). or_else o c.args.clock.0) (its_own st e)) i } in
    rw (t, e)
