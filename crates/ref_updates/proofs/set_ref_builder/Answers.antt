use Rattle.std.proofs.Common.{ap, ◌∙◌}
use mathlib.Core.Option.{Option}
use lib.IntN.{ℤ}
use Rattle.rules.specs.Register.{with_own}
use Rattle.builder.specs.Pieces.{laid_builder}
use Rattle.ref_updates.proofs.set_ref_builder.Goals as goal

pub returns-then-main : goal.returns-then-main
returns-then-main c st own e o = rw c.if-main.true (c.as_main.ensures (with_own own st) (c.with_own-after.ensures st e ∙ ap (λ (x : Option ℤ). laid_builder (with_own x st)) o))

pub returns : goal.returns
returns c st own e o = rw c.if-main.false (c.with_own-after.ensures st e ∙ ap (λ (x : Option ℤ). laid_builder (with_own x st)) o)
