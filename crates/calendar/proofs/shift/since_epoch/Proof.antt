-- The milliseconds fit a signed number, and so does the difference.
use mathlib.Core.Path.{◌≡◌, ◌∙◌}
use native.Mathlib.Omega.{arith}
use borrow.Author.Rules.{rules}
use lib.IntN.{pos, ◌-ℤ◌}
use mir.Syntax.{w64}
use mir.Val.{SFits, to_z}
use mir.Facts.{to_z-of_z}
use mir.ValLaws.{to_z_pos}
use Rattle.calendar.proofs.Shifts.{span, difference_fits}
use Rattle.calendar.proofs.shift.since_epoch.Statement.{statement}
use Rattle.calendar.proofs.shift.since_epoch.Tie as tie

module _ (c : tie.Start) where
  is_pos : to_z w64 c.args.milliseconds ≡ pos c.args.milliseconds
  is_pos = to_z_pos w64 c.args.milliseconds (omega (arith, c.requires))

  fits : SFits w64 (to_z w64 c.args.milliseconds -ℤ pos span)
  fits = rw is_pos (difference_fits c.args.milliseconds c.requires)

pub since_epoch_spec : {M : Type 1} → statement M
since_epoch_spec = tie.close (tie.spec (λ c. search rules) fits (λ c. to_z-of_z (fits c) ∙ rw (is_pos c)))
