-- The three numbers go through their bits unchanged.
use borrow.Author.Rules.{rules}
use mir.Facts.{to_z-of_z}
use Rattle.exports.proofs.register_too_early.Statement.{statement}
use Rattle.exports.proofs.register_too_early.Tie as tie

pub register_too_early_spec : {M : Type 1} → statement M
register_too_early_spec =
    tie.close
    (tie.spec
    (λ c κs. search rules)
    (λ c. rw (to_z-of_z c.ranges.time, to_z-of_z c.ranges.last, to_z-of_z c.ranges.tolerance) at c.is_before.ensures))
