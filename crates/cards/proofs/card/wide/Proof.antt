-- What fits 32 bits fits 64.
use Rattle.std.proofs.Common.{arith, to_z-of_z, rules}
use Rattle.cards.proofs.card.wide.Statement.{statement}
use Rattle.cards.proofs.card.wide.Tie as tie

pub wide_spec : {M : Type 1} → statement M
wide_spec =
    tie.close
    (tie.spec
    (λ c. let f = c.ranges.number in rw (to_z-of_z f) (record { sfits = omega (arith, f.sfits) }))
    (λ c. search rules))
