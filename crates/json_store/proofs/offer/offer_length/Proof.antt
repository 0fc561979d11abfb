-- By the kind.
use native.Mathlib.Omega.{arith}
use borrow.Author.Rules.{rules}
use borrow.Author.Tests.{ne_eqb}
use Rattle.json_store.specs.Parts.{offer_at, offer_length}
use Rattle.json_store.proofs.Places.{count_small}
use Rattle.json_store.proofs.offer.offer_length.Statement.{statement}
use Rattle.json_store.proofs.offer.offer_length.Tie as tie

pub offer_length_spec : {M : Type 1} → statement M
unfolding offer_at offer_length
offer_length_spec =
    tie.close
    (tie.spec
    (λ c κs. search rules)
    (λ c. omega (arith, c.count_at.ensures, count_small 32 c.args.numbers.now 38))
    (λ c κs. search rules)
    (λ c. omega (arith, c.count_at-in-18.ensures, count_small 8 c.args.numbers.now 52))
    (λ c. (rw (c.in-9.is, c.count_at.ensures), rw c.in-9.is (omega (arith, c.count_at.ensures, count_small 32 c.args.numbers.now 38))))
    (λ c. (rw (c.in-18.is, c.count_at-in-18.ensures), rw c.in-18.is (omega (arith, c.count_at-in-18.ensures, count_small 8 c.args.numbers.now 52))))
    (λ c. (rw (ne_eqb _ _ c.in_default.in_default-own.rest.0.1, ne_eqb _ _ c.in_default.in_default-own.rest.1), rw (ne_eqb _ _ c.in_default.in_default-own.rest.0.1) (omega arith))))
