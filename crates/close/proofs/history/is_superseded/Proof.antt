-- The two tests are the rule's.
use mathlib.Core.Path.{ap}
use mathlib.Core.Bool.{not}
use borrow.Author.Rules.{rules}
use Rattle.close.proofs.Tests.{by_second, by_first}
use Rattle.close.proofs.history.is_superseded.Statement.{statement}
use Rattle.close.proofs.history.is_superseded.Tie as tie

pub is_superseded_spec : {M : Type 1} → statement M
is_superseded_spec =
    tie.close
    (tie.spec
    (λ c κs. search rules)
    (λ c κs. search rules)
    (λ c. by_second c.is_among.ensures c.if-is_among.true (ap not c.is_current.ensures))
    (λ c. by_first _ c.is_among.ensures c.if-is_among.false))
