-- Each answer is that of the rule at the place where the reading stopped.
use mathlib.Core.Path.{sym, ◌∙◌}
use native.Mathlib.Omega.{arith}
use borrow.Author.Rules.{rules}
use Rattle.moment.proofs.Slots.{slots, read_length}
use Rattle.moment.proofs.Answers.{refused, none_found, found}
use Rattle.moment.proofs.current_at.Statement.{statement}
use Rattle.moment.proofs.current_at.Tie as tie

pub current_at_spec : {M : Type 1} → statement M
current_at_spec =
    tie.close
    (tie.spec
    (λ c κs. search rules)
    (λ c. c.no_entry.ensures ∙ sym (refused _ _ c.if-n-gt-SNAPSHOT_LOG.true))
    (λ c κs. search rules)
    (λ c κs. search rules)
    (λ c. c.no_entry-then-k-eq0.ensures ∙ sym (none_found _ _ c.if-n-gt-SNAPSHOT_LOG.false c.behind_last-k.ensures c.if-k-eq0.true))
    (λ c. search rules)
    (λ c. omega (arith, read_length c.args.log))
    (λ c. omega (arith, read_length c.args.log))
    (λ c. omega (arith, read_length c.args.log))
    (λ c. sym (found _ _ c.if-n-gt-SNAPSHOT_LOG.false c.behind_last-k.ensures (search (rules, slots)) _ (omega arith))))
