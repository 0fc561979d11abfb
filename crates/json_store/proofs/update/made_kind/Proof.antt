-- By the kinds that are left out.
use borrow.Author.Tests.{lt-ltb, le-ltb, eq-eqb, ne_eqb}
use Rattle.json_store.proofs.Made.{made_high, made_low}
use Rattle.json_store.proofs.update.made_kind.Statement.{statement}
use Rattle.json_store.proofs.update.made_kind.Tie as tie

pub made_kind_spec : {M : Type 1} → statement M
made_kind_spec =
    tie.close
    (tie.spec
    (λ c. rw (made_high _ c.if-kind-gt-REMOVE_PARTITION_SPECS.true))
    (λ c. rw (made_low _ c.if-kind-gt-REMOVE_PARTITION_SPECS.false, eq-eqb _ _ c.if-kind-eq-SET_BRANCH_SNAPSHOT.true))
    (λ c. rw (made_low _ c.if-kind-gt-REMOVE_PARTITION_SPECS.false, ne_eqb _ _ c.if-kind-eq-SET_BRANCH_SNAPSHOT.false, lt-ltb _ _ c.if-kind-lt-SET_STATISTICS.true))
    (λ c. rw (made_low _ c.if-kind-gt-REMOVE_PARTITION_SPECS.false, ne_eqb _ _ c.if-kind-eq-SET_BRANCH_SNAPSHOT.false, le-ltb _ _ c.if-kind-lt-SET_STATISTICS.false, lt-ltb _ _ c.if-kind-gt-REMOVE_PARTITION_STATISTICS.true))
    (λ c. rw (made_low _ c.if-kind-gt-REMOVE_PARTITION_SPECS.false, ne_eqb _ _ c.if-kind-eq-SET_BRANCH_SNAPSHOT.false, le-ltb _ _ c.if-kind-lt-SET_STATISTICS.false, le-ltb _ _ c.if-kind-gt-REMOVE_PARTITION_STATISTICS.false)))
