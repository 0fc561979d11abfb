use Rattle.std.proofs.Common.{sym, ◌∙◌}
use Rattle.rules.specs.Layout.{read_snapshot_ids}
use Rattle.tables.proofs.Spans.{run_any, any_here, any_on, any_none}
use Rattle.tables.proofs.Each.{tidy_refs}
use Rattle.offices.specs.Reach.{ref_reaches}
use Rattle.offices.proofs.reach.refs_reach.Goals as goal

pub returns-then-ref_reaches : goal.returns-then-ref_reaches
returns-then-ref_reaches c =
    let a = c.args in
    run_any (tidy_refs c.requires.laid_refs) (ref_reaches a.office a.ids.now a.parents.now (read_snapshot_ids a.removed))
    (any_here _ _ _ c.loop-held-test.true c.loop-held.invariant (sym c.ref_reaches.ensures ∙ c.if-ref_reaches.true))

pub loop-held-preserved : goal.loop-held-preserved
loop-held-preserved c = any_on _ _ _ c.loop-held-test.true c.loop-held.invariant (sym c.ref_reaches.ensures ∙ c.if-ref_reaches.false)

pub returns : goal.returns
returns c =
    let a = c.args in
    run_any (tidy_refs c.requires.laid_refs) (ref_reaches a.office a.ids.now a.parents.now (read_snapshot_ids a.removed))
    (any_none _ _ c.loop-held-test.false c.loop-held.invariant)
