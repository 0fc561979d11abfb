use Rattle.std.proofs.Common.{Bool, ◌&&◌, sym, ◌∙◌}
use mathlib.Core.Path.{ap₂}
use Rattle.rules.specs.Layout.{read_snapshot_ids}
use Rattle.tables.proofs.Spans.{run_any, any_here, any_on, any_none}
use Rattle.tables.proofs.Each.{tidy_snapshot_log}
use Rattle.offices.specs.Reach.{entry_names}
use Rattle.offices.proofs.removal.log_names.Goals as goal

pub returns-then-has_snapshot-is_held : goal.returns-then-has_snapshot-is_held
returns-then-has_snapshot-is_held c =
    run_any (tidy_snapshot_log c.requires.laid_snapshot_log) (entry_names c.args.ids.now (read_snapshot_ids c.args.removed))
    (any_here _ _ _ c.loop-entry-test.true c.loop-entry.invariant (sym (ap₂ (λ (x y : Bool). x && y) c.has_snapshot.ensures c.is_held.ensures) ∙ c.if-has_snapshot-is_held.true))

pub loop-entry-preserved : goal.loop-entry-preserved
loop-entry-preserved c = any_on _ _ _ c.loop-entry-test.true c.loop-entry.invariant (sym (ap₂ (λ (x y : Bool). x && y) c.has_snapshot.ensures c.is_held.ensures) ∙ c.if-has_snapshot-is_held.false)

pub returns : goal.returns
returns c =
    run_any (tidy_snapshot_log c.requires.laid_snapshot_log) (entry_names c.args.ids.now (read_snapshot_ids c.args.removed))
    (any_none _ _ c.loop-entry-test.false c.loop-entry.invariant)
