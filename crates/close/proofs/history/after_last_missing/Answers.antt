use Rattle.std.proofs.Common.{◌≡◌, ◌+◌, ◌-◌, not, sym, ap, ◌∙◌, arith}
use Rattle.rules.specs.Layout.{read_snapshot_log}
use Rattle.tables.proofs.Table.{read_length}
use Rattle.tables.proofs.Each.{tidy_snapshot_log}
use Rattle.close.specs.Facts.{is_gone}
use Rattle.close.proofs.Scans.{any_end, after_none}
use Rattle.close.proofs.Parts.{none_from, last_here}
use Rattle.close.proofs.history.after_last_missing.Goals as goal

pub loop-i-init : goal.loop-i-init
loop-i-init c = any_end (is_gone c.args.ids.now) (read_snapshot_log c.args.log) c.args.log.count (omega (arith, read_length (tidy_snapshot_log c.requires.laid_snapshot_log)))

pub returns-then-not-is_held-clause-after : goal.returns-then-not-is_held-clause-after
returns-then-not-is_held-clause-after c =
    let s : (c.loop-i.i - 1) + 1 ≡ c.loop-i.i = omega arith in
    sym (last_here (tidy_snapshot_log c.requires.laid_snapshot_log) (c.loop-i.i - 1) _ (omega arith) (is_gone c.args.ids.now) (ap not (sym c.is_held.ensures ∙ c.if-not-is_held.true)) (rw s c.loop-i.invariant))

pub loop-i-preserved : goal.loop-i-preserved
loop-i-preserved c =
    let s : (c.loop-i.i - 1) + 1 ≡ c.loop-i.i = omega arith in
    none_from (tidy_snapshot_log c.requires.laid_snapshot_log) (c.loop-i.i - 1) _ (omega arith) (is_gone c.args.ids.now) (ap not (sym c.is_held.ensures ∙ c.if-not-is_held.false)) (rw s c.loop-i.invariant)

pub returns-clause-after : goal.returns-clause-after
returns-clause-after c = let z : c.loop-i.i ≡ 0 = omega arith in sym (after_none _ _ (rw z at c.loop-i.invariant))
