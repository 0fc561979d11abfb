-- An update removes snapshots exactly if it is tidy and of the one kind.
use mathlib.Core.Path.{◌≡◌, refl, sym, ap, ◌∙◌}
use mathlib.Core.Bool.{Bool, ◌&&◌}
use borrow.Author.Rules.{rules}
use lib.IntN.{ℤ}
use Rattle.records.specs.declared.update.TableUpdate.{TableUpdate}
use Rattle.rules.specs.Words.{any}
use Rattle.rules.specs.Register.{Update}
use Rattle.rules.specs.ChangeLog.{removed_ids, logs_addition}
use Rattle.rules.specs.Layout.{read_snapshot_ids}
use Rattle.rules.specs.Kinds.{remove_snapshots_kind, is_tidy_update, read_kind, read_update, read_updates}
use Rattle.histories.proofs.OfKind.{read_tidy, other_kind}
use Rattle.histories.proofs.removes_added.Goals as goal

module _ (q : ℤ → Bool) (u : TableUpdate) where
  removed : u.kind ≡ remove_snapshots_kind → any q (removed_ids (read_kind u)) ≡ any q (read_snapshot_ids u.snapshots.removed)
  removed e = rw e

  removes : u.kind ≡ remove_snapshots_kind → {t s : Bool} → t ≡ is_tidy_update u → s ≡ any q (read_snapshot_ids u.snapshots.removed) → (t && s) ≡ any q (removed_ids (read_update u))
  removes e p r = rw (p, r) (sym (read_tidy (λ (x : Update). any q (removed_ids x)) (λ n. refl) u ∙ ap (λ (b : Bool). is_tidy_update u && b) (removed e)))

pub returns-then-u-eq-REMOVE_SNAPSHOTS : goal.returns-then-u-eq-REMOVE_SNAPSHOTS
returns-then-u-eq-REMOVE_SNAPSHOTS c =
    removes (logs_addition (read_updates c.args.changes)) c.args.u c.if-u-eq-REMOVE_SNAPSHOTS.true c.is_tidy.ensures c.any_is_added.ensures

pub returns : goal.returns
returns c =
    sym (other_kind (λ (x : Update). any (logs_addition (read_updates c.args.changes)) (removed_ids x)) (λ n. refl) remove_snapshots_kind c.args.u refl c.if-u-eq-REMOVE_SNAPSHOTS.false)
