-- An update adds a snapshot exactly if it is tidy, of the one kind, and the snapshot has the id.
use mathlib.Core.Path.{◌≡◌, refl, sym, ap, ◌∙◌}
use mathlib.Core.Bool.{Bool, ◌&&◌}
use borrow.Author.Rules.{rules}
use lib.IntN.{ℤ}
use Rattle.records.specs.declared.update.TableUpdate.{TableUpdate}
use Rattle.rules.specs.Words.{eq_z}
use Rattle.rules.specs.ChangeLog.{is_addition}
use Rattle.rules.specs.Kinds.{add_snapshot_kind, is_tidy_update, read_kind, read_update}
use Rattle.histories.proofs.OfKind.{read_tidy, other_kind}
use Rattle.histories.proofs.is_addition.Goals as goal

module _ (id : ℤ) (u : TableUpdate) where
  added : u.kind ≡ add_snapshot_kind → is_addition id (read_kind u) ≡ eq_z u.snapshots.added.snapshot_id.0 id
  added e = rw e

  adds : u.kind ≡ add_snapshot_kind → {t s : Bool} → t ≡ is_tidy_update u → s ≡ eq_z u.snapshots.added.snapshot_id.0 id → (t && s) ≡ is_addition id (read_update u)
  adds e p q = rw (p, q) (sym (read_tidy (is_addition id) (λ n. refl) u ∙ ap (λ (b : Bool). is_tidy_update u && b) (added e)))

pub returns-then-u-eq-ADD_SNAPSHOT : goal.returns-then-u-eq-ADD_SNAPSHOT
returns-then-u-eq-ADD_SNAPSHOT c = adds c.args.id.0 c.args.u c.if-u-eq-ADD_SNAPSHOT.true c.is_tidy.ensures (search rules)

pub returns : goal.returns
returns c = sym (other_kind (is_addition c.args.id.0) (λ n. refl) add_snapshot_kind c.args.u refl c.if-u-eq-ADD_SNAPSHOT.false)
