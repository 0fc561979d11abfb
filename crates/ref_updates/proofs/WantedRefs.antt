-- The ref that an update asks for, read: its own, or the rule's for a branch commit; and it is laid out from what is read of it.
use Prim.Native.Nat.{ℕ}
use mathlib.Core.Path.{◌≡◌, ap}
use mathlib.Core.Bool.{Bool, true, cond}
use mathlib.Core.List.{List}
use borrow.Table.Steps.{cases}
use lib.Dec.{eqb}
use Rattle.records.specs.declared.reference.NamedRef.{NamedRef}
use Rattle.records.specs.declared.update.TableUpdate.{TableUpdate}
use Rattle.rules.specs.Register as plain
use Rattle.rules.specs.RefUpdates.{ref_named, committed}
use Rattle.rules.specs.Layout.{given, read_reference, laid_reference, read_ref}
use Rattle.rules.specs.Kinds.{set_ref_kind}
use Rattle.ref_updates.specs.Refs.{pointed, wanted_ref}

module _ (u : TableUpdate) (held : Bool) (old : NamedRef) where
  -- where the old ref is the first of the name
  pub wanted_read : (name : List ℕ) (l : List plain.NamedRef) → ref_named name l ≡ given held (read_ref old)
      → read_reference (wanted_ref u held old) ≡ cond (eqb u.kind set_ref_kind) (read_reference u.refs.reference) (committed name u.snapshots.added.snapshot_id.0 l)
  unfolding wanted_ref
  wanted_read name l e =
      cases (eqb u.kind set_ref_kind)
      (λ t. rw t)
      (λ f. rw (f, e, committed) (cases held (λ t. rw t) (λ n. rw n)))

  pub wanted_laid : laid_reference (read_reference u.refs.reference) ≡ u.refs.reference
      → (held ≡ true → laid_reference (read_reference old.reference) ≡ old.reference)
      → laid_reference (read_reference (wanted_ref u held old)) ≡ wanted_ref u held old
  unfolding wanted_ref laid_reference
  wanted_laid own kept =
      cases (eqb u.kind set_ref_kind)
      (λ t. rw t own)
      (λ f. rw f (cases held (λ t. rw t (ap (pointed u.snapshots.added.snapshot_id) (kept t))) (λ n. rw n)))
