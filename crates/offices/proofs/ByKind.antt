-- Whether an update is the other office's, by its kind: by the ref that it names, by what it removes, and else by the kind alone.
use Prim.Native.Nat.{ℕ}
use mathlib.Core.Path.{◌≡◌, refl, sym, ap, ◌∙◌, subst}
use mathlib.Core.Bool.{Bool, true, false, ◌&&◌, ◌||◌, false≢true, true≢false}
use mathlib.Core.List.{List, [], ◌∷◌}
use lib.Dec.{eqb}
use borrow.Author.Tests.{eqb-true}
use Rattle.records.specs.declared.update.TableUpdate.{TableUpdate}
use Rattle.rules.specs.Words.{some_with, any}
use Rattle.rules.specs.Register.{NamedRef, Metadata, Update}
use Rattle.rules.specs.WellFormed.{update_formed}
use Rattle.rules.specs.Others.{is_second, is_others_ref, is_needed, is_others}
use Rattle.rules.specs.Names.{is_main}
use Rattle.rules.specs.RefUpdates.{ref_named}
use Rattle.rules.specs.SnapshotUpdates.{held_snapshots}
use Rattle.rules.specs.Layout.{read_name, read_snapshot_ids}
use Rattle.rules.specs.Kinds.{at_kind, readings, read_update, set_branch_snapshot_kind, remove_snapshots_kind, set_ref_kind, remove_ref_kind}
use Rattle.rules.proofs.Checks.{by_either}
use Rattle.tables.specs.Laid.{LaidName}
use Rattle.start.proofs.Reading.{formed_tidy, read_tidy, kinds, known, read_set_branch_snapshot, read_remove_snapshots, read_set_ref, read_remove_ref}
use Rattle.offices.specs.Kept.{is_kept}
use Rattle.offices.specs.Used.{Used}

-- what is true of each number of a list
infixr 67 ◌and◌
data Each (P : ℕ → Type 0) : List ℕ → Type 0 where
  none : Each P []
  ◌and◌ : {x : ℕ} {l : List ℕ} → P x → Each P l → Each P (x ∷ l)

of_each : {P : ℕ → Type 0} {l : List ℕ} (k : ℕ) → Each P l → any (eqb k) l ≡ true → P k
of_each k none h = absurd (false≢true h)
of_each {P} k (◌and◌ {x} {l} p ps) h = by_either (eqb k x) (any (eqb k) l) (λ e. subst P (sym (eqb-true k x e)) p) (of_each k ps) h

-- it names a ref
abbrev pub is_naming : ℕ → Bool
is_naming kind = (eqb kind set_branch_snapshot_kind || eqb kind set_ref_kind) || eqb kind remove_ref_kind

module _ (u : TableUpdate) where
  by_naming : {P : Type 0} → (u.kind ≡ set_branch_snapshot_kind → P) → (u.kind ≡ set_ref_kind → P) → (u.kind ≡ remove_ref_kind → P) → is_naming u.kind ≡ true → P
  by_naming f g h =
      by_either (eqb u.kind set_branch_snapshot_kind || eqb u.kind set_ref_kind) (eqb u.kind remove_ref_kind)
      (by_either (eqb u.kind set_branch_snapshot_kind) (eqb u.kind set_ref_kind) (λ e. f (eqb-true u.kind set_branch_snapshot_kind e)) (λ e. g (eqb-true u.kind set_ref_kind e)))
      (λ e. h (eqb-true u.kind remove_ref_kind e))

  -- its name is laid out
  pub name_laid : Used u → is_naming u.kind ≡ true → LaidName u.refs.name
  name_laid k = by_naming k.branch k.ref k.gone

  module _ (office : ℕ) (m : Metadata) (f : update_formed (read_update u) ≡ true) where
    pub naming : {refs : List NamedRef} → refs ≡ m.refs → is_naming u.kind ≡ true
        → ((is_second office && is_main (read_name u.refs.name)) || some_with (is_others_ref office) (ref_named (read_name u.refs.name) refs)) ≡ is_others office (read_update u) m
    unfolding is_others
    naming n = rw n (by_naming (λ e. rw (read_set_branch_snapshot u f e)) (λ e. rw (read_set_ref u f e)) (λ e. rw (read_remove_ref u f e)))

    pub removing : u.kind ≡ remove_snapshots_kind → any (is_needed office m) (held_snapshots (read_snapshot_ids u.snapshots.removed) m.snapshots) ≡ is_others office (read_update u) m
    unfolding is_others
    removing e = rw (read_remove_snapshots u f e)

    -- of the other kinds
    pub kept_kind : is_naming u.kind ≡ false → eqb u.kind remove_snapshots_kind ≡ false → (is_kept u.kind && is_second office) ≡ is_others office (read_update u) m
    unfolding is_others
    kept_kind n r = of_each u.kind each (known u f) n r ∙ ap (λ (x : Update). is_others office x m) (sym (read_tidy u (formed_tidy u f)))
      where
        P : ℕ → Type 0
        P k = is_naming k ≡ false → eqb k remove_snapshots_kind ≡ false → (is_kept k && is_second office) ≡ is_others office (at_kind k (readings u)) m

        each : Each P kinds
        each =
            (λ e g. refl) and (λ e g. refl) and (λ e g. refl) and (λ e g. refl) and (λ e g. absurd (true≢false e)) and (λ e g. absurd (true≢false g)) and (λ e g. absurd (true≢false e)) and (λ e g. absurd (true≢false e)) and (λ e g. refl) and (λ e g. refl) and (λ e g. refl) and (λ e g. refl) and (λ e g. refl) and (λ e g. refl) and (λ e g. refl) and (λ e g. refl) and (λ e g. refl) and (λ e g. refl) and (λ e g. refl) and (λ e g. refl) and none
