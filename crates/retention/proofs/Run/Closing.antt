-- The close of a log that sets no `main` and perhaps removes snapshots: it has no intermediate snapshots, so the snapshot log stays as it is, or is cut after
-- its last entry whose snapshot is missing; and where the current snapshot is held, the cut does not change whether the log ends there.
use mathlib.Core.Path.{◌≡◌, refl, sym, ap, ◌∙◌}
use mathlib.Core.Bool.{Bool, true, false, cond, not, ◌&&◌, or-false}
use mathlib.Core.List.{List, [], ◌∷◌}
use mathlib.Core.Option.{Option, none, some}
use lib.IntN.{ℤ}
use borrow.Table.Steps.{cases}
use Rattle.rules.specs.Words.{eq_z, if_some, some_with, any, last_of, after_last}
use Rattle.rules.specs.Register.{LogEntry, Metadata, Update}
use Rattle.rules.specs.WellFormed.{holds_snapshot}
use Rattle.rules.specs.ChangeLog.{logs_main, logs_removal}
use Rattle.rules.specs.Close.{intermediates, is_rebuilt, is_missing, rebuilt, history, ends_at, ends_elsewhere}
use Rattle.rules.proofs.Checks.{by_test}
use Rattle.rules.proofs.Orders.{numbers_told}
use Rattle.retention.proofs.Stay.{fails}
use Rattle.retention.proofs.Run.Lists.{keep_every}

-- ---- the last entry

module _ {A : Type 0} (p q : A → Bool) (other : (x : A) → q x ≡ true → p x ≡ false) where
  -- of one element
  cut_one : (x : A) → some_with q (last_of (cond (p x) [] (x ∷ []))) ≡ q x
  cut_one x = cases (p x) (λ t. rw t (sym (fails (q x) (λ s. ap not (other x s)) (ap not t)))) (λ f. rw f)

  -- what is last and passes a test is so still, after the last that passes one which excludes it
  ends_after : (l : List A) → some_with q (last_of (after_last p l)) ≡ some_with q (last_of l)
  ends_after [] = refl
  ends_after (x ∷ []) = cut_one x
  ends_after (x ∷ y ∷ l) =
      let P : List A → Type 0 = λ r. some_with q (last_of r) ≡ some_with q (last_of (y ∷ l)) in
      by_test P (any p (y ∷ l)) (λ e. ends_after (y ∷ l)) (λ e. by_test P (p x) (λ f. refl) (λ f. refl))

-- ---- the snapshot log

-- the log ends at the current snapshot, where one is set
abbrev pub ends_there : Option ℤ → List LogEntry → Bool
ends_there current l = if_some (λ id. ends_at id l) current

module _ (m : Metadata) (log : List Update) (cuts : Bool) (no_main : logs_main log ≡ []) (removes : logs_removal log ≡ cuts) where
  abbrev cut_log : List LogEntry
  cut_log = after_last (is_missing m) m.snapshot_log

  rebuilt_if : is_rebuilt log m ≡ cuts
  unfolding intermediates
  rebuilt_if = rw (no_main, removes) (or-false cuts)

  rebuilt_is : cuts ≡ true → rebuilt log m ≡ cut_log
  unfolding rebuilt intermediates
  rebuilt_is c = rw (removes, c, no_main) (keep_every cut_log)

  pub history_is : history log m ≡ cond cuts cut_log m.snapshot_log
  history_is = ap (λ (b : Bool). cond b (rebuilt log m) m.snapshot_log) rebuilt_if ∙ cases cuts (λ c. rw (c, rebuilt_is c)) (λ f. rw f)

  -- 21 where the current snapshot is held
  pub ends_elsewhere_is : if_some (holds_snapshot m.snapshots) m.fields.current ≡ true → ends_elsewhere log m ≡ (cuts && not (ends_there m.fields.current m.snapshot_log))
  unfolding ends_elsewhere
  ends_elsewhere_is h =
      ap (λ (b : Bool). b && not (ends_there m.fields.current (rebuilt log m))) rebuilt_if
      ∙ cases cuts (λ c. rw (c, rebuilt_is c) (ap not (there m.fields.current h))) (λ f. rw f)
    where
      there : (o : Option ℤ) → if_some (holds_snapshot m.snapshots) o ≡ true → ends_there o cut_log ≡ ends_there o m.snapshot_log
      there none q = refl
      there (some id) q = ends_after (is_missing m) (λ (e : LogEntry). eq_z e.snapshot id) (λ e s. rw (numbers_told.equal e.snapshot id s, q)) m.snapshot_log
