-- The close knows a change log by three facts: what it says of them is what the rules say of the log.
use mathlib.Core.Path.{◌≡◌, refl, sym, ap, ◌∙◌}
use mathlib.Core.Bool.{Bool, true, false, cond, not, ◌&&◌, ◌||◌}
use mathlib.Core.List.{List, []}
use mathlib.Core.Option.{Option, none, some}
use borrow.Table.Steps.{cases}
use lib.IntN.{ℤ}
use Rattle.records.specs.declared.metadata.SingleFields.{SingleFields}
use Rattle.records.specs.declared.snapshot.SnapshotLog.{SnapshotLog}
use Rattle.rules.specs.Words.{eq_z, if_some, some_with, any, keep, collect, first, is_in, is_empty, after_last}
use Rattle.rules.specs.Register.{LogEntry, SchemaField, Schema, SortField, SortOrder, PartitionSpec, Metadata, Update}
use Rattle.rules.specs.WellFormed.{has_schema, has_order, has_spec, field_ids}
use Rattle.rules.specs.ChangeLog.{addition, logs_addition, logs_main, logs_removal}
use Rattle.rules.specs.Layout.{read_fields, read_snapshot_log, laid_snapshot_log}
use Rattle.rules.specs.Close.{intermediates, is_rebuilt, is_missing, is_intermediate, rebuilt, history, ends_at, ends_elsewhere, is_default_clashing, is_default_misfit, is_default_unfit}
use Rattle.rules.specs.SpecUpdates.{is_clashing, is_misfit, is_held_misfit}
use Rattle.rules.proofs.Replay.Lists.{any_collect}
use Rattle.rules.proofs.Slots.Reread.{reread_snapshot_log}
use Rattle.close.specs.Facts.{additions, intermediates_of, is_gone, is_staying, Told}
use Rattle.close.specs.Answers.{HistoryOf, ends_off}
use Rattle.close.specs.declared.history.History.{History}
use Rattle.search.proofs.Places.{eq_z_turned}
use Rattle.builder.proofs.Positions.{in_held}
use Rattle.close.proofs.Scans.{none_after, keep_others}

-- the log adds a snapshot exactly if it is among its additions
pub adds_in : (log : List Update) (id : ℤ) → logs_addition log id ≡ is_in (additions log) id
unfolding logs_addition additions
adds_in log id = any_collect (λ x. eq_z x id) addition log ∙ ap (λ (q : ℤ → Bool). any q (collect addition log)) (λ i x. eq_z_turned x id i)

pub intermediates_of_lem : (log : List Update) (current : Option ℤ) → intermediates_of (additions log) (logs_main log) current ≡ intermediates log current
unfolding intermediates_of intermediates
intermediates_of_lem log current = simp adds_in

-- with a removal too, each entry that is kept is tested for both: after the last missing one none is missing
rebuilt_once : (log : List Update) (m : Metadata) → keep (λ e. not (is_missing m e) && not (is_intermediate log m e)) (cond (logs_removal log) (after_last (is_missing m) m.snapshot_log) m.snapshot_log) ≡ rebuilt log m
unfolding rebuilt
rebuilt_once log m =
    cases (logs_removal log)
    (λ t. rw t (keep_others (is_missing m) (λ e. not (is_intermediate log m e)) (after_last (is_missing m) m.snapshot_log) (none_after (is_missing m) m.snapshot_log)))
    (λ f. rw f)

module _ {l : List Update} {p : Metadata} {log : SnapshotLog} {ids : List ℤ} {f : SingleFields} {added mains : List ℤ} {removal : Bool} (t : Told l p log ids f added mains removal) where
  told_intermediates : intermediates_of added mains (read_fields f).current ≡ intermediates l p.fields.current
  told_intermediates = rw (t.adds, t.sets, t.current) (intermediates_of_lem l p.fields.current)

  abbrev is_changed : Bool
  is_changed = removal || not (is_empty (intermediates_of added mains (read_fields f).current))

  told_changed : is_changed ≡ is_rebuilt l p
  told_changed = rw (t.removes, told_intermediates)

  told_gone : is_gone ids ≡ is_missing p
  told_gone = rw t.held (λ i e. not (in_held p.snapshots e.snapshot i))

  abbrev kept : List LogEntry
  kept = keep (is_staying ids added mains (read_fields f).current) (cond removal (after_last (is_gone ids) (read_snapshot_log log)) (read_snapshot_log log))

  told_kept : kept ≡ rebuilt l p
  told_kept =
      (λ i. keep (λ e. not (told_gone i e) && not (is_in (told_intermediates i) e.snapshot)) (cond (t.removes i) (after_last (told_gone i) (t.history i)) (t.history i)))
      ∙ rebuilt_once l p

  history_is : {b : Bool} → is_changed ≡ b → cond b (rebuilt l p) p.snapshot_log ≡ history l p
  history_is e = ap (λ (b : Bool). cond b (rebuilt l p) p.snapshot_log) (sym e ∙ told_changed)

  pub is_rebuilt_lem : (r : SnapshotLog) → is_changed ≡ true → r ≡ laid_snapshot_log kept → HistoryOf l p (record { rebuilt = true; log = r })
  is_rebuilt_lem r e k = record { rebuilt = sym e ∙ told_changed; log = k ∙ ap laid_snapshot_log (told_kept ∙ history_is e) }

  pub is_left : is_changed ≡ false → laid_snapshot_log (read_snapshot_log log) ≡ log → HistoryOf l p (record { rebuilt = false; log = log })
  is_left e k = record { rebuilt = sym e ∙ told_changed; log = sym k ∙ ap laid_snapshot_log (t.history ∙ history_is e) }

-- ---- the checks

-- where the log is rebuilt the history is the rebuilt log
ends_history : (l : List Update) (p : Metadata) → ends_off (is_rebuilt l p) (history l p) p.fields.current ≡ ends_elsewhere l p
unfolding ends_elsewhere
ends_history l p = by_rebuilt (is_rebuilt l p) (rebuilt l p) p.snapshot_log p.fields.current
  where
    by_rebuilt : (b : Bool) (x y : List LogEntry) (o : Option ℤ) → ends_off b (cond b x y) o ≡ b && not (if_some (λ id. ends_at id x) o)
    by_rebuilt true x y o = refl
    by_rebuilt false x y o = refl

pub ends_is : {l : List Update} {p : Metadata} {h : History} (f : SingleFields) → HistoryOf l p h → read_fields f ≡ p.fields
    → ends_off h.rebuilt (read_snapshot_log h.log) (read_fields f).current ≡ ends_elsewhere l p
ends_is {l} {p} f k e =
    (λ i. ends_off (k.rebuilt i) ((ap read_snapshot_log k.log ∙ reread_snapshot_log (history l p)) i) (e i).current)
    ∙ ends_history l p

-- the schema and the order that are found
pub unfit_is : (p : Metadata) (s : Schema) (o : SortOrder) → first (has_schema p.fields.current_schema) p.schemas ≡ some s → first (has_order p.fields.default_order) p.orders ≡ some o
    → any (λ (f : SortField). not (is_in (field_ids s) f.source)) o.fields ≡ is_default_unfit p
unfolding is_default_unfit
unfit_is p s o e k = sym (λ i. some_with (λ (o : SortOrder). any (λ (f : SortField). not (is_in (ids (e i)) f.source)) o.fields) (k i))
  where
    ids : Option Schema → List ℤ
    ids o = elim o [ none ↦ [] | some s ↦ field_ids s ]

-- the schema and the spec that are found
module _ (p : Metadata) (s : Schema) (x : PartitionSpec) (e : first (has_schema p.fields.current_schema) p.schemas ≡ some s) (k : first (has_spec p.fields.default_spec) p.specs ≡ some x) where
  abbrev columns : Option Schema → List SchemaField
  columns o = elim o [ none ↦ [] | some s ↦ s.fields ]

  pub clashing_is : is_clashing s.fields x ≡ is_default_clashing p
  unfolding is_default_clashing
  clashing_is = sym (λ i. some_with (is_clashing (columns (e i))) (k i))

  pub misfit_is : is_misfit s.fields x ≡ is_default_misfit p
  unfolding is_default_misfit is_held_misfit
  misfit_is = sym (λ i. some_with (is_misfit (columns (e i))) (k i))
