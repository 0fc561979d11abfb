-- No row id twice, of the entry point `run`, by its contract alone: over any chain of calls, each from what the one before answered.
use Prim.Native.Nat.{ℕ}
use mathlib.Core.Path.{◌≡◌, sym, ap, subst, ◌∙◌}
use mathlib.Core.Bool.{Bool, true}
use mathlib.Core.List.{List, [], ◌∷◌, ◌++◌}
use Rattle.records.specs.declared.metadata.TableMetadata.{TableMetadata}
use Rattle.records.specs.declared.run.Answer.{Answer}
use Rattle.rules.specs.Words.{all}
use Rattle.rules.specs.Register.{Snapshot}
use Rattle.rules.specs.Layout.{read_metadata}
use Rattle.rules.specs.Kinds.{read_updates}
use Rattle.rules.specs.Answer.{answer}
use Rattle.rules.specs.Rows.{new_snapshots, has_rows, ranges_of, has_row, range_at, Ascend, Disjoint, AboveAll, is_apart, is_formed_and_apart}
use Rattle.rules.proofs.Rows.Ranges.{climbs_ascend, ascend_disjoint}
use Rattle.rules.proofs.Rows.Runs.{Adds, adds_none, adds_on}
use Rattle.rules.proofs.Rows.ApartExactly.{apart_means, disjoint_from_held}
use Rattle.rules.proofs.Rows.Above.{adds_above}
use Rattle.rules.proofs.Answer.Rows.{new_in, answer_logs_new, answer_adds, answer_apart_stays, answer_rows_apart_stays}
use Rattle.theorems.proofs.Run.{Call, start, updates, terms, lent, says}
use Rattle.theorems.proofs.Chains.{Chain, end_over}

-- the snapshots that the changes of calls add, in order; a refused call has no changes (`run_refused`)
abbrev pub new_over : List Call → List Snapshot
new_over [] = []
new_over (c ∷ cs) = new_in c.answered ++ new_over cs

-- what one call adds
call_adds : (m : TableMetadata) (c : Call) → start c ≡ m → m.fields.format_version ≡ 3 → Adds (read_metadata m) (read_metadata c.answered.metadata) (new_in c.answered)
call_adds m c e v =
    subst (λ (x : Answer). Adds (read_metadata m) (read_metadata x.metadata) (new_in x)) (sym (says c ∙ ap (λ (x : TableMetadata). answer x (updates c) (terms c) (lent c)) e))
    (answer_adds m (updates c) (terms c) (lent c) v)

chain_adds : (m : TableMetadata) (cs : List Call) → Chain m cs → m.fields.format_version ≡ 3 → Adds (read_metadata m) (read_metadata (end_over m cs)) (new_over cs)
chain_adds m [] h v = adds_none (read_metadata m) v
chain_adds m (c ∷ cs) h v =
    let next : TableMetadata = c.answered.metadata in
    let a : Adds (read_metadata m) (read_metadata next) (new_in c.answered) = call_adds m c h.0 v in
    adds_on (read_metadata m) (read_metadata next) (read_metadata (end_over next cs)) (new_in c.answered) (new_over cs) a (chain_adds next cs h.1 a.version)

-- the changes of an accepted call add what the additions and branch commits of its list are to add, in order, so what is added is what the lists ask for
pub run_logs_new : (c : Call) → (start c).fields.format_version ≡ 3 → c.answered.number ≡ 0 → new_in c.answered ≡ new_snapshots (read_updates (updates c))
run_logs_new c v e =
    subst (λ (x : Answer). new_in x ≡ new_snapshots (read_updates (updates c))) (sym (says c))
    (answer_logs_new (start c) (updates c) (terms c) (lent c) v (sym (ap (λ (x : Answer). x.number) (says c)) ∙ e))

-- Over any chain of calls from a start of version 3:
module _ (m : TableMetadata) (cs : List Call) (h : Chain m cs) (v : m.fields.format_version ≡ 3) where
  -- what holds of each snapshot that is held at the start and of each that is added holds of each that is held at the end: whatever else is held then was added,
  pub run_held_or_added : (p : Snapshot → Bool) → all p (read_metadata m).snapshots ≡ true → all p (new_over cs) ≡ true → all p (read_metadata (end_over m cs)).snapshots ≡ true
  run_held_or_added = (chain_adds m cs h v).holds

  -- every snapshot that an accepted call adds has a row range,
  pub run_rows_given : all has_rows (new_over cs) ≡ true
  run_rows_given = (chain_adds m cs h v).ranged

  -- in the order of addition each range begins at or after the end of every earlier one and the starting next row id, and ends by 2^64 - 1,
  pub run_rows_ascend : Ascend m.fields.next_row_id.0 (ranges_of (new_over cs))
  run_rows_ascend = climbs_ascend m.fields.next_row_id.0 (ranges_of (new_over cs)) (chain_adds m cs h v).climb

  -- so no row id lies in two of them, nor in one of them and in a range that ends by the starting next row id
  pub run_rows_disjoint : Disjoint m.fields.next_row_id.0 (ranges_of (new_over cs))
  run_rows_disjoint = ascend_disjoint m.fields.next_row_id.0 (ranges_of (new_over cs)) run_rows_ascend

-- metadata that is apart is answered by metadata that is apart
pub run_apart_stays : (c : Call) → is_apart (read_metadata (start c)) ≡ true → is_apart (read_metadata c.answered.metadata) ≡ true
run_apart_stays c h = subst (λ (x : Answer). is_apart (read_metadata x.metadata) ≡ true) (sym (says c)) (answer_apart_stays (start c) (updates c) (terms c) (lent c) h)

-- where what `row_ranges::rows_apart` answers is true of the metadata that a call is given, it is true of the metadata of its answer, accepted or refused:
-- whoever asks once knows it of every later answer
pub run_rows_apart_stays : (c : Call) → is_formed_and_apart (start c) ≡ true → is_formed_and_apart c.answered.metadata ≡ true
run_rows_apart_stays c h = subst (λ (x : Answer). is_formed_and_apart x.metadata ≡ true) (sym (says c)) (answer_rows_apart_stays (start c) (updates c) (terms c) (lent c) h)

-- over any chain of calls from metadata that is apart no row id is given out that was held at its start
pub run_rows_never_held : (m : TableMetadata) (cs : List Call) → Chain m cs → is_apart (read_metadata m) ≡ true
    → (i j row : ℕ) → has_row (range_at (ranges_of (new_over cs)) i) row ≡ true → has_row (range_at (ranges_of (read_metadata m).snapshots) j) row ≡ true → ⊥
run_rows_never_held m cs h a = disjoint_from_held (read_metadata m) (ranges_of (new_over cs)) a (run_rows_disjoint m cs h (apart_means (read_metadata m) a).version)

chain_apart : (m : TableMetadata) (cs : List Call) → Chain m cs → is_apart (read_metadata m) ≡ true → is_apart (read_metadata (end_over m cs)) ≡ true
chain_apart m [] h a = a
chain_apart m (c ∷ cs) h a = chain_apart c.answered.metadata cs h.1 (run_apart_stays c (rw h.0 a))

-- and next row id is then above every row id that was held at the start, was added, removed since or not, or is held
pub run_next_above_all : (m : TableMetadata) (cs : List Call) → Chain m cs → is_apart (read_metadata m) ≡ true
    → AboveAll (end_over m cs).fields.next_row_id.0 (ranges_of (read_metadata m).snapshots) (ranges_of (new_over cs)) (ranges_of (read_metadata (end_over m cs)).snapshots)
run_next_above_all m cs h a = adds_above (read_metadata m) (read_metadata (end_over m cs)) (new_over cs) a (chain_apart m cs h a) (chain_adds m cs h (apart_means (read_metadata m) a).version)
