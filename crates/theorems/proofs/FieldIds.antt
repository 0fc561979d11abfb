-- No fresh field id twice, of the entry point `run`, by its contract alone: over any chain of calls, each from what the one before answered.
use mathlib.Core.Path.{◌≡◌, refl, sym, ap, subst, ◌∙◌}
use mathlib.Core.Bool.{Bool, true, false, cond, not, false≢true}
use mathlib.Core.List.{List, [], ◌∷◌, ◌++◌}
use lib.Dec.{eqb}
use lib.IntN.{ℤ}
use lib.Signed.{lt_z}
use borrow.Author.Tests.{eqb-true, eqb-false}
use borrow.Table.Steps.{cases}
use Rattle.records.specs.declared.metadata.TableMetadata.{TableMetadata}
use Rattle.rules.specs.Words.{all, is_in, unequal, ascending}
use Rattle.rules.specs.Register.{Metadata, Outcome}
use Rattle.rules.specs.Layout.{read_metadata}
use Rattle.rules.specs.Run.{started}
use Rattle.rules.specs.Rows.{answered_from}
use Rattle.rules.specs.FieldIds.{fresh_from, fresh_in as freshInRun, fresh_over as freshOfRuns, last_partition_of, held_field_ids, is_at_most, is_reached}
use Rattle.rules.proofs.Tables.{all_then}
use Rattle.rules.proofs.Replay.Keys.{in_all}
use Rattle.rules.proofs.FieldIds.Runs.{last_partition_stays, fresh_above_start, fresh_ascending, fresh_once, fresh_by_end, reached_at_end}
use Rattle.theorems.proofs.Run.{Call, start, run_refused}
use Rattle.theorems.proofs.Moment.{before, asked, under, accepted}
use Rattle.theorems.proofs.Chains.{Chain, end_over, as_run, runs_of, chain_ends}

-- the fresh ids that a call gives out, which its updates get by the rules, each in the state before it; a refused call gives out none
abbrev pub fresh_in : Call → List ℤ
fresh_in c = cond (eqb c.answered.number 0) (fresh_from (under c) (asked c) (started (before c))) []

-- those of calls, in order
abbrev pub fresh_over : List Call → List ℤ
fresh_over [] = []
fresh_over (c ∷ cs) = fresh_in c ++ fresh_over cs

abbrev last_partition : TableMetadata → ℤ
last_partition m = m.fields.last_partition_id.0

-- the runs of a chain give them out
chain_gives : (m : TableMetadata) (cs : List Call) → Chain m cs → freshOfRuns (read_metadata m) (runs_of cs) ≡ fresh_over cs
unfolding freshOfRuns
chain_gives m [] h = refl
chain_gives m (c ∷ cs) h =
    subst (λ (x : TableMetadata). freshOfRuns (read_metadata x) (runs_of (c ∷ cs)) ≡ fresh_over (c ∷ cs)) h.0
    (go (eqb c.answered.number 0) refl (chain_gives c.answered.metadata cs h.1))
  where
    own : List ℤ
    own = fresh_from (under c) (asked c) (started (before c))

    go : (b : Bool) → eqb c.answered.number 0 ≡ b → freshOfRuns (read_metadata c.answered.metadata) (runs_of cs) ≡ fresh_over cs
        → freshOfRuns (before c) (cond b (as_run c ∷ runs_of cs) (runs_of cs)) ≡ cond b own [] ++ fresh_over cs
    go true e k =
        ap (λ (o : Outcome). freshInRun (as_run c) (before c) o ++ freshOfRuns (answered_from (before c) o) (runs_of cs)) (accepted c (eqb-true c.answered.number 0 e))
        ∙ ap (λ (l : List ℤ). own ++ l) k
    go false e k = ap (λ (x : TableMetadata). freshOfRuns (read_metadata x) (runs_of cs)) (sym (run_refused c (eqb-false c.answered.number 0 e)).metadata) ∙ k

-- ---- what is true of it

-- where last partition id is at least every field id that is held, no number above it is one of these
above_not_held : (m : Metadata) (ids : List ℤ) → is_reached m ≡ true → all (lt_z (last_partition_of m)) ids ≡ true → all (λ (id : ℤ). not (is_in (held_field_ids m) id)) ids ≡ true
unfolding is_reached
above_not_held m ids h a =
    let held : List ℤ = held_field_ids m in
    all_then (lt_z (last_partition_of m)) (λ (id : ℤ). not (is_in held id))
    (λ id e. cases (is_in held id) (λ t. absurd (false≢true (sym (ap not e) ∙ in_all (is_at_most (last_partition_of m)) held id h t))) (λ f. ap not f))
    ids a

-- Over any chain of calls, from any start:
module _ (m : TableMetadata) (cs : List Call) (h : Chain m cs) where
  -- last partition id never falls,
  pub run_last_partition_stays : lt_z (last_partition (end_over m cs)) (last_partition m) ≡ false
  run_last_partition_stays = rw (chain_ends m cs h) at (last_partition_stays (read_metadata m) (runs_of cs))

  -- every fresh id is above the last partition id of the start,
  pub run_fresh_above_start : all (lt_z (last_partition m)) (fresh_over cs) ≡ true
  run_fresh_above_start = rw (chain_gives m cs h) at (fresh_above_start (read_metadata m) (runs_of cs))

  -- each is above all that were given out before it,
  pub run_fresh_ascending : ascending lt_z (fresh_over cs) ≡ true
  run_fresh_ascending = rw (chain_gives m cs h) at (fresh_ascending (read_metadata m) (runs_of cs))

  -- so none is given out twice, also where its spec was removed since,
  pub run_fresh_once : unequal (fresh_over cs) ≡ true
  run_fresh_once = rw (chain_gives m cs h) at (fresh_once (read_metadata m) (runs_of cs))

  -- and the last partition id of the end is at least each
  pub run_fresh_by_end : all (is_at_most (last_partition (end_over m cs))) (fresh_over cs) ≡ true
  run_fresh_by_end = rw (chain_gives m cs h, chain_ends m cs h) at (fresh_by_end (read_metadata m) (runs_of cs))

  -- where the last partition id of the start is at least every field id that it holds, so is that of the end,
  pub run_reached_at_end : is_reached (read_metadata m) ≡ true → is_reached (read_metadata (end_over m cs)) ≡ true
  run_reached_at_end r = rw (chain_ends m cs h) at (reached_at_end (read_metadata m) (runs_of cs) r)

  -- and no fresh id is the id of a field that was held at the start
  pub run_fresh_never_held : is_reached (read_metadata m) ≡ true → all (λ (id : ℤ). not (is_in (held_field_ids (read_metadata m)) id)) (fresh_over cs) ≡ true
  run_fresh_never_held r = above_not_held (read_metadata m) (fresh_over cs) r run_fresh_above_start
