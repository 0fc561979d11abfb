-- Demand 3, of records: the changes that a run answers, given back to it with the same start and terms, lead to the same answer.
use Prim.Native.Nat.{ℕ}
use mathlib.Core.Path.{◌≡◌}
use mathlib.Core.Bool.{true}
use mathlib.Core.List.{List}
use Rattle.records.specs.declared.metadata.TableMetadata.{TableMetadata}
use Rattle.records.specs.declared.update.UpdateList.{UpdateList}
use Rattle.records.specs.declared.run.RunTerms.{RunTerms}
use Rattle.records.specs.declared.run.Answer.{Answer}
use Rattle.rules.specs.Words.{all}
use Rattle.rules.specs.Register.{Metadata, Update, Terms}
use Rattle.rules.specs.Register.Outcome.{Accepted}
use Rattle.rules.specs.WellFormed.{update_formed}
use Rattle.rules.specs.Run.{run}
use Rattle.rules.specs.Replay.{strip}
use Rattle.rules.specs.Layout.{read_metadata}
use Rattle.rules.specs.Kinds.{read_updates, laid_updates}
use Rattle.rules.specs.Answer.{Lent, read_terms, laid_outcome, answer}
use Rattle.rules.proofs.Replay.Run.{log_fits_lem, log_replays, stripped_replays}
use Rattle.rules.proofs.Slots.Reread.{reread_updates}
use Rattle.rules.proofs.Answer.Laws.{Accepts, accepts_laid, zero_accepts}

module _ (m : TableMetadata) (us : UpdateList) (terms : RunTerms) (lent : Lent) where
  -- the run's answer
  abbrev pub first : Answer
  first = answer m us terms lent

  -- the answer to the changes of the first, from the same metadata, under the same terms
  abbrev pub again : Answer
  again = answer m first.changes terms lent

  -- An accepted run's changes, run again from the same metadata under the same terms, are accepted, with the same metadata and the same
  -- expired entries. The changes of that second run are those of the first, without the schema removals that name no schema (P10).
  -- They in turn, run from the same metadata, are answered by the very same record: number, place, metadata, changes and expired entries.
  pub record Replays : Type 0 where
    pub accepted : again.number ≡ 0
    pub metadata : again.metadata ≡ first.metadata
    pub expired : again.expired ≡ first.expired
    pub changes : again.changes ≡ laid_updates (strip (read_updates first.changes))
    pub settles : answer m again.changes terms lent ≡ again

-- a log that the rules accept, laid out, is answered by what it leads to
laid_log : (m : TableMetadata) (us : UpdateList) (terms : RunTerms) (lent : Lent) (k : Accepts m us terms lent) (log next : List Update)
    → all update_formed log ≡ true → run (read_terms terms lent) (read_metadata m) log ≡ Accepted k.metadata next k.expired
    → answer m (laid_updates log) terms lent ≡ laid_outcome m (Accepted k.metadata next k.expired)
laid_log m us terms lent k log next f r =
    accepts_laid m (laid_updates log) terms lent
    (record { tidy = k.tidy; metadata = k.metadata; log = next; expired = k.expired; runs = rw (reread_updates log f) r })

pub answer_replays : (m : TableMetadata) (us : UpdateList) (terms : RunTerms) (lent : Lent) → (answer m us terms lent).number ≡ 0 → Replays m us terms lent
unfolding laid_outcome
answer_replays m us terms lent e =
    let k : Accepts m us terms lent = zero_accepts m us terms lent e in
    let t : Terms = read_terms terms lent in
    let p : Metadata = read_metadata m in
    let log : List Update = k.log in
    let twice : run t p log ≡ Accepted k.metadata (strip log) k.expired = log_replays t p (read_updates us) k.metadata log k.expired k.runs in
    let thrice : run t p (strip log) ≡ Accepted k.metadata (strip log) k.expired = stripped_replays t p (read_updates us) k.metadata log k.expired k.runs in
    let f : all update_formed log ≡ true = (log_fits_lem t p (read_updates us) k.metadata log k.expired k.runs).0 in
    let g : all update_formed (strip log) ≡ true = (log_fits_lem t p log k.metadata (strip log) k.expired twice).0 in
    let a : answer m us terms lent ≡ laid_outcome m (Accepted k.metadata log k.expired) = accepts_laid m us terms lent k in
    let b : answer m (laid_updates log) terms lent ≡ laid_outcome m (Accepted k.metadata (strip log) k.expired) = laid_log m us terms lent k log (strip log) f twice in
    let c : answer m (laid_updates (strip log)) terms lent ≡ laid_outcome m (Accepted k.metadata (strip log) k.expired) = laid_log m us terms lent k (strip log) (strip log) g thrice in
    record {
      accepted = rw (a, b);
      metadata = rw (a, b);
      expired = rw (a, b);
      changes = rw (a, b, reread_updates log f);
      settles = rw (a, b, c);
    }
