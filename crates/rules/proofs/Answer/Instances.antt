-- The replay of records is not empty: P3, P5 and P10, laid out as a call is given them, have the number 0, and `answer_replays` speaks of them.
-- That what is laid reads back is cited; the rules' own run is computed, over lists.
use mathlib.Core.Path.{◌≡◌, refl}
use mathlib.Core.Bool.{true, false}
use mathlib.Core.List.{List, [], ◌∷◌}
use lib.IntN.{pos}
use Rattle.records.specs.Blanks.{no_text}
use Rattle.records.specs.declared.metadata.TableMetadata.{TableMetadata}
use Rattle.records.specs.declared.run.RunTerms.{RunTerms}
use Rattle.rules.specs.Words.{all}
use Rattle.rules.specs.Register.{Update}
use Rattle.rules.specs.Register.Update.{RemoveSchemas}
use Rattle.rules.specs.WellFormed.{metadata_formed, update_formed}
use Rattle.rules.specs.Run.{run}
use Rattle.rules.specs.Replay.{strip}
use Rattle.rules.specs.Layout.{laid_metadata}
use Rattle.rules.specs.Kinds.{laid_updates}
use Rattle.rules.specs.Window.{default_tolerance}
use Rattle.rules.specs.Answer.{Lent, read_terms, laid_outcome, answer}
use Rattle.rules.specs.Examples.{offers, terms, three}
use Rattle.rules.proofs.Examples.{computed}
use Rattle.rules.proofs.Replay.Suffices.{p3, p5, p10}
use Rattle.rules.proofs.Slots.Reread.{reread_updates}
use Rattle.rules.proofs.Answer.Laws.{laid_answer}
use Rattle.rules.proofs.Answer.Replays.{again, Replays, answer_replays}

-- the terms of the examples as a record; beside them an empty limit text and the offers of the examples are lent
abbrev pub call_lent : Lent
call_lent = record { text = []; offers = offers }

abbrev pub call_terms : RunTerms
call_terms = record { clock_ms = record { 0 = pos 500000 }; tolerance_ms = record { 0 = default_tolerance }; has_file = false; file = no_text; office = 1 }

pub call_terms_read : read_terms call_terms call_lent ≡ terms
call_terms_read = refl

abbrev pub start : TableMetadata
start = laid_metadata three

-- the call is accepted, so that its changes replay
pub record Instance (us : List Update) : Type 0 where
  pub number : (answer start (laid_updates us) call_terms call_lent).number ≡ 0
  pub replays : Replays start (laid_updates us) call_terms call_lent

start_formed_lem : metadata_formed three ≡ true
unfolding computed
start_formed_lem = refl

-- a list that the rules accept, by computation
call_accepted : (us : List Update) → all update_formed us ≡ true → (laid_outcome start (run terms three us)).number ≡ 0 → Instance us
call_accepted us f e =
    let z : (answer start (laid_updates us) call_terms call_lent).number ≡ 0 = rw (laid_answer three us call_terms call_lent start_formed_lem f) e in
    record { number = z; replays = answer_replays start (laid_updates us) call_terms call_lent z }

pub answer_instances : Instance p3 × Instance p5 × Instance p10
unfolding computed laid_outcome
answer_instances = (call_accepted p3 refl refl, call_accepted p5 refl refl, call_accepted p10 refl refl)

-- P10: "removing unknown schema 7 logs an empty removal; its replay logs none"
p10_logs : (answer start (laid_updates p10) call_terms call_lent).changes ≡ laid_updates (RemoveSchemas [] ∷ [])
unfolding computed laid_outcome
p10_logs = rw (laid_answer three p10 call_terms call_lent start_formed_lem refl)

pub p10_replay_logs_none : (again start (laid_updates p10) call_terms call_lent).changes ≡ laid_updates []
unfolding computed strip
p10_replay_logs_none = rw (answer_instances.2.replays.changes, p10_logs, reread_updates (RemoveSchemas [] ∷ []) refl)
