-- Every answer fits its slots: the changes their 64, the expired entries their 128, and what is unused in them is blank.
use Prim.Native.Nat.{ℕ, zero, suc, ◌-◌, ◌≤◌}
use native.Mathlib.Omega.{arith}
use mathlib.Core.Path.{◌≡◌, refl, subst}
use mathlib.Core.Bool.{Bool, true, false≢true}
use mathlib.Core.List.{List, [], ◌∷◌, map}
use mathlib.Core.Option.{Option, none, some}
use lib.ListN.{length, take, replicate, length-append, length-replicate, length-take, length-map}
use Rattle.records.specs.Blanks.{no_metadata_log, no_update, no_updates}
use Rattle.records.specs.declared.metadata.TableMetadata.{TableMetadata}
use Rattle.records.specs.declared.update.UpdateList.{UpdateList}
use Rattle.records.specs.declared.run.RunTerms.{RunTerms}
use Rattle.records.specs.declared.run.Answer.{Answer}
use Rattle.rules.specs.Words.{all, if_some}
use Rattle.rules.specs.Replies.{start_not_formed}
use Rattle.rules.specs.Capacities.{list_room, metadata_log_room}
use Rattle.rules.specs.Register.{FileEntry, Metadata, Update, Terms, Outcome}
use Rattle.rules.specs.Register.Outcome.{Refused, Accepted}
use Rattle.rules.specs.Register.Update.{AssignUuid, UpgradeFormatVersion, SetLocation, AddSnapshot, SetBranchSnapshot, RemoveSnapshots, SetRef, RemoveRef, AddSchema, SetCurrentSchema, RemoveSchemas, AddSortOrder, SetDefaultSortOrder, SetStatistics, RemoveStatistics, AddPartitionSpec, SetDefaultPartitionSpec, RemovePartitionSpecs, NotFormed}
use Rattle.rules.specs.Limit.{limit_of, limit_given, is_number, after_plus}
use Rattle.rules.specs.WellFormed.{file_name_formed, metadata_log_formed, metadata_formed, update_formed}
use Rattle.rules.specs.Close.{joined, surplus, expired}
use Rattle.rules.specs.Run.{weight, list_sum, started, run}
use Rattle.rules.specs.Blanks.{is_tidy_metadata, is_tidy_metadata_log}
use Rattle.rules.specs.Layout.{read_metadata, laid_metadata_log}
use Rattle.rules.specs.Kinds.{is_tidy_update, laid_update, read_updates, laid_updates}
use Rattle.rules.specs.Answer.{Lent, read_terms, laid_outcome, answer}
use Rattle.rules.proofs.Checks.{by_test, by_option, both, and_left, and_right}
use Rattle.rules.proofs.Tables.{all_head, all_tail, all_append, log_all, log_formed_lem}
use Rattle.rules.proofs.Tables as tables
use Rattle.rules.proofs.Sound.Metadata.{Sound, formed_sound}
use Rattle.rules.proofs.Sound.Accepted.{Ends, run_accepted}
use Rattle.rules.proofs.Sound.Run.{run_sound}
use Rattle.rules.proofs.Replay.Run.{log_fits_lem}
use Rattle.rules.proofs.Slots.Laid.{all_replicate, all_map, tidy_metadata_log, tidy_update, tidy_no_update}

-- ---- lists

module _ {A : Type 0} (p : A → Bool) where
  all_take : (n : ℕ) (l : List A) → all p l ≡ true → all p (take n l) ≡ true
  all_take zero l h = refl
  all_take (suc n) [] h = refl
  all_take (suc n) (x ∷ l) h = both (all_head p x l h) (all_take n l (all_tail p x l h))

-- ---- the expired entries

limit_positive : (limit : Option (List ℕ)) → 1 ≤ limit_given limit
unfolding limit_of
limit_positive none = omega arith
limit_positive (some text) = by_test (λ (n : ℕ). 1 ≤ n) (is_number (after_plus text)) (λ e. omega arith) (λ e. omega arith)

-- one entry joins at most
joined_length : (terms : Terms) (m : Metadata) → length (joined terms m) ≤ suc (length m.metadata_log)
joined_length terms m = by_option (λ (l : List FileEntry). length l ≤ suc (length m.metadata_log)) terms.file (λ n. omega arith) (λ name n. simp length-append (omega arith))

-- what holds of the entries and of the one that joins
joined_all : (p : FileEntry → Bool) (terms : Terms) (m : Metadata) → all p m.metadata_log ≡ true
    → ((name : List ℕ) → terms.file ≡ some name → p (record { file = name; time = m.fields.last_updated }) ≡ true)
    → all p (joined terms m) ≡ true
joined_all p terms m h f =
    by_option (λ (l : List FileEntry). all p l ≡ true) terms.file
    (λ n. h)
    (λ name n. all_append p m.metadata_log (record { file = name; time = m.fields.last_updated } ∷ []) h (both (f name n) refl))

-- the limit is at least 1, so that of 129 entries one stays
expired_formed : (terms : Terms) (m : Metadata) → if_some file_name_formed terms.file ≡ true → metadata_log_formed m.metadata_log ≡ true → metadata_log_formed (expired terms m) ≡ true
unfolding expired metadata_log_formed
expired_formed terms m f h =
    let p : FileEntry → Bool = λ e. file_name_formed e.file in
    let a : all p (joined terms m) ≡ true = joined_all p terms m (log_all metadata_log_room p m.metadata_log h) (λ name n. rw n at f) in
    let r : length (take (surplus terms m) (joined terms m)) ≤ metadata_log_room = simp length-take (omega (arith, joined_length terms m, limit_positive terms.limit, tables.log_fits_lem metadata_log_room p m.metadata_log h)) in
    log_formed_lem metadata_log_room p (take (surplus terms m) (joined terms m)) r (all_take p (surplus terms m) (joined terms m) a)

pub accepted_expired : (terms : Terms) (m : Metadata) (us : List Update) (m' : Metadata) (log : List Update) (gone : List FileEntry) → run terms m us ≡ Accepted m' log gone → metadata_log_formed gone ≡ true
accepted_expired terms m us m' log gone e =
    let k : Ends terms m' log gone m us = run_accepted terms m' log gone m us e in
    let f : if_some file_name_formed terms.file ≡ true = and_right (metadata_formed m) (if_some file_name_formed terms.file) k.formed in
    let s : Sound m = formed_sound m (and_left (metadata_formed m) (if_some file_name_formed terms.file) k.formed) in
    let t : Sound k.end.metadata = run_sound terms k.office us 0 (started m) k.end k.reached s in
    subst (λ (l : List FileEntry). metadata_log_formed l ≡ true) k.closes.expired (expired_formed terms k.end.metadata f t.metadata_log)

-- ---- the changes

weight_positive : (u : Update) → update_formed u ≡ true → 1 ≤ weight u
unfolding update_formed
weight_positive (AssignUuid uuid) f = omega arith
weight_positive (UpgradeFormatVersion v) f = omega arith
weight_positive (SetLocation location) f = omega arith
weight_positive (AddSnapshot s) f = omega arith
weight_positive (SetBranchSnapshot name s) f = omega arith
weight_positive (RemoveSnapshots ids) f = omega arith
weight_positive (SetRef name r) f = omega arith
weight_positive (RemoveRef name) f = omega arith
weight_positive (AddSchema s) f = omega arith
weight_positive (SetCurrentSchema id) f = omega arith
weight_positive (RemoveSchemas ids) f = omega arith
weight_positive (AddSortOrder o) f = omega arith
weight_positive (SetDefaultSortOrder id) f = omega arith
weight_positive (SetStatistics which x) f = omega arith
weight_positive (RemoveStatistics which id) f = omega arith
weight_positive (AddPartitionSpec o) f = omega arith
weight_positive (SetDefaultPartitionSpec id) f = omega arith
weight_positive (RemovePartitionSpecs ids) f = omega arith
weight_positive (NotFormed counts) f = absurd (false≢true f)

-- every update counts
length_light : (l : List Update) → all update_formed l ≡ true → length l ≤ list_sum l
unfolding list_sum
length_light [] f = omega arith
length_light (u ∷ l) f = omega (arith, weight_positive u (all_head update_formed u l f), length_light l (all_tail update_formed u l f))

-- 64 slots, as many counted at most, and in each a tidy update
pub record InSlots (us : UpdateList) : Type 0 where
  pub slots : length us.items ≡ list_room
  pub count : us.count ≤ list_room
  pub tidy : all is_tidy_update us.items ≡ true

changes_fit : (l : List Update) → all update_formed l ≡ true → length l ≤ list_room → InSlots (laid_updates l)
unfolding laid_updates
changes_fit l f h =
    record {
      slots = simp (length-append, length-replicate, length-map) (omega arith);
      count = h;
      tidy = all_append is_tidy_update (map laid_update l) (replicate (list_room - length (map laid_update l)) no_update) (all_map is_tidy_update update_formed laid_update tidy_update l f) (all_replicate is_tidy_update (list_room - length (map laid_update l)) no_update tidy_no_update);
    }

-- ---- the answer, accepted or not

pub record AnswerFits (a : Answer) : Type 0 where
  pub changes : InSlots a.changes
  pub expired : is_tidy_metadata_log a.expired ≡ true

-- a refusal's empty lists are laid as lists with no elements are
no_changes : laid_updates [] ≡ no_updates
unfolding laid_updates no_updates
no_changes = refl

none_expired : laid_metadata_log [] ≡ no_metadata_log
unfolding laid_metadata_log no_metadata_log
none_expired = refl

no_entries : metadata_log_formed [] ≡ true
unfolding metadata_log_formed
no_entries = refl

refused_fits : (m : TableMetadata) (number place : ℕ) → AnswerFits (laid_outcome m (Refused number place))
unfolding laid_outcome
refused_fits m number place = record { changes = rw no_changes at (changes_fit [] refl (omega arith)); expired = rw none_expired at (tidy_metadata_log [] no_entries) }

run_fits : (m : TableMetadata) (terms : Terms) (p : Metadata) (us : List Update) (o : Outcome) → run terms p us ≡ o → AnswerFits (laid_outcome m o)
unfolding laid_outcome
run_fits m terms p us (Refused number place) e = refused_fits m number place
run_fits m terms p us (Accepted m' log gone) e =
    let k = log_fits_lem terms p us m' log gone e in
    record { changes = changes_fit log k.0 (omega (arith, k.1, length_light log k.0)); expired = tidy_metadata_log gone (accepted_expired terms p us m' log gone e) }

pub answer_fits : (m : TableMetadata) (us : UpdateList) (terms : RunTerms) (lent : Lent) → AnswerFits (answer m us terms lent)
unfolding answer
answer_fits m us terms lent =
    let r : Outcome = run (read_terms terms lent) (read_metadata m) (read_updates us) in
    by_test (λ (o : Outcome). AnswerFits (laid_outcome m o)) (is_tidy_metadata m) (λ e. run_fits m (read_terms terms lent) (read_metadata m) (read_updates us) r refl) (λ e. refused_fits m start_not_formed 0)
