-- Demand 3 as a property of any way to answer runs. The rules have it, and its hypothesis is met: P3, P5 and P10 are instances, computed.
-- A way that gives back its start with an empty log has it too, and so has one that always refuses: these demand 2 excludes, at P3.
-- One that invents its expired entries has it too, and breaks demand 2 at P8 or P3; one that applies only the first update and logs the rest does at P5.
use Prim.Native.Nat.{ℕ}
use native.Mathlib.Omega.{arith}
use mathlib.Core.Path.{◌≡◌, refl, ap, sym, ◌∙◌}
use mathlib.Core.Bool.{Bool, true, false}
use mathlib.Core.List.{List, [], ◌∷◌, ◌++◌, map}
use mathlib.Core.Option.{some}
use lib.IntN.{pos}
use lib.ListN.{length}
use Rattle.rules.specs.Words.{all}
use Rattle.rules.specs.Replies.{start_not_formed}
use Rattle.rules.specs.Register.{FileEntry, Metadata, Update, Terms, Outcome}
use Rattle.rules.specs.Register.Outcome.{Refused, Accepted}
use Rattle.rules.specs.Register.Update.{AddSnapshot, RemoveSnapshots, RemoveSchemas}
use Rattle.rules.specs.Run.{run}
use Rattle.rules.specs.Replay.{strip}
use Rattle.rules.specs.Examples.{rerun, terms, file_terms, three, empty, snap, to_main, file}
use Rattle.rules.proofs.Examples.{computed}
use Rattle.rules.proofs.Replay.Run.{log_replays, stripped_replays}

-- the log of an accepted run leads there again, and once it is rid of the schema removals that name no schema it logs itself
pub record Suffices (answers : Terms → Metadata → List Update → Outcome) : Type 0 where
  pub leads : (terms : Terms) (m : Metadata) (us : List Update) (m' : Metadata) (log : List Update) (expired : List FileEntry) → answers terms m us ≡ Accepted m' log expired → answers terms m log ≡ Accepted m' (strip log) expired
  pub rests : (terms : Terms) (m : Metadata) (us : List Update) (m' : Metadata) (log : List Update) (expired : List FileEntry) → answers terms m us ≡ Accepted m' log expired → answers terms m (strip log) ≡ Accepted m' (strip log) expired

pub rules_suffice : Suffices run
rules_suffice = record { leads = log_replays; rests = stripped_replays }

-- ---- it is not empty

abbrev pub is_accepted : Outcome → Bool
is_accepted (Refused number place) = false
is_accepted (Accepted m log expired) = true

abbrev pub stripped : Outcome → Outcome
stripped (Refused number place) = Refused number place
stripped (Accepted m log expired) = Accepted m (strip log) expired

-- P3, P5 and P10
abbrev pub p3 : List Update
p3 = RemoveSnapshots (pos 2 ∷ []) ∷ []

abbrev pub p5 : List Update
p5 = AddSnapshot (snap 4 (some (pos 3)) 6 (pos 400000)) ∷ AddSnapshot (snap 5 (some (pos 4)) 7 (pos 410000)) ∷ to_main 4 ∷ to_main 5 ∷ []

abbrev pub p10 : List Update
p10 = RemoveSchemas (pos 7 ∷ []) ∷ []

abbrev pub instances : List (List Update)
instances = p3 ∷ p5 ∷ p10 ∷ []

pub instances_accepted : all (λ (us : List Update). is_accepted (run terms three us)) instances ≡ true
unfolding computed
instances_accepted = refl

pub instances_lead : map (λ (us : List Update). rerun terms three (run terms three us)) instances ≡ map (λ (us : List Update). stripped (run terms three us)) instances
unfolding computed strip
instances_lead = refl

-- ---- what it does not exclude, and demand 2 does

-- gives back its start, with an empty log
abbrev pub idle : Terms → Metadata → List Update → Outcome
idle terms m us = Accepted m [] []

pub idle_suffices : Suffices idle
unfolding strip
idle_suffices = record {
  leads = λ terms m us m' log expired e. cc;
  rests = λ terms m us m' log expired e. cc;
}

-- always refuses
abbrev pub refusing : Terms → Metadata → List Update → Outcome
refusing terms m us = Refused start_not_formed 0

never : {A : Type 0} (number place : ℕ) (m : Metadata) (log : List Update) (expired : List FileEntry) → Refused number place ≡ Accepted m log expired → A
never number place m log expired e = absurd (let z : ◌≡◌ {A = ℕ} 0 1 = cc in omega arith)

pub refusing_suffices : Suffices refusing
refusing_suffices = record {
  leads = λ terms m us m' log expired e. never start_not_formed 0 m' log expired e;
  rests = λ terms m us m' log expired e. never start_not_formed 0 m' log expired e;
}

-- how many entries the history has; 0 for a refusal
abbrev entries : Outcome → ℕ
entries (Refused number place) = 0
entries (Accepted m log expired) = length m.snapshot_log

p3_leaves_one : entries (run terms three p3) ≡ 1
unfolding computed
p3_leaves_one = refl

pub idle_is_not_right : ((us : List Update) → idle terms three us ≡ run terms three us) → ⊥
idle_is_not_right same = let z : ◌≡◌ {A = ℕ} 3 1 = ap entries (same p3) ∙ p3_leaves_one in omega arith

pub refusing_is_not_right : ((us : List Update) → refusing terms three us ≡ run terms three us) → ⊥
refusing_is_not_right same = let z : ◌≡◌ {A = ℕ} 0 1 = ap entries (same p3) ∙ p3_leaves_one in omega arith

-- applies only the first update, and logs the rest as given
abbrev pub logs_rest : List Update → Outcome → Outcome
logs_rest us (Refused number place) = Refused number place
logs_rest us (Accepted m log expired) = Accepted m (log ++ us) expired

abbrev pub first_only : Terms → Metadata → List Update → Outcome
first_only terms m [] = run terms m []
first_only terms m (u ∷ us) = logs_rest us (run terms m (u ∷ []))

p5_leaves_four : entries (run terms three p5) ≡ 4
unfolding computed
p5_leaves_four = refl

first_of_p5_leaves_three : entries (first_only terms three p5) ≡ 3
unfolding computed
first_of_p5_leaves_three = refl

pub first_only_is_not_right : ((us : List Update) → first_only terms three us ≡ run terms three us) → ⊥
first_only_is_not_right same = let z : ◌≡◌ {A = ℕ} 3 4 = sym first_of_p5_leaves_three ∙ ap entries (same p5) ∙ p5_leaves_four in omega arith

-- answers as the rules do, but with expired entries of its own
abbrev pub with_expired : List FileEntry → Outcome → Outcome
with_expired invented (Refused number place) = Refused number place
with_expired invented (Accepted m log expired) = Accepted m log invented

abbrev pub inventing : List FileEntry → Terms → Metadata → List Update → Outcome
inventing invented terms m us = with_expired invented (run terms m us)

replayed : (invented : List FileEntry) (terms : Terms) (m : Metadata) (us log : List Update) (m' : Metadata) (expired : List FileEntry) (o : Outcome)
    → run terms m us ≡ o → with_expired invented o ≡ Accepted m' log expired
    → (inventing invented terms m log ≡ Accepted m' (strip log) expired) × (inventing invented terms m (strip log) ≡ Accepted m' (strip log) expired)
replayed invented terms m us log m' expired (Refused number place) e f = never number place m' log expired f
replayed invented terms m us log m' expired (Accepted n logged gone) e f =
    let leads : with_expired invented (run terms m logged) ≡ Accepted n (strip logged) invented = ap (with_expired invented) (log_replays terms m us n logged gone e) in
    let rests : with_expired invented (run terms m (strip logged)) ≡ Accepted n (strip logged) invented = ap (with_expired invented) (stripped_replays terms m us n logged gone e) in
    (cc, cc)

pub inventing_suffices : (invented : List FileEntry) → Suffices (inventing invented)
inventing_suffices invented = record {
  leads = λ terms m us m' log expired e. (replayed invented terms m us log m' expired (run terms m us) refl e).0;
  rests = λ terms m us m' log expired e. (replayed invented terms m us log m' expired (run terms m us) refl e).1;
}

-- how many entries expire; 0 for a refusal
abbrev gone : Outcome → ℕ
gone (Refused number place) = 0
gone (Accepted m log expired) = length expired

-- P8: three metadata entries, limit 2, one joins
abbrev pub p8 : Metadata
p8 = empty 2 0 (pos 9000) (file 97 1 ∷ file 98 2 ∷ file 99 3 ∷ [])

p8_expires_two : gone (run file_terms p8 []) ≡ 2
unfolding computed
p8_expires_two = refl

p3_expires_none : gone (run terms three p3) ≡ 0
unfolding computed
p3_expires_none = refl

p8_invented : (invented : List FileEntry) → gone (inventing invented file_terms p8 []) ≡ length invented
unfolding computed
p8_invented invented = refl

p3_invented : (invented : List FileEntry) → gone (inventing invented terms three p3) ≡ length invented
unfolding computed
p3_invented invented = refl

-- whatever the entries are: at P8 two expire, at P3 none
pub inventing_is_not_right : (invented : List FileEntry) → ((terms : Terms) (m : Metadata) (us : List Update) → inventing invented terms m us ≡ run terms m us) → ⊥
inventing_is_not_right invented same =
    let two : length invented ≡ 2 = sym (p8_invented invented) ∙ ap gone (same file_terms p8 []) ∙ p8_expires_two in
    let none : length invented ≡ 0 = sym (p3_invented invented) ∙ ap gone (same terms three p3) ∙ p3_expires_none in
    let z : ◌≡◌ {A = ℕ} 2 0 = sym two ∙ none in
    omega arith
