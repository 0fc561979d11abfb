-- The theorems on expiry are not empty: a list that drops a ref and removes two snapshots, its call, which is accepted, and the second list, which is blank;
-- the smallest list whose call is refused with 21; and a list behind which one snapshot fits.
use Prim.Native.Nat.{ℕ, suc}
use mathlib.Core.Path.{◌≡◌, refl, sym, ap, ◌∙◌}
use mathlib.Core.Bool.{true}
use mathlib.Core.List.{List, [], ◌∷◌, ◌++◌}
use mathlib.Core.Option.{none, some}
use lib.IntN.{pos}
use Rattle.rules.specs.Replies.{accepted, table_full, log_ends_elsewhere}
use Rattle.rules.specs.Names.{main_name}
use Rattle.rules.specs.Offices.{first_office}
use Rattle.rules.specs.Register.{Metadata, Update}
use Rattle.rules.specs.Register.Outcome.{Refused}
use Rattle.rules.specs.Register.Update.{RemoveSnapshots, RemoveRef}
use Rattle.rules.specs.WellFormed.{metadata_formed}
use Rattle.rules.specs.Layout.{laid_metadata, read_metadata}
use Rattle.rules.specs.Answer.{laid_outcome}
use Rattle.rules.specs.Examples.{snap, adding, entry, tag_to, draft, many, register, ref_of, main_at, two_held, keeping, drafted}
use Rattle.rules.proofs.Examples.{computed}
use Rattle.rules.proofs.Slots.Laid.{tidy_metadata}
use Rattle.rules.proofs.Slots.Reread.{reread_metadata}
use Rattle.rules.proofs.Answer.Laws.{laid_answer}
use Rattle.rules.proofs.Answer.Instances.{call_lent}
use Rattle.retention.specs.Retention.{goes, retained, is_retained}
use Rattle.retention.specs.Expiry as rules
use Rattle.retention.specs.Expiry.{expiring_updates, expiry_checks, expiry}
use Rattle.expiry.specs.declared.Expiry.{Expiry}
use Rattle.expiry.specs.declared.policy.Policy.{Policy}
use Rattle.expiry.specs.Answer.{read_policy, laid_expiry, expiry_answer}
use Rattle.theorems.proofs.Run.{Call, updates}
use Rattle.theorems.proofs.Moment.{after}
use Rattle.theorems.proofs.ExpiryCalls.{ListCall, list_call_of, blank_list, MadeFor, run_second_list_blank}
use Rattle.theorems.proofs.LaidCalls.{terms_of, laid_call, next, Laid, laid}

-- ---- calls of what is laid out

-- at 500000, the clock of the calls, a branch keeps one snapshot, and more that are at most 250000 old; a ref is kept until its snapshot is past 350000
abbrev keeping_few : Policy
keeping_few =
    record {
      clock_ms = record { 0 = pos 500000 };
      min_snapshots = record { 0 = pos 1 };
      max_snapshot_age_ms = record { 0 = pos 250000 };
      max_ref_age_ms = record { 0 = pos 350000 };
      office = first_office;
    }

abbrev list_call : Metadata → ListCall
list_call m = list_call_of (laid_metadata m) keeping_few

abbrev made : List Update → rules.Expiry
made us = record { number = accepted; updates = us }

-- these updates are answered, and a call runs them
pub record ListRun (m : Metadata) (us : List Update) : Type 0 where
  pub answers : (list_call m).answered ≡ laid_expiry (made us)
  pub for : MadeFor (list_call m) (laid_call first_office m us)
  pub given : updates (laid_call first_office m us) ≡ (list_call m).answered.updates

list_run : (m : Metadata) (us : List Update) → metadata_formed m ≡ true → expiry (read_policy keeping_few) m ≡ made us → ListRun m us
unfolding expiry_answer laid_expiry
list_run m us f e =
    let q : (list_call m).answered ≡ laid_expiry (made us) = rw (tidy_metadata m f, reread_metadata m, e) in
    record { answers = q; for = record { made = ap (λ (x : Expiry). x.number) q; start = refl; office = refl }; given = sym (ap (λ (x : Expiry). x.updates) q) }

-- ---- an accepted list

-- 1, 2 and 3 are 400000, 300000 and 200000 old, each the parent of the next; the tag `d` is at 1, and `main` at 3. The history is 1, 2, 3
abbrev tagged : Metadata
tagged = drafted first_office (tag_to 1)

-- `d` is past its age, and `main` keeps 3 alone
abbrev going : List Update
going = RemoveRef draft ∷ RemoveSnapshots (pos 1 ∷ pos 2 ∷ []) ∷ []

pub going_run : ListRun tagged going
unfolding computed goes retained is_retained expiring_updates expiry_checks expiry
going_run = list_run tagged going refl refl

going_laid : Laid first_office tagged going
unfolding computed
going_laid = laid first_office tagged going refl refl

abbrev pub going_call : Call
going_call = laid_call first_office tagged going

pub going_number : going_call.answered.number ≡ 0
unfolding computed laid_outcome
going_number = going_laid.number

-- 3, `main` and the last entry are left
pub going_left : ((after going_call).snapshots ≡ snap 3 (some (pos 2)) 5 (pos 300000) ∷ []) × ((after going_call).refs ≡ main_at 3) × ((after going_call).snapshot_log ≡ entry 3 300000 ∷ [])
unfolding computed
going_left =
    let e : after going_call ≡ next first_office tagged going = ap read_metadata (sym going_laid.metadata) ∙ reread_metadata (next first_office tagged going) in
    (ap (λ (m : Metadata). m.snapshots) e, ap (λ (m : Metadata). m.refs) e, ap (λ (m : Metadata). m.snapshot_log) e)

pub second_list : (list_call_of going_call.answered.metadata keeping_few).answered ≡ blank_list
second_list = run_second_list_blank (list_call tagged) going_call going_run.for going_run.given going_number (list_call_of going_call.answered.metadata keeping_few) refl refl

-- ---- a list that is refused with 21

-- 1 and 2 are held, `main` is at 1, and the history is empty
abbrev unlogged : Metadata
unlogged = two_held (some (pos 1)) (main_at 1)

abbrev going_two : List Update
going_two = RemoveSnapshots (pos 2 ∷ []) ∷ []

pub unlogged_run : ListRun unlogged going_two
unfolding computed goes retained is_retained expiring_updates expiry_checks expiry
unlogged_run = list_run unlogged going_two refl refl

-- 21, behind its one update
pub unlogged_refused : (laid_call first_office unlogged going_two).answered ≡ laid_outcome (laid_metadata unlogged) (Refused log_ends_elsewhere 1)
unfolding computed
unlogged_refused = laid_answer unlogged going_two (terms_of first_office) call_lent refl refl

-- ---- room

-- 0 to 63, each the parent of the one before; `main` is at 0 and keeps 63 of them
abbrev chained : Metadata
chained = register 2 0 0 (pos 0) (many 64 (λ (i : ℕ). snap i (some (pos (suc i))) i (pos 0))) (some (pos 0)) (ref_of main_name (keeping (pos 0) 1 (some (pos 63)) none none) ∷ []) (entry 0 0 ∷ []) []

abbrev going_last : List Update
going_last = RemoveSnapshots (pos 63 ∷ []) ∷ []

pub chained_run : ListRun chained going_last
unfolding computed goes retained is_retained expiring_updates expiry_checks expiry
chained_run = list_run chained going_last refl refl

-- behind the list one snapshot fits, and a second is refused with 19, at its place
pub one_fits : (laid_call first_office chained (going_last ++ (adding 70 500000 ∷ []))).answered.number ≡ 0
unfolding computed laid_outcome
one_fits = (laid first_office chained (going_last ++ (adding 70 500000 ∷ [])) refl refl).number

pub second_refused : (laid_call first_office chained (going_last ++ (adding 70 500000 ∷ adding 71 500000 ∷ []))).answered ≡ laid_outcome (laid_metadata chained) (Refused table_full 2)
unfolding computed
second_refused = laid_answer chained (going_last ++ (adding 70 500000 ∷ adding 71 500000 ∷ [])) (terms_of first_office) call_lent refl refl
