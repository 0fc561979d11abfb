-- Which numbers are given at which place: document 01, "Numbers of the replies".
use Prim.Native.Nat.{ℕ, suc, ◌+◌, ◌≤◌, ◌<◌}
use native.Mathlib.Omega.{arith}
use mathlib.Core.Path.{◌≡◌, refl}
use mathlib.Core.Bool.{Bool, true, not, ◌&&◌, ◌||◌}
use mathlib.Core.List.{List, [], ◌∷◌}
use lib.Dec.{eqb, leb}
use lib.IntN.{ℤ}
use lib.ListN.{length}
use borrow.Author.Tests.{eqb-true, eqb-false, leb-true}
use Rattle.rules.specs.Words.{is_some, all, first_of, Check}
use Rattle.rules.specs.Replies.{accepted, update_not_formed, name_clash, source_misfit, others_to_change}
use Rattle.rules.specs.Register.{Snapshot, Reference, SchemaField, Schema, SortOrder, PartitionSpec, Metadata, Update, Terms, State, Outcome}
use Rattle.rules.specs.Register.Outcome.{Refused, Accepted}
use Rattle.rules.specs.Register.Update.{AssignUuid, UpgradeFormatVersion, SetLocation, AddSnapshot, SetBranchSnapshot, RemoveSnapshots, SetRef, RemoveRef, AddSchema, SetCurrentSchema, RemoveSchemas, AddSortOrder, SetDefaultSortOrder, SetStatistics, RemoveStatistics, AddPartitionSpec, SetDefaultPartitionSpec, RemovePartitionSpecs, NotFormed}
use Rattle.rules.specs.WellFormed.{update_formed}
use Rattle.rules.specs.SingleUpdates.{upgrade_format_version_checks}
use Rattle.rules.specs.SnapshotUpdates.{add_snapshot_checks, add_snapshot}
use Rattle.rules.specs.RefUpdates.{is_held_ref, set_ref_checks, committed, set_branch_snapshot_checks}
use Rattle.rules.specs.Offers.{offered_schema, offered_spec}
use Rattle.rules.specs.SchemaUpdates.{reused_schema, is_taken, add_schema_checks, set_current_schema_checks, remove_schemas_checks}
use Rattle.rules.specs.OrderUpdates.{reused_order, add_sort_order_checks, set_default_sort_order_checks}
use Rattle.rules.specs.StatisticsUpdates.{set_statistics_checks}
use Rattle.rules.specs.SpecUpdates.{reusing, current_fields, is_clashing, is_misfit, is_repeating, reused_spec, spec_checks, add_partition_spec_checks, set_default_partition_spec_checks, remove_partition_specs_checks}
use Rattle.rules.specs.Others.{is_others}
use Rattle.rules.specs.Updates.{offers_formed, checks, update_number, effect}
use Rattle.rules.specs.Close.{close_checks}
use Rattle.rules.specs.Run.{Ran, run_from, started, close, closing_log, close_ran, start_checks, run}
use Rattle.rules.specs.Run.Ran.{Stopped, Reached}
use Rattle.rules.proofs.Checks.{by_test, by_either, and_left, and_right, or_left, or_right}
use Rattle.rules.proofs.Tables.{all_append}

-- ---- the numbers of the checks

-- the numbers of a run: of its start, of an update, of the close
abbrev pub is_of_start : ℕ → Bool
is_of_start number = leb number 2 || eqb number 26 || eqb number 39

abbrev pub is_of_update : ℕ → Bool
is_of_update number = (leb 3 number && leb number 19) || (leb 33 number && leb number 35)

abbrev pub is_of_close : ℕ → Bool
is_of_close number = leb 20 number && leb number 23

-- 31 and 32 are of both: of a spec, or a schema, that an update names, and of the default spec at the close
abbrev pub is_of_both : ℕ → Bool
is_of_both number = leb 31 number && leb number 32

abbrev pub may_be_of_update : ℕ → Bool
may_be_of_update number = is_of_update number || is_of_both number

abbrev pub may_be_of_close : ℕ → Bool
may_be_of_close number = is_of_close number || is_of_both number

-- the number of checks that are all numbered so is numbered so, unless none failed
abbrev Numbered : (ℕ → Bool) → List Check → Type 0
Numbered p cs = all (λ (c : Check). p c.1) cs ≡ true

first_numbered : (p : ℕ → Bool) (cs : List Check) → Numbered p cs → (first_of cs ≡ accepted → ⊥) → p (first_of cs) ≡ true
first_numbered p [] h n = absurd (n refl)
first_numbered p (c ∷ cs) h n =
    by_test (λ (k : ℕ). (k ≡ accepted → ⊥) → p k ≡ true) c.0
    (λ t m. and_left (p c.1) (all (λ (c : Check). p c.1) cs) h)
    (λ f. first_numbered p cs (and_right (p c.1) (all (λ (c : Check). p c.1) cs) h))
    n

abbrev OfUpdate : List Check → Type 0
OfUpdate = Numbered may_be_of_update

add_snapshot_numbers : (tolerance : ℤ) (s : Snapshot) (st : State) → OfUpdate (add_snapshot_checks tolerance s st)
unfolding add_snapshot_checks
add_snapshot_numbers tolerance s st = refl

set_ref_numbers : (name : List ℕ) (r : Reference) (st : State) → OfUpdate (set_ref_checks name r st)
unfolding set_ref_checks
set_ref_numbers name r st = by_test OfUpdate (is_held_ref name r st.metadata.refs) (λ t. refl) (λ f. refl)

add_schema_numbers : (s : Schema) (st : State) → OfUpdate (add_schema_checks s st)
unfolding add_schema_checks
add_schema_numbers s st =
    by_test (λ (cs : List Check). OfUpdate ((is_taken s st.metadata.schemas st.metadata.specs, name_clash) ∷ cs)) (is_some (reused_schema s st.metadata.schemas)) (λ t. refl) (λ f. refl)

add_order_numbers : (o : SortOrder) (st : State) → OfUpdate (add_sort_order_checks o st)
unfolding add_sort_order_checks
add_order_numbers o st = by_test OfUpdate (is_some (reused_order o st.metadata.orders)) (λ t. refl) (λ f. refl)

add_spec_numbers : (s : PartitionSpec) (st : State) → OfUpdate (add_partition_spec_checks s st)
unfolding add_partition_spec_checks spec_checks
add_spec_numbers s st =
    let l : List PartitionSpec = st.metadata.specs in
    let r : PartitionSpec = reusing l s in
    let columns : List SchemaField = current_fields st.metadata in
    by_test (λ (cs : List Check). OfUpdate ((is_clashing columns r || is_repeating r, name_clash) ∷ (is_misfit columns r, source_misfit) ∷ cs)) (is_some (reused_spec r l)) (λ t. refl) (λ f. refl)

update_numbers : (terms : Terms) (u : Update) (st : State) → OfUpdate (checks terms u st)
unfolding checks upgrade_format_version_checks set_branch_snapshot_checks set_current_schema_checks remove_schemas_checks set_default_sort_order_checks set_statistics_checks set_default_partition_spec_checks remove_partition_specs_checks
update_numbers terms (AssignUuid uuid) st = refl
update_numbers terms (UpgradeFormatVersion v) st = refl
update_numbers terms (SetLocation location) st = refl
update_numbers terms (AddSnapshot s) st = add_snapshot_numbers terms.tolerance s st
update_numbers terms (SetBranchSnapshot name s) st =
    let r : Reference = committed name s.id st.metadata.refs in
    all_append (λ (c : Check). may_be_of_update c.1) (add_snapshot_checks terms.tolerance s st) (set_ref_checks name r (add_snapshot s st)) (add_snapshot_numbers terms.tolerance s st) (set_ref_numbers name r (add_snapshot s st))
update_numbers terms (RemoveSnapshots ids) st = refl
update_numbers terms (SetRef name r) st = set_ref_numbers name r st
update_numbers terms (RemoveRef name) st = refl
update_numbers terms (AddSchema o) st = add_schema_numbers (offered_schema terms.offers o) st
update_numbers terms (SetCurrentSchema id) st = refl
update_numbers terms (RemoveSchemas ids) st = refl
update_numbers terms (AddSortOrder o) st = add_order_numbers o st
update_numbers terms (SetDefaultSortOrder id) st = refl
update_numbers terms (SetStatistics which f) st = refl
update_numbers terms (RemoveStatistics which id) st = refl
update_numbers terms (AddPartitionSpec o) st = add_spec_numbers (offered_spec terms.offers o) st
update_numbers terms (SetDefaultPartitionSpec id) st = refl
update_numbers terms (RemovePartitionSpecs ids) st = refl
update_numbers terms (NotFormed counts) st = refl

pub update_numbered : (terms : Terms) (u : Update) (st : State) → (update_number terms u st ≡ accepted → ⊥) → may_be_of_update (update_number terms u st) ≡ true
unfolding update_number
update_numbered terms u st =
    first_numbered may_be_of_update
    ((not (update_formed u), update_not_formed) ∷ (not (offers_formed terms u), update_not_formed) ∷ (is_others terms.office u st.metadata, others_to_change) ∷ checks terms u st)
    (update_numbers terms u st)

pub close_numbered : (terms : Terms) (log : List Update) (m : Metadata) → (first_of (close_checks terms log m) ≡ accepted → ⊥) → may_be_of_close (first_of (close_checks terms log m)) ≡ true
unfolding close_checks
close_numbered terms log m = first_numbered may_be_of_close (close_checks terms log m) refl

start_numbered : (terms : Terms) (m : Metadata) (us : List Update) → (first_of (start_checks terms m us) ≡ accepted → ⊥) → is_of_start (first_of (start_checks terms m us)) ≡ true
unfolding start_checks
start_numbered terms m us = first_numbered is_of_start (start_checks terms m us) refl

-- ---- the places

-- "The place is the update's position from 0; for 1 and 2 it is 0; for a close it is the list's length", here the count; for 26 and 39 it is 0.
-- An accepted run has the place 0. 31 and 32 have either, an update's position or the count.
pub record Reply (count number place : ℕ) : Type 0 where
  pub known : is_of_start number || is_of_update number || is_of_close number || is_of_both number ≡ true
  pub at_start : is_of_start number ≡ true → place ≡ 0
  pub at_update : is_of_update number ≡ true → place < count
  pub at_close : is_of_close number ≡ true → place ≡ count
  pub at_both : is_of_both number ≡ true → place ≤ count

-- no number is of two of them
module _ (number : ℕ) where
  between : {low high : ℕ} → leb low number && leb number high ≡ true → (low ≤ number) × (number ≤ high)
  between {low} {high} e = (leb-true low number (and_left (leb low number) (leb number high) e), leb-true number high (and_right (leb low number) (leb number high) e))

  -- what follows from each of its numbers
  by_start : {P : Type 0} → (number ≤ 2 → P) → (number ≡ 26 → P) → (number ≡ 39 → P) → is_of_start number ≡ true → P
  by_start f g h =
      by_either (leb number 2 || eqb number 26) (eqb number 39)
      (by_either (leb number 2) (eqb number 26) (λ q. f (leb-true number 2 q)) (λ q. g (eqb-true number 26 q)))
      (λ q. h (eqb-true number 39 q))

  by_update : {P : Type 0} → ((3 ≤ number) × (number ≤ 19) → P) → ((33 ≤ number) × (number ≤ 35) → P) → is_of_update number ≡ true → P
  by_update f g = by_either (leb 3 number && leb number 19) (leb 33 number && leb number 35) (λ q. f (between q)) (λ q. g (between q))

  start_or_update : is_of_start number ≡ true → is_of_update number ≡ true → ⊥
  start_or_update s u =
      by_start
      (λ a. by_update (λ b. omega arith) (λ b. omega arith) u)
      (λ a. by_update (λ b. omega arith) (λ b. omega arith) u)
      (λ a. by_update (λ b. omega arith) (λ b. omega arith) u) s

  start_or_close : is_of_start number ≡ true → is_of_close number ≡ true → ⊥
  start_or_close s c = let b = between c in by_start (λ a. omega arith) (λ a. omega arith) (λ a. omega arith) s

  start_or_both : is_of_start number ≡ true → is_of_both number ≡ true → ⊥
  start_or_both s c = let b = between c in by_start (λ a. omega arith) (λ a. omega arith) (λ a. omega arith) s

  update_or_close : is_of_update number ≡ true → is_of_close number ≡ true → ⊥
  update_or_close u c = let b = between c in by_update (λ a. omega arith) (λ a. omega arith) u

  update_or_both : is_of_update number ≡ true → is_of_both number ≡ true → ⊥
  update_or_both u c = let b = between c in by_update (λ a. omega arith) (λ a. omega arith) u

  close_or_both : is_of_close number ≡ true → is_of_both number ≡ true → ⊥
  close_or_both c d = let a = between c in let b = between d in omega arith

  -- so none of an update or of the close is one that is of the start alone
  pub update_from_3 : may_be_of_update number ≡ true → 3 ≤ number
  update_from_3 = by_either (is_of_update number) (is_of_both number) (by_update (λ a. omega arith) (λ a. omega arith)) (λ d. let b = between d in omega arith)

  pub close_from_20 : may_be_of_close number ≡ true → 20 ≤ number
  close_from_20 = by_either (is_of_close number) (is_of_both number) (λ c. let b = between c in omega arith) (λ d. let b = between d in omega arith)

module _ (count number : ℕ) where
  pub reply_of_start : is_of_start number ≡ true → Reply count number 0
  reply_of_start s = record {
    known = or_left (is_of_both number) (or_left (is_of_close number) (or_left (is_of_update number) s));
    at_start = λ e. refl;
    at_update = λ e. absurd (start_or_update number s e);
    at_close = λ e. absurd (start_or_close number s e);
    at_both = λ e. absurd (start_or_both number s e);
  }

  -- of both, at an update or at the close
  reply_of_both : (place : ℕ) → is_of_both number ≡ true → place ≤ count → Reply count number place
  reply_of_both place d l = record {
    known = or_right (is_of_start number || is_of_update number || is_of_close number) d;
    at_start = λ e. absurd (start_or_both number e d);
    at_update = λ e. absurd (update_or_both number e d);
    at_close = λ e. absurd (close_or_both number e d);
    at_both = λ e. l;
  }

  reply_of_update : (place : ℕ) → may_be_of_update number ≡ true → place < count → Reply count number place
  reply_of_update place m l =
      by_either (is_of_update number) (is_of_both number)
      (λ u. record {
        known = or_left (is_of_both number) (or_left (is_of_close number) (or_right (is_of_start number) u));
        at_start = λ e. absurd (start_or_update number e u);
        at_update = λ e. l;
        at_close = λ e. absurd (update_or_close number u e);
        at_both = λ e. absurd (update_or_both number u e);
      })
      (λ d. reply_of_both place d (omega arith)) m

  reply_of_close : may_be_of_close number ≡ true → Reply count number count
  reply_of_close m =
      by_either (is_of_close number) (is_of_both number)
      (λ c. record {
        known = or_left (is_of_both number) (or_right (is_of_start number || is_of_update number) c);
        at_start = λ e. absurd (start_or_close number e c);
        at_update = λ e. absurd (update_or_close number e c);
        at_close = λ e. refl;
        at_both = λ e. absurd (close_or_both number c e);
      })
      (λ d. reply_of_both count d (omega arith)) m

-- a refusal has a number above 0, and its place
abbrev pub Replies : ℕ → Outcome → Type 0
Replies count (Refused number place) = (1 ≤ number) × Reply count number place
Replies count (Accepted m log expired) = Unit {0}

above_0 : (n : ℕ) → (n ≡ accepted → ⊥) → 1 ≤ n
above_0 n z = omega (arith, z)

-- where the updates stop, it is with the number of one of them
abbrev pub OfUpdates : Ran → Type 0
OfUpdates (Stopped number at) = may_be_of_update number ≡ true
OfUpdates (Reached st) = Unit {0}

pub updates_numbered : (terms : Terms) (us : List Update) (place : ℕ) (st : State) → OfUpdates (run_from terms us place st)
unfolding run_from
updates_numbered terms [] place st = tt
updates_numbered terms (u ∷ us) place st =
    let n : ℕ = update_number terms u st in
    by_test OfUpdates (eqb n accepted)
    (λ e. updates_numbered terms us (suc place) (effect terms u st))
    (λ e. update_numbered terms u st (eqb-false n accepted e))

-- where the updates stop, it is at one of them, with its number
abbrev Stops : ℕ → Ran → Type 0
Stops count (Stopped number at) = Replies count (Refused number at)
Stops count (Reached st) = Unit {0}

updates_stop : (terms : Terms) (count : ℕ) (us : List Update) (place : ℕ) (st : State) → place + length us ≤ count → Stops count (run_from terms us place st)
unfolding run_from
updates_stop terms count [] place st h = tt
updates_stop terms count (u ∷ us) place st h =
    let n : ℕ = update_number terms u st in
    by_test (Stops count) (eqb n accepted)
    (λ e. updates_stop terms count us (suc place) (effect terms u st) (omega arith))
    (λ e. (above_0 n (eqb-false n accepted e), reply_of_update count n place (update_numbered terms u st (eqb-false n accepted e)) (omega arith)))

close_replies : (terms : Terms) (us : List Update) (r : Ran) → Stops (length us) r → Replies (length us) (close_ran terms us r)
unfolding close
close_replies terms us (Stopped number at) h = h
close_replies terms us (Reached st) h =
    let n : ℕ = first_of (close_checks terms (closing_log terms st) st.metadata) in
    by_test (Replies (length us)) (eqb n accepted) (λ e. tt)
    (λ e. (above_0 n (eqb-false n accepted e), reply_of_close (length us) n (close_numbered terms (closing_log terms st) st.metadata (eqb-false n accepted e))))

pub run_replies : (terms : Terms) (m : Metadata) (us : List Update) → Replies (length us) (run terms m us)
unfolding run
run_replies terms m us =
    let n : ℕ = first_of (start_checks terms m us) in
    by_test (Replies (length us)) (eqb n accepted)
    (λ e. close_replies terms us (run_from terms us 0 (started m)) (updates_stop terms (length us) us 0 (started m) (omega arith)))
    (λ e. (above_0 n (eqb-false n accepted e), reply_of_start (length us) n (start_numbered terms m us (eqb-false n accepted e))))
