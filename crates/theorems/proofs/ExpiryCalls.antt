-- The entry points `expiring_updates` and `run` one after the other, by their contracts alone: a call of `run` with a list that a call of
-- `expiring_updates` answered is such as Expiry speaks of. Its changes are that list, slot by slot, and a second list is blank.
use native.Mathlib.Omega.{arith}
use mathlib.Core.Path.{◌≡◌, refl, sym, ap, ap₂, ◌∙◌}
use mathlib.Core.Bool.{true}
use borrow.Fn.Kinds.{Dens, ended_of}
use borrow.Table.Steps.{cases}
use contract.Lifetimes.{Lfts}
use denote.Triple.Clauses.{AtExit}
use Rattle.records.specs.Blanks.{no_updates}
use Rattle.records.specs.declared.metadata.TableMetadata.{TableMetadata}
use Rattle.rules.specs.Replies.{accepted}
use Rattle.rules.specs.Register.{Metadata}
use Rattle.rules.specs.Blanks.{is_tidy_metadata}
use Rattle.rules.specs.Layout.{read_metadata}
use Rattle.rules.specs.Kinds.{read_updates, laid_updates}
use Rattle.rules.proofs.Slots.Reread.{reread_updates}
use Rattle.retention.specs.Retention as rules
use Rattle.retention.specs.Expiry.{expiry}
use Rattle.retention.proofs.Stay.{Expires, expiry_accepted}
use Rattle.retention.proofs.Run.Reached.{list_formed}
use Rattle.retention.proofs.Second.{empty_list}
use Rattle.expiry.specs.declared.Expiry.{Expiry}
use Rattle.expiry.specs.declared.policy.Policy.{Policy}
use Rattle.expiry.specs.Answer.{read_policy, laid_expiry, expiry_answer}
use Rattle.expiry.proofs.expiring_updates.Kinds.{ps, r}
use Rattle.expiry.proofs.expiring_updates.Reads.{Post}
use Rattle.theorems.proofs.Run.{Call, start, updates, terms, run_formed}
use Rattle.theorems.proofs.Moment.{before}
use Rattle.theorems.proofs.Expiry.{RunsList, run_expiry_logged, run_second_list_empty}

-- ---- a call of `expiring_updates`

-- and an answer that its contract allows
pub record ListCall : Type 1 where
  pub lifetimes : Lfts 0
  pub given : Dens lifetimes ps
  pub answered : Expiry
  pub left : AtExit (ended_of 0 ps r) lifetimes
  pub allowed : Post lifetimes given answered left

module _ (l : ListCall) where
  abbrev pub metadata : TableMetadata
  metadata = l.given.0

  abbrev pub policy : Policy
  policy = l.given.1.0

  -- as the rules have it
  abbrev pub policy_read : rules.Policy
  policy_read = read_policy policy

  -- its contract, read
  pub list_says : l.answered ≡ expiry_answer metadata policy
  list_says = l.allowed

-- whatever the arguments are, there is such a call
abbrev pub list_call_of : TableMetadata → Policy → ListCall
list_call_of m q = record { lifetimes = tt; given = (m, (q, tt)); answered = expiry_answer m q; left = (m, (q, tt)); allowed = refl }

-- ---- what its number 0 says

record Made (m : TableMetadata) (q : Policy) : Type 0 where
  tidy : is_tidy_metadata m ≡ true
  made : (expiry (read_policy q) (read_metadata m)).number ≡ accepted
  laid : (expiry_answer m q).updates ≡ laid_updates (expiry (read_policy q) (read_metadata m)).updates

number_made : (m : TableMetadata) (q : Policy) → (expiry_answer m q).number ≡ 0 → Made m q
unfolding expiry_answer laid_expiry
number_made m q e = cases (is_tidy_metadata m) (λ t. record { tidy = t; made = rw t at e; laid = rw t }) (λ f. absurd (omega (arith, rw f at e)))

-- no updates, and no refusal
abbrev pub blank_list : Expiry
blank_list = record { number = accepted; updates = no_updates }

empty_made : (m : TableMetadata) (q : Policy) → is_tidy_metadata m ≡ true → expiry (read_policy q) (read_metadata m) ≡ empty_list → expiry_answer m q ≡ blank_list
unfolding expiry_answer laid_expiry laid_updates no_updates
empty_made m q t e = rw (t, e)

-- nothing is lost in laying out the list of an accepted expiry
list_read : (p : rules.Policy) (m : Metadata) → (expiry p m).number ≡ accepted → read_updates (laid_updates (expiry p m).updates) ≡ (expiry p m).updates
list_read p m e = let k : Expires p m = expiry_accepted p m e in rw k.updates (reread_updates _ (list_formed p m k))

-- ---- and then one of `run`

-- a list is made of the call's start, for its office
pub record MadeFor (l : ListCall) (c : Call) : Type 0 where
  pub made : l.answered.number ≡ 0
  pub start : start c ≡ metadata l
  pub office : (terms c).office ≡ (policy l).office

module _ (l : ListCall) (c : Call) (k : MadeFor l c) where
  made_of : Made (start c) (policy l)
  made_of = rw k.start (number_made (metadata l) (policy l) (sym (ap (λ (x : Expiry). x.number) (list_says l)) ∙ k.made))

  laid_list : l.answered.updates ≡ laid_updates (expiry (policy_read l) (before c)).updates
  laid_list = ap (λ (x : Expiry). x.updates) (list_says l) ∙ ap (λ (m : TableMetadata). (expiry_answer m (policy l)).updates) (sym k.start) ∙ made_of.laid

  -- what is laid out reads back as the list of the rules, so that the theorems on calls with more behind the list apply,
  pub made_list : read_updates l.answered.updates ≡ (expiry (policy_read l) (before c)).updates
  made_list = ap read_updates laid_list ∙ list_read (policy_read l) (before c) made_of.made

  module _ (u : updates c ≡ l.answered.updates) where
    -- and with nothing behind it those on the list alone
    pub made_runs : RunsList c (policy_read l)
    made_runs = record { tidy = made_of.tidy; made = made_of.made; office = k.office; list = ap read_updates u ∙ made_list }

    module _ (e : c.answered.number ≡ 0) where
      -- the changes of an accepted call are the list, slot by slot
      pub run_changes_are_list : c.answered.changes ≡ l.answered.updates
      run_changes_are_list = run_expiry_logged c (policy_read l) made_runs e ∙ sym laid_list

      -- a second list is blank: that of the metadata that is answered, under the same policy
      pub run_second_list_blank : (l' : ListCall) → metadata l' ≡ c.answered.metadata → policy l' ≡ policy l → l'.answered ≡ blank_list
      run_second_list_blank l' m q =
          list_says l' ∙ ap₂ expiry_answer m q ∙ empty_made c.answered.metadata (policy l) (run_formed c e).tidy (run_second_list_empty c (policy_read l) made_runs e)
