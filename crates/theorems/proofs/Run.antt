-- The entry point `run`: what its contract, as it stands in the source, says of its answers. A call is any arguments and any answer that the contract allows for them.
use mathlib.Core.Path.{◌≡◌, refl, sym, ap, subst, ◌∙◌}
use mathlib.Core.List.{List, []}
use Prim.Native.Nat.{ℕ}
use base.Logic.{emp, id⊢}
use borrow.Fn.Kinds.{Dens, ended_of}
use contract.Lifetimes.{Lfts}
use denote.Ref.{Bor}
use denote.Triple.Clauses.{AtExit}
use Rattle.records.specs.declared.metadata.TableMetadata.{TableMetadata}
use Rattle.records.specs.declared.update.UpdateList.{UpdateList}
use Rattle.records.specs.declared.run.RunTerms.{RunTerms}
use Rattle.records.specs.declared.run.Answer.{Answer}
use Rattle.rules.specs.Replay.{strip}
use Rattle.rules.specs.Kinds.{read_updates, laid_updates}
use Rattle.rules.specs.Answer.{Lent, answer}
use Rattle.rules.specs.Promises.{AsksNothing}
use Rattle.rules.proofs.Answer.Places.{Reply}
use Rattle.rules.proofs.Answer.Laws.{Formed, Fits, Unchanged, answer_formed, answer_log_fits, answer_refused, answer_reply}
use Rattle.rules.proofs.Answer.Replays.{Replays, answer_replays}
use Rattle.register.specs.contracts.run.{signature, spec}
use Rattle.register.proofs.run.Kinds.{ps, r}
use Rattle.register.proofs.run.Reads.{Post}

-- a call of `run`, and an answer that its contract allows
pub record Call : Type 1 where
  pub lifetimes : Lfts 2
  pub given : Dens lifetimes ps
  pub answered : Answer
  pub left : AtExit (ended_of 2 ps r) lifetimes
  pub allowed : Post lifetimes given answered left

module _ (c : Call) where
  abbrev pub start : TableMetadata
  start = c.given.0

  abbrev pub updates : UpdateList
  updates = c.given.1.0

  abbrev pub terms : RunTerms
  terms = c.given.1.1.0

  -- the limit text and the offers
  abbrev pub lent : Lent
  lent = record { text = c.given.1.1.1.0.now; offers = c.given.1.1.1.1.0.now }

  -- its contract, read
  pub says : c.answered ≡ answer start updates terms lent
  says = c.allowed

-- whatever the arguments are, there is such a call
abbrev pub call_of : TableMetadata → UpdateList → RunTerms → Lent → Call
call_of m us t l =
    let text : Bor (List ℕ) = record { ref_ptr = (0, 0); now = l.text } in
    let offers : Bor (List ℕ) = record { ref_ptr = (0, 0); now = l.offers } in
    record { lifetimes = ([], ([], tt)); given = (m, (us, (t, (text, (offers, tt))))); answered = answer m us t l; left = (m, (us, (t, (text, (offers, tt))))); allowed = refl }

-- the same start, the same terms (clock reading, tolerance, office and file name), the same limit text and the same offers
pub record Alike (c d : Call) : Type 0 where
  pub start : start d ≡ start c
  pub terms : terms d ≡ terms c
  pub lent : lent d ≡ lent c

-- equal arguments have equal answers
alike : {m m' : TableMetadata} {us us' : UpdateList} {t t' : RunTerms} {l l' : Lent} → m' ≡ m → us' ≡ us → t' ≡ t → l' ≡ l → answer m' us' t' l' ≡ answer m us t l
alike p q r s = rw (p, q, r, s)

-- `run` asks nothing: any arguments are allowed
pub run_asks_nothing : AsksNothing signature (λ M 𝓤. spec)
run_asks_nothing M 𝓤 𝓛 mem run κs a = (tt, id⊢ 𝓤 (emp 𝓤))

-- any two answers that the contract allows for equal arguments are equal
pub run_unique : (c d : Call) → Alike c d → updates d ≡ updates c → d.answered ≡ c.answered
run_unique c d a u = says d ∙ alike a.start u a.terms a.lent ∙ sym (says c)

-- the number is one of 0 to 23, 26, 31 to 35 and 39; 0, 1, 2, 26 and 39 come with the place 0, 3 to 19 and 33 to 35 with that of an update of the list, 20 to 23 with the
-- count of the list, and 31 and 32 with at most that count: an update gives them, or the close
pub run_reply : (c : Call) → Reply (updates c).count c.answered.number c.answered.place
run_reply c = subst (λ (x : Answer). Reply (updates c).count x.number x.place) (sym (says c)) (answer_reply (start c) (updates c) (terms c) (lent c))

module _ (c : Call) (e : c.answered.number ≡ 0) where
  -- an accepted run's metadata can start the next run
  pub run_formed : Formed c.answered.metadata
  run_formed = rw (says c) (answer_formed (start c) (updates c) (terms c) (lent c) (rw (says c) at e))

  -- an accepted run's changes are well formed, and their sum is at most 64
  pub run_log_fits : Fits c.answered.changes
  run_log_fits = rw (says c) (answer_log_fits (start c) (updates c) (terms c) (lent c) (rw (says c) at e))

-- a refused run gives back its start, no changes and no expired entries
pub run_refused : (c : Call) → (c.answered.number ≡ 0 → ⊥) → Unchanged (start c) c.answered
run_refused c n = subst (Unchanged (start c)) (sym (says c)) (answer_refused (start c) (updates c) (terms c) (lent c) (λ z. n (ap (λ (x : Answer). x.number) (says c) ∙ z)))

-- where the second call runs the changes of the first, and the third those of the second
pub record Leads (first second third : Call) : Type 0 where
  pub accepted : second.answered.number ≡ 0
  pub metadata : second.answered.metadata ≡ first.answered.metadata
  pub expired : second.answered.expired ≡ first.answered.expired
  -- the first changes, less the schema removals that name no schema
  pub changes : second.answered.changes ≡ laid_updates (strip (read_updates first.answered.changes))
  pub settles : third.answered ≡ second.answered

-- The log suffices.
pub run_replays : (first second third : Call) → first.answered.number ≡ 0
    → Alike first second → updates second ≡ first.answered.changes
    → Alike first third → updates third ≡ second.answered.changes
    → Leads first second third
run_replays c d f e a u b v =
    let R : Replays (start c) (updates c) (terms c) (lent c) = answer_replays (start c) (updates c) (terms c) (lent c) (sym (ap (λ (x : Answer). x.number) (says c)) ∙ e) in
    let D : d.answered ≡ answer (start c) (answer (start c) (updates c) (terms c) (lent c)).changes (terms c) (lent c) = says d ∙ alike a.start (u ∙ ap (λ (x : Answer). x.changes) (says c)) a.terms a.lent in
    let F : f.answered ≡ answer (start c) d.answered.changes (terms c) (lent c) = says f ∙ alike b.start v b.terms b.lent in
    record {
      accepted = ap (λ (x : Answer). x.number) D ∙ R.accepted;
      metadata = ap (λ (x : Answer). x.metadata) D ∙ R.metadata ∙ sym (ap (λ (x : Answer). x.metadata) (says c));
      expired = ap (λ (x : Answer). x.expired) D ∙ R.expired ∙ sym (ap (λ (x : Answer). x.expired) (says c));
      changes = ap (λ (x : Answer). x.changes) D ∙ R.changes ∙ sym (ap (λ (x : Answer). laid_updates (strip (read_updates x.changes))) (says c));
      settles = F ∙ ap (λ (x : Answer). answer (start c) x.changes (terms c) (lent c)) D ∙ R.settles ∙ sym D;
    }
