-- The checks in their order, then the list of what was found.
use mathlib.Core.Path.{◌≡◌, refl, sym, ap, ◌∙◌}
use mathlib.Core.Bool.{true, ◌&&◌}
use mathlib.Core.List.{List}
use borrow.Author.Rules.{rules}
use Rattle.records.specs.declared.metadata.TableMetadata.{TableMetadata}
use Rattle.records.specs.declared.update.UpdateList.{UpdateList}
use Rattle.rules.specs.Replies.{accepted}
use Rattle.rules.specs.Register.{Update}
use Rattle.rules.specs.WellFormed.{metadata_formed}
use Rattle.rules.specs.Walk.{snapshot_ids}
use Rattle.rules.specs.Blanks.{is_tidy_metadata}
use Rattle.rules.specs.Layout.{read_refs, read_snapshots, read_metadata}
use Rattle.rules.specs.Kinds.{laid_updates}
use Rattle.retention.specs.Retention.{is_cyclic}
use Rattle.retention.specs.Expiry as made
use Rattle.expiry.specs.Answer.{read_policy, ruled, laid_expiry, expiry_answer}
use Rattle.expiry.specs.Found.{found_of}
use Rattle.expiry.specs.List.{refs_going, snapshots_going, list_of}
use Rattle.expiry.specs.declared.Expiry.{Expiry}
use Rattle.expiry.specs.declared.policy.Policy.{Policy}
use Rattle.expiry.specs.declared.policy.Reasons.{Reasons}
use Rattle.expiry.proofs.Answers.{snapshots_laid, snapshots_ascend, refs_laid, log_laid, refused_first, passed_first, refused_last, not_refused, found_cyclic, found_reasons, list_so}
use Rattle.expiry.proofs.expiring_updates.Statement.{statement}
use Rattle.expiry.proofs.expiring_updates.Tie as tie

-- laid out from what the rule says
answered : (m : TableMetadata) (p : Policy) {e : Expiry} {x : made.Expiry} → e ≡ laid_expiry x → ruled m p ≡ x → e ≡ expiry_answer m p
unfolding expiry_answer
answered m p h q = h ∙ ap laid_expiry (sym q)

accepted_with : {u : UpdateList} {l r : List Update} → u ≡ laid_updates l → l ≡ r → record { number = accepted; updates = u } ≡ laid_expiry (record { number = accepted; updates = r })
unfolding laid_expiry
accepted_with e q i = record { number = accepted; updates = (e ∙ ap laid_updates q) i }

-- where the first checks pass
module _ (c : tie.Else-number-ne-ACCEPTED) where
  abbrev k : tie.After-start_number-number
  k = c.before

  abbrev a : tie.Start
  a = k.before.before.before.before.before

  abbrev m : TableMetadata
  m = a.args.metadata

  abbrev p : Policy
  p = a.args.policy

  formed : (is_tidy_metadata m && metadata_formed (read_metadata m)) ≡ true
  formed = passed_first m p k.is_formed.ensures k.start_number-number.ensures c.if-number-ne-ACCEPTED.false

-- and it is asked what is found
module _ (c : tie.After-findings-found) where
  abbrev o : tie.Else-number-ne-ACCEPTED
  o = c.before

  found : c.findings-found.result ≡ found_of (read_policy (p o)) (read_metadata (m o))
  found = c.findings-found.ensures (read_metadata (m o)) (record { named = refl; held = refl; history = refl })

  cycles : c.findings-found.result.cyclic ≡ is_cyclic (read_policy (p o)) (read_metadata (m o))
  cycles = found_cyclic (read_policy (p o)) (read_metadata (m o)) found

pub expiring_updates_spec : {M : Type 1} → statement M
expiring_updates_spec =
    tie.close
    (tie.spec
    (λ c κs. search rules)
    (λ c κs. search rules)
    (λ c κs. search rules)
    (λ c. let k = c.before.before in
    answered k.args.metadata k.args.policy c.refused.ensures (refused_first k.args.metadata k.args.policy k.is_formed.ensures k.start_number-number.ensures c.if-number-ne-ACCEPTED.true))
    (λ c κs. (refs_laid (m c) (formed c), (snapshots_laid (m c) (formed c), (snapshots_ascend (m c) (formed c), log_laid (m c) (formed c)))))
    (λ c κs. search rules)
    (λ c. let f = c.before.before in
    answered (m (o f)) (p (o f)) c.refused-then-found.ensures (refused_last (m (o f)) (p (o f)) (k (o f)).is_formed.ensures (k (o f)).start_number-number.ensures (o f).if-number-ne-ACCEPTED.false (sym (cycles f) ∙ c.if-found.true)))
    (λ c κs. let b = o c.before.before in (refs_laid (m b) (formed b), snapshots_laid (m b) (formed b)))
    (λ c. let f = c.before.before.before in
    let q = ap (λ (r : Reasons). list_of (refs_going r.goes (read_refs (m (o f)).refs)) (snapshot_ids (snapshots_going r.stays (read_snapshots (m (o f)).snapshots)))) (found_reasons (read_policy (p (o f))) (read_metadata (m (o f))) (found f)) in
    answered (m (o f)) (p (o f)) (accepted_with c.list_of-updates.ensures (q ∙ list_so (read_policy (p (o f))) (read_metadata (m (o f)))))
    (not_refused (m (o f)) (p (o f)) (k (o f)).is_formed.ensures (k (o f)).start_number-number.ensures (o f).if-number-ne-ACCEPTED.false (sym (cycles f) ∙ c.if-found.false))))
