-- The checks in their order, then the reasons that were found.
use mathlib.Core.Path.{◌≡◌, refl, sym, ◌∙◌}
use mathlib.Core.Bool.{true, ◌&&◌}
use borrow.Author.Rules.{rules}
use borrow.Author.Tests.{eq-eqb, ne_eqb}
use native.Mathlib.Omega.{arith}
use Rattle.records.specs.declared.metadata.TableMetadata.{TableMetadata}
use Rattle.rules.specs.Replies.{accepted}
use Rattle.rules.specs.WellFormed.{metadata_formed}
use Rattle.rules.specs.Blanks.{is_tidy_metadata}
use Rattle.rules.specs.Layout.{read_metadata}
use Rattle.retention.specs.Retention.{is_cyclic}
use Rattle.retention.specs.Expiry as made
use Rattle.expiry.specs.Answer.{read_policy, ruled, no_reasons, laid_reasons, reasons_answer}
use Rattle.expiry.specs.Found.{found_of}
use Rattle.expiry.specs.declared.policy.Policy.{Policy}
use Rattle.expiry.specs.declared.policy.Reasons.{Reasons}
use Rattle.expiry.proofs.Answers.{snapshots_laid, snapshots_ascend, refs_laid, log_laid, refused_first, passed_first, refused_last, not_refused, found_cyclic, found_reasons}
use Rattle.expiry.proofs.reasons.Statement.{statement}
use Rattle.expiry.proofs.reasons.Tie as tie

module _ (m : TableMetadata) (p : Policy) {x : made.Expiry} (q : ruled m p ≡ x) {r : Reasons} where
  none_given : (x.number ≡ accepted → ⊥) → r ≡ no_reasons → r ≡ reasons_answer m p
  unfolding reasons_answer
  none_given f h = h ∙ sym (rw (q, ne_eqb x.number accepted f))

  all_given_lem : x.number ≡ accepted → r ≡ laid_reasons (read_policy p) (read_metadata m) → r ≡ reasons_answer m p
  unfolding reasons_answer
  all_given_lem f h = h ∙ sym (rw (q, eq-eqb x.number accepted f))

-- where the first checks pass
module _ (c : tie.Else-number-ne-ACCEPTED) where
  abbrev k : tie.After-start_number-number
  k = c.before

  abbrev a : tie.Start
  a = k.before.before.before.before.before

  abbrev m : TableMetadata
  m = a.args.metadata

  abbrev p : Policy
  p = a.args.policy

  formed : (is_tidy_metadata m && metadata_formed (read_metadata m)) ≡ true
  formed = passed_first m p k.is_formed.ensures k.start_number-number.ensures c.if-number-ne-ACCEPTED.false

-- and it is asked what is found
module _ (c : tie.After-findings-found) where
  abbrev o : tie.Else-number-ne-ACCEPTED
  o = c.before

  found : c.findings-found.result ≡ found_of (read_policy (p o)) (read_metadata (m o))
  found = c.findings-found.ensures (read_metadata (m o)) (record { named = refl; held = refl; history = refl })

  cycles : c.findings-found.result.cyclic ≡ is_cyclic (read_policy (p o)) (read_metadata (m o))
  cycles = found_cyclic (read_policy (p o)) (read_metadata (m o)) found

pub reasons_spec : {M : Type 1} → statement M
reasons_spec =
    tie.close
    (tie.spec
    (λ c κs. search rules)
    (λ c κs. search rules)
    (λ c κs. search rules)
    (λ c. let k = c.before.before in
    none_given k.args.metadata k.args.policy (refused_first k.args.metadata k.args.policy k.is_formed.ensures k.start_number-number.ensures c.if-number-ne-ACCEPTED.true) c.if-number-ne-ACCEPTED.true c.blank.ensures)
    (λ c κs. (refs_laid (m c) (formed c), (snapshots_laid (m c) (formed c), (snapshots_ascend (m c) (formed c), log_laid (m c) (formed c)))))
    (λ c κs. search rules)
    (λ c. let f = c.before.before in
    none_given (m (o f)) (p (o f)) (refused_last (m (o f)) (p (o f)) (k (o f)).is_formed.ensures (k (o f)).start_number-number.ensures (o f).if-number-ne-ACCEPTED.false (sym (cycles f) ∙ c.if-found.true)) (λ z. omega (arith, z)) c.blank-then-found.ensures)
    (λ c. let f = c.before.before in
    all_given_lem (m (o f)) (p (o f)) (not_refused (m (o f)) (p (o f)) (k (o f)).is_formed.ensures (k (o f)).start_number-number.ensures (o f).if-number-ne-ACCEPTED.false (sym (cycles f) ∙ c.if-found.false)) refl (found_reasons (read_policy (p (o f))) (read_metadata (m (o f))) (found f))))
