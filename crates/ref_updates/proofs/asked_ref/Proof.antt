-- What stands at the place that the search gives is the ref of the name, if there is one, and the rest is read of that.
use native.Mathlib.Omega.{arith}
use mathlib.Core.Path.{◌≡◌, ap, ◌∙◌}
use mathlib.Core.Bool.{true}
use mathlib.Core.Logic.{⊎_elim}
use borrow.Author.Rules.{rules}
use borrow.Author.Tests.{ltb-true, le-ltb}
use borrow.Table.Steps.{cases}
use lib.Dec.{ltb}
use Rattle.records.specs.Blanks.{no_ref}
use Rattle.records.specs.declared.reference.NamedRef.{NamedRef}
use Rattle.rules.specs.RefUpdates.{ref_named, same_reference}
use Rattle.rules.specs.Layout.{given, read_name, read_reference, laid_reference, read_ref, laid_ref, read_refs}
use Rattle.tables.proofs.Each.{ref_at_lem}
use Rattle.ref_updates.specs.Refs.{asked_ref}
use Rattle.ref_updates.proofs.Named.{named, named_there, named_within}
use Rattle.ref_updates.proofs.WantedRefs.{wanted_read, wanted_laid}
use Rattle.ref_updates.proofs.Deciding.{same_is}
use Rattle.ref_updates.proofs.asked_ref.Statement.{statement}
use Rattle.ref_updates.proofs.asked_ref.Tie as tie

module _ (j : tie.Joined-at-n) where
  abbrev begin : tie.Start
  begin = j.before.before.before.before

  -- the ref of the name, if there is one
  known : ref_named (read_name begin.args.u.refs.name) (read_refs begin.args.t) ≡ given (ltb j.find-at.result begin.args.t.count) (read_ref j.if-at-n.old)
  known =
      let n = read_name begin.args.u.refs.name in
      ⊎_elim
      (λ w. named_there begin.requires.0 n j.find-at.ensures _ w.old-is)
      (λ w. named begin.requires.0 n no_ref j.find-at.ensures ∙ rw (le-ltb j.find-at.result begin.args.t.count w.if-at-n.false))
      j.if-at-n.branch-raw

  -- it is laid out
  back : ltb j.find-at.result begin.args.t.count ≡ true → laid_reference (read_reference j.if-at-n.old.reference) ≡ j.if-at-n.old.reference
  unfolding laid_ref
  back l =
      ⊎_elim
      (λ w. rw w.old-is (ap (λ (y : NamedRef). y.reference) (ref_at_lem begin.requires.0 j.find-at.result _ w.if-at-n.true).back))
      (λ w. absurd (omega (arith, w.if-at-n.false, ltb-true j.find-at.result begin.args.t.count l)))
      j.if-at-n.branch-raw

returns : tie.Need-returns
returns c =
    let q = c.before in
    let j = q.before.before in
    let s = begin j in
    let l = read_refs s.args.t in
    let n = read_name s.args.u.refs.name in
    let i = j.find-at.result in
    let held = ltb i s.args.t.count in
    let read : read_reference q.wanted-reference.result ≡ asked_ref s.args.u l = rw q.wanted-reference.ensures (wanted_read s.args.u held j.if-at-n.old n l (known j)) in
    record {
      same = same_is n l held (read_ref j.if-at-n.old) (asked_ref s.args.u l) (known j) (c.same_reference-same.ensures ∙ ap (same_reference (read_reference j.if-at-n.old.reference)) read);
      named = rw (known j) (cases held (λ t. rw t) (λ f. rw f));
      read = read;
      laid = rw q.wanted-reference.ensures (wanted_laid s.args.u held j.if-at-n.old s.requires.1.1 (back j));
    }

pub asked_ref_spec : {M : Type 1} → statement M
asked_ref_spec =
    tie.close
    (tie.spec
    (λ c κs. search rules)
    (λ c κs. search rules)
    (λ c. omega (arith, c.if-at-n.true, named_within c.requires.0))
    (λ c. omega (arith, c.if-at-n.true, named_within c.requires.0))
    (λ c κs. search rules)
    (λ c κs. search rules)
    returns)
