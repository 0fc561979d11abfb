-- Parts in which no fault was found are laid out, so that the tests of the code are the rules'.
use mathlib.Core.Path.{◌≡◌, ap, ◌∙◌}
use mathlib.Core.Bool.{Bool, true}
use borrow.Author.Rules.{rules}
use Rattle.rules.specs.Words.{all}
use Rattle.rules.specs.Register as plain
use Rattle.rules.specs.WellFormed.{snapshots_formed, points_in, refs_held, main_agrees, current_schema_held, default_order_held, default_spec_held}
use Rattle.rules.specs.Layout.{read_snapshots, read_refs}
use Rattle.rules.proofs.Checks.{both}
use Rattle.formed.proofs.Gathered.{found_in}
use Rattle.faults.specs.Faults.{agreement_faults}
use Rattle.faults.proofs.Parts.{FineParts, fine_parts, refs_laid, schemas_laid, orders_laid, specs_laid}
use Rattle.faults.proofs.agreement_fault.Statement.{statement}
use Rattle.faults.proofs.agreement_fault.Tie as tie

fine : (c : tie.Start) → FineParts c.args.m
fine c = fine_parts c.args.m c.requires

-- the keys are those of the table of snapshots
held : (c : tie.After-refs_held-held) → let m = c.args.m in c.refs_held-held.result ≡ all (points_in (read_snapshots m.snapshots)) (read_refs m.refs)
unfolding snapshots_formed
held c =
    let s = c.before.before.before.before.before in
    let k = c.snapshot_keys-snapshots.ensures in
    let f = (fine s).snapshots in
    let t : c.snapshot_keys-snapshots.result.formed ≡ true = k.order ∙ both f.0 f.1 in
    c.refs_held-held.ensures ∙ ap (λ (q : plain.NamedRef → Bool). all q (read_refs s.args.m.refs)) (λ i x. found_in k t x.reference.snapshot i)

pub agreement_fault_spec : {M : Type 1} → statement M
unfolding agreement_faults refs_held main_agrees current_schema_held default_order_held default_spec_held
agreement_fault_spec =
    tie.close
    (tie.spec
    (λ c κs. search rules)
    (λ c κs. (refs_laid (fine c.before.before.before.before), c.snapshot_keys-snapshots.ensures.few))
    (λ c κs. refs_laid (fine c.before.before.before.before.before.before))
    (λ c κs. schemas_laid (fine c.before.before.before.before.before.before.before.before.before))
    (λ c κs. orders_laid (fine c.before.before.before.before.before.before.before.before.before.before.before.before))
    (λ c κs. specs_laid (fine c.before.before.before.before.before.before.before.before.before.before.before.before.before.before.before))
    (λ c κs. search rules)
    (λ c κs. search rules)
    (λ c κs. search rules)
    (λ c κs. search rules)
    (λ c κs. search rules)
    (λ c. let u = c.before.before.before.before.before in
    rw (
      c.unless.ensures,
      c.unless-from_main.ensures,
      c.unless-from_schema.ensures,
      c.unless-from_order.ensures,
      c.unless-from_spec.ensures,
      u.holds-spec.ensures,
      u.holds-order.ensures,
      u.holds-schema.ensures,
      u.main_agrees-agrees.ensures,
      held u.before.before.before.before.before.before.before.before.before.before.before,
    )))
