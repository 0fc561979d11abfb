use Rattle.std.proofs.Common.{sym, ◌∙◌}
use Rattle.equality.specs.Same.{same_name}
use Rattle.rules.specs.RefUpdates.{has_name}
use Rattle.rules.specs.Layout.{read_name}
use Rattle.tables.proofs.Name.{same_names}
use Rattle.tables.proofs.Spans.{stopped, ran_out, run_same_place}
use Rattle.tables.proofs.Each.{tidy_refs, ref_at_lem, name_of}
use Rattle.tables.proofs.refs.find.Goals as goal

pub returns-then-same_name : goal.returns-then-same_name
returns-then-same_name c =
    let h = tidy_refs c.requires.laid_refs in
    stopped h (λ x. same_name x.name c.args.name) _ c.loop-i-test.true c.loop-i.invariant (sym c.same_name.ensures ∙ c.if-same_name.true)
    ∙ run_same_place h (λ x. same_name x.name c.args.name) (has_name (read_name c.args.name)) (λ i d b. same_names (name_of (ref_at_lem c.requires.laid_refs i d b)) c.requires.laid_name)

pub returns : goal.returns
returns c =
    let h = tidy_refs c.requires.laid_refs in
    ran_out h (λ x. same_name x.name c.args.name) c.loop-i-test.false c.loop-i.auto.i-end c.loop-i.invariant
    ∙ run_same_place h (λ x. same_name x.name c.args.name) (has_name (read_name c.args.name)) (λ i d b. same_names (name_of (ref_at_lem c.requires.laid_refs i d b)) c.requires.laid_name)
