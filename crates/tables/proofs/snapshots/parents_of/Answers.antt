use Rattle.std.proofs.Common.{◌≡◌, set, to_z, of_z, negsuc, ap, ◌∙◌, arith, rules}
use Rattle.std.specs.Int.{w64}
use Rattle.std.proofs.lemmas.Int.{ints}
use Rattle.rules.specs.Words.{or_else}
use Rattle.tables.proofs.Table.{within}
use Rattle.tables.proofs.Spans.{run_keyed}
use Rattle.tables.proofs.Each.{tidy_snapshots}
use Rattle.tables.proofs.snapshots.parents_of.Goals as goal

pub loop-i-preserved : goal.loop-i-preserved
loop-i-preserved c =
    λ h. let all : c.min.result ≡ c.args.t.count = omega (arith, c.min.ensures, within (tidy_snapshots h)) in
    let z : to_z w64 (of_z w64 c.parent_key.result.0) ≡ c.parent_key.result.0 = search (rules, ints) in
    let put = ap (set c.loop-i.parents c.loop-i.i) (z ∙ c.parent_key.ensures) in
    run_keyed (tidy_snapshots h) (λ x. or_else x.parent (negsuc 0)) _ (rw all at c.loop-i-test.true) (c.loop-i.invariant h) (rw all at put)
