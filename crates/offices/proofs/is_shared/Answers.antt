use Rattle.std.proofs.Common.{◌≡◌, not, sym, ap, arith}
use borrow.Author.Tests.{ne_eqb}
use Rattle.rules.specs.Others.{is_second, is_others_ref}
use Rattle.rules.proofs.Checks.{or_right}
use Rattle.tables.proofs.Table.{within}
use Rattle.tables.proofs.Spans.{run_any, any_here, any_none}
use Rattle.tables.proofs.Each.{tidy_refs}
use Rattle.offices.proofs.is_shared.Goals as goal

pub returns-then-held-office : goal.returns-then-held-office
returns-then-held-office c =
    λ h. let all : c.min.result ≡ c.args.refs.count = omega (arith, c.min.ensures, within (tidy_refs h)) in
    let e = any_here _ _ _ c.loop-held-test.true c.loop-held.invariant (ap not (ne_eqb _ _ c.if-held-office.true)) in
    sym (or_right (is_second c.args.office) (sym (run_any (tidy_refs h) (is_others_ref c.args.office) (rw all at e))))

pub returns : goal.returns
returns c =
    λ h. let all : c.min.result ≡ c.args.refs.count = omega (arith, c.min.ensures, within (tidy_refs h)) in
    let e = any_none _ _ c.loop-held-test.false c.loop-held.invariant in
    rw (ne_eqb _ _ c.if-office-eq-SECOND_OFFICE.false) (run_any (tidy_refs h) (is_others_ref c.args.office) (rw all at e))
