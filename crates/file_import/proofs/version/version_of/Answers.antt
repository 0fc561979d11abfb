-- From the first name on to the version.
use Rattle.std.proofs.Common.{◌∙◌, arith, rules}
use Rattle.file_import.proofs.Passing.{start_other, start_no_brace, begins, still_fits, passes_at, passes_ended}
use Rattle.file_import.proofs.version.version_of.Goals as goal

pub returns-then-brace-ne-WHOLE : goal.returns-then-brace-ne-WHOLE
returns-then-brace-ne-WHOLE c = start_other _ _ _ c.next-brace.ensures c.if-brace-ne-WHOLE.true

pub returns-then-brace-ne123 : goal.returns-then-brace-ne123
returns-then-brace-ne123 c = start_no_brace _ _ _ c.next-brace.ensures c.if-brace-ne-WHOLE.false c.if-brace-ne123.true

pub loop-next-init : goal.loop-next-init
loop-next-init c =
    (begins _ _ _ c.next-brace.ensures c.if-brace-ne-WHOLE.false c.if-brace-ne123.false, still_fits _ _ _ _ c.next-brace.ensures c.if-brace-ne-WHOLE.false)

pub loop-next-preserved : goal.loop-next-preserved
loop-next-preserved c = let on = passes_at c.in-At.is c.take_member.ensures in (on.goes ∙ c.loop-next.invariant.0, on.fits)

pub loop-next-smaller : goal.loop-next-smaller
loop-next-smaller c = let on = passes_at c.in-At.is c.take_member.ensures in omega (arith, on.later, on.fits)

pub returns-in-Ended : goal.returns-in-Ended
returns-in-Ended c = passes_ended _ _ c.in-Ended.is c.take_member.ensures ∙ c.loop-next.invariant.0
