use Rattle.std.proofs.Common.{arith, ◌∙◌}
use lib.ListN.{length-set}
use Rattle.file_text.proofs.Pieces.{is}
use Rattle.file_text.proofs.Digits.{spell_on, spell_end, all_spelled}
use Rattle.file_text.proofs.numbers.put_digits.Goals as goal

pub loop-i-preserved : goal.loop-i-preserved
loop-i-preserved c =
    let v = c.loop-i.invariant in
    record { spelled = spell_on _ _ _ _ v.spelled c.loop-i-test.true (omega arith) c.if-rest-lt10.false; room = length-set _ _ _ ∙ v.room; untouched = v.untouched }

pub returns-then-rest-lt10 : goal.returns-then-rest-lt10
returns-then-rest-lt10 c =
    let v = c.loop-i.invariant in
    is (rw v.untouched at c.put.ensures) (spell_end _ _ _ _ v.spelled c.loop-i-test.true (omega arith) c.if-rest-lt10.true 20 (omega arith))

pub returns : goal.returns
returns c = let v = c.loop-i.invariant in is (rw v.untouched at c.put-2.ensures) (all_spelled _ _ _ _ v.spelled c.loop-i-test.false)
