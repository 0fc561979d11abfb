use Rattle.std.proofs.Common.{◌∙◌}
use borrow.Author.Tests.{lt-ltb, le-ltb}
use Rattle.json_store.proofs.Filled.{text_more, text_end}
use Rattle.json_store.proofs.texts.put_text.Goals.{then-i-len, else-i-len}
use Rattle.json_store.proofs.texts.put_text.Goals as goal

pub loop-i-preserved : goal.loop-i-preserved
loop-i-preserved c =
    let a = c.args in
    let l = c.loop-i in
    l.invariant
    ∙ text_more a.room a.len a.kept.now l.texts a.at l.i _ c.loop-i-test.true (elim c.if-i-len.branch [
      | then-i-len w ↦ rw (lt-ltb _ _ w.if-i-len.true) w.byte-is
      | else-i-len w ↦ rw (le-ltb _ _ w.if-i-len.false) w.byte-is
    ])

pub returns : goal.returns
returns c =
    let a = c.args in
    text_end a.room a.len a.kept.now a.texts.now c.loop-i.texts a.at c.loop-i.i c.loop-i-test.false c.loop-i.invariant
