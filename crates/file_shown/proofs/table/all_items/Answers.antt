use Rattle.std.proofs.Common.{rules, sym, ◌∙◌}
use Rattle.file_shown.proofs.Looked.{looked_on, missed, looked_end}
use Rattle.file_shown.proofs.table.all_items.Goals as goal

pub loop-i-preserved : goal.loop-i-preserved
loop-i-preserved g c = let t = c.requires.1.1.1 _ _ c.is_fine.ensures in looked_on g.test _ _ _ _ c.loop-i.invariant _ c.loop-i-test.true (search rules) (sym t ∙ c.if-not-is_fine.false)

pub returns-then-not-is_fine : goal.returns-then-not-is_fine
returns-then-not-is_fine g c = let t = c.requires.1.1.1 _ _ c.is_fine.ensures in missed g.test _ _ _ _ c.loop-i.invariant _ c.loop-i-test.true (search rules) (sym t ∙ c.if-not-is_fine.true)

pub returns : goal.returns
returns g c = looked_end g.test _ _ _ _ c.loop-i.invariant c.loop-i-test.false
