use Rattle.std.proofs.Common.{rules, sym, ◌∙◌}
use Rattle.file_tables.proofs.Tables.{found, passed, missed}
use Rattle.file_tables.proofs.file.find_item.Goals as goal

pub returns-then-is_wanted : goal.returns-then-is_wanted
returns-then-is_wanted g c = let t = c.requires.1.1.1 _ _ c.is_wanted.ensures in found g.test _ _ _ _ c.loop-i.invariant _ c.loop-i-test.true (search rules) (sym t ∙ c.if-is_wanted.true)

pub loop-i-preserved : goal.loop-i-preserved
loop-i-preserved g c = let t = c.requires.1.1.1 _ _ c.is_wanted.ensures in passed g.test _ _ _ _ c.loop-i.invariant _ c.loop-i-test.true (search rules) (sym t ∙ c.if-is_wanted.false)

pub returns : goal.returns
returns g c = missed g.test _ _ _ _ c.loop-i.invariant c.loop-i-test.false
