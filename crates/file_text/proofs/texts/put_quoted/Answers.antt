use Rattle.std.proofs.Common.{arith, rules}
use Rattle.file_rule.specs.Written.{quoted}
use Rattle.file_text.proofs.Pieces.{then, leads, leads_on, led}
use Rattle.file_text.proofs.Escapes.{text_here, text_end}
use Rattle.file_text.proofs.texts.put_quoted.Goals as goal

pub loop-i-init : goal.loop-i-init
loop-i-init c = leads (omega arith)

pub loop-i-preserved : goal.loop-i-preserved
loop-i-preserved c = leads_on c.loop-i.invariant c.put_escaped-to.ensures (omega arith) (text_here _ _ _ _ c.loop-i-test.true (search rules))

pub returns : goal.returns
unfolding quoted
returns c = then c.put_byte-to.ensures (then (led c.loop-i.invariant (text_end _ _ _ c.loop-i-test.false)) c.put_byte.ensures)
