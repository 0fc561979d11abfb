-- Both halves say a character.
use Rattle.std.proofs.Common.{◌∙◌}
use borrow.Author.Tests.{ne_eqb}
use Rattle.json_machine.specs.Digest.{held, waiting, with_low}
use Rattle.json_lex.proofs.Kept.{keeps_held}
use Rattle.json_lex.proofs.text.with_low.Goals as goal

pub returns : goal.returns
unfolding with_low
returns c =
    let a = c.args in
    keeps_held (held (waiting 0 a.text) a.kept.now) c.keep_point.ensures ∙ rw (ne_eqb _ _ c.if-text-eq0.false, c.paired.ensures)
