-- What is no half is a character.
use Rattle.std.proofs.Common.{◌∙◌, sym}
use Rattle.json_machine.specs.Digest.{held, with_unit}
use Rattle.json_lex.proofs.Kept.{keeps_held}
use Rattle.json_lex.proofs.text.with_unit.Goals as goal

pub returns : goal.returns
unfolding with_unit
returns c =
    keeps_held (held c.settled-before.result c.args.kept.now) c.keep_point.ensures
    ∙ rw (sym c.is_low.ensures ∙ c.if-is_low.false, sym c.is_high.ensures ∙ c.if-is_high.false, c.settled-before.ensures)
