-- What waits stands alone, and the bytes are kept behind.
use Rattle.std.proofs.Common.{ap, ◌∙◌}
use Rattle.std.proofs.Math.Seq.{slice}
use Rattle.json_machine.specs.declared.Text.{Text}
use Rattle.json_machine.specs.Digest.{held, keeping}
use Rattle.json_lex.proofs.Kept.{keeps_held}
use Rattle.json_tokens.proofs.text.with_plain.Goals as goal

pub returns : goal.returns
returns c =
    let a = c.args in
    keeps_held (held c.settled-before.result a.kept.now) c.keep_all.ensures
    ∙ ap (λ (t : Text). keeping (slice a.from a.end a.bytes.now) (held t a.kept.now)) c.settled-before.ensures
