use Rattle.std.proofs.Common.{arith, ◌≡◌, [], ◌∷◌}
use Rattle.std.proofs.lemmas.Grind.{common_steps}
use Rattle.file_rule.specs.Files.{uuid_text}
use Rattle.file_text.specs.Puts.{only_if}
use Rattle.file_text.proofs.Pieces.{then, leads, leads_on, led}
use Rattle.file_text.proofs.Escapes.{hyphen, uuid_here, uuid_end}
use Rattle.file_text.proofs.texts.put_uuid.Goals as goal
use Rattle.file_text.proofs.texts.put_uuid.Goals.{in-4, in_default}

pub loop-i-init : goal.loop-i-init
loop-i-init c = leads (omega arith)

pub loop-i-preserved : goal.loop-i-preserved
loop-i-preserved c =
    let e : only_if c.match-matches.matches (45 ∷ []) ≡ hyphen c.loop-i.i = elim c.match-matches.branch [ in-4 w ↦ grind (arith, common_steps) | in_default w ↦ grind (arith, common_steps) ] in
    leads_on c.loop-i.invariant (then c.put_if-to.ensures c.put_hex-to.ensures) (omega arith) (uuid_here _ _ e c.loop-i-test.true)

pub returns : goal.returns
unfolding uuid_text
returns c = then c.put-at.ensures (then c.put_byte-to.ensures (then (led c.loop-i.invariant (uuid_end _ _ c.loop-i-test.false)) c.put_byte.ensures))
