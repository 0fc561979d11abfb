-- The sign, the digits and the space are put one after another.
use Rattle.tokens.proofs.Texts.{in_parts}
use Rattle.tokens.proofs.number.put_number.Goals as goal

pub returns : goal.returns
returns c =
    in_parts _ _ _ _ _ _ _ _ _
    c.make_room.ensures.0
    c.put_sign.ensures
    c.append.ensures
    c.push.ensures
    c.decimal-n.ensures.len
    c.decimal-n.ensures.digits
