-- A ref that can be put is put; otherwise the refs are as they were.
use Rattle.ref_updates.proofs.refs_after.Statement.{statement}
use Rattle.ref_updates.proofs.refs_after.Tie as tie

pub refs_after_spec : {M : Type 1} → statement M
refs_after_spec =
    tie.close
    (tie.spec
    (λ c κs. let n = c.requires.1.1 c.if-d.true in
    (c.requires.0, (n.laid, (n.room, c.requires.1.0))))
    (λ c. rw c.if-d.true c.put.ensures)
    (λ c. rw c.if-d.false))
