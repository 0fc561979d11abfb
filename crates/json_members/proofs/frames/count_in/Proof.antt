-- It is counted where there is room.
use borrow.Author.Rules.{rules}
use Rattle.json_members.proofs.Counted.{counted_in_lem, counted_over}
use Rattle.json_members.proofs.frames.count_in.Statement.{statement}
use Rattle.json_members.proofs.frames.count_in.Tie as tie

pub count_in_spec : {M : Type 1} → statement M
count_in_spec =
    tie.close
    (tie.spec
    (λ c κs. search rules)
    (λ c. search rules)
    (λ c. search rules)
    (λ c κs. search rules)
    (λ c. search rules)
    (λ c. search rules)
    (λ c. search rules)
    (λ c κs. search rules)
    (λ c κs. search rules)
    (λ c. counted_in_lem c.args.judge.now c.args.list c.count_slot-slot.ensures.0 c.room_of.ensures c.if-count-room_of.true)
    (λ c. counted_over c.args.judge.now c.args.list c.count_slot-slot.ensures.0 c.room_of.ensures c.if-count-room_of.false c.first_of-first.ensures c.refuse.ensures))
