-- A byte that stands wrong decides, and where none does the text is a uuid.
use Rattle.std.proofs.Common.{ℕ, ◌≡◌, List, length, get_or, take, sym, ap, ◌∙◌, arith}
use Rattle.json_rule.specs.Defects.{is_uuid}
use Rattle.json_members.specs.Kept.{front}
use Rattle.json_members.specs.Uuids.{is_right_at}
use Rattle.json_members.proofs.Fronts.{front_length, front_whole}
use Rattle.json_members.proofs.Uuids.{uuid_follows, uuid_length, follow_on, follow_not, follow_end}
use Rattle.json_members.proofs.uuid.is_uuid.Goals as goal

pub returns-then-len-ne-LENGTH : goal.returns-then-len-ne-LENGTH
returns-then-len-ne-LENGTH c =
    let a = c.args in
    sym (uuid_length (front a.len a.kept.now) (λ e. c.if-len-ne-LENGTH.true (sym (front_length a.len a.kept.now) ∙ e)))

pub loop-i-init : goal.loop-i-init
loop-i-init c = ap (λ n. is_uuid (front n c.args.kept.now)) c.if-len-ne-LENGTH.false ∙ uuid_follows (front 36 c.args.kept.now)

pub returns-then-not-is_right_at : goal.returns-then-not-is_right_at
returns-then-not-is_right_at c =
    let kept = c.args.kept.now in
    let i = c.loop-i.i in
    let w = front_whole 36 kept (omega arith) in
    let n : length (take 36 kept) ≡ 36 = ap length w ∙ front_length 36 kept in
    sym (c.loop-i.invariant ∙ follow_not (front 36 kept) i (front_length 36 kept) (omega arith) (ap (λ (bs : List ℕ). is_right_at i (get_or bs i 0)) (sym w) ∙ sym c.if-not-is_right_at.ensures))

pub loop-i-preserved : goal.loop-i-preserved
loop-i-preserved c =
    let kept = c.args.kept.now in
    let i = c.loop-i.i in
    let w = front_whole 36 kept (omega arith) in
    let n : length (take 36 kept) ≡ 36 = ap length w ∙ front_length 36 kept in
    c.loop-i.invariant ∙ follow_on (front 36 kept) i (front_length 36 kept) (omega arith) (ap (λ (bs : List ℕ). is_right_at i (get_or bs i 0)) (sym w) ∙ sym c.if-not-is_right_at.ensures)

pub returns : goal.returns
returns c =
    let kept = c.args.kept.now in
    let w = front_whole 36 kept (omega arith) in
    let n : length (take 36 kept) ≡ 36 = ap length w ∙ front_length 36 kept in
    sym (c.loop-i.invariant ∙ follow_end (front 36 kept) c.loop-i.i (front_length 36 kept) (omega arith))
