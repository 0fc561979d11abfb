-- A byte that is a digit adds to the number, and one that is none decides.
use Rattle.std.proofs.Common.{ℕ, ◌≡◌, ◌+◌, ◌-◌, ◌*◌, List, length, get_or, take, drop, sym, ap, ◌∙◌, arith}
use Rattle.json_rule.specs.Lexemes.{is_digit}
use Rattle.json_members.specs.Kept.{front}
use Rattle.json_members.proofs.Fronts.{front_length, front_part}
use Rattle.json_members.proofs.Digits.{said_by, digits_end, digit_not, digit_on, digit_small, below_next}
use Rattle.json_members.proofs.bucket.number_of.Goals as goal

pub returns-then-not-is_digit : goal.returns-then-not-is_digit
returns-then-not-is_digit c =
    let l = c.loop-byte in
    let i = l.byte-index in
    let ds = front c.args.digits (drop 7 c.args.kept.now) in
    let w = front_part 7 c.args.digits c.args.kept.now (omega arith) in
    let n : length ds ≡ c.args.digits = front_length c.args.digits (drop 7 c.args.kept.now) in
    let m = ap length w in
    sym (l.invariant.said ∙ digit_not l.number ds i (omega arith) (ap (λ (bs : List ℕ). is_digit (get_or bs i 0)) (sym w) ∙ sym c.if-not-is_digit.ensures))

pub overflow_sub-byte : goal.overflow_sub-byte
overflow_sub-byte c = omega (arith, digit_small _ (sym c.if-not-is_digit.ensures))

pub loop-byte-preserved : goal.loop-byte-preserved
loop-byte-preserved c =
    let l = c.loop-byte in
    let i = l.byte-index in
    let kept = c.args.kept.now in
    let digits = c.args.digits in
    let ds = front digits (drop 7 kept) in
    let w = front_part 7 digits kept (omega arith) in
    let n : length ds ≡ digits = front_length digits (drop 7 kept) in
    let m = ap length w in
    let is = sym c.if-not-is_digit.ensures in
    let at_i = ap (λ (bs : List ℕ). get_or bs i 0) w in
    record {
      small = rw c.from.ensures (below_next l.number i (get_or (take (7 + digits - 7) (drop 7 kept)) i 0) l.invariant.small (digit_small _ is).1);
      said =
          rw c.from.ensures
          (l.invariant.said
          ∙ digit_on l.number ds i (omega arith) (ap is_digit (sym at_i) ∙ is)
          ∙ ap (λ (b : ℕ). said_by (l.number * 10 + (b - 48)) (drop (i + 1) ds)) (sym at_i));
    }

pub returns : goal.returns
returns c =
    let l = c.loop-byte in
    let ds = front c.args.digits (drop 7 c.args.kept.now) in
    let w = front_part 7 c.args.digits c.args.kept.now (omega arith) in
    let n : length ds ≡ c.args.digits = front_length c.args.digits (drop 7 c.args.kept.now) in
    let m = ap length w in
    sym (l.invariant.said ∙ digits_end l.number ds l.byte-index (omega arith))
