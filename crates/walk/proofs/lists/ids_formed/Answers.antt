-- The call looks for the id among those after it.
use Rattle.std.proofs.Common.{◌≡◌, ℕ, ◌+◌, ◌-◌, List, ℤ, pos, true, false, length, get_or, take, drop, sym, ◌∙◌, rules, arith}
use Rattle.std.proofs.Math.Seq.{take_all}
use Rattle.std.proofs.lemmas.List.{length-drop}
use Rattle.std.specs.Int.Signed.{non_neg}
use Rattle.rules.specs.Words.{is_in}
use Rattle.walk.proofs.Bits.{not_negative}
use Rattle.walk.proofs.Scans.{formed_twice, formed_rest}
use Rattle.walk.proofs.lists.ids_formed.Goals as goal

after : (ids : List ℤ) (i : ℕ) → take (length ids - (i + 1)) (drop (i + 1) ids) ≡ drop (i + 1) ids
after ids i = take_all (length ids - (i + 1)) (drop (i + 1) ids) (simp length-drop (omega arith))

pub returns-then-is_in : goal.returns-then-is_in
returns-then-is_in c =
    let ids = c.args.ids.now in
    let i = c.loop-i.i in
    let found : is_in (take (length ids - (i + 1)) (drop (i + 1) ids)) (get_or ids i (pos 0)) ≡ true = search rules in
    sym (c.loop-i.invariant ∙ formed_twice ids i (omega arith) (rw (after ids i) at found))

pub loop-i-preserved : goal.loop-i-preserved
loop-i-preserved c =
    let ids = c.args.ids.now in
    let i = c.loop-i.i in
    let found : is_in (take (length ids - (i + 1)) (drop (i + 1) ids)) (get_or ids i (pos 0)) ≡ false = search rules in
    let sign : non_neg (get_or ids i (pos 0)) ≡ true = search (rules, not_negative) in
    c.loop-i.invariant ∙ formed_rest ids i (omega arith) sign (rw (after ids i) at found)
