-- One byte more is stored, behind the name, and at the end all are.
use Rattle.std.proofs.Common.{ℕ, ◌+◌, List, [], ◌∷◌, get_or, sym, ap, ◌∙◌, arith}
use Rattle.json_store.specs.Puts.{part}
use Rattle.json_store.proofs.Stores.{sets_more, sets_done, part_length, part_at, part_before}
use Rattle.json_store.proofs.texts.copy_name.Goals as goal

pub loop-i-preserved : goal.loop-i-preserved
loop-i-preserved c =
    let at = c.args.at in
    let l = c.loop-i in
    let name = part 146 33 c.args.texts.now in
    let byte = get_or l.texts (146 + l.i) 0 in
    record {
      name = part_before l.texts (at + l.i) (byte ∷ []) 146 33 (omega arith) ∙ l.invariant.name;
      stored =
          l.invariant.stored
          ∙ sets_more l.texts at l.i name 0 byte (omega (arith, part_length 146 33 c.args.texts.now)) (sym (part_at 146 33 l.texts l.i (omega arith)) ∙ ap (λ (r : List ℕ). get_or r l.i 0) l.invariant.name);
    }

pub returns : goal.returns
returns c =
    let l = c.loop-i in
    sym (l.invariant.stored ∙ sets_done l.texts (c.args.at + l.i) l.i (part 146 33 c.args.texts.now) (omega (arith, part_length 146 33 c.args.texts.now)))
