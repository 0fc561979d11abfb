-- The bytes that were passed are stored, and the name stays as it was.
use Rattle.std.proofs.Common.{◌≡◌, ◌+◌, drop}
use Rattle.std.proofs.lemmas.List.Edits.{sets}
use Rattle.json_store.specs.Puts.{part}
use Rattle.json_store.proofs.texts.copy_name.Given as goal

abbrev pub invariant-loop-i : goal.invariant-loop-i
invariant-loop-i l =
    record {
      name : part 146 33 l.texts ≡ part 146 33 l.fn.texts;
      stored : sets l.fn.texts l.at (part 146 33 l.fn.texts) ≡ sets l.texts (l.at + l.i) (drop l.i (part 146 33 l.fn.texts));
    }
