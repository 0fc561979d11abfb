-- The text is laid out, with zeros behind it.
use Rattle.std.proofs.Common.{ℕ, List, length, ap, ◌∙◌}
use Rattle.std.proofs.lemmas.List.Edits.{sets}
use Rattle.records.specs.declared.text.Name.{Name}
use Rattle.json_store.specs.Puts.{part}
use Rattle.json_store.proofs.Taken.{length_in, name_laid}
use Rattle.json_store.proofs.record.name.Goals as goal

pub returns : goal.returns
returns c =
    let e = ap (λ (t : Name). t.bytes) c.blank-name.ensures in
    let n = ap length e in
    name_laid c.args.texts.now c.copy_text.new.bytes c.copy_text.result
    (c.copy_text.ensures.len ∙ ap (λ (m : ℕ). length_in m 113 c.args.texts.now) n)
    (c.copy_text.ensures.after ∙ ap (λ (l : List ℕ). sets l 0 (part 114 c.copy_text.result c.args.texts.now)) e)
