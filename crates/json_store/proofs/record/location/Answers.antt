-- The text is laid out, with zeros behind it.
use Rattle.std.proofs.Common.{ℕ, List, length, ap, ◌∙◌}
use Rattle.std.proofs.lemmas.List.Edits.{sets}
use Rattle.records.specs.declared.text.Text.{Text}
use Rattle.json_store.specs.Puts.{part}
use Rattle.json_store.proofs.Taken.{length_in, location_laid}
use Rattle.json_store.proofs.record.location.Goals as goal

pub returns : goal.returns
returns c =
    let e = ap (λ (t : Text). t.bytes) c.blank-text.ensures in
    let n = ap length e in
    location_laid c.args.texts.now c.copy_text.new.bytes c.copy_text.result
    (c.copy_text.ensures.len ∙ ap (λ (m : ℕ). length_in m 16 c.args.texts.now) n)
    (c.copy_text.ensures.after ∙ ap (λ (l : List ℕ). sets l 0 (part 17 c.copy_text.result c.args.texts.now)) e)
