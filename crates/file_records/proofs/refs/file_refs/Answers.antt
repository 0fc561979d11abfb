-- Each in its slot.
use Rattle.std.proofs.Common.{ℕ, refl, ap, ◌∙◌, arith, rules}
use Rattle.records.specs.Blanks.{no_refs}
use Rattle.records.specs.declared.reference.Refs.{Refs}
use Rattle.rules.specs.Layout.{laid_refs}
use Rattle.tables.proofs.Each.{made_refs}
use Rattle.json_store.specs.Made.{each}
use Rattle.file_records.specs.Decoded.{item_at, ref_at}
use Rattle.file_records.proofs.Arranged.{table_laid}
use Rattle.file_records.proofs.Filling.{filled}
use Rattle.file_records.proofs.refs.file_refs.Goals as goal

pub returns : goal.returns
unfolding no_refs
returns c =
    table_laid made_refs (filled c.count_of-count.ensures.within (ap (λ (t : Refs). t.items) c.blank-refs.ensures) c.fill.ensures (λ i x b p. search rules)) (omega arith) refl
    ∙ ap (λ (k : ℕ). laid_refs (each (λ j. ref_at c.args.bytes.now c.args.cells.now (item_at 12 8466 j)) k)) c.count_of-count.ensures.count
