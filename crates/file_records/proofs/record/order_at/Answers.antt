-- Each field in its slot.
use Rattle.std.proofs.Common.{◌≡◌, ℕ, ◌+◌, ◌*◌, ap, ◌∙◌, arith, rules}
use Rattle.std.proofs.lemmas.Int.{ints, to_z-of_z}
use Rattle.records.specs.Blanks.{no_sort_order}
use Rattle.records.specs.declared.sort_order.SortOrder.{SortOrder}
use Rattle.rules.specs.Layout.{laid_sort_field}
use Rattle.file_records.specs.Decoded.{sort_field_at}
use Rattle.file_records.proofs.Parts.{in_record, order_laid}
use Rattle.file_records.proofs.Filling.{filled}
use Rattle.file_records.proofs.record.order_at.Goals as goal

pub returns : goal.returns
unfolding no_sort_order
returns c =
    let a = c.args in
    order_laid a.bytes.now a.cells.now a.at _ _ (omega arith) c.fill.new.slots _ c.count_of-count.ensures.count (grind (arith, ints, to_z-of_z))
    (filled c.count_of-count.ensures.within (ap (λ (t : SortOrder). t.items) c.blank-order.ensures) c.fill.ensures
    (λ i x b p.
    let made : x ≡ laid_sort_field (sort_field_at a.bytes.now a.cells.now (a.at + 3 + i * 8)) = search rules in
    made ∙ ap (λ (n : ℕ). laid_sort_field (sort_field_at a.bytes.now a.cells.now n)) (in_record a.at i)))
