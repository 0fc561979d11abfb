-- Each file in its slot, in the order of the keys.
use Rattle.std.proofs.Common.{◌≡◌, ℕ, ◌+◌, ◌*◌, add-one, get_or, refl, ap, ◌∙◌, arith, rules}
use Rattle.records.specs.Blanks.{no_statistics_files}
use Rattle.records.specs.declared.statistics.StatisticsFiles.{StatisticsFiles}
use Rattle.rules.specs.Layout.{laid_statistics_file}
use Rattle.file_records.specs.Decoded.{statistics_at}
use Rattle.file_records.proofs.Ordered.{statistics_end}
use Rattle.file_records.proofs.Filling.{filled}
use Rattle.file_records.proofs.table.statistics.Goals as goal

pub returns : goal.returns
unfolding no_statistics_files
returns c =
    let a = c.args in
    let order = c.order_of-order.result in
    statistics_end a.bytes.now a.cells.now a.list _ c.order_of-order.ensures.order
    (filled c.count_of-count.ensures.within (ap (λ (t : StatisticsFiles). t.items) c.blank-table.ensures) c.fill.ensures
    (λ i x b p.
    let made : x ≡ laid_statistics_file (statistics_at a.bytes.now a.cells.now (a.list + 1 + get_or order.items i 0 * 6)) = search rules in
    made ∙ ap (λ (n : ℕ). laid_statistics_file (statistics_at a.bytes.now a.cells.now (n + get_or order.items i 0 * 6))) (add-one a.list)))
    (omega arith) refl c.count_of-count.ensures.count
