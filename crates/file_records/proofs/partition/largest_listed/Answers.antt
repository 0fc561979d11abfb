-- From the last spec to the first.
use Rattle.std.proofs.Common.{◌-◌, ℕ, map, refl, ap, ◌∙◌, arith}
use Rattle.rules.specs.Words.{highest}
use Rattle.file_records.specs.Decoded.{spec_fields_at}
use Rattle.file_records.proofs.Largest.{top_start, top_on, top_end, id_of, fields_place, largest_in}
use Rattle.file_records.proofs.partition.largest_listed.Goals as goal

pub loop-i-init : goal.loop-i-init
loop-i-init c = rw c.count_of-i.ensures.count (top_start refl)

pub loop-i-preserved : goal.loop-i-preserved
loop-i-preserved c =
    let a = c.args in
    top_on c.loop-i.invariant (omega arith)
    (c.highest_id-of_spec.ensures ∙ ap (λ (p : ℕ). highest (map id_of (spec_fields_at a.bytes.now a.cells.now p))) (fields_place (c.loop-i.i - 1)))
    c.larger_id-highest.ensures

pub returns : goal.returns
returns c = top_end c.loop-i.invariant (omega arith) ∙ largest_in c.args.bytes.now c.args.cells.now
