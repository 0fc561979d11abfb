-- From the last field to the first.
use Rattle.std.proofs.Common.{◌+◌, ◌-◌, ℕ, refl, ap, ◌∙◌, pos, arith}
use Rattle.rules.specs.Words.{or_else}
use Rattle.file_records.specs.Decoded.{maybe_narrow_at}
use Rattle.file_records.proofs.Largest.{top_start, top_on, top_end, id_place, highest_in_lem}
use Rattle.file_records.proofs.partition.highest_id.Goals as goal

pub loop-i-init : goal.loop-i-init
loop-i-init c = rw c.count_of-i.ensures.count (top_start refl)

pub loop-i-preserved : goal.loop-i-preserved
loop-i-preserved c =
    let a = c.args in
    let k = c.loop-i.i - 1 in
    top_on c.loop-i.invariant (omega arith)
    (c.field_id.ensures ∙ ap (λ (p : ℕ). or_else (maybe_narrow_at a.bytes.now a.cells.now p) (pos (1000 + k))) (id_place a.list k))
    c.larger_id-highest.ensures

pub returns : goal.returns
returns c = top_end c.loop-i.invariant (omega arith) ∙ highest_in_lem c.args.bytes.now c.args.cells.now c.args.list
