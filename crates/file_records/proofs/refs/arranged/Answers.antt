-- Each ref in its slot, in the order of the names.
use Rattle.std.proofs.Common.{refl, ap, arith, rules}
use Rattle.records.specs.Blanks.{no_refs}
use Rattle.records.specs.declared.reference.Refs.{Refs}
use Rattle.file_records.proofs.Named.{refs_fit}
use Rattle.file_records.proofs.Pointed.{slot_at, refs_end}
use Rattle.file_records.proofs.Filling.{filled}
use Rattle.file_records.proofs.refs.arranged.Goals as goal

pub returns : goal.returns
unfolding no_refs
returns c =
    let t = c.args.t in
    let order = c.name_order-order.result in
    refs_end t c.name_order-order.ensures.order
    (filled (refs_fit c.requires) (ap (λ (t : Refs). t.items) c.blank-refs.ensures) c.fill.ensures
    (λ i x b p. search (rules, slot_at c.requires, c.name_order-order.ensures.within i b)))
    (omega arith) refl
