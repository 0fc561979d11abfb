use Rattle.std.proofs.Common.{take, arith}
use Rattle.records.specs.Blanks.{no_ref}
use Rattle.rules.specs.Words.{is_in}
use Rattle.rules.specs.Register as plain
use Rattle.rules.specs.Layout.{read_ref}
use Rattle.formed.proofs.Counted.{all_counted}
use Rattle.formed.proofs.Laid.{refs_slots, refs_fit}
use Rattle.formed.proofs.metadata.refs_held.Goals as goal

pub loop-x-init : goal.loop-x-init
loop-x-init c =
    let t = c.args.t in
    let k = c.args.k in
    let h = c.requires.laid_refs in
    all_counted read_ref no_ref t.items t.count (λ (x : plain.NamedRef). is_in (take k.count k.ids) x.reference.snapshot) (omega (arith, refs_slots h, refs_fit h))
