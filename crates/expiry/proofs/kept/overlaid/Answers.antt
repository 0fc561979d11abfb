use Rattle.std.proofs.Common.{rules, ◌≡◌, ◌<◌, refl, sym, ◌∙◌, length, arith}
use Rattle.formed.proofs.Scans.{slots as slots_long}
use Rattle.expiry.specs.Found.{overlay}
use Rattle.expiry.proofs.Overlaid.{stored, left, laid_all}
use Rattle.expiry.proofs.kept.overlaid.Goals as goal
use Rattle.expiry.proofs.kept.overlaid.Goals.{then-why-ne-NOTHING, else-why-ne-NOTHING}

pub loop-k-init : goal.loop-k-init
loop-k-init c = (search (rules, slots_long), search (rules, slots_long), refl)

pub loop-k-preserved : goal.loop-k-preserved
loop-k-preserved c =
    let i = c.loop-k.invariant in
    let a = c.args in
    let b : c.loop-k.k < length a.stays = omega (arith, i.0, c.loop-k-test.true) in
    let q : length a.stays ≡ length a.slots = i.0 ∙ sym i.1 in (
      i.0,
      i.1,
      elim c.if-why-ne-NOTHING.branch [
        | then-why-ne-NOTHING w ↦ stored a.by c.loop-k.k a.stays a.slots b q i.2 w.if-why-ne-NOTHING.true w.stays-is
        | else-why-ne-NOTHING w ↦ left a.by c.loop-k.k a.stays a.slots b q i.2 w.if-why-ne-NOTHING.false w.stays-is
      ],
    )

pub returns : goal.returns
returns c = let i = c.loop-k.invariant in i.2 ∙ laid_all (overlay c.args.by) c.loop-k.k _ _ (omega (arith, i.0, i.1, c.loop-k-test.false))
