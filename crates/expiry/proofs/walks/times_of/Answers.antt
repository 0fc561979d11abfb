use Rattle.std.proofs.Common.{◌<◌, ◌∙◌, ap, set, arith}
use Rattle.std.specs.Int.{w64}
use borrow.Author.Rules.{sfits_of}
use mir.Facts.{to_z-of_z}
use lib.ListN.{length-take}
use lib.Seq.{get_or-take}
use Rattle.records.specs.declared.snapshot.Snapshot.{Snapshot}
use Rattle.tables.proofs.Keyed.{keyed_on}
use Rattle.tables.proofs.Each.{tidy_snapshots}
use Rattle.expiry.proofs.walks.times_of.Goals as goal

pub loop-i-preserved : goal.loop-i-preserved
loop-i-preserved c =
    let t = c.args.t in
    let b : c.loop-i.i < t.count = omega (arith, c.loop-i-test.true, length-take t.count t.items) in
    keyed_on (tidy_snapshots c.requires) (λ s. s.time) _ b c.loop-i.invariant
    (ap (set c.loop-i.times c.loop-i.i) (to_z-of_z {w = w64} (sfits_of c.milliseconds.type_inv) ∙ c.milliseconds.ensures ∙ ap (λ (s : Snapshot). s.timestamp_ms.0) (get_or-take t.count t.items c.loop-i.i _ b)))
