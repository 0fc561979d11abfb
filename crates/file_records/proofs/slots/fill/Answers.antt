-- Each is stored in its turn, and in the end nothing is left.
use Rattle.std.proofs.Common.{refl, sym, ◌∙◌, arith}
use Rattle.json_store.specs.Made.{each}
use Rattle.json_store.proofs.Each.{each_length, each_at}
use Rattle.json_store.proofs.Stores.{sets_on, sets_done}
use Rattle.file_records.proofs.slots.fill.Goals as goal

pub loop-i-init : goal.loop-i-init
loop-i-init g c = λ f h. refl

pub loop-i-preserved : goal.loop-i-preserved
loop-i-preserved g c = λ f h.
    c.loop-i.invariant f h
    ∙ sets_on c.loop-i.slots c.loop-i.i (each f c.args.count) c.made.result c.made.result (omega (arith, each_length f c.args.count))
    (h c.loop-i.i c.made.result c.loop-i-test.true c.made.ensures ∙ sym (each_at f c.args.count c.loop-i.i c.made.result c.loop-i-test.true))

pub returns : goal.returns
returns g c = λ f h. sym (c.loop-i.invariant f h ∙ sets_done c.loop-i.slots c.loop-i.i c.loop-i.i (each f c.args.count) (omega (arith, each_length f c.args.count)))
