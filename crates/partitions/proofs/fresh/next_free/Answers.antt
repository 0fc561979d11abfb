use Rattle.std.proofs.Common.{refl, sym, ◌∙◌, length}
use Rattle.partitions.proofs.Free.{passed_none, passed_one, passed_free, passed_all, goes_on_lem}
use Rattle.partitions.proofs.fresh.next_free.Goals as goal

pub loop-init : goal.loop-init
loop-init c = rw (goes_on_lem c.args.after.0 (length c.args.taken.now) c.requires c.next-key.ensures) (passed_none c.args.after.0 c.requires refl)

pub loop-preserved : goal.loop-preserved
loop-preserved c = passed_one c.loop.invariant c.loop-test.true (sym c.is_in.ensures ∙ c.if-not-is_in.false) c.next-key-in-loop.ensures

pub returns-then-not-is_in : goal.returns-then-not-is_in
returns-then-not-is_in c = passed_free c.loop.invariant c.args.after.0 refl (sym c.is_in.ensures ∙ c.if-not-is_in.true)

pub returns : goal.returns
returns c = passed_all c.loop.invariant c.args.after.0 refl c.loop-test.false
