-- The first `main` decides.
use Rattle.std.proofs.Common.{◌∙◌, sym, arith}
use Rattle.equality.proofs.Derived.{numbers}
use Rattle.formed.proofs.Main.{counted_name, counted_refs, sought_on, sought_here}
use Rattle.formed.proofs.metadata.main_agrees.Goals as goal

pub is_main_name-requires : goal.is_main_name-requires
is_main_name-requires c = counted_name c.requires c.loop-r.r-index _ (omega (arith, counted_refs c.requires))

pub returns-then-is_main_name : goal.returns-then-is_main_name
returns-then-is_main_name c =
    sought_here c.loop-r.invariant c.requires _ (omega (arith, counted_refs c.requires)) (sym c.is_main_name.ensures ∙ c.if-is_main_name.true)
    (c.eq.ensures ∙ numbers c.args.f.current_snapshot_id.0 _)

pub loop-r-preserved : goal.loop-r-preserved
loop-r-preserved c =
    sought_on c.loop-r.invariant c.requires _ (omega (arith, counted_refs c.requires)) (sym c.is_main_name.ensures ∙ c.if-is_main_name.false)
