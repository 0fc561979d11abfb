use Rattle.std.proofs.Common.{◌≡◌, drop, not, take}
use Rattle.rules.specs.Words.{any, eq_z}
use Rattle.tables.proofs.sort_orders.is_unfit.Given as goal

abbrev pub invariant-loop-f : goal.invariant-loop-f
invariant-loop-f l =
    any (λ f. not (any (λ g. eq_z g.id.0 f.source_id.0) (take l.s.count l.s.items))) l.f-items
    ≡ any (λ f. not (any (λ g. eq_z g.id.0 f.source_id.0) (take l.s.count l.s.items))) (drop l.f-index l.f-items)
