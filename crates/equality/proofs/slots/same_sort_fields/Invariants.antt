-- The fields that are left decide.
use Rattle.std.proofs.Common.{◌≡◌, length, take}
use Rattle.std.specs.Iterator.Adapters.{zip_first, zip_second}
use Rattle.std.specs.Slice.Iter.{iter_rest}
use Rattle.rules.specs.Words.{same_list}
use Rattle.equality.specs.Same.{same_sort_field}
use Rattle.equality.proofs.slots.same_sort_fields.Given as goal

abbrev pub invariant-loop-x : goal.invariant-loop-x
invariant-loop-x l =
    (length (iter_rest (zip_first l.x-iterator)) ≡ length (iter_rest (zip_second l.x-iterator)))
    × (same_list same_sort_field (take l.fn.n l.fn.a.items) (take l.fn.n l.fn.b.items) ≡ same_list same_sort_field (iter_rest (zip_first l.x-iterator)) (iter_rest (zip_second l.x-iterator)))
