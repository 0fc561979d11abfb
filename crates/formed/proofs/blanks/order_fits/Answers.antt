use Rattle.std.proofs.Common.{◌∙◌, pos, arith}
use Rattle.records.specs.Blanks.{no_sort_field}
use Rattle.records.specs.declared.sort_order.SortField.{SortField}
use Rattle.rules.specs.Blanks.{is_zero, is_zero_z, is_tidy_sort_order, is_blank_sort_order}
use Rattle.equality.proofs.Derived.{numbers, sort_field}
use Rattle.formed.proofs.Unused.{blanks_place_two, same_as_no_field}
use Rattle.formed.proofs.blanks.order_fits.Goals as goal

pub returns : goal.returns
unfolding is_tidy_sort_order is_blank_sort_order
returns c =
    let o = c.args.o in
    rw (c.eq.ensures ∙ numbers o.order_id.0 (pos 0))
    (blanks_place_two c.args.used (is_zero_z o.order_id.0) (is_zero o.count) 8 o.count o.items c.unused_from-from.ensures (λ (f : SortField). sort_field f no_sort_field ∙ same_as_no_field f) (omega arith) (rw c.blank.ensures at c.blank_from.ensures))
