-- Each record of the part is asked what the rule asks of it.
use Rattle.std.proofs.Common.{◌∙◌, pos}
use Rattle.rules.specs.Kinds.{is_tidy_sort_orders_part, add_sort_order_kind, set_default_sort_order_kind, sort_order_kinds}
use Rattle.equality.proofs.Derived.{numbers}
use Rattle.formed.proofs.Used.{fits, one_kind, blank_order_tidy}
use Rattle.formed.proofs.update.sort_orders_fit.Goals as goal

pub returns : goal.returns
unfolding is_tidy_sort_orders_part
returns c =
    let a = c.args in
    rw (
      fits sort_order_kinds a.k (one_kind a.k add_sort_order_kind) (blank_order_tidy a.p.added) c.order_fits.ensures,
      c.eq.ensures ∙ numbers a.p.chosen.0 (pos 0),
      one_kind a.k set_default_sort_order_kind,
    )
