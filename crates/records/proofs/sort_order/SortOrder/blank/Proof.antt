-- Every field of the order is the one that `SortField::blank` gives.
use Rattle.records.specs.Blanks.{no_sort_order}
use Rattle.records.proofs.sort_order.SortOrder.blank.Statement.{statement}
use Rattle.records.proofs.sort_order.SortOrder.blank.Tie as tie

pub blank_spec : {M : Type 1} → statement M
unfolding no_sort_order
blank_spec = tie.close (tie.spec (λ c κs. tt) (λ c. cc))
