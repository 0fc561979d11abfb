-- The order is the one that `SortOrder::blank` gives, and the chosen id is 0.
use Rattle.records.specs.Blanks.{no_sort_orders_part}
use Rattle.records.proofs.part.SortOrdersPart.blank.Statement.{statement}
use Rattle.records.proofs.part.SortOrdersPart.blank.Tie as tie

pub blank_spec : {M : Type 1} → statement M
unfolding no_sort_orders_part
blank_spec = tie.close (tie.spec (λ c κs. tt) (λ c. cc))
