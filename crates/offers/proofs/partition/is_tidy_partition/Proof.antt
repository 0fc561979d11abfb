-- The code asks for two numbers and a name.
use borrow.Author.Rules.{rules}
use mathlib.Core.Path.{sym}
use Rattle.offers.proofs.Partitions.{tidy_parts}
use Rattle.offers.proofs.partition.is_tidy_partition.Statement.{statement}
use Rattle.offers.proofs.partition.is_tidy_partition.Tie as tie

pub is_tidy_partition_spec : {M : Type 1} → statement M
is_tidy_partition_spec =
    tie.close
    (tie.spec
    (λ c κs. search rules)
    (λ c κs. search rules)
    (λ c κs. search rules)
    (λ c. rw (c.is_number_at.ensures, c.is_number_at-2.ensures, c.is_name_at.ensures) (sym (tidy_parts c.args.bytes.now))))
