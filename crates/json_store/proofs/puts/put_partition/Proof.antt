-- Byte by byte, and the name; then the id.
use Prim.Native.Nat.{◌+◌, ◌*◌, ◌%◌}
use mathlib.Core.Path.{ap, ◌∙◌}
use native.Mathlib.Omega.{arith}
use borrow.Author.Rules.{rules}
use lib.Seq.{sets}
use Rattle.json_store.specs.Puts.{put_partition, store, partition_bytes}
use Rattle.json_store.proofs.Fields.{partition_stored}
use Rattle.json_store.proofs.puts.put_partition.Statement.{statement}
use Rattle.json_store.proofs.puts.put_partition.Tie as tie

returns : tie.Need-returns
unfolding put_partition
returns c =
    ap (store _) (partition_stored c.args.numbers.now c.args.texts.now _ (1395 + c.args.i % 8 * 42) (omega arith) _ _ _ _ _ c.low_at.ensures c.byte_at.ensures c.low_at-2.ensures c.put_four.ensures c.put_four-2.ensures c.copy_name.ensures) ∙ ap (λ x. store x (sets c.args.texts.now (1395 + c.args.i % 8 * 42) (partition_bytes (store c.args.numbers.now c.args.texts.now)))) c.put_partition_id.ensures

pub put_partition_spec : {M : Type 1} → statement M
put_partition_spec =
    tie.close
    (tie.spec
    (λ c. search rules)
    (λ c. search rules)
    (λ c κs. search rules)
    (λ c κs. search rules)
    (λ c κs. search rules)
    (λ c. search rules)
    (λ c. search rules)
    (λ c. search rules)
    (λ c κs. search rules)
    (λ c κs. search rules)
    (λ c. search rules)
    (λ c κs. search rules)
    (λ c κs. search rules)
    returns)
