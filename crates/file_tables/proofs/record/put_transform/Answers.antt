use Rattle.std.proofs.Common.{arith}
use Rattle.file_text.proofs.Pieces.{then, is}
use Rattle.file_tables.proofs.Texts.{bucket_is}
use Rattle.file_tables.proofs.record.put_transform.Goals as goal

pub returns-in_default : goal.returns-in_default
returns-in_default c = is (then c.put_number-at.ensures c.put-in_default.ensures) (bucket_is _ _ c.of_buckets.ensures (λ e. omega arith) (λ e. omega arith) (λ e. omega arith) (λ e. omega arith))
