use Rattle.std.specs.Int.{w32}
use Rattle.partitions.proofs.Free.{larger_fits, highest_fits}
use Rattle.partitions.proofs.fresh.last_partition.Goals as goal

pub field_id-requires-2 : goal.field_id-requires-2
field_id-requires-2 c = rw (c.larger-2.ensures, c.highest.ensures, c.as_slice.ensures) (larger_fits w32 _ _ c.field_key-2.ensures.sfits (highest_fits w32 _ c.given_ids-given.ensures.fits))
