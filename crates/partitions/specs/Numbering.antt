-- One field of a spec, numbered by itself: document 02, request (ix), as the rules write it for a list of fields (`numbered`, `fresh_ids`).
use Rattle.std.specs.Prelude.{◌≡◌, false, List, [], ◌∷◌, ℤ, pos}
use Rattle.std.specs.Int.Signed.{lt_z}
use Rattle.std.specs.Int.{w32}
use Rattle.std.proofs.Common.{SFits}
use Rattle.std.proofs.Math.Option.{none, some}
use Rattle.rules.specs.Words.{larger, any}
use Rattle.rules.specs.Capacities.{largest_field_id}
use Rattle.rules.specs.Register.{PartitionField}
use Rattle.rules.specs.Layout.{laid_partition_field}
use Rattle.records.specs.declared.partition.PartitionField as slots
use Rattle.rules.specs.SpecUpdates.{with_field_id, next_free, fresh_ids}

-- the number from which the next field goes on
abbrev pub reached : List ℤ → ℤ → PartitionField → ℤ
reached taken n f = elim f.id [ none ↦ next_free taken n | some id ↦ larger n id ]

-- the field with an id
abbrev pub with_fresh : List ℤ → ℤ → PartitionField → PartitionField
with_fresh taken n f = elim f.id [ none ↦ with_field_id (some (next_free taken n)) f | some id ↦ f ]

-- no fresh id is too large; the number from which the next field goes on, and the field with an id, as it is laid out
pub record IsNumbered (taken : List ℤ) (n : ℤ) (f : PartitionField) (number : ℤ) (numbered : slots.PartitionField) : Type 0 where
  pub fresh_small : any (lt_z (pos largest_field_id)) (fresh_ids taken n (f ∷ [])) ≡ false
  pub number_value : number ≡ reached taken n f
  pub number_fits : SFits w32 number
  pub field_value : numbered ≡ laid_partition_field (with_fresh taken n f)
