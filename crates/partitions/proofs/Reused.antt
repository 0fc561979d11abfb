-- A spec whose fields have their given ids, or those that they reuse.
use native.Mathlib.Omega.{arith}
use mathlib.Core.Path.{◌≡◌, sym, ap, ◌∙◌}
use mathlib.Core.List.{List, map}
use lib.ListN.{length, length-map}
use Rattle.records.specs.declared.partition.PartitionSpec.{PartitionSpec}
use Rattle.rules.specs.Register as plain
use Rattle.rules.specs.SpecUpdates.{fields_of_all, with_field_id, given_or_reused, reusing}
use Rattle.rules.specs.Layout.{read_partition_spec, laid_partition_spec}
use Rattle.rules.proofs.Slots.Reread.{reread_partition_spec}
use Rattle.tables.specs.Laid.{LaidSpec}
use Rattle.tables.proofs.Table.{slotted, read_length}
use Rattle.tables.proofs.Each.{partition_fields, tidy_partition_spec}

-- ---- all fields of a spec

abbrev pub reused_as : List plain.PartitionSpec → plain.PartitionField → plain.PartitionField
reused_as l f = with_field_id (given_or_reused (fields_of_all l) f) f

pub reused_spec_lem : (l : List plain.PartitionSpec) {s r : PartitionSpec} → LaidSpec s → r.spec_id ≡ s.spec_id → r.count ≡ s.count → r.items ≡ slotted partition_fields (map (reused_as l) (read_partition_spec s).fields)
    → r ≡ laid_partition_spec (reusing l (read_partition_spec s))
unfolding laid_partition_spec reusing
reused_spec_lem l {s} h p q e =
    let n = q ∙ sym (length-map (read_partition_spec s).fields (reused_as l) ∙ read_length (tidy_partition_spec h)) in
    λ i. record { spec_id = p i; items = e i; count = n i }

-- it is laid out, and what is read of it is what the rule says
module _ (l : List plain.PartitionSpec) {s r : PartitionSpec} (h : LaidSpec s) (e : r ≡ laid_partition_spec (reusing l (read_partition_spec s))) where
  pub reused_read : read_partition_spec r ≡ reusing l (read_partition_spec s)
  reused_read = ap read_partition_spec e ∙ reread_partition_spec (reusing l (read_partition_spec s))

  pub reused_laid : LaidSpec r
  unfolding reusing
  reused_laid =
      let n : length (read_partition_spec r).fields ≡ length (read_partition_spec s).fields = ap (λ (x : plain.PartitionSpec). length x.fields) reused_read ∙ length-map (read_partition_spec s).fields (reused_as l) in
      record { back = ap laid_partition_spec reused_read ∙ sym e; fits = omega (arith, n, h.fits) }
