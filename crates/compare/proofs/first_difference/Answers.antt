-- Each comparison is given what the later ones found.
use Rattle.std.proofs.Common.{◌≡◌, ℕ, Bool, List, ap, ◌∙◌}
use Rattle.equality.proofs.Derived.{numbers, snapshot, named_ref, log_entry, file_entry, schema, sort_order, statistics_file, partition_spec}
use Rattle.compare.specs.declared.difference.Difference.{Difference}
use Rattle.compare.specs.First.{unlike, in_part}
use Rattle.compare.specs.Parts.{parts, first_difference}
use Rattle.compare.proofs.first_difference.Goals as goal

-- tests that say the same find the same
alike : {A : Type 0} {derived same : A → A → Bool} → ((x y : A) → derived x y ≡ same x y) → (xs ys : List A) (m n part : ℕ) (later : Difference)
    → in_part part (unlike derived 0 xs ys m n) later ≡ in_part part (unlike same 0 xs ys m n) later
alike {A} f xs ys m n part later = ap (λ (test : A → A → Bool). in_part part (unlike test 0 xs ys m n) later) (λ i x y. f x y i)

pub returns : goal.returns
unfolding parts first_difference
returns c =
    let a = c.args.a in
    let b = c.args.b in
    rw (
      c.compare_fields.ensures,
      c.compare_tables-from_snapshots.ensures ∙ alike snapshot a.snapshots.items b.snapshots.items a.snapshots.count b.snapshots.count 9 c.compare_tables-from_refs.result,
      c.compare_tables-from_refs.ensures ∙ alike named_ref a.refs.items b.refs.items a.refs.count b.refs.count 10 c.compare_tables-from_log.result,
      c.compare_tables-from_log.ensures ∙ alike log_entry a.snapshot_log.items b.snapshot_log.items a.snapshot_log.count b.snapshot_log.count 11 c.compare_tables-from_files.result,
      c.compare_tables-from_files.ensures ∙ alike file_entry a.metadata_log.items b.metadata_log.items a.metadata_log.count b.metadata_log.count 12 c.compare_tables-from_schemas.result,
      c.compare_tables-from_schemas.ensures ∙ alike schema a.schemas.items b.schemas.items a.schemas.count b.schemas.count 13 c.unless-from_schema.result,
      c.unless-from_schema.ensures,
      c.compare_tables-from_orders.ensures ∙ alike sort_order a.sort_orders.items b.sort_orders.items a.sort_orders.count b.sort_orders.count 15 c.unless-from_order.result,
      c.unless-from_order.ensures,
      c.compare_tables-from_statistics.ensures ∙ alike statistics_file a.statistics.items b.statistics.items a.statistics.count b.statistics.count 17 c.compare_tables-from_partition.result,
      c.compare_tables-from_partition.ensures ∙ alike statistics_file a.partition_statistics.items b.partition_statistics.items a.partition_statistics.count b.partition_statistics.count 18 c.compare_tables-from_specs.result,
    ) (rw (
      c.compare_tables-from_specs.ensures ∙ alike partition_spec a.partition_specs.items b.partition_specs.items a.partition_specs.count b.partition_specs.count 19 c.unless-from_spec.result,
      c.unless-from_spec.ensures,
      c.unless-from_last_partition.ensures,
      c.eq-schema.ensures ∙ numbers a.fields.current_schema_id.0 b.fields.current_schema_id.0,
      c.eq-order.ensures ∙ numbers a.fields.default_sort_order_id.0 b.fields.default_sort_order_id.0,
      c.eq-spec.ensures ∙ numbers a.fields.default_spec_id.0 b.fields.default_spec_id.0,
      c.eq-last_partition.ensures ∙ numbers a.fields.last_partition_id.0 b.fields.last_partition_id.0,
    ))
