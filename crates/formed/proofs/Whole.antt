-- Metadata by its parts: each table by itself is tidy and well formed, and then what they say of each other is asked.
use mathlib.Core.Path.{◌≡◌, refl, sym, ◌∙◌}
use mathlib.Core.Bool.{Bool, true, false, ◌&&◌, false≢true, true≢false}
use mathlib.Core.List.{List, [], ◌∷◌, map}
use Rattle.records.specs.declared.metadata.TableMetadata.{TableMetadata}
use Rattle.rules.specs.Words.{eq_z, same_option, all, any}
use Rattle.rules.specs.WellFormed.{snapshots_formed, refs_formed, snapshot_log_formed, metadata_log_formed, schemas_formed, orders_formed, specs_formed, statistics_formed, fields_formed, points_in, main_snapshot, has_schema, has_order, has_spec, refs_held, main_agrees, current_schema_held, default_order_held, default_spec_held, metadata_formed}
use Rattle.rules.specs.Blanks.{is_tidy_snapshots, is_tidy_refs, is_tidy_snapshot_log, is_tidy_metadata_log, is_tidy_schemas, is_tidy_sort_orders, is_tidy_partition_specs, is_tidy_statistics, is_tidy_fields, is_tidy_metadata}
use Rattle.rules.specs.Layout.{read_snapshots, read_refs, read_snapshot_log, read_metadata_log, read_schemas, read_sort_orders, read_partition_specs, read_statistics, read_fields, read_metadata}
use Rattle.rules.proofs.Checks.{and_all, Hold, parts, and_left, and_right}
use Rattle.tables.specs.Laid.{LaidRefs}
use Rattle.formed.proofs.Bools.{apart}
use Rattle.formed.proofs.Laid.{laid_formed_refs}

-- ---- tests that are made where two others passed

five_asked : (t f a b c d e : Bool) → (t && f) ≡ true → (a && b && c && d && e) ≡ (t && (f && a && b && c && d && e))
five_asked true true a b c d e h = refl
five_asked true false a b c d e h = absurd (false≢true h)
five_asked false f a b c d e h = absurd (false≢true h)

five_not_asked : (t f a b c d e : Bool) → (t && f) ≡ false → false ≡ (t && (f && a && b && c && d && e))
five_not_asked true true a b c d e h = absurd (true≢false h)
five_not_asked true false a b c d e h = refl
five_not_asked false f a b c d e h = refl

module _ (m : TableMetadata) where
  -- of each part after the snapshots, whether it is tidy and whether it is well formed
  abbrev after : List (Bool × Bool)
  after =
      (is_tidy_refs m.refs, refs_formed (read_refs m.refs))
      ∷ (is_tidy_snapshot_log m.snapshot_log, snapshot_log_formed (read_snapshot_log m.snapshot_log))
      ∷ (is_tidy_metadata_log m.metadata_log, metadata_log_formed (read_metadata_log m.metadata_log))
      ∷ (is_tidy_schemas m.schemas, schemas_formed (read_schemas m.schemas))
      ∷ (is_tidy_sort_orders m.sort_orders, orders_formed (read_sort_orders m.sort_orders))
      ∷ (is_tidy_statistics m.statistics, statistics_formed (read_statistics m.statistics))
      ∷ (is_tidy_statistics m.partition_statistics, statistics_formed (read_statistics m.partition_statistics))
      ∷ (is_tidy_partition_specs m.partition_specs, specs_formed (read_partition_specs m.partition_specs))
      ∷ (is_tidy_fields m.fields, fields_formed (read_fields m.fields))
      ∷ []

  -- each part by itself
  abbrev pub each_formed : Bool
  each_formed = and_all (is_tidy_snapshots m.snapshots && snapshots_formed (read_snapshots m.snapshots)) (map (λ (x : Bool × Bool). x.0 && x.1) after)

  abbrev all_formed : Bool
  all_formed = and_all (snapshots_formed (read_snapshots m.snapshots)) (map (λ (x : Bool × Bool). x.1) after)

  each_apart : each_formed ≡ (is_tidy_metadata m && all_formed)
  unfolding is_tidy_metadata
  each_apart = apart (is_tidy_snapshots m.snapshots) (snapshots_formed (read_snapshots m.snapshots)) after

  -- what the parts say of each other
  abbrev pub agreeing : Bool
  agreeing =
      all (points_in (read_snapshots m.snapshots)) (read_refs m.refs)
      && same_option eq_z (read_fields m.fields).current (main_snapshot (read_refs m.refs))
      && any (has_schema m.fields.current_schema_id.0) (read_schemas m.schemas)
      && any (has_order m.fields.default_sort_order_id.0) (read_sort_orders m.sort_orders)
      && any (has_spec m.fields.default_spec_id.0) (read_partition_specs m.partition_specs)

  pub whole_formed : each_formed ≡ true → agreeing ≡ (is_tidy_metadata m && metadata_formed (read_metadata m))
  unfolding metadata_formed refs_held main_agrees current_schema_held default_order_held default_spec_held
  whole_formed e = five_asked (is_tidy_metadata m) all_formed _ _ _ _ _ (sym each_apart ∙ e)

  pub whole_not_formed : each_formed ≡ false → false ≡ (is_tidy_metadata m && metadata_formed (read_metadata m))
  unfolding metadata_formed
  whole_not_formed e = five_not_asked (is_tidy_metadata m) all_formed (refs_held (read_metadata m)) (main_agrees (read_metadata m)) (current_schema_held (read_metadata m)) (default_order_held (read_metadata m)) (default_spec_held (read_metadata m)) (sym each_apart ∙ e)

  -- the refs as the functions on tables ask them
  module _ (e : each_formed ≡ true) where
    holds : Hold ((is_tidy_snapshots m.snapshots && snapshots_formed (read_snapshots m.snapshots)) ∷ map (λ (x : Bool × Bool). x.0 && x.1) after)
    holds = parts (is_tidy_snapshots m.snapshots && snapshots_formed (read_snapshots m.snapshots)) (map (λ (x : Bool × Bool). x.0 && x.1) after) e

    pub refs_laid : LaidRefs m.refs
    refs_laid = laid_formed_refs m.refs (and_left (is_tidy_refs m.refs) _ holds.1.0) (and_right (is_tidy_refs m.refs) _ holds.1.0)
