-- P1 to P12, the easy wrong turns and the named examples hold of the written rules: one statement over the list of examples, by computation.
use mathlib.Core.Path.{◌≡◌, refl}
use mathlib.Core.List.{List, map}
use Rattle.rules.specs.Register.{Metadata, Update, Terms, Outcome}
use Rattle.rules.specs.Limit.{limit_of}
use Rattle.rules.specs.Names.{trimmed}
use Rattle.rules.specs.Window.{is_before}
use Rattle.rules.specs.Walk.{follow, ancestors, reach}
use Rattle.rules.specs.WellFormed.{snapshots_formed, refs_formed, snapshot_log_formed, metadata_log_formed, schemas_formed, orders_formed, specs_formed, statistics_formed, refs_held, main_agrees, current_schema_held, default_order_held, default_spec_held, fields_formed, metadata_formed, update_formed}
use Rattle.rules.specs.Partitions.{is_redundant}
use Rattle.rules.specs.ChangeLog.{logs_addition, logs_main, logs_removal}
use Rattle.rules.specs.Offers.{offered_schema, is_tidy_offer, offer_formed, offered_spec, is_tidy_spec, spec_offer_formed}
use Rattle.rules.specs.SingleUpdates.{assign_uuid, upgrade_format_version_checks, upgrade_format_version, set_location}
use Rattle.rules.specs.SnapshotUpdates.{add_snapshot_checks, add_snapshot, remove_snapshots}
use Rattle.rules.specs.RefUpdates.{set_ref_checks, set_ref, set_branch_snapshot_checks, set_branch_snapshot, remove_ref}
use Rattle.rules.specs.SchemaUpdates.{is_taken, add_schema_checks, add_schema, set_current_schema_checks, set_current_schema, remove_schemas_checks, remove_schemas}
use Rattle.rules.specs.OrderUpdates.{add_sort_order_checks, add_sort_order, set_default_sort_order_checks, set_default_sort_order}
use Rattle.rules.specs.StatisticsUpdates.{set_statistics_checks, set_statistics, remove_statistics}
use Rattle.rules.specs.SpecUpdates.{reusing, is_clashing, is_misfit, is_repeating, free_from, next_free, numbered, fresh_ids, completed, is_out_of_sequence, spec_checks, add_partition_spec_checks, spec_added, add_partition_spec, is_held_misfit, set_default_partition_spec_checks, set_default_partition_spec, remove_partition_specs_checks, remove_partition_specs}
use Rattle.rules.specs.Others.{is_others}
use Rattle.rules.specs.Updates.{offers_formed, checks, update_number, effect}
use Rattle.rules.specs.Close.{is_default_clashing, is_default_misfit, is_default_unfit, intermediates, rebuilt, ends_elsewhere, expired, staying, close_checks, closed}
use Rattle.rules.specs.Moment.{current_at, entries_read, is_whole, removes_and_adds}
use Rattle.rules.specs.RowIds.{row_number, row_next}
use Rattle.rules.specs.Run.{list_sum, run_from, close, start_checks, run}
use Rattle.rules.specs.Rows.{new_snapshots, end_over, is_apart}
use Rattle.rules.specs.FieldIds.{fresh_by, fresh_from, fresh_over, is_reached}
use Rattle.rules.specs.Replay.{strip}
use Rattle.rules.specs.Examples.{Example, reply_to, examples}

-- a run, such that whoever opens this opens every definition that a run comes to
unfoldable pub computed : Terms → Metadata → List Update → Outcome
unfolding limit_of trimmed is_before snapshots_formed refs_formed snapshot_log_formed metadata_log_formed schemas_formed is_redundant orders_formed specs_formed statistics_formed refs_held main_agrees current_schema_held default_order_held default_spec_held fields_formed metadata_formed update_formed offered_schema is_tidy_offer offer_formed offered_spec is_tidy_spec spec_offer_formed logs_addition logs_main logs_removal assign_uuid upgrade_format_version_checks upgrade_format_version set_location add_snapshot_checks add_snapshot remove_snapshots set_ref_checks set_ref set_branch_snapshot_checks set_branch_snapshot remove_ref is_taken add_schema_checks add_schema set_current_schema_checks set_current_schema remove_schemas_checks remove_schemas add_sort_order_checks add_sort_order set_default_sort_order_checks set_default_sort_order set_statistics_checks set_statistics remove_statistics reusing is_clashing is_misfit is_repeating free_from next_free numbered fresh_ids completed is_out_of_sequence spec_checks add_partition_spec_checks spec_added add_partition_spec is_held_misfit set_default_partition_spec_checks set_default_partition_spec remove_partition_specs_checks remove_partition_specs follow reach is_others offers_formed checks update_number effect is_default_clashing is_default_misfit is_default_unfit intermediates rebuilt ends_elsewhere expired staying close_checks closed list_sum run_from close start_checks run
computed terms m us = run terms m us

pub examples_hold : map (λ (e : Example). reply_to e.asked) examples ≡ map (λ (e : Example). e.reply) examples
unfolding computed limit_of follow ancestors reach current_at entries_read is_whole removes_and_adds row_number row_next new_snapshots end_over is_apart fresh_by fresh_from fresh_over is_reached strip
examples_hold = refl
