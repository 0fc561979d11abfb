-- A fault is found exactly where document 01 has the metadata not well formed, or the start.
use Prim.Native.Nat.{ℕ}
use mathlib.Core.Path.{◌≡◌, refl, ◌∙◌}
use mathlib.Core.Bool.{Bool, true, ◌&&◌}
use mathlib.Core.List.{List, [], ◌∷◌}
use borrow.Author.Tests.{not-false}
use borrow.Table.Steps.{cases}
use Rattle.records.specs.declared.metadata.TableMetadata.{TableMetadata}
use Rattle.records.specs.declared.update.UpdateList.{UpdateList}
use Rattle.records.specs.declared.run.RunTerms.{RunTerms}
use Rattle.rules.specs.Replies.{start_not_formed}
use Rattle.rules.specs.Words.{if_some}
use Rattle.rules.specs.WellFormed.{file_name_formed, snapshots_formed, refs_formed, snapshot_log_formed, metadata_log_formed, schemas_formed, orders_formed, specs_formed, statistics_formed, fields_formed, refs_held, main_agrees, current_schema_held, default_order_held, default_spec_held, metadata_formed}
use Rattle.rules.specs.Blanks.{is_tidy_snapshots, is_tidy_refs, is_tidy_snapshot_log, is_tidy_metadata_log, is_tidy_schemas, is_tidy_sort_orders, is_tidy_partition_specs, is_tidy_statistics, is_tidy_fields, is_tidy_metadata}
use Rattle.rules.specs.Layout.{given, read_text, read_metadata}
use Rattle.rules.specs.Register as plain
use Rattle.rules.specs.Answer.{Lent, answer}
use Rattle.rules.proofs.Checks.{both, and_left, and_right, parts, whole, Passed, passed, passed_before, passed_after, first_after}
use Rattle.rules.proofs.Answer.Laws.{Formed}
use Rattle.rules.proofs.Answer.Start.{not_formed_one, formed_not_one}
use Rattle.faults.specs.Faults.{part_faults, agreement_faults, metadata_faults, metadata_fault, file_faults, start_fault}
use Rattle.faults.proofs.Parts.{FineParts, fine_parts, faultless_parts, parts_numbered, all_numbered}

-- ---- metadata

module _ (m : TableMetadata) where
  -- each part is fine, and the parts agree
  fine_formed : FineParts m → Passed (agreement_faults (read_metadata m)) → Formed m
  unfolding agreement_faults is_tidy_metadata metadata_formed
  fine_formed k a =
      record {
        tidy =
            whole (is_tidy_snapshots m.snapshots)
            (is_tidy_refs m.refs ∷ is_tidy_snapshot_log m.snapshot_log ∷ is_tidy_metadata_log m.metadata_log ∷ is_tidy_schemas m.schemas ∷ is_tidy_sort_orders m.sort_orders ∷ is_tidy_statistics m.statistics ∷ is_tidy_statistics m.partition_statistics ∷ is_tidy_partition_specs m.partition_specs ∷ is_tidy_fields m.fields ∷ [])
            (k.snapshots.0, (k.refs.0, (k.snapshot_log.0, (k.metadata_log.0, (k.schemas.0, (k.orders.0, (k.statistics.0, (k.partition_statistics.0, (k.specs.0, (k.fields.0, tt))))))))));
        formed =
            let q : plain.Metadata = read_metadata m in
            whole (snapshots_formed q.snapshots)
            (refs_formed q.refs ∷ snapshot_log_formed q.snapshot_log ∷ metadata_log_formed q.metadata_log ∷ schemas_formed q.schemas ∷ orders_formed q.orders ∷ statistics_formed q.statistics ∷ statistics_formed q.partition_statistics ∷ specs_formed q.specs ∷ fields_formed q.fields ∷ refs_held q ∷ main_agrees q ∷ current_schema_held q ∷ default_order_held q ∷ default_spec_held q ∷ []) (
              k.snapshots.1,
              (
                k.refs.1,
                (
                  k.snapshot_log.1,
                  (
                    k.metadata_log.1,
                    (
                      k.schemas.1,
                      (
                        k.orders.1,
                        (
                          k.statistics.1,
                          (
                            k.partition_statistics.1,
                            (
                              k.specs.1,
                              (
                                k.fields.1,
                                (not-false (refs_held q) a.0, (not-false (main_agrees q) a.1.0, (not-false (current_schema_held q) a.1.1.0, (not-false (default_order_held q) a.1.1.1.0, (not-false (default_spec_held q) a.1.1.1.1.0, tt))))),
                              ),
                            ),
                          ),
                        ),
                      ),
                    ),
                  ),
                ),
              ),
            );
      }

  pub faultless_formed : metadata_fault m ≡ 0 → Formed m
  unfolding metadata_fault metadata_faults agreement_faults
  faultless_formed e =
      fine_formed (fine_parts m (passed_before (part_faults m) (agreement_faults (read_metadata m)) e))
      (passed (agreement_faults (read_metadata m)) refl (passed_after (part_faults m) (agreement_faults (read_metadata m)) (parts_numbered m) e))

  pub formed_faultless : Formed m → metadata_fault m ≡ 0
  unfolding metadata_fault metadata_faults agreement_faults is_tidy_metadata metadata_formed
  formed_faultless f =
      let q : plain.Metadata = read_metadata m in
      let t = parts (is_tidy_snapshots m.snapshots)
      (is_tidy_refs m.refs ∷ is_tidy_snapshot_log m.snapshot_log ∷ is_tidy_metadata_log m.metadata_log ∷ is_tidy_schemas m.schemas ∷ is_tidy_sort_orders m.sort_orders ∷ is_tidy_statistics m.statistics ∷ is_tidy_statistics m.partition_statistics ∷ is_tidy_partition_specs m.partition_specs ∷ is_tidy_fields m.fields ∷ [])
      f.tidy in
      let k = parts (snapshots_formed q.snapshots)
      (refs_formed q.refs ∷ snapshot_log_formed q.snapshot_log ∷ metadata_log_formed q.metadata_log ∷ schemas_formed q.schemas ∷ orders_formed q.orders ∷ statistics_formed q.statistics ∷ statistics_formed q.partition_statistics ∷ specs_formed q.specs ∷ fields_formed q.fields ∷ refs_held q ∷ main_agrees q ∷ current_schema_held q ∷ default_order_held q ∷ default_spec_held q ∷ [])
      f.formed in
      let a = k.1.1.1.1.1.1.1.1.1.1 in
      first_after (part_faults m) (agreement_faults q) (parts_numbered m)
      (faultless_parts m
      (record {
        fields = (t.1.1.1.1.1.1.1.1.1.0, k.1.1.1.1.1.1.1.1.1.0);
        snapshots = (t.0, k.0);
        refs = (t.1.0, k.1.0);
        snapshot_log = (t.1.1.0, k.1.1.0);
        metadata_log = (t.1.1.1.0, k.1.1.1.0);
        schemas = (t.1.1.1.1.0, k.1.1.1.1.0);
        orders = (t.1.1.1.1.1.0, k.1.1.1.1.1.0);
        statistics = (t.1.1.1.1.1.1.0, k.1.1.1.1.1.1.0);
        partition_statistics = (t.1.1.1.1.1.1.1.0, k.1.1.1.1.1.1.1.0);
        specs = (t.1.1.1.1.1.1.1.1.0, k.1.1.1.1.1.1.1.1.0);
      }))
      ∙ rw (a.0, a.1.0, a.1.1.0, a.1.1.1.0, a.1.1.1.1.0)

-- ---- a start

-- the metadata is well formed, and the current file's name, if one is given, is not too long
pub record FormedStart (m : TableMetadata) (terms : RunTerms) : Type 0 where
  pub metadata : Formed m
  pub file : if_some file_name_formed (given terms.has_file (read_text terms.file)) ≡ true

module _ (m : TableMetadata) (terms : RunTerms) where
  pub faultless_start : start_fault m terms ≡ 0 → FormedStart m terms
  unfolding start_fault metadata_fault file_faults
  faultless_start e =
      record {
        metadata = faultless_formed m (passed_before (metadata_faults m) (file_faults terms) e);
        file = not-false (if_some file_name_formed (given terms.has_file (read_text terms.file))) (passed (file_faults terms) refl (passed_after (metadata_faults m) (file_faults terms) (all_numbered m) e)).0;
      }

  pub start_faultless : FormedStart m terms → start_fault m terms ≡ 0
  unfolding start_fault metadata_fault file_faults
  start_faultless f = first_after (metadata_faults m) (file_faults terms) (all_numbered m) (formed_faultless m f.metadata) ∙ rw f.file

-- ---- the run's number

module _ (m : TableMetadata) (us : UpdateList) (terms : RunTerms) (lent : Lent) where
  -- a run is answered 1 exactly where its start has a fault
  pub one_at_fault : (answer m us terms lent).number ≡ start_not_formed → start_fault m terms ≡ 0 → ⊥
  one_at_fault e z =
      let f : FormedStart m terms = faultless_start m terms z in
      formed_not_one m us terms lent (both f.metadata.tidy (both f.metadata.formed f.file)) e

  pub fault_one : (start_fault m terms ≡ 0 → ⊥) → (answer m us terms lent).number ≡ start_not_formed
  fault_one n =
      let tidy : Bool = is_tidy_metadata m in
      let formed : Bool = metadata_formed (read_metadata m) in
      let fits : Bool = if_some file_name_formed (given terms.has_file (read_text terms.file)) in
      cases (tidy && (formed && fits))
      (λ t. let k : (formed && fits) ≡ true = and_right tidy (formed && fits) t in
      absurd (n (start_faultless m terms (record { metadata = record { tidy = and_left tidy (formed && fits) t; formed = and_left formed fits k }; file = and_right formed fits k }))))
      (not_formed_one m us terms lent)
