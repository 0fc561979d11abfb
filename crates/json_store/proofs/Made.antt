-- The update is made of its parts, kind by kind.
use Prim.Native.Nat.{ℕ, ◌≤◌, ◌<◌}
use mathlib.Core.Path.{◌≡◌, refl}
use mathlib.Core.Bool.{cond}
use mathlib.Core.List.{List}
use native.Mathlib.Omega.{arith}
use borrow.Author.Tests.{eqb-true, ne_eqb}
use borrow.Table.Steps.{cases}
use lib.Dec.{eqb, ltb}
use Rattle.records.specs.Blanks.{no_statistics_part, no_update}
use Rattle.records.specs.declared.part.FieldsPart.{FieldsPart}
use Rattle.records.specs.declared.part.SnapshotsPart.{SnapshotsPart}
use Rattle.records.specs.declared.part.RefsPart.{RefsPart}
use Rattle.records.specs.declared.part.SchemasPart.{SchemasPart}
use Rattle.records.specs.declared.part.SortOrdersPart.{SortOrdersPart}
use Rattle.records.specs.declared.part.StatisticsPart.{StatisticsPart}
use Rattle.records.specs.declared.part.PartitionSpecsPart.{PartitionSpecsPart}
use Rattle.records.specs.declared.update.TableUpdate.{TableUpdate}
use Rattle.rules.specs.Kinds.{laid_update}
use Rattle.json_members.proofs.Cases.{all_below_lem}
use Rattle.json_store.specs.Made.{update_in, laid_or}
use Rattle.json_store.specs.Parts.{made_kind, fields_part_in, snapshots_part_in, refs_part_in, schemas_part_in, sort_orders_part_in, specs_part_in, in_parts}

-- ---- the kinds, but those that are left out

pub made_high : (kind : ℕ) → 20 < kind → made_kind kind ≡ 0
unfolding made_kind
made_high kind h =
    rw
    (ne_eqb kind 1 (λ e. omega arith), ne_eqb kind 2 (λ e. omega arith), ne_eqb kind 3 (λ e. omega arith), ne_eqb kind 4 (λ e. omega arith), ne_eqb kind 6 (λ e. omega arith), ne_eqb kind 7 (λ e. omega arith), ne_eqb kind 8 (λ e. omega arith), ne_eqb kind 9 (λ e. omega arith), ne_eqb kind 10 (λ e. omega arith), ne_eqb kind 11 (λ e. omega arith), ne_eqb kind 12 (λ e. omega arith), ne_eqb kind 13 (λ e. omega arith), ne_eqb kind 18 (λ e. omega arith), ne_eqb kind 19 (λ e. omega arith), ne_eqb kind 20 (λ e. omega arith))

abbrev others : ℕ → ℕ
others kind = cond (eqb kind 5) 0 (cond (ltb kind 14) kind (cond (ltb 17 kind) kind 0))

pub made_low : (kind : ℕ) → kind ≤ 20 → made_kind kind ≡ others kind
unfolding made_kind
made_low kind h = eqb-true (made_kind kind) (others kind) (all_below_lem 21 (λ k. eqb (made_kind k) (others k)) refl kind (omega arith))

-- ---- part by part

module _ (kind place : ℕ) (slots numbers texts : List ℕ) where
  pub made_parts : in_parts kind place slots numbers texts ≡ laid_or (update_in kind place slots numbers texts)
  unfolding no_update update_in laid_update made_kind fields_part_in snapshots_part_in refs_part_in schemas_part_in sort_orders_part_in specs_part_in
  made_parts =
      cases (eqb kind 1) (λ t. rw (eqb-true kind 1 t))
      (λ n1. rw n1 (cases (eqb kind 2) (λ t. rw (eqb-true kind 2 t))
      (λ n2. rw n2 (cases (eqb kind 3) (λ t. rw (eqb-true kind 3 t))
      (λ n3. rw n3 (cases (eqb kind 4) (λ t. rw (eqb-true kind 4 t))
      (λ n4. rw n4 (cases (eqb kind 6) (λ t. rw (eqb-true kind 6 t))
      (λ n6. rw n6 (cases (eqb kind 7) (λ t. rw (eqb-true kind 7 t))
      (λ n7. rw n7 (cases (eqb kind 8) (λ t. rw (eqb-true kind 8 t))
      (λ n8. rw n8 (cases (eqb kind 9) (λ t. rw (eqb-true kind 9 t))
      (λ n9. rw n9 (cases (eqb kind 10) (λ t. rw (eqb-true kind 10 t))
      (λ n10. rw n10 (cases (eqb kind 11) (λ t. rw (eqb-true kind 11 t))
      (λ n11. rw n11 (cases (eqb kind 12) (λ t. rw (eqb-true kind 12 t))
      (λ n12. rw n12 (cases (eqb kind 13) (λ t. rw (eqb-true kind 13 t))
      (λ n13. rw n13 (cases (eqb kind 18) (λ t. rw (eqb-true kind 18 t))
      (λ n18. rw n18 (cases (eqb kind 19) (λ t. rw (eqb-true kind 19 t))
      (λ n19. rw n19 (cases (eqb kind 20) (λ t. rw (eqb-true kind 20 t))
      (λ n20. rw n20)))))))))))))))))))))))))))))

  pub made_of : {made : ℕ} {fields : FieldsPart} {snapshots : SnapshotsPart} {refs : RefsPart} {schemas : SchemasPart} {orders : SortOrdersPart} {statistics : StatisticsPart} {specs : PartitionSpecsPart} → made ≡ made_kind kind → fields ≡ fields_part_in kind numbers texts → snapshots ≡ snapshots_part_in kind slots numbers → refs ≡ refs_part_in kind slots numbers texts → schemas ≡ schemas_part_in kind place slots numbers → orders ≡ sort_orders_part_in kind numbers → statistics ≡ no_statistics_part → specs ≡ specs_part_in kind place slots numbers → ◌≡◌ {A = TableUpdate} (record { kind = made; fields = fields; snapshots = snapshots; refs = refs; schemas = schemas; sort_orders = orders; statistics = statistics; partition_specs = specs }) (laid_or (update_in kind place slots numbers texts))
  made_of a b c d e f g h = rw (a, b, c, d, e, f, g, h) made_parts
