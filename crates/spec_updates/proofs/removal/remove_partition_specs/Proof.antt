-- What is left is read of the state's table, what was held of its ids, and the entry is the update with the held ids in place of its own. Where none was held,
-- all is left.
use mathlib.Core.Path.{◌≡◌, refl, sym, ap, ◌∙◌}
use mathlib.Core.Bool.{Bool, true, not, false≢true}
use mathlib.Core.List.{List, [], ◌∷◌, map}
use borrow.Author.Rules.{rules}
use borrow.Table.Steps.{cases}
use lib.Dec.{ltb}
use lib.IntN.{ℤ}
use Rattle.records.specs.declared.partition.SpecIds.{SpecIds}
use Rattle.records.specs.declared.update.TableUpdate.{TableUpdate}
use Rattle.rules.specs.Words.{is_in, is_empty, keep, ascending}
use Rattle.rules.specs.Capacities.{spec_room}
use Rattle.rules.specs.Register as plain
use Rattle.rules.specs.Register.{State, with_specs, with_metadata}
use Rattle.rules.specs.Register.Update.{RemovePartitionSpecs}
use Rattle.rules.specs.WellFormed.{spec_formed, spec_below, specs_formed, update_formed}
use Rattle.rules.specs.SpecUpdates.{held_specs, remove_partition_specs_checks, remove_partition_specs}
use Rattle.rules.specs.Updates.{offers_formed, checks, effect}
use Rattle.rules.specs.Layout.{read_spec_ids, laid_spec_ids, read_partition_specs, laid_partition_specs, laid_fields}
use Rattle.rules.specs.Kinds.{read_update, laid_update, with_partition_specs_part, with_spec_ids}
use Rattle.rules.proofs.Checks.{by_test}
use Rattle.rules.proofs.Tables.{table_parts_lem}
use Rattle.tables.specs.Laid.{LaidSpecIds}
use Rattle.builder.specs.declared.builder.TableMetadataBuilder.{TableMetadataBuilder}
use Rattle.builder.specs.Pieces.{laid_builder}
use Rattle.builder.proofs.Steps.{stepped_unless, some_counted}
use Rattle.builder.proofs.Entries.{of_kind_lem, read_kind_lem, formed_kind}
use Rattle.builder.proofs.Given.{given_spec_ids}
use Rattle.spec_updates.proofs.Current.{specs_read}
use Rattle.spec_updates.proofs.removal.remove_partition_specs.Statement.{statement}
use Rattle.spec_updates.proofs.removal.remove_partition_specs.Tie as tie

-- ---- what is left

none_held : {A B : Type 0} (p : A → Bool) (f : A → B) (l : List A) → is_empty (map f (keep p l)) ≡ true → keep (λ x. not (p x)) l ≡ l
none_held p f [] e = refl
none_held {A} p f (x ∷ l) e = cases (p x) (λ t. absurd (false≢true (rw t at e))) (λ n. rw n (ap (λ (y : List A). x ∷ y) (none_held p f l (rw n at e))))

abbrev left : List ℤ → List plain.PartitionSpec → List plain.PartitionSpec
left ids l = keep (λ (x : plain.PartitionSpec). not (is_in ids x.id)) l

left_is : (ids : List ℤ) (st : State) → left ids st.metadata.specs ≡ (remove_partition_specs ids st).metadata.specs
unfolding remove_partition_specs
left_is ids st =
    let l = st.metadata.specs in
    by_test (λ (y : State). left ids l ≡ y.metadata.specs) (is_empty (held_specs ids l))
    (λ e. none_held (λ (x : plain.PartitionSpec). is_in ids x.id) (λ (x : plain.PartitionSpec). x.id) l e)
    (λ e. refl)

-- ---- the update, of kind 20

module _ (s : tie.Start) where
  laid_ids : LaidSpecIds s.args.u.partition_specs.removed
  unfolding update_formed
  laid_ids = given_spec_ids s.args.u s.requires.1.1.0 (formed_kind s.args.u s.requires.1.1.0 20 s.requires.1.1.1.1 s.requires.1.1.1.0)

  read : read_update s.args.u ≡ RemovePartitionSpecs (read_spec_ids s.args.u.partition_specs.removed)
  read = read_kind_lem s.args.u s.requires.1.1.0 20 s.requires.1.1.1.1

  ascends : ascending spec_below (read_partition_specs s.args.t) ≡ true
  unfolding specs_formed
  ascends = (table_parts_lem spec_room spec_formed spec_below (read_partition_specs s.args.t) s.requires.1.0).2

returns : tie.Need-returns
unfolding checks offers_formed effect remove_partition_specs_checks remove_partition_specs laid_spec_ids laid_builder laid_fields laid_update
returns c =
    let d = c.before in
    let h = d.before in
    let r = h.before.before in
    let s = r.before.before.before.before.before in
    let u = s.args.u in
    let ids : List ℤ = read_spec_ids u.partition_specs.removed in (
      λ terms st p q.
          let l = st.metadata.specs in
          let held : h.held-logged.result ≡ laid_spec_ids (held_specs ids l) = h.held-logged.ensures ∙ ap (λ (x : List plain.PartitionSpec). laid_spec_ids (held_specs ids x)) (specs_read l q) in
          let some : ltb 0 h.held-logged.result.count ≡ not (is_empty (held_specs ids l)) = some_counted (held_specs ids l) h.held-logged.result.count (sym (ap (λ (x : SpecIds). x.count) held)) in
          let e : with_partition_specs_part (with_spec_ids h.held-logged.result u.partition_specs) u ≡ laid_update (RemovePartitionSpecs (held_specs ids l)) =
          ap (λ (y : TableUpdate). with_partition_specs_part (with_spec_ids h.held-logged.result y.partition_specs) y) (of_kind_lem u s.requires.1.1.0 20 s.requires.1.1.1.1) ∙ rw held in
          rw (d.decided-decision.ensures, read s, some) (
            h.choose-number.ensures ∙ rw (r.has_spec-removed.ensures, ap (λ (b : TableMetadataBuilder). b.fields.default_spec_id.0) p),
            λ z. stepped_unless (is_empty (held_specs ids l)) st (with_metadata (with_specs (left ids l) st.metadata) st) (RemovePartitionSpecs (held_specs ids l)) _ _ refl p e,
          ),
      λ terms st q. c.without-table.ensures ∙ ap (λ (x : List plain.PartitionSpec). laid_partition_specs (left ids x)) (specs_read st.metadata.specs q) ∙ rw (read s) (ap laid_partition_specs (left_is ids st)),
    )

pub remove_partition_specs_spec : {M : Type 1} → statement M
remove_partition_specs_spec =
    tie.close
    (tie.spec
    (λ c κs. laid_ids c.before.before.before.before)
    (λ c κs. search rules)
    (λ c κs. let s = c.before.before.before.before.before.before in (s.requires.0, (laid_ids s, ascends s)))
    (λ c κs. search rules)
    (λ c κs. let s = c.before.before.before.before.before.before.before.before in (s.requires.0, laid_ids s))
    returns)
