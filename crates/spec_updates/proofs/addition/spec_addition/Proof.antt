-- A spec whose fields are held gets that id; any other gets the next one, and its fields their fresh ids, and goes to the end. Either is logged with its final id,
-- and with the ids of its fields that are not fresh.
use Prim.Native.Nat.{ℕ}
use mathlib.Core.Path.{◌≡◌, refl, sym, ap, ◌∙◌}
use mathlib.Core.Bool.{Bool, true, false, cond, not, ◌||◌, false≢true}
use mathlib.Core.List.{List, [], ◌∷◌, ◌++◌}
use mathlib.Core.Option.{none, some}
use native.Mathlib.Omega.{arith}
use borrow.Author.Rules.{rules}
use borrow.Author.Tests.{leb-false, eq-eqb, eqb-true}
use lib.Dec.{eqb}
use lib.IntN.{ℤ, suc_ℤ}
use lib.ListN.{length}
use Rattle.records.specs.Blanks.{no_partition_specs_part}
use Rattle.records.specs.declared.counters.FieldId.{FieldId}
use Rattle.records.specs.declared.counters.SpecId.{SpecId}
use Rattle.records.specs.declared.partition.PartitionSpec.{PartitionSpec}
use Rattle.records.specs.declared.partition.PartitionSpecs.{PartitionSpecs}
use Rattle.records.specs.declared.partition.SpecOffer.{SpecOffer}
use Rattle.records.specs.declared.schema.Schema.{Schema}
use Rattle.rules.specs.Words.{eq_z, larger, some_with, highest, put, first_of, Check}
use Rattle.rules.specs.Capacities.{spec_room, largest_spec_id}
use Rattle.rules.specs.Register as plain
use Rattle.rules.specs.Register.{State, with_last_partition, with_specs, with_metadata, on_fields}
use Rattle.rules.specs.Register.Update.{AddPartitionSpec}
use Rattle.rules.specs.Partitions.{spec_ids}
use Rattle.rules.specs.WellFormed.{spec_below}
use Rattle.rules.specs.SpecUpdates.{is_clashing, is_repeating, is_misfit, reused_spec, completed, is_out_of_sequence, reaches, spec_named, spec_offered_as, spec_checks, spec_added}
use Rattle.rules.specs.SpecUpdates as rule
use Rattle.rules.specs.Layout.{read_schema, read_partition_spec, laid_partition_spec, read_partition_specs, laid_partition_specs, read_spec_offer, laid_spec_offer, laid_fields}
use Rattle.rules.specs.Kinds.{laid_update, of_kind, with_partition_specs_part, with_spec_offer, add_partition_spec_kind}
use Rattle.rules.proofs.Checks.{by_test, neither, Passed, passed, passed_after}
use Rattle.rules.proofs.Slots.Reread.{reread_partition_spec}
use Rattle.tables.specs.Laid.{LaidSpec}
use Rattle.builder.specs.declared.builder.TableMetadataBuilder.{TableMetadataBuilder}
use Rattle.builder.specs.Pieces.{laid_builder, IsCurrent}
use Rattle.builder.proofs.Steps.{stepped_unless}
use Rattle.builder.proofs.Choices.{given_back}
use Rattle.builder.proofs.NewIds.{put_next}
use Rattle.spec_updates.specs.declared.addition.SpecCompleted.{SpecCompleted}
use Rattle.spec_updates.specs.Additions.{added_spec, spec_under, new_checks, Completed, SpecGrown}
use Rattle.spec_updates.proofs.Current.{columns, specs_read}
use Rattle.spec_updates.proofs.addition.spec_addition.Statement.{statement}
use Rattle.spec_updates.proofs.addition.spec_addition.Tie as tie

-- the builder after a spec of this id, with this last partition id
abbrev after : SpecId → FieldId → TableMetadataBuilder → TableMetadataBuilder
after id last b =
    record {
      fields =
          record {
            format_version = b.fields.format_version;
            table_uuid = b.fields.table_uuid;
            location = b.fields.location;
            last_updated_ms = b.fields.last_updated_ms;
            last_sequence_number = b.fields.last_sequence_number;
            next_row_id = b.fields.next_row_id;
            last_column_id = b.fields.last_column_id;
            has_current = b.fields.has_current;
            current_snapshot_id = b.fields.current_snapshot_id;
            current_schema_id = b.fields.current_schema_id;
            default_sort_order_id = b.fields.default_sort_order_id;
            default_spec_id = b.fields.default_spec_id;
            last_partition_id = last;
          };
      has_own = b.has_own;
      own = b.own;
      has_schema = b.has_schema;
      last_added_schema_id = b.last_added_schema_id;
      has_order = b.has_order;
      last_added_order_id = b.last_added_order_id;
      has_spec = true;
      last_added_spec_id = id;
    }

-- a spec under another id is laid out as it was
spec_renamed : (p : PartitionSpec) → LaidSpec p → (id : SpecId) → LaidSpec (spec_under id p)
unfolding laid_partition_spec
spec_renamed p h id = record { back = λ i. record { spec_id = id; items = (h.back i).items; count = (h.back i).count }; fits = h.fits }

-- 31, then 32, then the rest
abbrev fitted : List plain.SchemaField → plain.PartitionSpec → ℕ → ℕ
fitted columns s rest = cond (is_clashing columns s || is_repeating s) 31 (cond (is_misfit columns s) 32 rest)

module _ (b : TableMetadataBuilder) (s : Schema) (t : PartitionSpecs) (p : PartitionSpec) (o : SpecOffer) (id : SpecId)
    (offer : SpecOffer) (w : offer ≡ laid_spec_offer (spec_offered_as (read_partition_spec (spec_under id p)) (read_spec_offer o))) where
  abbrev P : plain.PartitionSpec
  P = read_partition_spec p

  -- the entry, of the offer under the spec's id
  entry_is : {z : ℤ} → id.0 ≡ z → with_partition_specs_part (with_spec_offer offer no_partition_specs_part) (of_kind add_partition_spec_kind) ≡ laid_update (AddPartitionSpec (spec_offered_as (spec_named z P) (read_spec_offer o)))
  unfolding laid_update
  entry_is e = ap (λ (y : SpecOffer). with_partition_specs_part (with_spec_offer y no_partition_specs_part) (of_kind add_partition_spec_kind)) (w ∙ ap (λ (z : ℤ). laid_spec_offer (spec_offered_as (spec_named z P) (read_spec_offer o))) e)

  -- ---- its fields are held

  module _ (e : reused_spec P (read_partition_specs t) ≡ some id.0) where
    held_at_state : (st : State) → t ≡ laid_partition_specs st.metadata.specs → reused_spec P st.metadata.specs ≡ some id.0
    held_at_state st q = ap (reused_spec P) (sym (specs_read st.metadata.specs q)) ∙ e

    held : (last : Bool) → last ≡ some_with (eq_z id.0) (added_spec b) → {number : ℕ} → number ≡ fitted (read_schema s).fields P 0
        → SpecGrown b s t p o (record { number = number; logs = not last; grows = false; offer = offer; spec = spec_under id p; builder = after id b.fields.last_partition_id b })
    unfolding spec_checks spec_added laid_builder laid_fields
    held last x n =
        record {
          answers = λ st v r q.
              let l : last ≡ some_with (eq_z id.0) st.added.spec = x ∙ ap (some_with (eq_z id.0)) (ap (λ (y : TableMetadataBuilder). added_spec y) v ∙ given_back st.added.spec) in (
                n ∙ ap (λ (y : List plain.SchemaField). fitted y P 0) (columns st.metadata s r) ∙ rw (held_at_state st q),
                λ z. rw (held_at_state st q, spec_added, l, v) (stepped_unless (some_with (eq_z id.0) st.added.spec) st (rule.added_spec id.0 st) (AddPartitionSpec (spec_offered_as (spec_named id.0 P) (read_spec_offer o))) _ _ refl refl (entry_is refl)),
              );
          table = λ st v q z. rw (held_at_state st q, spec_added) (by_test (λ (y : State). y.metadata.specs ≡ st.metadata.specs) (some_with (eq_z id.0) st.added.spec) (λ h. refl) (λ h. refl));
          put = λ h. absurd (false≢true h);
        }

  -- ---- they are not

  abbrev last : ℤ
  last = b.fields.last_partition_id.0

  abbrev top : List plain.PartitionSpec → Bool
  top l = eq_z (highest (spec_ids l)) largest_spec_id

  module _ (e : reused_spec P (read_partition_specs t) ≡ none) (over : Bool) (x : over ≡ top (read_partition_specs t)) (g : top (read_partition_specs t) ≡ false → id.0 ≡ suc_ℤ (highest (spec_ids (read_partition_specs t))))
      (y : SpecCompleted) (k : Completed (spec_under id p) last b.fields.format_version over t.count y)
      (number : ℕ) (n : number ≡ fitted (read_schema s).fields P y.number) where
    abbrev field_checks : List plain.SchemaField → List Check
    field_checks l = (is_clashing l P || is_repeating P, 31) ∷ (is_misfit l P, 32) ∷ []

    abbrev own_checks : List Check
    own_checks = new_checks last b.fields.format_version over t.count (read_partition_spec (spec_under id p))

    checked : number ≡ first_of (field_checks (read_schema s).fields ++ own_checks)
    checked = n ∙ ap (fitted (read_schema s).fields P) k.checked

    own : number ≡ 0 → first_of own_checks ≡ 0
    own z = passed_after (field_checks (read_schema s).fields) own_checks refl (sym checked ∙ z)

    accepted : number ≡ 0 → Passed own_checks
    accepted z = passed own_checks refl (own z)

    complete : number ≡ 0 → y.number ≡ 0
    complete z = k.checked ∙ own z

    module _ (st : State) (v : b ≡ laid_builder st) (q : t ≡ laid_partition_specs st.metadata.specs) where
      new_at_state : reused_spec P st.metadata.specs ≡ none
      new_at_state = ap (reused_spec P) (sym (specs_read st.metadata.specs q)) ∙ e

      last_is : last ≡ st.metadata.fields.last_partition
      unfolding laid_builder laid_fields
      last_is = ap (λ (d : TableMetadataBuilder). d.fields.last_partition_id.0) v

      version_is : b.fields.format_version ≡ st.metadata.fields.version
      unfolding laid_builder laid_fields
      version_is = ap (λ (d : TableMetadataBuilder). d.fields.format_version) v

      over_is : over ≡ top st.metadata.specs
      over_is = x ∙ ap top (specs_read st.metadata.specs q)

      count_is : t.count ≡ length st.metadata.specs
      unfolding laid_partition_specs
      count_is = ap (λ (d : PartitionSpecs). d.count) q

      at_state : IsCurrent st.metadata s → number ≡ first_of (spec_checks P st.metadata)
      unfolding spec_checks is_out_of_sequence completed
      at_state r = checked ∙ (λ i. first_of (field_checks (columns st.metadata s r i) ++ new_checks (last_is i) (version_is i) (over_is i) (count_is i) P)) ∙ rw new_at_state

      module _ (z : number ≡ 0) where
        numbered : id.0 ≡ suc_ℤ (highest (spec_ids st.metadata.specs))
        numbered = g (sym x ∙ (neither over _ (accepted z).0).0) ∙ ap (λ (l : List plain.PartitionSpec). suc_ℤ (highest (spec_ids l))) (specs_read st.metadata.specs q)

        abbrev one : plain.PartitionSpec
        one = spec_named (suc_ℤ (highest (spec_ids st.metadata.specs))) P

        completed_is : completed last (spec_named id.0 P) ≡ completed st.metadata.fields.last_partition one
        completed_is = λ i. completed (last_is i) (spec_named (numbered i) P)

        raised : y.last_partition_id.0 ≡ larger st.metadata.fields.last_partition (reaches (completed st.metadata.fields.last_partition one))
        raised = k.raises (complete z) ∙ (λ i. larger (last_is i) (reaches (completed_is i)))

        read : completed st.metadata.fields.last_partition one ≡ read_partition_spec y.spec
        read = sym (ap read_partition_spec (k.says (complete z)) ∙ reread_partition_spec (completed last (spec_named id.0 P)) ∙ completed_is)

        put_last_lem : put spec_below (completed st.metadata.fields.last_partition one) st.metadata.specs ≡ st.metadata.specs ++ (read_partition_spec y.spec ∷ [])
        unfolding completed
        put_last_lem =
            put_next (λ (d : plain.PartitionSpec). d.id) (completed st.metadata.fields.last_partition one) st.metadata.specs refl
            ∙ ap (λ (d : plain.PartitionSpec). st.metadata.specs ++ (d ∷ [])) read

    new : SpecGrown b s t p o (record { number = number; logs = true; grows = eqb number 0; offer = offer; spec = y.spec; builder = after id y.last_partition_id b })
    unfolding spec_added laid_builder laid_fields
    new =
        record {
          answers = λ st v r q. (
            at_state st v q r,
            λ z.
                let m = st.metadata in
                let one : plain.PartitionSpec = spec_named (suc_ℤ (highest (spec_ids m.specs))) P in
                let end : State =
                rule.added_spec one.id
                (on_fields (λ f. with_last_partition (larger f.last_partition (reaches (completed f.last_partition one))) f)
                (with_metadata (with_specs (put spec_below (completed m.fields.last_partition one) m.specs) m) st)) in
                let i : id ≡ record { 0 = one.id } = λ j. record { 0 = numbered st v q z j } in
                let l : y.last_partition_id ≡ record { 0 = larger m.fields.last_partition (reaches (completed m.fields.last_partition one)) } = λ j. record { 0 = raised st v q z j } in
                rw (new_at_state st v q, spec_added) (stepped_unless false st end (AddPartitionSpec (spec_offered_as one (read_spec_offer o))) _ _ refl (rw (i, l, v)) (entry_is (numbered st v q z))),
          );
          table = λ st v q z. rw (new_at_state st v q, spec_added, eq-eqb number 0 z) (put_last_lem st v q z);
          put = λ h. let z = eqb-true number 0 h in (k.laid, omega (arith, leb-false spec_room t.count (accepted z).1.1.0));
        }

returns : tie.Need-returns-then-found
returns c =
    let m = c.before in
    let f = m.before.before in
    let a = f.args in
    let x = f.reuse_or_create_new_spec_id-x in
    let yes = m.if-found.true in
    held a.b a.s a.t a.p a.o x.result.id f.logged_offer-offer.result f.logged_offer-offer.ensures (x.ensures.held yes) x.result.is_last (x.ensures.again yes) m.choose_misfit-number.ensures

returns_2 : tie.Need-returns
returns_2 c =
    let m = c.before.before in
    let y = m.before in
    let j = y.before.before in
    let f = j.before in
    let a = f.args in
    let x = f.reuse_or_create_new_spec_id-x in
    let no = j.if-found.false in
    new a.b a.s a.t a.p a.o x.result.id f.logged_offer-offer.result f.logged_offer-offer.ensures
    (x.ensures.new no) x.result.exhausted (x.ensures.over no) (x.ensures.gets no)
    y.complete-y.result y.complete-y.ensures m.choose_misfit-number-2.result m.choose_misfit-number-2.ensures

pub spec_addition_spec : {M : Type 1} → statement M
spec_addition_spec =
    tie.close
    (tie.spec
    (λ c κs. search rules)
    (λ c κs. spec_renamed c.args.p c.requires.1.1 c.reuse_or_create_new_spec_id-x.result.id)
    (λ c κs. search rules)
    returns
    (λ c κs. spec_renamed c.args.p c.requires.1.1 c.reuse_or_create_new_spec_id-x.result.id)
    (λ c κs. search rules)
    returns_2)
