-- An offer that is not well formed is 3. Otherwise the answer and the table are those of the addition of the offered spec with the ids that it reuses, and the entry
-- is the update with the offer that the addition gives.
use Prim.Native.Nat.{ℕ}
use native.Mathlib.Omega.{arith}
use mathlib.Core.Path.{◌≡◌, sym, ap, ◌∙◌}
use mathlib.Core.Bool.{Bool, true, false, cond}
use mathlib.Core.List.{List, [], ◌∷◌, ◌++◌}
use borrow.Author.Rules.{rules}
use borrow.Author.Tests.{not-true, not-false}
use Rattle.records.specs.declared.partition.PartitionSpecs.{PartitionSpecs}
use Rattle.records.specs.declared.update.TableUpdate.{TableUpdate}
use Rattle.rules.specs.Register as plain
use Rattle.rules.specs.Register.{Terms, State}
use Rattle.rules.specs.Register.Update.{AddPartitionSpec}
use Rattle.rules.specs.Offers.{offered_spec}
use Rattle.rules.specs.SpecUpdates.{reusing, spec_added, add_partition_spec_checks, add_partition_spec}
use Rattle.rules.specs.Updates.{offers_formed, checks, effect}
use Rattle.rules.specs.Layout.{read_partition_spec, read_partition_specs, laid_partition_specs, read_spec_offer}
use Rattle.rules.specs.Kinds.{read_update, with_partition_specs_part, with_spec_offer}
use Rattle.rules.proofs.Slots.Reread.{reread_partition_spec}
use Rattle.partitions.proofs.Reused.{reused_read, reused_laid}
use Rattle.offers.specs.Offered.{SpecOffered}
use Rattle.builder.specs.declared.decision.Decision.{Decision}
use Rattle.builder.proofs.Steps.{entry_as}
use Rattle.builder.proofs.Entries.{by_kind, of_kind_lem, read_kind_lem}
use Rattle.spec_updates.proofs.Current.{specs_read}
use Rattle.spec_updates.proofs.addition.add_partition_spec.Statement.{statement}
use Rattle.spec_updates.proofs.addition.add_partition_spec.Tie as tie

-- a table that is laid out from a list, with one more or as it was
grown : (l : List plain.PartitionSpec) {t : PartitionSpecs} → t ≡ laid_partition_specs l → (grows : Bool) (x : plain.PartitionSpec)
    → cond grows (laid_partition_specs (read_partition_specs t ++ (x ∷ []))) t ≡ laid_partition_specs (cond grows (l ++ (x ∷ [])) l)
grown l q true x = ap (λ (y : List plain.PartitionSpec). laid_partition_specs (y ++ (x ∷ []))) (specs_read l q)
grown l q false x = q

-- the update, of kind 18, and its offer
module _ (s : tie.Start) where
  abbrev offer : plain.SpecOffer
  offer = read_spec_offer s.args.u.partition_specs.added

  as_kind : s.args.u ≡ by_kind 18 s.args.u
  as_kind = of_kind_lem s.args.u s.requires.1.1.1.0 18 s.requires.1.1.1.1

  read : read_update s.args.u ≡ AddPartitionSpec offer
  read = read_kind_lem s.args.u s.requires.1.1.1.0 18 s.requires.1.1.1.1

-- the offered spec with the ids that it reuses
said : (c : tie.After-reuse_partition_field_ids-p) → let s = c.before.before.before.before in (terms : Terms) (st : State) → SpecOffered terms.offers (offer s) s.args.offered → s.args.t ≡ laid_partition_specs st.metadata.specs
    → read_partition_spec c.reuse_partition_field_ids-p.result ≡ reusing st.metadata.specs (offered_spec terms.offers (offer s))
said c terms st f q =
    let s = c.before.before.before.before in
    let w : s.args.offered.formed ≡ true = not-false s.args.offered.formed c.if-not-offered.false in
    reused_read (read_partition_specs s.args.t) s.requires.1.1.0 c.reuse_partition_field_ids-p.ensures
    ∙ (λ i. reusing (specs_read st.metadata.specs q i) ((ap read_partition_spec (f.says w) ∙ reread_partition_spec (offered_spec terms.offers (offer s))) i))

returns : tie.Need-returns-then-not-offered
unfolding checks offers_formed
returns c =
    let s = c.before.before.before in
    let n : s.args.offered.formed ≡ false = not-true s.args.offered.formed c.if-not-offered.true in
    let d : c.decided-decision.result.number ≡ 3 = ap (λ (x : Decision). x.number) c.decided-decision.ensures in
    let z : c.decided-decision.result.number ≡ 0 → ⊥ = λ e. (let y : ◌≡◌ {A = ℕ} 3 0 = sym d ∙ e in omega arith) in
    record {
      answers = λ terms st f v r q. rw (read s, sym f.formed ∙ n) (d, λ e. absurd (z e));
      table = λ terms st f v q e. absurd (z e);
    }

returns_2 : tie.Need-returns
unfolding checks offers_formed effect add_partition_spec_checks add_partition_spec
returns_2 c =
    let d = c.before.before in
    let x = d.before.before.before in
    let p = x.before.before.before in
    let s = p.before.before.before.before in
    let a = x.spec_addition-x in
    let w : s.args.offered.formed ≡ true = not-false s.args.offered.formed p.if-not-offered.false in
    record {
      answers = λ terms st f v r q.
          rw (d.decided-decision-2.ensures, read s, sym f.formed ∙ w)
          (entry_as (rw (said p terms st f q) at (a.ensures.answers st v r q)) (ap (λ (y : TableUpdate). with_partition_specs_part (with_spec_offer a.result.offer y.partition_specs) y) (as_kind s)));
      table = λ terms st f v q z.
          c.specs_after-table.ensures
          ∙ grown st.metadata.specs q a.result.grows (read_partition_spec a.result.spec)
          ∙ ap laid_partition_specs (sym (a.ensures.table st v q (sym (ap (λ (y : Decision). y.number) d.decided-decision-2.ensures) ∙ z)))
          ∙ rw (read s) (ap (λ (y : plain.PartitionSpec). laid_partition_specs (spec_added (offer s) y st).metadata.specs) (said p terms st f q));
    }

pub add_partition_spec_spec : {M : Type 1} → statement M
add_partition_spec_spec =
    tie.close
    (tie.spec
    (λ c κs. search rules)
    returns
    (λ c κs. (c.requires.1.0, c.requires.1.1.0))
    (λ c κs. let p = c.before.before in
    (p.requires.0, (p.requires.1.0, reused_laid (read_partition_specs p.args.t) p.requires.1.1.0 p.reuse_partition_field_ids-p.ensures)))
    (λ c κs. search rules)
    (λ c κs. (c.requires.1.0, c.spec_addition-x.ensures.put))
    returns_2)
