-- Each kind is decided by its own function; the last is the one that the bounds leave. Choosing the default spec leaves the table as it is.
use native.Mathlib.Omega.{arith}
use mathlib.Core.Path.{◌≡◌, refl, sym, ap, ◌∙◌}
use borrow.Author.Rules.{rules}
use lib.IntN.{ℤ}
use Rattle.rules.specs.Words.{eq_z}
use Rattle.rules.specs.Register.{Update, Terms, State}
use Rattle.rules.specs.Register.Update.{SetDefaultPartitionSpec}
use Rattle.rules.specs.SchemaUpdates.{chosen}
use Rattle.rules.specs.SpecUpdates.{set_default_partition_spec}
use Rattle.rules.specs.Updates.{effect}
use Rattle.rules.specs.Layout.{laid_partition_specs}
use Rattle.rules.specs.Kinds.{read_update, remove_partition_specs_kind}
use Rattle.rules.proofs.Checks.{by_test}
use Rattle.builder.proofs.Entries.{read_kind_lem}
use Rattle.spec_updates.proofs.family.decide.Statement.{statement}
use Rattle.spec_updates.proofs.family.decide.Tie as tie

specs_same : (terms : Terms) (st : State) (id : ℤ) → st.metadata.specs ≡ (effect terms (SetDefaultPartitionSpec id) st).metadata.specs
unfolding effect set_default_partition_spec
specs_same terms st id = by_test (λ (s : State). st.metadata.specs ≡ s.metadata.specs) (eq_z (chosen id st.added.spec) st.metadata.fields.default_spec) (λ _. refl) (λ _. refl)

removes : (c : tie.Else-kind-eq-SET_DEFAULT_PARTITION_SPEC) → c.args.u.kind ≡ remove_partition_specs_kind
removes c = let p = c.requires.1.1.1.1.1 in omega (arith, p.0, p.1, c.if-kind-eq-ADD_PARTITION_SPEC.false, c.if-kind-eq-SET_DEFAULT_PARTITION_SPEC.false)

returns : tie.Need-returns-then-kind-eq-ADD_PARTITION_SPEC
returns c =
    let D = c.add_partition_spec.ensures in
    let o = c.spec-offered.ensures in
    record {
      answers = λ terms st e v r q. D.answers terms st (rw e o) v r q;
      table = λ terms st e v q z. D.table terms st (rw e o) v q z;
    }

returns_2 : tie.Need-returns-then-kind-eq-SET_DEFAULT_PARTITION_SPEC
returns_2 c =
    let u = c.args.u in
    let id : ℤ = u.partition_specs.chosen.0 in
    let k : read_update u ≡ SetDefaultPartitionSpec id = read_kind_lem u c.requires.1.1.1.0 19 c.if-kind-eq-SET_DEFAULT_PARTITION_SPEC.true in
    record {
      answers = λ terms st e v r q. c.set_default_partition_spec-decision.ensures terms st v r q;
      table = λ terms st e v q z. q ∙ ap laid_partition_specs (specs_same terms st id ∙ ap (λ (x : Update). (effect terms x st).metadata.specs) (sym k));
    }

returns_3 : tie.Need-returns
returns_3 c =
    let D = c.remove_partition_specs.ensures in
    record {
      answers = λ terms st e v r q. D.0 terms st v q;
      table = λ terms st e v q z. D.1 terms st q;
    }

pub decide_spec : {M : Type 1} → statement M
decide_spec =
    tie.close
    (tie.spec
    (λ c κs. search rules)
    (λ c κs. search rules)
    returns
    (λ c κs. search rules)
    returns_2
    (λ c κs. let p = c.requires.1 in (p.0, (p.1.0, (p.1.1.0, (p.1.1.1.0, removes c)))))
    returns_3)
