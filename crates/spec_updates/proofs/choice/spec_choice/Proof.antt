-- The choice is made of the state's last added and default ids, and then 32 of the chosen spec; the builder that comes back has the chosen one.
use Prim.Native.Nat.{ℕ}
use mathlib.Core.Path.{◌≡◌, refl, sym, ap, ◌∙◌}
use mathlib.Core.Bool.{true, cond, not, ◌&&◌, true≢false}
use mathlib.Core.List.{List, ◌++◌}
use mathlib.Core.Option.{Option}
use borrow.Author.Rules.{rules}
use borrow.Author.Tests.{eqb-true, eq-eqb}
use lib.Dec.{eqb}
use lib.IntN.{ℤ}
use mir.Syntax.{w32}
use Rattle.rules.specs.Words.{eq_z, some_with, first, first_of, Check}
use Rattle.rules.specs.Register as plain
use Rattle.rules.specs.Register.{with_default_spec, on_fields}
use Rattle.rules.specs.Register.Update.{SetDefaultPartitionSpec}
use Rattle.rules.specs.Partitions.{holds_spec}
use Rattle.rules.specs.WellFormed.{has_spec}
use Rattle.rules.specs.SchemaUpdates.{chosen, choice_checks, choice_logged}
use Rattle.rules.specs.SpecUpdates.{is_misfit, is_held_misfit, misfit_checks, set_default_partition_spec_checks, set_default_partition_spec}
use Rattle.rules.specs.Layout.{given, laid_fields}
use Rattle.rules.specs.Kinds.{laid_update}
use Rattle.rules.proofs.Checks.{by_test, numbered, first_before, first_after}
use Rattle.tables.proofs.Keyed.{lent_in, lent_within, lent_slice}
use Rattle.tables.proofs.Each.{tidy_partition_specs}
use Rattle.builder.specs.declared.builder.TableMetadataBuilder.{TableMetadataBuilder}
use Rattle.builder.specs.Pieces.{laid_builder}
use Rattle.builder.proofs.Steps.{stepped_unless}
use Rattle.builder.proofs.Choices.{given_back, chosen_as, takes_fits, logs_fits}
use Rattle.spec_updates.specs.Additions.{added_spec}
use Rattle.spec_updates.proofs.Current.{columns, specs_read}
use Rattle.spec_updates.proofs.choice.spec_choice.Statement.{statement}
use Rattle.spec_updates.proofs.choice.spec_choice.Tie as tie

-- the number of some checks, and where none of them fails that of others
then_of : (cs ds : List Check) → numbered cs ≡ true → cond (eqb (first_of cs) 0) (first_of ds) (first_of cs) ≡ first_of (cs ++ ds)
then_of cs ds p =
    by_test (λ (n : ℕ). n ≡ first_of (cs ++ ds)) (eqb (first_of cs) 0)
    (λ t. sym (first_after cs ds p (eqb-true (first_of cs) 0 t)))
    (λ f. sym (first_before cs ds (λ z. true≢false (sym (eq-eqb (first_of cs) 0 z) ∙ f))))

returns : tie.Need-returns
unfolding set_default_partition_spec_checks set_default_partition_spec is_held_misfit laid_builder laid_fields laid_update
returns c st p r q =
    let n = c.before in
    let w = n.before.before in
    let h = w.before.before in
    let d = h.before.before in
    let x = d.before in
    let k = x.before.before in
    let g = k.before.before.before in
    let a = g.args in
    let m = st.metadata in
    let last : Option ℤ = st.added.spec in
    let current : ℤ = m.fields.default_spec in
    let K =
    chosen_as k.spec_key-asked.ensures.0
    (ap (given a.b.has_spec) k.spec_key-last.ensures.0 ∙ ap (λ (b : TableMetadataBuilder). added_spec b) p ∙ given_back last)
    (k.spec_key-current.ensures.0 ∙ ap (λ (b : TableMetadataBuilder). b.fields.default_spec_id.0) p)
    (λ i z. (lent_in (tidy_partition_specs g.requires.1) (λ y. y.id) g.ids_of-ids.ensures.0 z ∙ ap (λ (l : List plain.PartitionSpec). holds_spec l z) (specs_read m.specs q)) i)
    x.choose_id-x.ensures in
    let y : ℤ = chosen a.id.0 last in
    let new : d.spec_id-chosen.result ≡ record { 0 = y } = λ i. record { 0 = (d.spec_id-chosen.ensures ∙ K.takes) i } in
    let put : h.spec_id-logged.result ≡ record { 0 = choice_logged y last } = λ i. record { 0 = (h.spec_id-logged.ensures ∙ K.logs) i } in
    let misfit : h.is_held_misfit-misfit.result ≡ is_held_misfit y m = h.is_held_misfit-misfit.ensures ∙ (λ i. some_with (is_misfit (columns m a.s r i)) (first (has_spec (new i).0) (specs_read m.specs q i))) in
    let later : w.choose-later.result ≡ first_of (misfit_checks y m) = w.choose-later.ensures ∙ (λ i. cond (not (K.unchanged i) && misfit i) 32 0) in (
      n.choose-number.ensures ∙ (λ i. cond (eqb (K.checked i) 0) (later i) (K.checked i)) ∙ then_of (choice_checks a.id.0 last current (holds_spec m.specs)) (misfit_checks y m) refl,
      λ z. rw (K.unchanged, put, new, p) (stepped_unless (eq_z y current) st (on_fields (with_default_spec y) st) (SetDefaultPartitionSpec (choice_logged y last)) _ _ refl refl refl),
    )

pub spec_choice_spec : {M : Type 1} → statement M
spec_choice_spec =
    tie.close
    (tie.spec
    (λ c κs. search rules)
    (λ c κs. search rules)
    (λ c κs. search rules)
    (λ c κs. search rules)
    (λ c. lent_within (tidy_partition_specs c.requires.1) (λ y. y.id) c.ids_of-ids.ensures.0)
    (λ c. lent_slice (tidy_partition_specs c.requires.1) (λ y. y.id) c.ids_of-ids.ensures.0)
    (λ c κs. search rules)
    (λ c κs. takes_fits w32 c.args.b.has_spec c.spec_key-last.result.0 c.choose_id-x.ensures c.spec_key-asked.ensures.1 c.spec_key-last.ensures.1)
    (λ c κs. logs_fits w32 c.args.b.has_spec c.spec_key-last.result.0 c.choose_id-x.ensures c.spec_key-asked.ensures.1 c.spec_key-last.ensures.1)
    (λ c κs. search rules)
    (λ c κs. search rules)
    (λ c κs. search rules)
    returns)
