-- Of the two kinds that offer something it is asked whether that is well formed; any other kind offers nothing.
use Prim.Native.Nat.{ℕ}
use mathlib.Core.Path.{◌≡◌, refl, sym, ap, ◌∙◌}
use mathlib.Core.Bool.{Bool, true, ◌||◌}
use mathlib.Core.List.{List, [], ◌∷◌}
use borrow.Author.Rules.{rules}
use borrow.Author.Tests.{eqb-true}
use lib.Dec.{eqb}
use Rattle.records.specs.declared.update.TableUpdate.{TableUpdate}
use Rattle.rules.specs.Words.{all}
use Rattle.rules.specs.Register.{Terms, Update}
use Rattle.rules.specs.Offers.{offer_formed, spec_offer_formed}
use Rattle.rules.specs.Updates.{offers_formed}
use Rattle.rules.specs.Layout.{read_schema_offer, read_spec_offer}
use Rattle.rules.specs.Kinds.{add_schema_kind, add_partition_spec_kind, is_tidy_update, at_kind, readings, read_update}
use Rattle.rules.proofs.Checks.{and_left, and_right, by_test, by_either}
use Rattle.offers.proofs.is_formed.Statement.{statement}
use Rattle.offers.proofs.is_formed.Tie as tie

module _ (terms : Terms) where
  -- a reading of one of the two kinds, or one that offers nothing
  abbrev offers_or_not : ℕ × Update → Bool
  offers_or_not x = eqb x.0 add_schema_kind || eqb x.0 add_partition_spec_kind || offers_formed terms x.1

  nothing : (k : ℕ) (l : List (ℕ × Update)) → all offers_or_not l ≡ true → (k ≡ add_schema_kind → ⊥) → (k ≡ add_partition_spec_kind → ⊥) → offers_formed terms (at_kind k l) ≡ true
  unfolding offers_formed
  nothing k [] h p q = refl
  nothing k (x ∷ l) h p q =
      by_test (λ (y : Update). offers_formed terms y ≡ true) (eqb k x.0)
      (λ e. let same = eqb-true k x.0 e in
      by_either (eqb x.0 add_schema_kind || eqb x.0 add_partition_spec_kind) (offers_formed terms x.1)
      (by_either (eqb x.0 add_schema_kind) (eqb x.0 add_partition_spec_kind) (λ t. absurd (p (same ∙ eqb-true _ _ t))) (λ t. absurd (q (same ∙ eqb-true _ _ t))))
      (λ t. t)
      (and_left (offers_or_not x) _ h))
      (λ e. nothing k l (and_right (offers_or_not x) _ h) p q)

  module _ (u : TableUpdate) (t : is_tidy_update u ≡ true) where
    a_schema : u.kind ≡ add_schema_kind → offers_formed terms (read_update u) ≡ offer_formed terms.offers (read_schema_offer u.schemas.added)
    unfolding offers_formed read_update
    a_schema e = rw (t, e)

    a_spec : u.kind ≡ add_partition_spec_kind → offers_formed terms (read_update u) ≡ spec_offer_formed terms.offers (read_spec_offer u.partition_specs.added)
    unfolding offers_formed read_update
    a_spec e = rw (t, e)

    no_offer : (u.kind ≡ add_schema_kind → ⊥) → (u.kind ≡ add_partition_spec_kind → ⊥) → offers_formed terms (read_update u) ≡ true
    unfolding offers_formed read_update
    no_offer p q = rw t (nothing u.kind (readings u) refl p q)

pub is_formed_spec : {M : Type 1} → statement M
is_formed_spec =
    tie.close
    (tie.spec
    (λ c κs. search rules)
    (λ c. let u = c.args.u in λ terms e.
    c.schema-offered.ensures.formed ∙ ap (λ b. offer_formed b (read_schema_offer u.schemas.added)) (sym e) ∙ sym (a_schema terms u c.requires c.if-kind-eq-ADD_SCHEMA.true))
    (λ c κs. search rules)
    (λ c. let u = c.args.u in λ terms e.
    c.spec-offered.ensures.formed ∙ ap (λ b. spec_offer_formed b (read_spec_offer u.partition_specs.added)) (sym e) ∙ sym (a_spec terms u c.requires c.if-kind-eq-ADD_PARTITION_SPEC.true))
    (λ c. λ terms e. sym (no_offer terms c.args.u c.requires c.if-kind-eq-ADD_SCHEMA.false c.if-kind-eq-ADD_PARTITION_SPEC.false)))
