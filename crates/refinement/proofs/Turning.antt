-- The turns of the loop: from one that decides to one that stores and back, and what kind the update of a turn is of.
use Prim.Native.Nat.{ℕ, ◌+◌, ◌≤◌, ◌<◌}
use native.Mathlib.Omega.{arith}
use mathlib.Core.Path.{◌≡◌, refl, sym, ap, subst, ◌∙◌}
use mathlib.Core.Bool.{Bool, true, false, cond, true≢false, false≢true}
use borrow.Author.Tests.{eqb-true, eqb-false}
use borrow.Table.Steps.{cases}
use lib.Dec.{eqb}
use Rattle.records.specs.declared.update.TableUpdate.{TableUpdate}
use Rattle.rules.specs.Register.{State}
use Rattle.rules.specs.WellFormed.{update_formed}
use Rattle.rules.specs.Kinds.{at_kind, readings, read_kind, read_update, assign_uuid_kind, set_location_kind, set_branch_snapshot_kind, remove_ref_kind, add_schema_kind, remove_schemas_kind, set_default_sort_order_kind, remove_statistics_kind, remove_partition_statistics_kind, add_partition_spec_kind}
use Rattle.builder.specs.declared.decision.Decision.{Decision}
use Rattle.schema_updates.specs.Keys.{KeysFit}
use Rattle.start.proofs.Reading.{formed_tidy, read_tidy, bounds}
use Rattle.refinement.specs.Standing.{Given, Pieces, Represents, Standing}
use Rattle.refinement.specs.Turns.{update_at, Stands, Decided, Turn}
use Rattle.refinement.proofs.Effects.{group}

module _ {g : Given} {place : ℕ} {half : Bool} {p : Pieces} where
  -- only a branch commit can be half done
  pub undivided : Stands g place half p → ((update_at g place).kind ≡ set_branch_snapshot_kind → ⊥) → Standing g place p
  undivided S n = cases half (λ t. absurd (n (S.commit t).0)) (λ f. S.whole f)

  -- and only one that is well formed
  pub unformed : Stands g place half p → update_formed (read_update (update_at g place)) ≡ false → Standing g place p
  unformed S n = cases half (λ t. absurd (true≢false (sym (S.commit t).2 ∙ n))) (λ f. S.whole f)

  -- the pieces stand for a state, whether one is half done or not
  pub represented : Stands g place half p → (st : State) × Represents g st p
  represented S = cases half (λ t. ((S.midway t).state, (S.midway t).stands)) (λ f. ((S.whole f).state, (S.whole f).stands))

  -- nor is it at the end of the list
  pub at_the_end : Stands g place half p → g.updates.count ≤ place → Standing g place p
  at_the_end S e = cases half (λ t. absurd (omega (arith, (S.commit t).1))) (λ f. S.whole f)

  module _ {number : ℕ} (z : number ≡ 0) (short : g.updates.count ≤ 64) {d : Decision} where
    -- from a turn that decides
    pub decides : place < g.updates.count → Decided g place half p d → KeysFit p.held.own_tables.schemas.keys → Turn g number place true half p d
    decides l D k = record { within = omega arith; fit = k; short = λ _. short; refused = λ n. absurd (n z); stands = λ _ f. absurd (true≢false f); waits = λ _ _. (l, D) }

  -- from a turn that stores: a refusal, or the next decision
  module _ {d : Decision} (l : place < g.updates.count) (D : Decided g place half p d) (short : g.updates.count ≤ 64) where
    pub refuses : {e : Decision} → KeysFit p.held.own_tables.schemas.keys → (d.number ≡ 0 → ⊥) → Turn g d.number place false half p e
    refuses k n = record { within = omega arith; fit = k; short = λ _. short; refused = λ _. D.refuses n; stands = λ z _. absurd (n z); waits = λ z _. absurd (n z) }

    ahead : cond half place (place + 1) ≤ g.updates.count
    ahead = cases half (λ t. rw t (omega arith)) (λ f. rw f (omega arith))

    module _ (z : d.number ≡ 0) {next : ℕ} (q : next ≡ cond half place (place + 1)) where
      pub goes_on_lem : {e : Decision} {w : Pieces} → KeysFit w.held.own_tables.schemas.keys → Stands g (cond half place (place + 1)) half w → Turn g d.number next false half w e
      goes_on_lem k S = record { within = rw q ahead; fit = k; short = λ _. short; refused = λ n. absurd (n z); stands = λ _ _. rw q S; waits = λ _ f. absurd (false≢true f) }

-- ---- the family of an update, by its kind

two : (P : ℕ → Type 0) (a k : ℕ) → a ≤ k → k ≤ a + 1 → P a → P (a + 1) → P k
two P a k l h x y = cases (eqb k a) (λ t. subst P (sym (eqb-true k a t)) x) (λ f. subst P (let q : a + 1 ≡ k = omega (arith, eqb-false k a f) in q) y)

module _ (u : TableUpdate) (f : update_formed (read_update u) ≡ true) where
  read : read_update u ≡ read_kind u
  read = read_tidy u (formed_tidy u f)

  pub is_single : u.kind ≤ set_location_kind → group (read_update u) ≡ 1
  is_single h = ap group read ∙ cases (eqb u.kind assign_uuid_kind) (λ t. rw (eqb-true u.kind assign_uuid_kind t)) (λ n. two (λ k. group (at_kind k (readings u)) ≡ 1) 2 u.kind (omega (arith, bounds u f, eqb-false u.kind assign_uuid_kind n)) h refl refl)

  pub is_ref_removal : u.kind ≡ remove_ref_kind → group (read_update u) ≡ 4
  is_ref_removal e = ap group read ∙ rw e

  pub is_schemas : add_schema_kind ≤ u.kind → u.kind ≤ remove_schemas_kind → group (read_update u) ≡ 2
  is_schemas l h = ap group read ∙ cases (eqb u.kind add_schema_kind) (λ t. rw (eqb-true u.kind add_schema_kind t)) (λ n. two (λ k. group (at_kind k (readings u)) ≡ 2) 10 u.kind (omega (arith, eqb-false u.kind add_schema_kind n)) h refl refl)

  pub is_orders : remove_schemas_kind < u.kind → u.kind ≤ set_default_sort_order_kind → group (read_update u) ≡ 3
  is_orders l h = ap group read ∙ two (λ k. group (at_kind k (readings u)) ≡ 3) 12 u.kind (omega arith) h refl refl

  pub is_statistics : set_default_sort_order_kind < u.kind → u.kind ≤ remove_statistics_kind → group (read_update u) ≡ 5
  is_statistics l h = ap group read ∙ two (λ k. group (at_kind k (readings u)) ≡ 5) 14 u.kind (omega arith) h refl refl

  pub is_partition_statistics : remove_statistics_kind < u.kind → u.kind ≤ remove_partition_statistics_kind → group (read_update u) ≡ 6
  is_partition_statistics l h = ap group read ∙ two (λ k. group (at_kind k (readings u)) ≡ 6) 16 u.kind (omega arith) h refl refl

  pub is_specs : remove_partition_statistics_kind < u.kind → group (read_update u) ≡ 7
  is_specs l = ap group read ∙ cases (eqb u.kind add_partition_spec_kind) (λ t. rw (eqb-true u.kind add_partition_spec_kind t)) (λ n. two (λ k. group (at_kind k (readings u)) ≡ 7) 19 u.kind (omega (arith, eqb-false u.kind add_partition_spec_kind n)) (omega (arith, bounds u f)) refl refl)
