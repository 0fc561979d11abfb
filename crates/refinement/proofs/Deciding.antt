-- Updates that leave the snapshots alone: what comes of a decision of one of them.
use Prim.Native.Nat.{ℕ, ◌+◌, ◌≤◌, ◌<◌}
use native.Mathlib.Omega.{arith}
use mathlib.Core.Path.{◌≡◌, refl, sym, ap, ◌∙◌}
use mathlib.Core.Bool.{Bool, true, false, cond, not, true≢false, false≢true}
use mathlib.Core.List.{List, [], ◌∷◌}
use lib.Dec.{eqb}
use lib.ListN.{drop}
use borrow.Table.Steps.{cases}
use Rattle.records.specs.declared.reference.Refs.{Refs}
use Rattle.rules.specs.Words.{is_some, keep, first}
use Rattle.rules.specs.Names.{is_main}
use Rattle.rules.specs.Register.{Update, State}
use Rattle.rules.specs.Register.StatisticsTable.{Statistics, PartitionStatistics}
use Rattle.rules.specs.Register.Update.{RemoveRef}
use Rattle.rules.specs.WellFormed.{update_formed}
use Rattle.rules.specs.RefUpdates.{has_name, ref_named, remove_ref}
use Rattle.rules.specs.Replies.{update_not_formed, others_to_change}
use Rattle.rules.specs.Others.{is_others}
use Rattle.rules.specs.Updates.{offers_formed, effect}
use Rattle.rules.specs.Run.{weight}
use Rattle.rules.specs.Layout.{read_refs, laid_refs, laid_sort_orders, laid_statistics, laid_partition_specs}
use Rattle.rules.specs.Kinds.{read_update, read_updates}
use Rattle.rules.proofs.Checks.{by_test}
use Rattle.start.proofs.Reading.{read_set_branch_snapshot}
use Rattle.builder.specs.declared.decision.Decision.{Decision}
use Rattle.builder.specs.Pieces.{laid_builder}
use Rattle.builder.specs.Answers.{AnswersUpdate}
use Rattle.refinement.specs.Standing.{Given, terms_of, OwnTables, OwnTable, Slots, table_of, with_table, OwnLists, own_lists, held_schemas, laid_of, OwnLaid, Pieces, Represents, Passes, Standing}
use Rattle.refinement.specs.Standing.OwnTable.{of_schemas, of_orders, of_statistics, of_specs}
use Rattle.refinement.specs.Turns.{update_at, Stands, Decided}
use Rattle.refinement.proofs.Effects.{group, statistics_group, Aside, aside}
use Rattle.refinement.proofs.Logged.{push_quiet}
use Rattle.refinement.proofs.Moving.{fits, next, not_formed_refused, others_refused, check_refused, accepted}
use Rattle.refinement.proofs.Beginning.{read_refs_lem}

-- between two updates, where no branch commit is half done
pub whole : {g : Given} {i : ℕ} {p : Pieces} → Standing g i p → Stands g i false p
whole S = record { whole = λ e. S; midway = λ e. absurd (false≢true e); commit = λ e. absurd (false≢true e) }

-- the pieces with other refs and other tables
abbrev pub tabled : Refs → OwnTables → Pieces → Pieces
tabled r s p =
    record {
      held = record { builder = p.held.builder; snapshots = p.held.snapshots; ids = p.held.ids; refs = r; log = p.held.log; last = p.held.last; own_tables = s };
      changes = p.changes;
    }

-- the family number of a table
abbrev pub number_of : OwnTable → ℕ
number_of of_schemas = 2
number_of of_orders = 3
number_of (of_statistics which) = statistics_group which
number_of of_specs = 7

not_zero : (o : OwnTable) → number_of o ≡ 0 → ⊥
not_zero of_schemas z = omega arith
not_zero of_orders z = omega arith
not_zero (of_statistics Statistics) z = omega arith
not_zero (of_statistics PartitionStatistics) z = omega arith
not_zero of_specs z = omega arith

not_refs : (o : OwnTable) → eqb (number_of o) 4 ≡ false
not_refs of_schemas = refl
not_refs of_orders = refl
not_refs (of_statistics Statistics) = refl
not_refs (of_statistics PartitionStatistics) = refl
not_refs of_specs = refl

-- a table of a family, and the tables of the others
placed : (o : OwnTable) {l : OwnLists} {s : OwnTables} {t : Slots o} → t ≡ laid_of o l → ((q : OwnTable) → eqb (number_of o) (number_of q) ≡ false → table_of q s ≡ laid_of q l) → OwnLaid l (with_table o t s)
placed of_schemas x h = record { schemas = x; orders = h of_orders refl; statistics = h (of_statistics Statistics) refl; partition_statistics = h (of_statistics PartitionStatistics) refl; specs = h of_specs refl }
placed of_orders x h = record { schemas = h of_schemas refl; orders = x; statistics = h (of_statistics Statistics) refl; partition_statistics = h (of_statistics PartitionStatistics) refl; specs = h of_specs refl }
placed (of_statistics Statistics) x h = record { schemas = h of_schemas refl; orders = h of_orders refl; statistics = x; partition_statistics = h (of_statistics PartitionStatistics) refl; specs = h of_specs refl }
placed (of_statistics PartitionStatistics) x h = record { schemas = h of_schemas refl; orders = h of_orders refl; statistics = h (of_statistics Statistics) refl; partition_statistics = x; specs = h of_specs refl }
placed of_specs x h = record { schemas = h of_schemas refl; orders = h of_orders refl; statistics = h (of_statistics Statistics) refl; partition_statistics = h (of_statistics PartitionStatistics) refl; specs = x }

module _ {g : Given} {i : ℕ} {p : Pieces} (S : Standing g i p) (v : Update) (at : drop i (read_updates g.updates) ≡ v ∷ drop (i + 1) (read_updates g.updates)) (one : 1 ≤ weight v) where
  -- an entry has room
  pub entry_room : p.changes.count < 64
  entry_room = omega (arith, fits S v at, S.stands.logs.count)

  -- 3
  pub not_formed_decided : update_formed v ≡ false → (half : Bool) {d : Decision} → d.number ≡ 3 → Decided g i half p d
  not_formed_decided e half {d} n =
      record {
        refuses = λ y. rw n (not_formed_refused S v at e);
        room = λ z. entry_room;
        logs = λ z t. absurd (let y : ◌≡◌ {A = ℕ} 3 0 = sym n ∙ z in omega arith);
        stays = λ z t. absurd (let y : ◌≡◌ {A = ℕ} 3 0 = sym n ∙ z in omega arith);
      }

  -- 35, or 3 where what it offers is not well formed
  pub others_decided : update_formed v ≡ true → is_others g.terms.office v S.state.metadata ≡ true → {fits : Bool} → fits ≡ offers_formed (terms_of g) v → (half : Bool) {d : Decision} → d.number ≡ cond fits others_to_change update_not_formed → Decided g i half p d
  others_decided e o {fits} f half {d} n =
      let refused : d.number ≡ 0 → ⊥ = λ z. cases fits (λ t. let y : ◌≡◌ {A = ℕ} 35 0 = rw t at (sym n ∙ z) in omega arith) (λ u. let y : ◌≡◌ {A = ℕ} 3 0 = rw u at (sym n ∙ z) in omega arith) in
      record {
        refuses = λ y. rw n (others_refused S v at e o f);
        room = λ z. entry_room;
        logs = λ z t. absurd (refused z);
        stays = λ z t. absurd (refused z);
      }

  abbrev after : State
  after = effect (terms_of g) v S.state

  module _ (e : Passes g.terms.office v S.state) (n : group v ≡ 0 → ⊥) (d : Decision) (A : AnswersUpdate (terms_of g) v S.state d.number d.logs d.builder d.entry) where
    -- what it leaves as it was
    Q : Aside (group v) S.state after
    Q = aside (terms_of g) v S.state n

    quiet : (r : Refs) (h : OwnTables) → (d.number ≡ 0 → r ≡ laid_refs after.metadata.refs) → (d.number ≡ 0 → OwnLaid (own_lists after.metadata) h) → Decided g i false (tabled r h p) d
    quiet r h x y =
        let T = S.stands.tables in
        record {
          refuses = λ z. check_refused S v at e A.0 z;
          room = λ z. entry_room;
          logs = λ z t.
              let k = (A.1 z).took t in
              whole (next S v at (accepted S v at e A.0 z)
              (record { builder = k.builder; snapshots = rw Q.same.snapshots T.snapshots; ids = rw Q.same.snapshots T.ids; refs = x z; log = rw Q.same.log T.log; last = rw Q.same.log T.last; own_tables = y z })
              (rw k.log (push_quiet S.stands.logs (omega (arith, fits S v at)) k.update k.laid (Q.quiet k.update k.log))));
          stays = λ z t.
              let k : after ≡ S.state = (A.1 z).left t in
              whole (next S v at (accepted S v at e A.0 z)
              (record { builder = T.builder ∙ ap laid_builder (sym k); snapshots = rw Q.same.snapshots T.snapshots; ids = rw Q.same.snapshots T.ids; refs = x z; log = rw Q.same.log T.log; last = rw Q.same.log T.last; own_tables = y z })
              (rw k S.stands.logs));
        }

    same_refs : eqb (group v) 4 ≡ false → p.held.refs ≡ laid_refs after.metadata.refs
    same_refs f = S.stands.tables.refs ∙ ap laid_refs (sym (Q.same.refs f))

    same_own : (o : OwnTable) → eqb (group v) (number_of o) ≡ false → table_of o p.held.own_tables ≡ laid_of o (own_lists after.metadata)
    same_own of_schemas f = S.stands.tables.own_tables.schemas ∙ ap held_schemas (sym (Q.same.schemas f))
    same_own of_orders f = S.stands.tables.own_tables.orders ∙ ap laid_sort_orders (sym (Q.same.orders f))
    same_own (of_statistics Statistics) f = S.stands.tables.own_tables.statistics ∙ ap laid_statistics (sym (Q.same.statistics f))
    same_own (of_statistics PartitionStatistics) f = S.stands.tables.own_tables.partition_statistics ∙ ap laid_statistics (sym (Q.same.partition_statistics f))
    same_own of_specs f = S.stands.tables.own_tables.specs ∙ ap laid_partition_specs (sym (Q.same.specs f))

    same_tables : ((o : OwnTable) → eqb (group v) (number_of o) ≡ false) → OwnLaid (own_lists after.metadata) p.held.own_tables
    same_tables f = record { schemas = same_own of_schemas (f of_schemas); orders = same_own of_orders (f of_orders); statistics = same_own (of_statistics Statistics) (f (of_statistics Statistics)); partition_statistics = same_own (of_statistics PartitionStatistics) (f (of_statistics PartitionStatistics)); specs = same_own of_specs (f of_specs) }

  -- what a decision comes to, by the family of the update
  module _ (e : Passes g.terms.office v S.state) {d : Decision} (A : AnswersUpdate (terms_of g) v S.state d.number d.logs d.builder d.entry) where
    -- it changes single fields alone
    pub fields_decided : group v ≡ 1 → Decided g i false p d
    fields_decided k =
        let n : group v ≡ 0 → ⊥ = λ z. absurd (let y : ◌≡◌ {A = ℕ} 1 0 = sym k ∙ z in omega arith) in
        quiet e n d A p.held.refs p.held.own_tables (λ z. same_refs e n d A (rw k)) (λ z. same_tables e n d A (λ o. rw k (others o)))
      where
        others : (o : OwnTable) → eqb 1 (number_of o) ≡ false
        others of_schemas = refl
        others of_orders = refl
        others (of_statistics Statistics) = refl
        others (of_statistics PartitionStatistics) = refl
        others of_specs = refl

    -- it removes a ref
    pub refs_decided : group v ≡ 4 → {r : Refs} → (d.number ≡ 0 → r ≡ laid_refs (effect (terms_of g) v S.state).metadata.refs) → Decided g i false (tabled r p.held.own_tables p) d
    refs_decided k {r} x =
        let n : group v ≡ 0 → ⊥ = λ z. absurd (let y : ◌≡◌ {A = ℕ} 4 0 = sym k ∙ z in omega arith) in
        quiet e n d A r p.held.own_tables x (λ z. same_tables e n d A (λ o. rw k (others o)))
      where
        others : (o : OwnTable) → eqb 4 (number_of o) ≡ false
        others of_schemas = refl
        others of_orders = refl
        others (of_statistics Statistics) = refl
        others (of_statistics PartitionStatistics) = refl
        others of_specs = refl

    -- it is of a family with a table of its own, and the table is the one after the update
    pub own_decided : (o : OwnTable) → group v ≡ number_of o → {t : Slots o} → (d.number ≡ 0 → t ≡ laid_of o (own_lists (effect (terms_of g) v S.state).metadata)) → Decided g i false (tabled p.held.refs (with_table o t p.held.own_tables) p) d
    own_decided o k {t} x =
        let n : group v ≡ 0 → ⊥ = λ z. not_zero o (sym k ∙ z) in
        quiet e n d A p.held.refs (with_table o t p.held.own_tables) (λ z. same_refs e n d A (rw k (not_refs o))) (λ z. placed o (x z) (λ q f. same_own e n d A q (rw k f)))

-- ---- the refs after a removal

none_passes : {A : Type 0} (q : A → Bool) (l : List A) → is_some (first q l) ≡ false → keep (λ x. not (q x)) l ≡ l
none_passes q [] e = refl
none_passes q (x ∷ l) e = cases (q x) (λ t. absurd (true≢false (rw t at e))) (λ f. rw f (ap (λ (y : List _). x ∷ y) (none_passes q l (rw f at e))))

module _ {g : Given} {st : State} {p : Pieces} (E : Represents g st p) where
  pub refs_left : (v : Update) (name : List ℕ) → v ≡ RemoveRef name → {r : Refs} → r ≡ laid_refs (keep (λ x. not (has_name name x)) (read_refs p.held.refs)) → r ≡ laid_refs (effect (terms_of g) v st).metadata.refs
  unfolding effect remove_ref
  refs_left v name w q =
      q ∙ rw (read_refs_lem E, w) (ap laid_refs
      (by_test (λ (s : State). keep (λ x. not (has_name name x)) st.metadata.refs ≡ s.metadata.refs) (is_main name) (λ t. refl)
      (λ f. by_test (λ (s : State). keep (λ x. not (has_name name x)) st.metadata.refs ≡ s.metadata.refs) (is_some (ref_named name st.metadata.refs)) (λ t. refl) (λ u. none_passes (has_name name) st.metadata.refs u))))

-- ---- an update that is the other office's

-- whether a branch commit is half done or not: one that is was not the other's
pub others_stand : {g : Given} {i : ℕ} {half : Bool} {p : Pieces} → Stands g i half p → drop i (read_updates g.updates) ≡ read_update (update_at g i) ∷ drop (i + 1) (read_updates g.updates) → 1 ≤ weight (read_update (update_at g i)) → update_formed (read_update (update_at g i)) ≡ true
    → ((st : State) → Represents g st p → is_others g.terms.office (read_update (update_at g i)) st.metadata ≡ true) → {fits : Bool} → fits ≡ offers_formed (terms_of g) (read_update (update_at g i)) → {d : Decision} → d.number ≡ cond fits others_to_change update_not_formed → Decided g i false p d
unfolding is_others
others_stand {g} {i} {half} S at one e o f n =
    cases half
    (λ t. let M = S.midway t in absurd (false≢true (sym M.own ∙ rw (read_set_branch_snapshot (update_at g i) e (S.commit t).0) at (o M.state M.stands))))
    (λ w. let W = S.whole w in others_decided W (read_update (update_at g i)) at one e (o W.state W.stands) f false n)
