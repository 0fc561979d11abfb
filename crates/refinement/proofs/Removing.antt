-- A removal of snapshots, decided: the tables that are left, and the log with its entry, if there is one.
use Prim.Native.Nat.{ℕ, ◌+◌, ◌≤◌}
use native.Mathlib.Omega.{arith}
use mathlib.Core.Path.{◌≡◌, refl, sym, ap, ◌∙◌}
use mathlib.Core.Bool.{Bool, true, false, not, ◌||◌}
use mathlib.Core.List.{List, ◌∷◌}
use lib.IntN.{ℤ, pos}
use lib.ListN.{length, take, drop}
use lib.Signed.{lt_z}
use borrow.Author.Tests.{not-true, not-false}
use Rattle.records.specs.declared.snapshot.Snapshots.{Snapshots}
use Rattle.records.specs.declared.reference.Refs.{Refs}
use Rattle.rules.specs.Words.{is_in, is_empty, keep, ascending}
use Rattle.rules.specs.Register as plain
use Rattle.rules.specs.Register.{Update, State}
use Rattle.rules.specs.Register.Update.{RemoveSnapshots}
use Rattle.rules.specs.WellFormed.{snapshot_below, points_in}
use Rattle.rules.specs.SnapshotUpdates.{remove_snapshots, held_snapshots, other_snapshots}
use Rattle.rules.specs.Updates.{offers_formed, checks, effect}
use Rattle.rules.specs.Run.{weight}
use Rattle.rules.specs.Layout.{pad, read_snapshots, laid_snapshots, read_refs, laid_refs}
use Rattle.rules.specs.Kinds.{read_updates}
use Rattle.rules.proofs.Checks.{by_test}
use Rattle.rules.proofs.Slots.Reread.{reread_snapshots}
use Rattle.rules.proofs.Tables.{keep_length, pairs_keep}
use Rattle.tables.specs.Laid.{LaidSnapshots}
use Rattle.builder.specs.declared.decision.Decision.{Decision}
use Rattle.builder.specs.Pieces.{laid_builder, ids_of}
use Rattle.builder.proofs.Positions.{in_held}
use Rattle.snapshot_updates.specs.Snapshots.{SnapshotsGone}
use Rattle.refinement.specs.Standing.{Given, terms_of, Pieces, with_removal, Tables, Passes, Standing}
use Rattle.refinement.specs.Turns.{Decided}
use Rattle.refinement.proofs.Logged.{push_removal}
use Rattle.refinement.proofs.Moving.{fits, next, accepted}
use Rattle.refinement.proofs.Beginning.{read_snapshots_lem, read_refs_lem, laid_snapshots_lem, snapshots_ascend}
use Rattle.refinement.proofs.Closed.{lent, lent_ascends, lent_within, lent_slice}
use Rattle.refinement.proofs.Deciding.{whole, entry_room}

-- snapshots that are laid out from no more than there is room for
pub laid_of : (l : List plain.Snapshot) → length l ≤ 64 → {t : Snapshots} → t ≡ laid_snapshots l → LaidSnapshots t
laid_of l h {t} e =
    let q : read_snapshots t ≡ l = rw e (reread_snapshots l) in
    record { back = rw q (sym e); fits = rw q h }

or_nothing_lem : (b : Bool) → (b || false) ≡ b
or_nothing_lem true = refl
or_nothing_lem false = refl

-- the pieces with other snapshots and refs, and a removal that may be logged
abbrev pub removed : Snapshots → List ℤ → Refs → Bool → Pieces → Pieces
removed t is r b p =
    record {
      held = record { builder = p.held.builder; snapshots = t; ids = is; refs = r; log = p.held.log; last = p.held.last; own_tables = p.held.own_tables };
      changes = with_removal b p.changes;
    }

module _ {g : Given} {i : ℕ} {p : Pieces} (S : Standing g i p) (v : Update) (at : drop i (read_updates g.updates) ≡ v ∷ drop (i + 1) (read_updates g.updates)) (one : 1 ≤ weight v) (e : Passes g.terms.office v S.state) (xs : List ℤ) (w : v ≡ RemoveSnapshots xs) where
  -- of the table as it is held
  kept : List plain.Snapshot
  kept = other_snapshots xs (read_snapshots p.held.snapshots)

  kept_fit : length kept ≤ 64
  unfolding kept
  kept_fit = omega (arith, keep_length (λ s. not (is_in xs s.id)) (read_snapshots p.held.snapshots), (laid_snapshots_lem S.stands).fits)

  pub left_laid : {t : Snapshots} → t ≡ laid_snapshots (other_snapshots xs (read_snapshots p.held.snapshots)) → LaidSnapshots t
  unfolding kept
  left_laid = laid_of kept kept_fit

  left : List plain.Snapshot
  left = other_snapshots xs S.state.metadata.snapshots

  -- the ids that are lent of those that are left: there are so many, and they ascend
  pub left_lent : {t : Snapshots} {is : List ℤ} → t ≡ laid_snapshots (other_snapshots xs (read_snapshots p.held.snapshots)) → is ≡ pad 64 (pos 0) (ids_of (read_snapshots t))
      → (t.count ≤ length is) × (t.count ≡ length (take t.count is)) × (ascending lt_z (take t.count is) ≡ true)
  unfolding kept
  left_lent {t} {is} x y =
      let q : read_snapshots t ≡ kept = rw x (reread_snapshots kept) in
      let z : is ≡ pad 64 (pos 0) (ids_of kept) = y ∙ rw q in
      (lent_within kept x z kept_fit, lent_slice kept x z, lent_ascends kept x z (pairs_keep snapshot_below (λ s. not (is_in xs s.id)) (read_snapshots p.held.snapshots) (snapshots_ascend S.stands)))

  -- the tables after it, whether it is logged or not
  tables : {t : Snapshots} {is : List ℤ} {r : Refs} → t ≡ laid_snapshots (other_snapshots xs (read_snapshots p.held.snapshots)) → is ≡ pad 64 (pos 0) (ids_of (read_snapshots t)) → r ≡ laid_refs (keep (λ y. is_in (take t.count is) y.reference.snapshot) (read_refs p.held.refs))
      → (b : Bool) → Tables (effect (terms_of g) v S.state) (removed t is r b p).held
  unfolding effect remove_snapshots laid_builder left
  tables {t} {is} {r} x y z b =
      let E = S.stands in
      let T = E.tables in
      let kt : t ≡ laid_snapshots left = x ∙ rw (read_snapshots_lem E) in
      let rt : read_snapshots t ≡ left = rw kt (reread_snapshots left) in
      let ki : is ≡ pad 64 (pos 0) (ids_of left) = y ∙ rw rt in
      let kr : r ≡ laid_refs (keep (points_in left) S.state.metadata.refs) =
      z ∙ rw (lent left kt ki, read_refs_lem E) (ap (λ (q : plain.NamedRef → Bool). laid_refs (keep q S.state.metadata.refs)) (λ i y. in_held left y.reference.snapshot i)) in
      rw w
      (by_test (λ (s : State). Tables s (removed t is r b p).held) (is_empty (held_snapshots xs S.state.metadata.snapshots))
      (λ k. record { builder = T.builder; snapshots = kt; ids = ki; refs = kr; log = T.log; last = T.last; own_tables = T.own_tables })
      (λ k. record { builder = T.builder; snapshots = kt; ids = ki; refs = kr; log = T.log; last = T.last; own_tables = T.own_tables }))

  pub removed_decided : {d : Decision} → SnapshotsGone xs S.state d → {t : Snapshots} {is : List ℤ} {r : Refs} → t ≡ laid_snapshots (other_snapshots xs (read_snapshots p.held.snapshots)) → is ≡ pad 64 (pos 0) (ids_of (read_snapshots t)) → r ≡ laid_refs (keep (λ y. is_in (take t.count is) y.reference.snapshot) (read_refs p.held.refs))
      → Decided g i false (removed t is r d.logs p) d
  unfolding checks offers_formed effect remove_snapshots laid_builder
  removed_decided {d} D x y z =
      let T = tables x y z d.logs in
      let a = accepted S v at e {n = 0} (rw w) refl in
      record {
        refuses = λ q. absurd (q D.number);
        room = λ _. entry_room S v at one;
        logs = λ _ q.
            let k : is_empty (held_snapshots xs S.state.metadata.snapshots) ≡ false = not-true (is_empty (held_snapshots xs S.state.metadata.snapshots)) (sym D.logs ∙ q) in
            whole (next S v at a
            (record { builder = D.builder ∙ rw (w, k); snapshots = T.snapshots; ids = T.ids; refs = T.refs; log = T.log; last = T.last; own_tables = T.own_tables })
            (rw (w, k, q) (push_removal S.stands.logs (omega (arith, fits S v at)) (held_snapshots xs S.state.metadata.snapshots) D.entry)));
        stays = λ _ q.
            let k : is_empty (held_snapshots xs S.state.metadata.snapshots) ≡ true = not-false (is_empty (held_snapshots xs S.state.metadata.snapshots)) (sym D.logs ∙ q) in
            let L = S.stands.logs in
            whole (next S v at a T
            (rw (w, k, q) (record { entries = L.entries; count = L.count; added = L.added; adds = L.adds; main_targets = L.main_targets; mains = L.mains; removal = or_nothing_lem p.changes.removal ∙ L.removal })));
      }
