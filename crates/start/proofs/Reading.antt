-- Updates as they are read: by their kind, by their place in the list, and what they count.
use Prim.Native.Nat.{ℕ, zero, suc, ◌+◌, ◌≤◌, ◌<◌}
use native.Mathlib.Omega.{arith}
use native.Mathlib.Numerals.{add-one}
use mathlib.Core.Path.{◌≡◌, refl, sym, ap, ◌∙◌}
use mathlib.Core.Bool.{Bool, true, false, cond, ◌&&◌, ◌||◌, false≢true}
use mathlib.Core.List.{List, [], ◌∷◌, map}
use lib.Dec.{eqb, leb}
use lib.ListN.{length, get_or, take, drop, length-map, length-take, drop_of_length-le}
use lib.Seq.{drop-cons, get_or-take}
use borrow.Author.Tests.{eqb-true, leb-true}
use borrow.Table.Steps.{cases}
use Rattle.records.specs.Blanks.{no_update}
use Rattle.records.specs.declared.update.TableUpdate.{TableUpdate}
use Rattle.records.specs.declared.update.UpdateList.{UpdateList}
use Rattle.rules.specs.Words.{all, any, total}
use Rattle.rules.specs.Register.{Update}
use Rattle.rules.specs.Register.Update.{AddSnapshot, SetBranchSnapshot, RemoveSnapshots, SetRef, RemoveRef, NotFormed}
use Rattle.rules.specs.WellFormed.{update_formed}
use Rattle.rules.specs.Run.{weight}
use Rattle.rules.specs.Layout.{counted, read_name, read_snapshot, read_reference, read_snapshot_ids}
use Rattle.rules.specs.Kinds.{is_tidy_update, kind_weight, at_kind, readings, read_kind, read_update, read_updates, assign_uuid_kind, upgrade_format_version_kind, set_location_kind, add_snapshot_kind, set_branch_snapshot_kind, remove_snapshots_kind, set_ref_kind, remove_ref_kind, add_schema_kind, set_current_schema_kind, remove_schemas_kind, add_sort_order_kind, set_default_sort_order_kind, set_statistics_kind, remove_statistics_kind, set_partition_statistics_kind, remove_partition_statistics_kind, add_partition_spec_kind, set_default_partition_spec_kind, remove_partition_specs_kind}
use Rattle.rules.proofs.Checks.{and_left, and_right, by_either, neither, by_test}
use Rattle.rules.proofs.Slots.Relaid.{counted_take, length_counted}

-- ---- by its kind

pub formed_tidy : (u : TableUpdate) → update_formed (read_update u) ≡ true → is_tidy_update u ≡ true
unfolding read_update update_formed
formed_tidy u f = go (is_tidy_update u) f
  where
    go : (b : Bool) → update_formed (cond b (read_kind u) (NotFormed (kind_weight u.kind))) ≡ true → b ≡ true
    go true f = refl
    go false f = absurd (false≢true f)

pub read_tidy : (u : TableUpdate) → is_tidy_update u ≡ true → read_update u ≡ read_kind u
unfolding read_update
read_tidy u t = rw t

-- the kinds of updates
abbrev pub kinds : List ℕ
kinds = assign_uuid_kind ∷ upgrade_format_version_kind ∷ set_location_kind ∷ add_snapshot_kind ∷ set_branch_snapshot_kind ∷ remove_snapshots_kind ∷ set_ref_kind ∷ remove_ref_kind ∷ add_schema_kind ∷ set_current_schema_kind ∷ remove_schemas_kind ∷ add_sort_order_kind ∷ set_default_sort_order_kind ∷ set_statistics_kind ∷ remove_statistics_kind ∷ set_partition_statistics_kind ∷ remove_partition_statistics_kind ∷ add_partition_spec_kind ∷ set_default_partition_spec_kind ∷ remove_partition_specs_kind ∷ []

-- of another kind nothing is read
unknown : (k : ℕ) (l : List (ℕ × Update)) → any (eqb k) (map (λ (x : ℕ × Update). x.0) l) ≡ false → at_kind k l ≡ NotFormed 1
unknown k [] e = refl
unknown k (x ∷ l) e = let n = neither (eqb k x.0) (any (eqb k) (map (λ (y : ℕ × Update). y.0) l)) e in rw n.0 (unknown k l n.1)

module _ (u : TableUpdate) (f : update_formed (read_update u) ≡ true) where
  pub read_add_snapshot : u.kind ≡ add_snapshot_kind → read_update u ≡ AddSnapshot (read_snapshot u.snapshots.added)
  read_add_snapshot e = read_tidy u (formed_tidy u f) ∙ rw e

  pub read_set_branch_snapshot : u.kind ≡ set_branch_snapshot_kind → read_update u ≡ SetBranchSnapshot (read_name u.refs.name) (read_snapshot u.snapshots.added)
  read_set_branch_snapshot e = read_tidy u (formed_tidy u f) ∙ rw e

  pub read_remove_snapshots : u.kind ≡ remove_snapshots_kind → read_update u ≡ RemoveSnapshots (read_snapshot_ids u.snapshots.removed)
  read_remove_snapshots e = read_tidy u (formed_tidy u f) ∙ rw e

  pub read_set_ref : u.kind ≡ set_ref_kind → read_update u ≡ SetRef (read_name u.refs.name) (read_reference u.refs.reference)
  read_set_ref e = read_tidy u (formed_tidy u f) ∙ rw e

  pub read_remove_ref : u.kind ≡ remove_ref_kind → read_update u ≡ RemoveRef (read_name u.refs.name)
  read_remove_ref e = read_tidy u (formed_tidy u f) ∙ rw e

  -- its form by its kind alone
  pub formed_kind : update_formed (read_kind u) ≡ true
  formed_kind = rw (read_tidy u (formed_tidy u f)) at f

  -- it is of one of the kinds
  pub known : any (eqb u.kind) kinds ≡ true
  unfolding update_formed
  known =
      cases (any (eqb u.kind) kinds) (λ e. e)
      (λ e. absurd (false≢true (sym (ap update_formed (unknown u.kind (readings u) e)) ∙ formed_kind)))

  -- and so its kind is one of their numbers
  pub bounds : (assign_uuid_kind ≤ u.kind) × (u.kind ≤ remove_partition_specs_kind)
  bounds = go kinds known refl
    where
      go : (l : List ℕ) → any (eqb u.kind) l ≡ true → all (λ x. leb assign_uuid_kind x && leb x remove_partition_specs_kind) l ≡ true → (assign_uuid_kind ≤ u.kind) × (u.kind ≤ remove_partition_specs_kind)
      go [] e h = absurd (false≢true e)
      go (x ∷ l) e h =
          let k = and_left (leb assign_uuid_kind x && leb x remove_partition_specs_kind) (all (λ x. leb assign_uuid_kind x && leb x remove_partition_specs_kind) l) h in
          by_either (eqb u.kind x) (any (eqb u.kind) l)
          (λ t. rw (eqb-true u.kind x t) (leb-true assign_uuid_kind x (and_left (leb assign_uuid_kind x) (leb x remove_partition_specs_kind) k), leb-true x remove_partition_specs_kind (and_right (leb assign_uuid_kind x) (leb x remove_partition_specs_kind) k)))
          (λ t. go l t (and_right (leb assign_uuid_kind x && leb x remove_partition_specs_kind) (all (λ x. leb assign_uuid_kind x && leb x remove_partition_specs_kind) l) h))
          e

-- ---- what it counts

module _ (k : ℕ) (n : eqb k set_branch_snapshot_kind ≡ false) where
  counts_one : (l : List (ℕ × Update)) → all (λ x. eqb x.0 set_branch_snapshot_kind || eqb (weight x.1) 1) l ≡ true → weight (at_kind k l) ≡ 1
  counts_one [] h = refl
  counts_one (x ∷ l) h =
      by_test (λ (y : Update). weight y ≡ 1) (eqb k x.0)
      (λ e. by_either (eqb x.0 set_branch_snapshot_kind) (eqb (weight x.1) 1) (λ q. absurd (false≢true (sym n ∙ rw (eqb-true k x.0 e) q))) (eqb-true (weight x.1) 1) (and_left (eqb x.0 set_branch_snapshot_kind || eqb (weight x.1) 1) _ h))
      (λ e. counts_one l (and_right (eqb x.0 set_branch_snapshot_kind || eqb (weight x.1) 1) _ h))

one_of : (k : ℕ) → eqb k set_branch_snapshot_kind ≡ false → kind_weight k ≡ 1
one_of k e = rw e

pub weight_read : (u : TableUpdate) → weight (read_update u) ≡ kind_weight u.kind
unfolding read_update
weight_read u =
    by_test (λ (x : Update). weight x ≡ kind_weight u.kind) (is_tidy_update u)
    (λ t. cases (eqb u.kind set_branch_snapshot_kind)
    (λ e. rw (eqb-true u.kind set_branch_snapshot_kind e))
    (λ e. counts_one u.kind e (readings u) refl ∙ sym (one_of u.kind e)))
    (λ t. refl)

pub counts : (k : ℕ) → (1 ≤ kind_weight k) × (kind_weight k ≤ 2)
counts k = by_test (λ (n : ℕ). (1 ≤ n) × (n ≤ 2)) (eqb k set_branch_snapshot_kind) (λ e. (omega arith, omega arith)) (λ e. (omega arith, omega arith))

pub weighs : (l : List TableUpdate) → length l ≤ total weight (map read_update l)
weighs [] = omega arith
weighs (u ∷ l) = omega (arith, weighs l, weight_read u, (counts u.kind).0)

-- ---- by its place

get_d_map : (l : List TableUpdate) (i : ℕ) (d : TableUpdate) → get_or (map read_update l) i (read_update d) ≡ read_update (get_or l i d)
get_d_map [] i d = refl
get_d_map (x ∷ l) zero d = refl
get_d_map (x ∷ l) (suc i) d = get_d_map l i d

pub read_length : (us : UpdateList) → length (read_updates us) ≡ us.count
unfolding read_updates
read_length us = length-map (counted no_update us.items us.count) read_update ∙ length_counted no_update us.items us.count

pub here : (us : UpdateList) (i : ℕ) (d : TableUpdate) → i < us.count → us.count ≤ length us.items → drop i (read_updates us) ≡ read_update (get_or us.items i d) ∷ drop (i + 1) (read_updates us)
unfolding read_updates
here us i d h r =
    let n : ℕ = us.count in
    let c : counted no_update us.items n ≡ take n us.items = counted_take no_update us.items n r in
    let l : i < length (map read_update (take n us.items)) = simp (length-map, length-take) (omega arith) in
    rw (c, drop-cons (map read_update (take n us.items)) i (read_update d) l, get_d_map (take n us.items) i d, get_or-take n us.items i d h, add-one i)

pub all_read : (us : UpdateList) (i : ℕ) → us.count ≤ i → drop i (read_updates us) ≡ []
all_read us i h = drop_of_length-le (read_updates us) {i = i} (omega (arith, read_length us))
