-- Slots that tell something of each id, in the order in which the ids ascend: what stands at a place, and what a store there makes of them.
use Prim.Native.Nat.{ℕ, zero, suc, ◌+◌, ◌-◌, ◌≤◌, ◌<◌}
use native.Mathlib.Omega.{arith}
use mathlib.Core.Path.{◌≡◌, refl, sym, ap, ap₂, ◌∙◌}
use mathlib.Core.Bool.{true, false, false≢true}
use mathlib.Core.List.{List, [], ◌∷◌, ◌++◌, map}
use borrow.Table.Steps.{cases}
use lib.IntN.{ℤ, pos}
use lib.ListN.{length, get_or, set, replicate, length-map, get_or-append, replicate-append-replicate}
use lib.Signed.{lt_z}
use Rattle.records.specs.Blanks.{no_snapshot}
use Rattle.records.specs.declared.snapshot.Snapshots.{Snapshots}
use Rattle.rules.specs.Words.{eq_z, all, ascending}
use Rattle.rules.specs.Capacities.{snapshot_room}
use Rattle.rules.specs.Register as plain
use Rattle.rules.specs.Walk.{snapshot_ids}
use Rattle.rules.specs.Layout.{pad, read_snapshot, read_snapshots}
use Rattle.rules.proofs.Orders.{numbers_ordered, numbers_told}
use Rattle.rules.proofs.Tables.{all_head, all_tail, all_at, pairs_head, pairs_tail}
use Rattle.search.proofs.Places.{eq_z_turned}
use Rattle.tables.specs.Laid.{LaidSnapshots}
use Rattle.tables.proofs.Each.{tidy_snapshots}
use Rattle.tables.proofs.Table.{read_length, at}
use Rattle.expiry.specs.Found.{slotted, place_in}

-- the one that is found at its place is the one that is looked for
pub place_is : (ids : List ℤ) (id : ℤ) → place_in ids id < length ids → get_or ids (place_in ids id) (pos 0) ≡ id
place_is [] id h = absurd (omega arith)
place_is (x ∷ ids) id h = cases (eq_z x id) (λ t. rw t (numbers_told.equal x id t)) (λ f. rw f (place_is ids id (omega (arith, rw f at h))))

-- one that is below another is not the other
apart : (x y : ℤ) → lt_z x y ≡ true → eq_z x y ≡ false
apart x y h = cases (eq_z x y) (λ t. absurd (false≢true (sym (numbers_ordered.irreflexive y) ∙ (rw (numbers_told.equal x y t) at h)))) (λ f. f)

apart_turned : (x y : ℤ) → lt_z x y ≡ true → eq_z y x ≡ false
apart_turned x y h = cases (eq_z y x) (λ t. absurd (false≢true (sym (numbers_ordered.irreflexive x) ∙ (rw (numbers_told.equal y x t) at h)))) (λ f. f)

module _ {A : Type 0} (b : A) where
  pub map_at : {B : Type 0} (f : B → A) (d : B) (l : List B) (k : ℕ) → k < length l → get_or (map f l) k b ≡ f (get_or l k d)
  map_at f d [] k h = absurd (omega arith)
  map_at f d (x ∷ l) zero h = refl
  map_at f d (x ∷ l) (suc k) h = map_at f d l k (omega arith)

  pub slotted_at : (ids : List ℤ) (f : ℤ → A) (k : ℕ) → k < length ids → get_or (slotted b f ids) k b ≡ f (get_or ids k (pos 0))
  slotted_at ids f k h = get_or-append (map f ids) _ b k (rw (length-map ids f) h) ∙ map_at f (pos 0) ids k h

  map_blank : {B : Type 0} (l : List B) → map (λ (x : B). b) l ≡ replicate (length l) b
  map_blank [] = refl
  map_blank (x ∷ l) = ap (λ (m : List A). b ∷ m) (map_blank l)

  -- nothing is told
  pub slotted_none : (ids : List ℤ) → length ids ≤ snapshot_room → replicate snapshot_room b ≡ slotted b (λ x. b) ids
  slotted_none ids h =
      let n : length ids + (snapshot_room - length (map (λ (x : ℤ). b) ids)) ≡ snapshot_room = rw (length-map ids (λ (x : ℤ). b)) (omega arith) in
      sym (ap (λ (l : List A). l ++ replicate (snapshot_room - length (map (λ (x : ℤ). b) ids)) b) (map_blank ids) ∙ replicate-append-replicate (length ids) _ b ∙ ap (λ (k : ℕ). replicate k b) n)

  module _ (f g : ℤ → A) where
    map_others : (x : ℤ) (ids : List ℤ) → all (lt_z x) ids ≡ true → ((y : ℤ) → eq_z x y ≡ false → f y ≡ g y) → map f ids ≡ map g ids
    map_others x [] h e = refl
    map_others x (y ∷ ids) h e = ap₂ (λ (a : A) (l : List A). a ∷ l) (e y (apart x y (all_head (lt_z x) y ids h))) (map_others x ids (all_tail (lt_z x) y ids h) e)

    set_told : (ids : List ℤ) (rest : List A) (k : ℕ) → k < length ids → ascending lt_z ids ≡ true → ((y : ℤ) → eq_z (get_or ids k (pos 0)) y ≡ false → f y ≡ g y)
        → set (map f ids ++ rest) k (g (get_or ids k (pos 0))) ≡ map g ids ++ rest
    set_told [] rest k h u e = absurd (omega arith)
    set_told (x ∷ ids) rest zero h u e = ap (λ (l : List A). g x ∷ (l ++ rest)) (map_others x ids (pairs_head lt_z x ids u) e)
    set_told (x ∷ ids) rest (suc k) h u e =
        ap₂ (λ (a : A) (l : List A). a ∷ l)
        (e x (apart_turned x (get_or ids k (pos 0)) (all_at (lt_z x) (pos 0) ids (pairs_head lt_z x ids u) k (omega arith))))
        (set_told ids rest k (omega arith) (pairs_tail lt_z x ids u) e)

    none_there : (id : ℤ) (ids : List ℤ) → length ids ≤ place_in ids id → ((y : ℤ) → eq_z id y ≡ false → f y ≡ g y) → map f ids ≡ map g ids
    none_there id [] h e = refl
    none_there id (x ∷ ids) h e =
        cases (eq_z x id)
        (λ t. absurd (omega (arith, rw t at h)))
        (λ n. ap₂ (λ (a : A) (l : List A). a ∷ l) (e x (eq_z_turned id x ∙ n)) (none_there id ids (omega (arith, rw n at h)) e))

    -- where something else is told of one id alone
    module _ (ids : List ℤ) (id : ℤ) {place : ℕ} (p : place ≡ place_in ids id) (e : (y : ℤ) → eq_z id y ≡ false → f y ≡ g y) where
      -- it is stored at its place
      pub slotted_set : place < length ids → ascending lt_z ids ≡ true → set (slotted b f ids) place (g id) ≡ slotted b g ids
      slotted_set h u =
          let i : get_or ids place (pos 0) ≡ id = rw p (place_is ids id (omega (arith, p))) in
          ap (λ (x : ℤ). set (slotted b f ids) place (g x)) (sym i)
          ∙ set_told ids _ place h u (λ y n. e y (rw i at n))
          ∙ ap (λ (n : ℕ). map g ids ++ replicate (snapshot_room - n) b) (length-map ids f ∙ sym (length-map ids g))

      -- or nowhere, where it has none
      pub slotted_same : length ids ≤ place → slotted b f ids ≡ slotted b g ids
      slotted_same h = ap (pad snapshot_room b) (none_there id ids (omega (arith, p)) e)

-- the id of a held snapshot
module _ {t : Snapshots} (h : LaidSnapshots t) where
  pub ids_long : length (snapshot_ids (read_snapshots t)) ≡ t.count
  ids_long = length-map (read_snapshots t) (λ (s : plain.Snapshot). s.id) ∙ read_length (tidy_snapshots h)

  pub id_at : (i : ℕ) → i < t.count → get_or (snapshot_ids (read_snapshots t)) i (pos 0) ≡ (get_or t.items i no_snapshot).snapshot_id.0
  id_at i b =
      map_at (pos 0) (λ (s : plain.Snapshot). s.id) (read_snapshot no_snapshot) (read_snapshots t) i (omega (arith, read_length (tidy_snapshots h)))
      ∙ ap (λ (s : plain.Snapshot). s.id) (at (tidy_snapshots h) i no_snapshot b)
