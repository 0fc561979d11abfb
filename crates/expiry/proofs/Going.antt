-- A walk on its way from place to place: what is listed is marked, and each step marks a held snapshot that was not, so that the steps that the rule allows are
-- enough. This is so whatever stops the walk, and whatever the marks are, as long as they tell a listed one from the others.
use Prim.Native.Nat.{ℕ, zero, suc, ◌+◌, ◌-◌, ◌≤◌, ◌<◌}
use native.Mathlib.Omega.{arith}
use mathlib.Core.Path.{◌≡◌, refl, sym, ap, ◌∙◌}
use mathlib.Core.Bool.{Bool, true, false, cond}
use mathlib.Core.List.{List, [], ◌∷◌, ◌++◌}
use mathlib.Core.Option.{Option, none, some}
use borrow.Author.Tests.{ne_eqb}
use lib.Dec.{eqb}
use lib.IntN.{ℤ, pos}
use lib.ListN.{length, get_or, set, length-append, length-map}
use Rattle.rules.specs.Words.{eq_z, is_some, is_in}
use Rattle.rules.specs.Capacities.{snapshot_room}
use Rattle.rules.specs.Register.{Snapshot}
use Rattle.rules.specs.Walk.{Walk, Listed, Twice, parent_of, follow, snapshot_ids, snapshot_parents}
use Rattle.rules.proofs.Checks.{neither}
use Rattle.rules.proofs.Orders.{numbers_told}
use Rattle.rules.proofs.Unlisted.{held, unlisted, none_listed, fewer}
use Rattle.search.proofs.Places.{index_le, eq_z_turned}
use Rattle.search.proofs.Parents.{parent_none, parent_at}
use Rattle.retention.specs.Reasons.{nothing, place_of}
use Rattle.retention.proofs.Reason.{placed}
use Rattle.expiry.specs.Found.{marked, place_in, Placed}
use Rattle.expiry.proofs.Slots.{place_is, map_at, slotted_at, slotted_none, slotted_set}

-- ---- marks that are not set yet

abbrev pub unmarked : List ℕ → ℕ
unmarked [] = 0
unmarked (x ∷ l) = cond (eqb x nothing) 1 0 + unmarked l

pub marks_one : (l : List ℕ) (k v : ℕ) → k < length l → get_or l k 0 ≡ nothing → (v ≡ nothing → ⊥) → unmarked l ≡ suc (unmarked (set l k v))
marks_one [] k v h e n = absurd (omega arith)
marks_one (x ∷ l) zero v h e n = rw (e, ne_eqb v 0 n) (omega arith)
marks_one (x ∷ l) (suc k) v h e n = omega (arith, marks_one l k v (omega arith) e n)

-- ---- one more in a list

module _ (id : ℤ) where
  -- the others keep their places
  place_before : (l : List ℤ) (x : ℤ) → eq_z id x ≡ false → place_of (l ++ (id ∷ [])) x ≡ place_of l x
  place_before [] x e = rw e
  place_before (y ∷ l) x e = rw (place_before l x e)

  -- it gets the last one, where it was not there
  place_last : (l : List ℤ) → is_in l id ≡ false → place_of (l ++ (id ∷ [])) id ≡ some (length l)
  place_last [] e = rw (numbers_told.itself id)
  place_last (y ∷ l) e =
      let n = neither (eq_z id y) (is_in l id) e in
      rw (eq_z_turned y id ∙ n.0, place_last l n.1)

-- ---- walks

-- as many places as held snapshots
pub held_places : {snapshots : List Snapshot} {over : List ℕ} → Placed snapshots over → length over ≡ length (snapshot_ids snapshots)
held_places {snapshots} h =
    ap length h.places
    ∙ length-map (snapshot_parents snapshots) (place_in (snapshot_ids snapshots))
    ∙ length-map snapshots _
    ∙ sym (length-map snapshots (λ (s : Snapshot). s.id))

-- marks that tell: of one that is not listed there is none
pub record Telling (code : Option ℕ → ℕ) : Type 0 where
  pub absent : code none ≡ nothing
  pub there : (k : ℕ) → code (some k) ≡ nothing → ⊥

module _ (snapshots : List Snapshot) (stops : List ℤ → ℤ → Bool) (code : Option ℕ → ℕ) (start : ℤ) where
  abbrev ids : List ℤ
  ids = snapshot_ids snapshots

  abbrev parents : List ℤ
  parents = snapshot_parents snapshots

  abbrev from : ℕ → List ℤ → ℤ → Walk
  from k listed id = follow k (parent_of ids parents) stops listed id

  abbrev pub whole : Walk
  whole = from (suc snapshot_room) [] start

  -- where a walk goes from an id, told whether it stops there, whether the id is listed, and what parent it has
  abbrev after : ℕ → List ℤ → ℤ → Bool → Bool → Option ℤ → Walk
  after k listed id s t none = Listed listed
  after k listed id s t (some next) = cond s (Listed listed) (cond t Twice (from k (listed ++ (id ∷ [])) next))

  by_step : (k : ℕ) (listed : List ℤ) (id : ℤ) → from (suc k) listed id ≡ after k listed id (stops listed id) (is_in listed id) (parent_of ids parents id)
  unfolding follow
  by_step k listed id = go (parent_of ids parents id)
    where
      go : (o : Option ℤ) → elim o [ none ↦ Listed listed | some next ↦ cond (stops listed id) (Listed listed) (cond (is_in listed id) Twice (from k (listed ++ (id ∷ [])) next)) ] ≡ after k listed id (stops listed id) (is_in listed id) o
      go none = refl
      go (some next) = refl

  -- the marks of what is listed
  abbrev pub marks_of : List ℤ → List ℕ
  marks_of listed = marked (λ x. code (place_of listed x)) ids

  -- these are listed and marked, and the id at the place is next
  pub record Going (slots : List ℕ) (place : ℕ) : Type 0 where
    pub listed : List ℤ
    pub id : ℤ
    pub fresh : length listed + unlisted listed ids ≤ length ids
    pub same : whole ≡ from (suc (snapshot_room - length listed)) listed id
    pub here : place ≡ place_in ids id
    pub marks : slots ≡ marks_of listed

  module _ {over : List ℕ} (h : Placed snapshots over) (tells : Telling code) where
    few : length ids ≤ snapshot_room
    few = rw (length-map snapshots (λ (s : Snapshot). s.id)) h.few

    even : length ids ≡ length parents
    even = length-map snapshots (λ (s : Snapshot). s.id) ∙ sym (length-map snapshots _)

    pub begins : {place : ℕ} → place ≡ place_in ids start → Going (lib.ListN.replicate snapshot_room nothing) place
    begins e =
        record {
          listed = [];
          id = start;
          fresh = omega (arith, none_listed ids);
          same = refl;
          here = e;
          marks = slotted_none nothing ids few ∙ ap (λ (f : ℤ → ℕ). marked f ids) (λ i x. sym tells.absent i);
        }

    pub begins_none : {place : ℕ} (e : place ≡ place_in ids start) → length (begins e).listed ≡ 0
    unfolding begins
    begins_none e = refl

    module _ {slots : List ℕ} {place : ℕ} (g : Going slots place) where
      goes : whole ≡ after (snapshot_room - length g.listed) g.listed g.id (stops g.listed g.id) (is_in g.listed g.id) (parent_of ids parents g.id)
      goes = g.same ∙ by_step (snapshot_room - length g.listed) g.listed g.id

      -- it ends where the next is not held
      pub ends : length ids ≤ place → whole ≡ Listed g.listed
      ends b = goes ∙ rw (parent_none g.id ids parents (omega (arith, g.here, index_le (λ x. eq_z x g.id) ids)))

      module _ (b : place < length ids) where
        abbrev next : ℤ
        next = get_or parents place (pos 0)

        to : parent_of ids parents g.id ≡ some next
        to = rw g.here (parent_at g.id ids parents even (omega (arith, g.here)))

        itself : get_or ids place (pos 0) ≡ g.id
        itself = rw g.here (place_is ids g.id (omega (arith, g.here)))

        slot : get_or slots place 0 ≡ code (place_of g.listed g.id)
        slot = ap (λ (l : List ℕ). get_or l place 0) g.marks ∙ slotted_at nothing ids _ place b ∙ ap (λ (x : ℤ). code (place_of g.listed x)) itself

        -- a mark says that it is listed
        pub seen : (get_or slots place 0 ≡ nothing → ⊥) → is_in g.listed g.id ≡ true
        seen n = sym (placed g.listed g.id) ∙ go (place_of g.listed g.id) (λ e. n (slot ∙ e))
          where
            go : (o : Option ℕ) → (code o ≡ nothing → ⊥) → is_some o ≡ true
            go none k = absurd (k tells.absent)
            go (some j) k = refl

        pub unseen : get_or slots place 0 ≡ nothing → is_in g.listed g.id ≡ false
        unseen e = sym (placed g.listed g.id) ∙ go (place_of g.listed g.id) (sym slot ∙ e)
          where
            go : (o : Option ℕ) → code o ≡ nothing → is_some o ≡ false
            go none k = refl
            go (some j) k = absurd (tells.there j k)

        -- it stops in front of one
        pub stopped : stops g.listed g.id ≡ true → whole ≡ Listed g.listed
        stopped e = goes ∙ rw (to, e)

        -- it meets one twice
        pub twice : stops g.listed g.id ≡ false → is_in g.listed g.id ≡ true → whole ≡ Twice
        twice e f = goes ∙ rw (to, e, f)

        module _ (e : stops g.listed g.id ≡ false) (f : is_in g.listed g.id ≡ false) where
          abbrev longer : List ℤ
          longer = g.listed ++ (g.id ∷ [])

          less : unlisted longer ids < unlisted g.listed ids
          less = fewer g.listed g.id ids (held ids parents g.id to) f

          onward : whole ≡ from (snapshot_room - length g.listed) longer next
          onward = goes ∙ rw (to, e, f)

          marked_on : set slots place (code (some (length g.listed))) ≡ marks_of longer
          marked_on =
              rw (g.marks, ← place_last g.id g.listed f)
              (slotted_set nothing (λ x. code (place_of g.listed x)) (λ x. code (place_of longer x)) ids g.id g.here (λ y n. ap code (sym (place_before g.id g.listed y n))) b h.order)

          pub goes_on_lem : Going (set slots place (code (some (length g.listed)))) (get_or over place 0)
          goes_on_lem =
              record {
                listed = longer;
                id = next;
                fresh = omega (arith, g.fresh, less, length-append g.listed (g.id ∷ []));
                same = onward ∙ ap (λ (k : ℕ). from k longer next) (omega (arith, g.fresh, less, few, length-append g.listed (g.id ∷ [])));
                here = ap (λ (l : List ℕ). get_or l place 0) h.places ∙ map_at 0 (place_in ids) (pos 0) parents place (omega (arith, even));
                marks = marked_on;
              }

          pub goes_more : length goes_on_lem.listed ≡ length g.listed + 1
          unfolding goes_on_lem
          goes_more = length-append g.listed (g.id ∷ [])
