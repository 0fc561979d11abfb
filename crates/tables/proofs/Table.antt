-- Tables of any record: an array of slots, of which a count is in use, that is laid out from a list. What stands at an index of the array
-- stands there in the list.
use Prim.Native.Nat.{ℕ, ◌+◌, ◌≤◌, ◌<◌}
use native.Mathlib.Omega.{arith}
use native.Mathlib.Numerals.{add-one}
use mathlib.Core.Path.{◌≡◌, sym, ap, ◌∙◌}
use mathlib.Core.Bool.{Bool, true}
use mathlib.Core.List.{List, [], ◌∷◌, ◌++◌, map}
use lib.ListN.{length, get_or, take, drop, length-append, length-replicate, length-map, get_or-append, get_or-map}
use lib.Seq.{take-suc, drop-cons, get_or-take}
use Rattle.rules.specs.Layout.{counted, pad}
use Rattle.rules.specs.Words.{all}
use Rattle.rules.proofs.Tables.{all_head, all_drop}
use Rattle.rules.proofs.Slots.Relaid.{length_counted, counted_take}

-- a kind of table: its slots, and what is read of one
pub record Kind : Type 1 where
  pub Slot : Type 0
  pub Plain : Type 0
  pub Whole : Type 0
  pub room : ℕ
  pub blank : Slot
  pub read : Slot → Plain
  pub lay : Plain → Slot
  pub items : Whole → List Slot
  pub count : Whole → ℕ

-- what is read of a table
abbrev pub listed : (K : Kind) → K.Whole → List K.Plain
listed K t = map K.read (counted K.blank (K.items t) (K.count t))

-- a list in the slots of a table
abbrev pub slotted : (K : Kind) → List K.Plain → List K.Slot
slotted K l = pad K.room K.blank (map K.lay l)

-- a table whose slots are laid out from what is read of it
pub record Tidy (K : Kind) (t : K.Whole) : Type 0 where
  pub slots : K.items t ≡ slotted K (listed K t)
  pub fits : length (listed K t) ≤ K.room

-- a table is its slots and its count, and no more: how it is laid out from a list
pub record Made (K : Kind) (laid : List K.Plain → K.Whole) : Type 0 where
  pub laid_items : (l : List K.Plain) → K.items (laid l) ≡ slotted K l
  pub laid_count : (l : List K.Plain) → K.count (laid l) ≡ length l
  pub same : {t u : K.Whole} → K.items t ≡ K.items u → K.count t ≡ K.count u → t ≡ u

-- as many are read as the count says
pub listed_length : (K : Kind) (t : K.Whole) → length (listed K t) ≡ K.count t
listed_length K t = length-map (counted K.blank (K.items t) (K.count t)) K.read ∙ length_counted K.blank (K.items t) (K.count t)

module _ {K : Kind} {t : K.Whole} (h : Tidy K t) where
  pub read_length : length (listed K t) ≡ K.count t
  read_length = listed_length K t

  pub within : K.count t ≤ K.room
  within = omega (arith, h.fits, read_length)

  pub long : length (K.items t) ≡ K.room
  long =
      let l : List K.Slot = map K.lay (listed K t) in
      let e : length l ≡ K.count t = length-map (listed K t) K.lay ∙ read_length in
      let m : length (pad K.room K.blank l) ≡ K.room = simp (length-append, length-replicate) (omega (arith, within)) in
      ap length h.slots ∙ m

  -- what is read is that of the slots in use
  pub listed_slots : listed K t ≡ map K.read (take (K.count t) (K.items t))
  listed_slots = ap (map K.read) (counted_take K.blank (K.items t) (K.count t) (omega (arith, within, long)))

  module _ (i : ℕ) (d : K.Slot) (b : i < K.count t) where
    pub at : get_or (listed K t) i (K.read d) ≡ K.read (get_or (K.items t) i d)
    at =
        let c = counted_take K.blank (K.items t) (K.count t) (omega (arith, within, long)) in
        get_or-map K.read (counted K.blank (K.items t) (K.count t)) i d
        ∙ ap (λ (l : List K.Slot). K.read (get_or l i d)) c
        ∙ ap K.read (get_or-take (K.count t) (K.items t) i d b)

    below : i < length (listed K t)
    below = omega (arith, read_length)

    -- from an index on, the list goes on with what stands there
    pub rest : drop i (listed K t) ≡ K.read (get_or (K.items t) i d) ∷ drop (i + 1) (listed K t)
    rest = drop-cons (listed K t) i (K.read d) below ∙ rw (at, add-one)

    -- up to an index and it, the list ends with what stands there
    pub next : take (i + 1) (listed K t) ≡ take i (listed K t) ++ (K.read (get_or (K.items t) i d) ∷ [])
    next = rw add-one (take-suc (listed K t) i (K.read d) below ∙ rw at)

    -- a test of all holds for what stands at an index
    pub each_at : (p : K.Plain → Bool) → all p (listed K t) ≡ true → p (K.read (get_or (K.items t) i d)) ≡ true
    each_at p e = all_head p (K.read (get_or (K.items t) i d)) (drop (i + 1) (listed K t)) (sym (ap (all p) rest) ∙ all_drop p i (listed K t) e)

    -- what stands at an index is laid out from what is read of it
    pub element_back : K.lay (K.read (get_or (K.items t) i d)) ≡ get_or (K.items t) i d
    element_back =
        let xs = K.items t in
        let l : List K.Plain = listed K t in
        let o : K.Slot = K.lay (K.read d) in
        let u : i < length xs = omega (arith, within, long) in
        let w : i < length (map K.lay l) = rw (length-map l K.lay) below in
        let e : get_or xs i o ≡ get_or xs i d = cc (drop-cons xs i d u, drop-cons xs i o u) in
        let m : get_or xs i o ≡ get_or (map K.lay l) i o = ap (λ (ys : List K.Slot). get_or ys i o) h.slots ∙ get_or-append (map K.lay l) _ o i w in
        sym (m ∙ get_or-map K.lay l i (K.read d) ∙ ap K.lay at) ∙ e

pub laid_back : {K : Kind} {laid : List K.Plain → K.Whole} → Made K laid → {t : K.Whole} → Tidy K t → laid (listed K t) ≡ t
laid_back m h = m.same (m.laid_items _ ∙ sym h.slots) (m.laid_count _ ∙ read_length h)
