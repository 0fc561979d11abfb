-- The bytes of fields, one after the other and so many each: as many as are counted, each where it stands.
use Prim.Native.Nat.{ℕ, zero, suc, ◌+◌, ◌*◌, ◌-◌, ◌≤◌, ◌<◌}
use native.Mathlib.Omega.{arith}
use native.Mathlib.Nat.{add_comm, zero-mul, suc-mul, mul-le-mul_right}
use mathlib.Core.Path.{◌≡◌, refl, sym, ap, ◌∙◌}
use mathlib.Core.Bool.{Bool, true, false}
use mathlib.Core.List.{List, []}
use native.Mathlib.Numerals.{add-one}
use lib.ListN.{length, get_or, take, drop, length-drop, drop_of_length-le}
use lib.Seq.{drop-drop, drop-cons, length-take-le}
use Rattle.rules.specs.Words.{all}
use Rattle.rules.specs.Offers.{pieces_of}

pub pieces_length : (size n : ℕ) (bs : List ℕ) → length (pieces_of size n bs) ≡ n
pieces_length size zero bs = refl
pieces_length size (suc n) bs = ap suc (pieces_length size n (drop size bs))

pieces_at : (size n : ℕ) (bs : List ℕ) (i : ℕ) → i < n → get_or (pieces_of size n bs) i [] ≡ take size (drop (i * size) bs)
pieces_at size zero bs i h = absurd (omega arith)
pieces_at size (suc n) bs zero h = rw (zero-mul size)
pieces_at size (suc n) bs (suc i) h =
    pieces_at size n (drop size bs) i (omega arith)
    ∙ ap (take size) (drop-drop (i * size) size bs ∙ ap (λ (k : ℕ). drop k bs) (add_comm size (i * size) ∙ sym (suc-mul i size)))

between : (from size : ℕ) → from + size - from ≡ size
between from size = omega arith

room_after : (at before size all len : ℕ) → at + all ≤ len → before + size ≤ all → size ≤ len - (at + before)
room_after at before size all len h k = omega arith

-- the bytes from the place of a field to its end are the field
module _ (size : ℕ) (bs : List ℕ) (at n i : ℕ) (h : at + n * size ≤ length bs) (b : i < n) where
  abbrev part : List ℕ
  part = take (at + i * size + size - (at + i * size)) (drop (at + i * size) bs)

  pub part_length : length part ≡ size
  part_length =
      let k : i * size + size ≤ n * size = rw suc-mul at (mul-le-mul_right size b) in
      rw (between (at + i * size) size) (length-take-le size (drop (at + i * size) bs) (rw length-drop (room_after at (i * size) size (n * size) (length bs) h k)))

  pub part_piece : part ≡ get_or (pieces_of size n (drop at bs)) i []
  part_piece = rw (between (at + i * size) size) (sym (pieces_at size n (drop at bs) i b ∙ ap (take size) (drop-drop (i * size) at bs)))

-- ---- whether all of them pass, one after the other

module _ (p : List ℕ → Bool) (l : List (List ℕ)) (i : ℕ) where
  pub all_done : length l ≤ i → all p (drop i l) ≡ true
  all_done h = rw (drop_of_length-le l {i = i} h)

  module _ (h : i < length l) where
    pub all_not : p (get_or l i []) ≡ false → all p (drop i l) ≡ false
    all_not e = rw (drop-cons l i [] h, e)

    pub all_further : p (get_or l i []) ≡ true → all p (drop i l) ≡ all p (drop (i + 1) l)
    all_further e = rw (drop-cons l i [] h, e, add-one i)
