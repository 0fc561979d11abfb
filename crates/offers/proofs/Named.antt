-- What the bytes of a field say from a place on. A number of at most 31 bits is a number of 32 with a sign. Those past a name are 0, so that all of them
-- laid out are the name laid out.
use Prim.Native.Nat.{ℕ, ◌+◌, ◌≤◌, ◌<◌}
use native.Mathlib.Omega.{arith}
use mathlib.Core.Path.{◌≡◌, sym, ◌∙◌}
use mathlib.Core.Bool.{Bool, true, false, ◌&&◌}
use mathlib.Core.List.{List}
use borrow.Author.Tests.{leb-true, le-leb, lt-leb, eq-eqb}
use lib.ListN.{length, drop, length-take, length-drop}
use lib.Seq.{length-take-le, drop-drop}
use Rattle.rules.specs.Words.{all}
use Rattle.rules.specs.Capacities.{largest_field_id, name_room}
use Rattle.rules.specs.WellFormed.{name_formed}
use Rattle.rules.specs.Blanks.{is_zero, rest_blank}
use Rattle.rules.specs.Offers.{number_at, is_number_at, length_at, bytes_after, name_at, fits_at, rest_zero_at}
use Rattle.rules.specs.Layout.{pad, laid_name}
use Rattle.rules.proofs.Checks.{both, and_left, and_right}
use Rattle.rules.proofs.Slots.Relaid.{zero, padded}

pub number_small : (at : ℕ) (bs : List ℕ) → is_number_at at bs ≡ true → number_at at bs ≤ largest_field_id
number_small at bs t = leb-true _ _ t

-- the code asks for the length first, and for the rest where a name can be so long
module _ (at : ℕ) (bs : List ℕ) {n : ℕ} (e : n ≡ length_at at bs) where
  pub too_long : name_room < n → false ≡ (fits_at at bs && rest_zero_at at bs)
  too_long h = sym (rw (← e, lt-leb n name_room h))

  pub rest_asked : {z : Bool} → n ≤ name_room → z ≡ all is_zero (drop (at + 1 + n) bs) → z ≡ (fits_at at bs && rest_zero_at at bs)
  rest_asked h k = k ∙ sym (rw (drop-drop (length_at at bs) (at + 1) bs, ← e, le-leb n name_room h))

-- as many bytes follow the length as a name has room for
pub name_room_lem : (at : ℕ) (bs : List ℕ) → length bs ≡ at + 1 + name_room → length (bytes_after at bs) ≡ name_room
name_room_lem at bs h = simp length-drop (omega arith)

module _ (at : ℕ) (bs : List ℕ) (t : (fits_at at bs && rest_zero_at at bs) ≡ true) where
  name_short : length_at at bs ≤ name_room
  name_short = leb-true _ _ (and_left (fits_at at bs) _ t)

  pub name_formed_lem : name_formed (name_at at bs) ≡ true
  name_formed_lem = le-leb (length (name_at at bs)) name_room (simp length-take (omega (arith, name_short)))

  module _ (h : length bs ≡ at + 1 + name_room) where
    rest_blank_lem : rest_blank name_room is_zero (bytes_after at bs) (length_at at bs) ≡ true
    rest_blank_lem = both (eq-eqb (length (bytes_after at bs)) name_room (name_room_lem at bs h)) (and_right (fits_at at bs) _ t)

    -- all bytes are copied
    pub copied : {bytes : List ℕ} → bytes ≡ bytes_after at bs → record { bytes = bytes; len = length_at at bs } ≡ laid_name (name_at at bs)
    unfolding laid_name
    copied {bytes} a =
        let p : bytes_after at bs ≡ pad name_room 0 (name_at at bs) = padded 0 is_zero zero name_room (length_at at bs) (bytes_after at bs) rest_blank_lem name_short in
        let n : length_at at bs ≡ length (name_at at bs) = sym (length-take-le (length_at at bs) (bytes_after at bs) (omega (arith, name_room_lem at bs h, name_short))) in
        λ j. record { bytes = (a ∙ p) j; len = n j }
