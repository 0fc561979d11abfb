-- One more element of a list, by the slot of its count and by its room.
use Prim.Native.Nat.{ℕ, ◌+◌, ◌≤◌, ◌<◌}
use mathlib.Core.Path.{◌≡◌}
use mathlib.Core.List.{List}
use borrow.Author.Tests.{lt-ltb, le-ltb}
use lib.ListN.{get_or, set}
use Rattle.json_rule.specs.Defects.{listing_of}
use Rattle.json_members.specs.Spots.{shape_at, room_in}
use Rattle.json_members.specs.Refusing.{refusing}
use Rattle.json_members.specs.Opening.{first_in, count_slot, counting_in}

module _ (slots : List ℕ) (list : ℕ) {slot room : ℕ} (s : slot ≡ count_slot list) (r : room ≡ room_in (listing_of (shape_at list))) where
  pub counted_in_lem : get_or slots slot 0 < room → set slots slot (get_or slots slot 0 + 1) ≡ counting_in list slots
  unfolding counting_in
  counted_in_lem h =
      let k : get_or slots (count_slot list) 0 < room_in (listing_of (shape_at list)) = rw (s, r) at h in
      rw (s, lt-ltb (get_or slots (count_slot list) 0) (room_in (listing_of (shape_at list))) k)

  pub counted_over : {first : ℕ} {after : List ℕ} → room ≤ get_or slots slot 0 → first ≡ first_in slots list → after ≡ refusing 29 first slots → after ≡ counting_in list slots
  unfolding counting_in
  counted_over {first} h f a =
      let k : room_in (listing_of (shape_at list)) ≤ get_or slots (count_slot list) 0 = rw (s, r) at h in
      let b : _ ≡ refusing 29 (first_in slots list) slots = rw f at a in
      rw (le-ltb (get_or slots (count_slot list) 0) (room_in (listing_of (shape_at list))) k) b
