-- The slots hold the first bytes of those that were kept, and the count is their length as far as there is room.
use Prim.Native.Nat.{ℕ, ◌+◌, ◌≤◌, ◌<◌, min}
use mathlib.Core.Path.{◌≡◌, refl, sym, ◌∙◌}
use mathlib.Core.List.{List, [], ◌∷◌, ◌++◌, append_assoc, append-nil}
use native.Mathlib.Numerals.{add-one}
use native.Mathlib.Omega.{arith}
use borrow.Author.Tests.{ltb-true, ltb-false}
use borrow.Table.Steps.{cases}
use lib.Dec.{ltb}
use lib.ListN.{length, take, set, length-append, length-set}
use lib.Seq.{take_all, take-append-le, take-suc-set}
use Rattle.json_machine.specs.Digest.{kept_room, count_with, slots_with, count_all, slots_all}

-- so many bytes stand in the slots, the first of these
pub record First (slots : List ℕ) (len : ℕ) (ds : List ℕ) : Type 0 where
  pub long : length slots ≡ kept_room
  pub count : len ≡ min kept_room (length ds)
  pub bytes : take len slots ≡ take kept_room ds

module _ (slots : List ℕ) (len : ℕ) (ds : List ℕ) (b : ℕ) (f : First slots len ds) where
  stored : len < kept_room → First (set slots len b) (len + 1) (ds ++ b ∷ [])
  stored h =
      let short : length ds < kept_room = omega (arith, f.count) in
      record {
        long = length-set slots len b ∙ f.long;
        count = simp length-append (omega (arith, f.count));
        bytes =
            rw (add-one len, take-suc-set slots len b (omega (arith, f.long)), f.bytes, take_all kept_room ds (omega arith))
            (sym (take_all kept_room (ds ++ b ∷ []) (simp length-append (omega arith))));
      }

  full : kept_room ≤ len → First slots len (ds ++ b ∷ [])
  full h =
      record {
        long = f.long;
        count = simp length-append (omega (arith, f.count));
        bytes = f.bytes ∙ sym (take-append-le kept_room ds (b ∷ []) (omega (arith, f.count)));
      }

  first_more : First (slots_with slots len b) (count_with len) (ds ++ b ∷ [])
  first_more = cases (ltb len kept_room) (λ t. rw t (stored (ltb-true len kept_room t))) (λ n. rw n (full (ltb-false len kept_room n)))

first_on : (slots : List ℕ) (len : ℕ) (ds bs : List ℕ) → First slots len ds → First (slots_all slots len bs) (count_all len bs) (ds ++ bs)
first_on slots len ds [] f = rw (append-nil ds) f
first_on slots len ds (b ∷ bs) f = rw (append_assoc ds (b ∷ []) bs) at (first_on (slots_with slots len b) (count_with len) (ds ++ b ∷ []) bs (first_more slots len ds b f))

pub first_all : (slots bs : List ℕ) → length slots ≡ kept_room → First (slots_all slots 0 bs) (count_all 0 bs) bs
first_all slots bs h = first_on slots 0 [] bs (record { long = h; count = refl; bytes = refl })
