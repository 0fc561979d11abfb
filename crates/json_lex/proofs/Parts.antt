-- Bytes of a part that are kept, one after another.
use Prim.Native.Nat.{ℕ, ◌+◌, ◌-◌, ◌≤◌, ◌<◌}
use mathlib.Core.Path.{◌≡◌, refl, sym, ap, ◌∙◌}
use mathlib.Core.List.{List, [], ◌∷◌}
use native.Mathlib.Omega.{arith}
use borrow.Author.Tests.{le-ltb}
use lib.ListN.{take, drop}
use lib.Seq.{slice}
use Rattle.std.proofs.lemmas.List.{drop-take}
use Rattle.json_machine.specs.Digest.{kept_room, count_all, slots_all, Keeps}

-- keeping the bytes `bs` is keeping those that are left
pub record Left (slots : List ℕ) (len : ℕ) (bs now : List ℕ) (n : ℕ) (left : List ℕ) : Type 0 where
  pub counts : count_all len bs ≡ count_all n left
  pub bytes : slots_all slots len bs ≡ slots_all now n left

full_count : (n : ℕ) (bs : List ℕ) → kept_room ≤ n → count_all n bs ≡ n
full_count n [] h = refl
full_count n (b ∷ bs) h = rw (le-ltb n 97 h) (full_count n bs h)

full_slots : (slots : List ℕ) (n : ℕ) (bs : List ℕ) → kept_room ≤ n → slots_all slots n bs ≡ slots
full_slots slots n [] h = refl
full_slots slots n (b ∷ bs) h = rw (le-ltb n 97 h) (full_slots slots n bs h)

-- at the start all is left
pub left_start : {slots : List ℕ} {len : ℕ} (part : List ℕ) (from end : ℕ) → from < end → Left slots len (slice from end part) slots len (take (end - from) (drop from part))
left_start {slots} {len} part from end h =
    let e : from + (end - from) ≡ end = omega arith in
    let all : slice from end part ≡ take (end - from) (drop from part) = ap (λ (m : ℕ). slice from m part) (sym e) ∙ drop-take from (end - from) part in
    record { counts = ap (count_all len) all; bytes = ap (slots_all slots len) all }

-- where no slot is left nothing more is kept
pub left_full : {slots bs now : List ℕ} {len n : ℕ} {left : List ℕ} → kept_room ≤ n → Left slots len bs now n left → Keeps slots len bs n now
left_full {slots} {bs} {now} {len} {n} {left} h l =
    record { counts = sym (l.counts ∙ full_count n left h); bytes = sym (l.bytes ∙ full_slots now n left h) }
