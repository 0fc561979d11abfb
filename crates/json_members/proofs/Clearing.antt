-- Marks that are taken away one after another.
use Prim.Native.Nat.{ℕ, zero, suc, ◌+◌, ◌-◌, ◌≤◌, ◌<◌}
use mathlib.Core.Path.{◌≡◌, refl, ap, ◌∙◌}
use mathlib.Core.List.{List}
use native.Mathlib.Numerals.{add-one}
use native.Mathlib.Omega.{arith}
use borrow.Author.Tests.{lt-ltb, le-ltb, ltb-true, ltb-false}
use borrow.Table.Steps.{cases}
use lib.Dec.{ltb}
use lib.ListN.{set}
use Rattle.std.proofs.Common.{min}
use Rattle.json_members.specs.Slots.{spots_end, unmarking, clearing, forgetting}

unmark_past : (spot : ℕ) (slots : List ℕ) → spots_end ≤ spot → unmarking spot slots ≡ slots
unfolding unmarking
unmark_past spot slots h = rw (le-ltb spot 64 h)

unmark_on : (spot : ℕ) (slots : List ℕ) → spot < spots_end → unmarking spot slots ≡ set slots (16 + spot) 0
unfolding unmarking
unmark_on spot slots h = rw (lt-ltb spot 64 h)

clear_past : (n spot : ℕ) (slots : List ℕ) → spots_end ≤ spot → clearing n spot slots ≡ slots
unfolding clearing
clear_past zero spot slots h = refl
clear_past (suc n) spot slots h = ap (clearing n (suc spot)) (unmark_past spot slots h) ∙ clear_past n (suc spot) slots (omega arith)

module _ (to spot : ℕ) (slots : List ℕ) where
  -- past the last spot nothing is left to do
  pub forget_past : spots_end ≤ spot → forgetting spot to slots ≡ slots
  forget_past h = clear_past (suc to - spot) spot slots h

  -- nor behind the last of them
  pub forget_done : to < spot → forgetting spot to slots ≡ slots
  unfolding clearing
  forget_done h =
      let e : suc to - spot ≡ 0 = omega arith in
      rw e

  pub forget_more : spot ≤ to → spot < spots_end → forgetting spot to slots ≡ forgetting (spot + 1) to (set slots (16 + spot) 0)
  unfolding clearing
  forget_more h k =
      let e : suc to - spot ≡ suc (suc to - (spot + 1)) = omega arith in
      rw (e, add-one spot) (ap (clearing (suc to - suc spot) (suc spot)) (unmark_on spot slots k))

  -- from the last of both on nothing is left to do
  pub forget_end : min to 63 < spot → forgetting spot to slots ≡ slots
  forget_end h = cases (ltb to spot) (λ t. forget_done (ltb-true to spot t)) (λ f. forget_past (omega (arith, ltb-false to spot f)))
