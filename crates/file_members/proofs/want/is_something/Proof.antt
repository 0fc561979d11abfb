-- The members are 1 to 68, and the records 100 to 112.
use Prim.Native.Nat.{ℕ, ◌-◌, ◌≤◌, ◌<◌}
use mathlib.Core.Path.{◌≡◌, refl, sym, ap}
use mathlib.Core.Bool.{true, false, ◌||◌}
use native.Mathlib.Omega.{arith}
use borrow.Author.Tests.{ne_eqb, lt-ltb, le-ltb, ltb-true, ltb-false}
use borrow.Table.Steps.{cases}
use lib.Dec.{eqb, ltb}
use Rattle.rules.specs.Words.{is_some}
use Rattle.json_members.proofs.Cases.{all_below_lem}
use Rattle.file_cells.specs.Wants.{kind_at, row_at}
use Rattle.file_members.specs.Names.{is_something}
use Rattle.file_members.proofs.Numbers.{or_right, kind_past, row_past}
use Rattle.file_members.proofs.want.is_something.Statement.{statement}
use Rattle.file_members.proofs.want.is_something.Tie as tie

member_here : (want : ℕ) → (want ≡ 0 → ⊥) → want < 69 → is_something want ≡ true
unfolding is_something row_at
member_here want n h =
    rw (lt-ltb want 100 (omega arith)) (or_right (eqb want 0) _ (ne_eqb want 0 n) (all_below_lem 69 (λ k. eqb k 0 || is_some (row_at k)) refl want h))

nothing_between : (want : ℕ) → 69 ≤ want → want < 100 → is_something want ≡ false
unfolding is_something
nothing_between want h l = rw (lt-ltb want 100 l) (ap (λ o. is_some o) (row_past want h))

record_here : (want : ℕ) → 100 ≤ want → ltb want 113 ≡ is_something want
unfolding is_something kind_at
record_here want h =
    rw (le-ltb want 100 h)
    (cases (ltb want 113)
    (λ t. rw t (sym (all_below_lem 13 (λ k. is_some (kind_at k)) refl (want - 100) (omega (arith, ltb-true want 113 t)))))
    (λ f. rw f (sym (ap (λ o. is_some o) (kind_past (want - 100) (omega (arith, ltb-false want 113 f)))))))

pub is_something_spec : {M : Type 1} → statement M
unfolding is_something row_at
is_something_spec =
    tie.close
    (tie.spec
    (λ c. rw c.if-want-eq-NOTHING.true)
    (λ c. sym (member_here _ c.if-want-eq-NOTHING.false c.if-want-lt-MEMBERS.true))
    (λ c. sym (nothing_between _ c.if-want-lt-MEMBERS.false c.if-want-lt-RECORDS.true))
    (λ c. record_here _ c.if-want-lt-RECORDS.false))
