-- The elements of a list: one past its room refuses it, as the number of all of them does.
use Prim.Native.Nat.{ℕ, suc, ◌+◌, ◌≤◌}
use native.Mathlib.Omega.{arith}
use mathlib.Core.Path.{◌≡◌, refl}
use mathlib.Core.Bool.{Bool, true, false}
use mathlib.Core.Option.{Option, none, some}
use lib.Dec.{leb, ltb}
use borrow.Table.Steps.{cases}
use borrow.Author.Tests.{ltb-true, ltb-false, le-leb, lt-leb}
use Rattle.json_rule.specs.Tree.{Defect, over_capacity}
use Rattle.json_rule.specs.Defects.{unless, least}
use Rattle.json_judge.specs.Refusal.{sooner, refusing}
use Rattle.json_judge.specs.Frames.{OpenList, InList, counted_in, count_said}
use Rattle.json_judge.proofs.Least.{sooner_itself, regroup, found_twice}

-- what a test says once more
pub again : (b : Bool) (place number : ℕ) → sooner (some (record { place = place; number = number })) (least (unless b place number)) ≡ some (record { place = place; number = number })
again true place number = refl
again false place number = sooner_itself (some (record { place = place; number = number }))

-- that so many more would be over the room
abbrev pub over : OpenList → ℕ → Option Defect
over l more = least (unless (leb (l.count + more) l.room) l.place over_capacity)

pub over_none : (l : OpenList) → l.count ≤ l.room → over l 0 ≡ none
over_none l h = rw (le-leb (l.count + 0) l.room (omega arith))

pub counted_fits : (l : OpenList) → l.count ≤ l.room → (counted_in l).count ≤ (counted_in l).room
counted_fits l h = cases (ltb l.count l.room) (λ e. rw e (ltb-true l.count l.room e)) (λ e. rw e h)

-- one element more
pub element_said : (l : OpenList) (more : ℕ) (r d i : Option Defect) → l.count ≤ l.room
    → sooner (sooner (refusing (count_said (InList l)) r) d) (sooner (over (counted_in l) more) i) ≡ sooner r (sooner (over l (suc more)) (sooner d i))
element_said l more r d i h =
    cases (ltb l.count l.room)
    (λ e. let s : suc l.count + more ≡ l.count + suc more = omega arith in
    rw (e, s) (regroup r d (over l (suc more)) i))
    (λ e. let s : leb (l.count + suc more) l.room ≡ false = lt-leb (l.count + suc more) l.room (omega (arith, ltb-false l.count l.room e)) in
    rw (e, s) (found_twice r _ d (over l more) i (again (leb (l.count + more) l.room) l.place over_capacity)))
