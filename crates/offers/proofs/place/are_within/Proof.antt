-- What is left past the place is as much as is asked for exactly if the sum is within.
use Prim.Native.Nat.{ℕ, ◌+◌, ◌-◌, ◌≤◌}
use native.Mathlib.Omega.{arith}
use mathlib.Core.Path.{◌≡◌, sym, ◌∙◌}
use borrow.Author.Tests.{leb-true, leb-false, le-leb, lt-leb}
use borrow.Table.Steps.{cases}
use lib.Dec.{leb}
use Rattle.offers.proofs.place.are_within.Statement.{statement}
use Rattle.offers.proofs.place.are_within.Tie as tie

left_over : (at n len : ℕ) → at ≤ len → leb n (len - at) ≡ leb (at + n) len
left_over at n len h =
    cases (leb n (len - at))
    (λ y. y ∙ sym (le-leb (at + n) len (omega (arith, leb-true n (len - at) y))))
    (λ x. x ∙ sym (lt-leb (at + n) len (omega (arith, leb-false n (len - at) x))))

pub are_within_spec : {M : Type 1} → statement M
are_within_spec =
    tie.close
    (tie.spec
    (λ c. let a = c.args in sym (lt-leb (a.at + a.n) a.len (omega arith)))
    (λ c. let a = c.args in left_over a.at a.n a.len (omega arith)))
