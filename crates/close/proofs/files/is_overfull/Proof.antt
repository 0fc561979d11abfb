-- Without an entry that joins the log has room, since it has no more entries than slots.
use Prim.Native.Nat.{ℕ, ◌+◌, ◌-◌, ◌≤◌}
use mathlib.Core.Path.{◌≡◌, sym, ◌∙◌}
use mathlib.Core.Bool.{Bool, true, false, cond, ◌&&◌}
use native.Mathlib.Omega.{arith}
use borrow.Author.Rules.{rules}
use borrow.Author.Tests.{leb-true, leb-false, lt-ltb, le-ltb}
use borrow.Table.Steps.{cases}
use lib.Dec.{leb, ltb}
use Rattle.close.proofs.files.is_overfull.Statement.{statement}
use Rattle.close.proofs.files.is_overfull.Tie as tie

over : (b : Bool) (n gone : ℕ) → n ≤ 128 → gone ≤ n → b && leb 128 (n - gone) ≡ ltb 128 (cond b (n + 1) n - gone)
over false n gone h k = sym (le-ltb 128 (n - gone) (omega arith))
over true n gone h k =
    cases (leb 128 (n - gone))
    (λ y. y ∙ sym (lt-ltb 128 (n + 1 - gone) (omega (arith, leb-true 128 (n - gone) y))))
    (λ z. z ∙ sym (le-ltb 128 (n + 1 - gone) (omega (arith, leb-false 128 (n - gone) z))))

pub is_overfull_spec : {M : Type 1} → statement M
is_overfull_spec = tie.close (tie.spec (λ c. search rules) (λ c. over c.args.joins c.args.n c.args.gone c.requires.0 c.requires.1))
