-- The loop keeps what trimming leaves of the location equal to what it leaves of the first `n` bytes, which is all of them once the last is no slash.
use Prim.Native.Nat.{◌≤◌}
use mathlib.Core.Path.{◌≡◌, refl, sym, ap, ◌∙◌}
use native.Mathlib.Omega.{arith}
use borrow.Author.Rules.{rules}
use lib.ListN.{length, take}
use lib.Seq.{take-length, length-take-le}
use Rattle.rules.specs.Names.{trimmed}
use Rattle.primitives.proofs.Slashes.{slash_off, other_stays, nothing_left}
use Rattle.primitives.proofs.location.trim.Statement.{statement}
use Rattle.primitives.proofs.location.trim.Tie as tie

abbrev invariant_loop : tie.invariant-loop-n
invariant_loop location n₀ n = (n ≤ length location) × (trimmed location ≡ trimmed (take n location))

abbrev decreases_loop : tie.decreases-loop-n
decreases_loop location n₀ n = n

pub trim_spec : {M : Type 1} → statement M
trim_spec =
    tie.close
    (tie.spec
    invariant_loop
    decreases_loop
    (λ c. (search rules, ap trimmed (sym (take-length c.args.location.now))))
    (λ c. search rules)
    (λ c. search rules)
    (λ c. sym (length-take-le _ _ (omega arith)))
    (λ c. (other_stays _ c.loop-n.n (omega arith) (omega arith) c.if-location-n-ne47.true ∙ sym c.loop-n.invariant.1, refl))
    (λ c. search rules)
    (λ c. search rules)
    (λ c. (omega arith, c.loop-n.invariant.1 ∙ slash_off _ c.loop-n.n (omega arith) (omega arith) c.if-location-n-ne47.false))
    (λ c. sym (length-take-le _ _ (omega arith)))
    (λ c. (nothing_left _ c.loop-n.n c.loop-n-test.false ∙ sym c.loop-n.invariant.1, refl)))
