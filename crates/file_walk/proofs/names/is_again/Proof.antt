-- No text there, one that is too long, or one that is compared.
use mathlib.Core.Path.{◌≡◌, sym, ◌∙◌}
use borrow.Author.Rules.{rules}
use borrow.Author.Tests.{not-true, not-false}
use native.Mathlib.Omega.{arith}
use Prim.Native.Nat.{ℕ, ◌<◌, min}
use lib.ListN.{length-take}
use Rattle.file_walk.proofs.NamedTokens.{no_name_lem, again_long, again_short}
use Rattle.file_walk.proofs.names.is_again.Statement.{statement}
use Rattle.file_walk.proofs.names.is_again.Tie as tie

short : (room n : ℕ) → room ≡ 97 → n < 97 → min n room ≡ n
short room n h l = omega arith

pub is_again_spec : {M : Type 1} → statement M
is_again_spec =
    tie.close
    (tie.spec
    (λ c κs. search rules)
    (λ c κs. search rules)
    (λ c. sym (rw (no_name_lem _ _ _ _ c.next-t.ensures (sym c.is_mark.ensures ∙ not-true _ c.if-not-is_mark.true-raw))))
    (λ c. sym (again_long _ _ _ _ c.next-t.ensures (sym c.is_mark.ensures ∙ not-false _ c.if-not-is_mark.false-raw) _ _ c.if-n-ge-KEPT.true c.requires))
    (λ c. search rules)
    (λ c. sym (length-take _ _ ∙ short _ _ c.next-t.ensures.long c.if-n-ge-KEPT.false))
    (λ c κs. rw length-take (omega (arith, c.if-n-ge-KEPT.false)))
    (λ c.
    c.is_word.ensures
    ∙ sym (rw (again_short _ _ _ _ c.next-t.ensures (sym c.is_mark.ensures ∙ not-false _ c.if-not-is_mark.false-raw) c.if-n-ge-KEPT.false))))
