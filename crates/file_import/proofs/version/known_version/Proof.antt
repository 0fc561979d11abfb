-- The tests in their order.
use mathlib.Core.Path.{sym, ◌∙◌}
use native.Mathlib.Omega.{arith}
use borrow.Author.Rules.{rules}
use borrow.Author.Tests.{not-true, not-false}
use Rattle.file_import.proofs.Known.{no_digit, no_integer, too_low_lem, too_high, known}
use Rattle.file_import.proofs.version.known_version.Statement.{statement}
use Rattle.file_import.proofs.version.known_version.Tie as tie

pub known_version_spec : {M : Type 1} → statement M
known_version_spec =
    tie.close
    (tie.spec
    (λ c κs. search rules)
    (λ c. no_digit _ _ _ (sym c.is_digit.ensures ∙ not-true _ c.if-not-is_digit.true-raw))
    (λ c. no_integer _ _ _ (sym c.is_digit.ensures ∙ not-false _ c.if-not-is_digit.false-raw) (not-true _ c.if-not-integer.true-raw))
    (λ c. let i = c.before in too_low_lem _ _ _ (sym i.is_digit.ensures ∙ not-false _ i.if-not-is_digit.false-raw) (not-false _ i.if-not-integer.false-raw) c.if-magnitude-lt1.true)
    (λ c. let l = c.before in
    let i = l.before in
    too_high _ _ _ (sym i.is_digit.ensures ∙ not-false _ i.if-not-is_digit.false-raw) (not-false _ i.if-not-integer.false-raw) l.if-magnitude-lt1.false c.if-magnitude-gt3.true)
    (λ c. let h = c in
    let l = h.before in
    let i = l.before in
    known _ _ _ (sym i.is_digit.ensures ∙ not-false _ i.if-not-is_digit.false-raw) (not-false _ i.if-not-integer.false-raw) l.if-magnitude-lt1.false h.if-magnitude-gt3.false))
