-- Each test is the model's.
use mathlib.Core.Path.{sym, ◌∙◌}
use borrow.Author.Rules.{rules}
use borrow.Author.Tests.{not-true, not-false, lt-leb, le-leb}
use Rattle.file_members.specs.Faults.{version_fault}
use Rattle.file_members.proofs.value.version_fault.Statement.{statement}
use Rattle.file_members.proofs.value.version_fault.Tie as tie

returns_2 : tie.Need-returns-then-not-integer
unfolding version_fault
returns_2 c =
    rw (sym c.is_digit.ensures ∙ not-false _ c.if-not-is_digit.false-raw, not-true c.args.integer c.if-not-integer.true-raw)

returns_3 : tie.Need-returns-then-magnitude-lt1
unfolding version_fault
returns_3 c =
    rw (sym c.is_digit.ensures ∙ not-false _ c.if-not-is_digit.false-raw, not-false c.args.integer c.if-not-integer.false-raw, lt-leb 1 _ c.if-magnitude-lt1.true)

returns_4 : tie.Need-returns-then-magnitude-gt3
unfolding version_fault
returns_4 c =
    rw (sym c.is_digit.ensures ∙ not-false _ c.if-not-is_digit.false-raw, not-false c.args.integer c.if-not-integer.false-raw, le-leb 1 _ c.if-magnitude-lt1.false, lt-leb _ 3 c.if-magnitude-gt3.true)

returns_5 : tie.Need-returns
unfolding version_fault
returns_5 c =
    rw (sym c.is_digit.ensures ∙ not-false _ c.if-not-is_digit.false-raw, not-false c.args.integer c.if-not-integer.false-raw, le-leb 1 _ c.if-magnitude-lt1.false, le-leb _ 3 c.if-magnitude-gt3.false)

pub version_fault_spec : {M : Type 1} → statement M
unfolding version_fault
version_fault_spec =
    tie.close
    (tie.spec
    (λ c κs. search rules)
    (λ c. rw (sym c.is_digit.ensures ∙ not-true _ c.if-not-is_digit.true-raw))
    returns_2
    returns_3
    returns_4
    returns_5)
