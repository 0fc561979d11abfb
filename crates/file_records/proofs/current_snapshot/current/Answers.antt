-- By its first byte, by whether it is there, and by -1.
use Rattle.std.proofs.Common.{◌≡◌, true, false, ℤ, negsuc, sym, ap, ◌∙◌, arith, rules, tests}
use Rattle.std.proofs.lemmas.Int.{ints, to_z-of_z}
use Rattle.std.proofs.Math.Option.{some}
use Rattle.file_records.specs.Current.{laid_current}
use Rattle.rules.specs.Words.{eq_z}
use Rattle.file_records.proofs.Chosen.{null_none, absent_none, minus_none, some_current_lem}
use Rattle.file_records.specs.Decoded.{is_there}
use Rattle.file_records.proofs.current_snapshot.current.Goals as goal

pub returns-then-head_of-eq110 : goal.returns-then-head_of-eq110
returns-then-head_of-eq110 c = rw (null_none _ _ (sym c.head_of.ensures ∙ c.if-head_of-eq110.true))

pub returns-then-not-is_there : goal.returns-then-not-is_there
returns-then-not-is_there c =
    let absent : is_there c.args.cells.now 5594 ≡ false = search (rules, tests) in
    rw (absent_none c.args.bytes.now c.args.cells.now (λ e. c.if-head_of-eq110.false (c.head_of.ensures ∙ e)) absent)

pub returns-then-eq : goal.returns-then-eq
returns-then-eq c =
    let there : is_there c.args.cells.now 5594 ≡ true = search (rules, tests) in
    let minus : eq_z c.number.result.0 (negsuc 0) ≡ true = search rules in
    rw (minus_none c.args.bytes.now c.args.cells.now (λ e. c.if-head_of-eq110.false (c.head_of.ensures ∙ e)) there (ap (λ (z : ℤ). eq_z z (negsuc 0)) (sym c.number.ensures) ∙ minus))

pub returns : goal.returns
returns c =
    let there : is_there c.args.cells.now 5594 ≡ true = search (rules, tests) in
    let other : eq_z c.number.result.0 (negsuc 0) ≡ false = search rules in
    rw (some_current_lem c.args.bytes.now c.args.cells.now (λ e. c.if-head_of-eq110.false (c.head_of.ensures ∙ e)) there (ap (λ (z : ℤ). eq_z z (negsuc 0)) (sym c.number.ensures) ∙ other)) (ap (λ (z : ℤ). laid_current (some z)) (grind (arith, ints, to_z-of_z)))
