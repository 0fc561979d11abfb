-- Each byte of the character is kept behind the one before it.
use mathlib.Core.Path.{refl}
use borrow.Author.Rules.{rules}
use Rattle.json_lex.proofs.Kept.{keeps_one, keeps_more, keeps_three, keeps_four}
use Rattle.json_lex.proofs.text.keep_long.Statement.{statement}
use Rattle.json_lex.proofs.text.keep_long.Tie as tie

returns : tie.Need-returns-then-point-lt65536
returns c =
    let second = c.before.before.before in
    let first = second.before.before.before in
    let test = first.before.before in
    keeps_three test.args.point test.requires.0 test.if-point-lt65536.true
    (keeps_more _ _ refl first.keep-one.ensures
    (keeps_more _ _ second.six_bits.ensures second.keep-two.ensures
    (keeps_one _ _ c.six_bits-then-point-lt65536.ensures c.keep.ensures)))

returns_2 : tie.Need-returns
returns_2 c =
    let third = c.before.before.before in
    let second = third.before.before.before in
    let first = second.before.before.before in
    keeps_four first.args.point first.if-point-lt65536.false
    (keeps_more _ _ refl first.keep-one-2.ensures
    (keeps_more _ _ second.six_bits-2.ensures second.keep-two-2.ensures
    (keeps_more _ _ third.six_bits-3.ensures third.keep-three.ensures
    (keeps_one _ _ c.six_bits-4.ensures c.keep-2.ensures))))

pub keep_long_spec : {M : Type 1} → statement M
keep_long_spec =
    tie.close
    (tie.spec
    (λ c. search rules)
    (λ c. search rules)
    (λ c κs. search rules)
    (λ c κs. search rules)
    (λ c κs. search rules)
    (λ c κs. search rules)
    (λ c κs. search rules)
    returns
    (λ c. search rules)
    (λ c. search rules)
    (λ c κs. search rules)
    (λ c κs. search rules)
    (λ c κs. search rules)
    (λ c κs. search rules)
    (λ c κs. search rules)
    (λ c κs. search rules)
    (λ c κs. search rules)
    returns_2)
