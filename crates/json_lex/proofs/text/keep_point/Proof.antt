-- Each length of a character has its bytes.
use mathlib.Core.Path.{refl}
use borrow.Author.Rules.{rules}
use Rattle.json_lex.proofs.Kept.{keeps_one, keeps_more, keeps_single, keeps_two}
use Rattle.json_lex.proofs.text.keep_point.Statement.{statement}
use Rattle.json_lex.proofs.text.keep_point.Tie as tie

returns_2 : tie.Need-returns-then-point-lt2048
returns_2 c =
    let first = c.before.before.before in
    keeps_two first.args.point first.if-point-lt128.false first.if-point-lt2048.true
    (keeps_more _ _ refl first.keep-one.ensures
    (keeps_one _ _ c.six_bits.ensures c.keep-then-point-lt2048.ensures))

pub keep_point_spec : {M : Type 1} → statement M
keep_point_spec =
    tie.close
    (tie.spec
    (λ c. search rules)
    (λ c κs. search rules)
    (λ c. keeps_single c.args.point c.if-point-lt128.true c.keep.ensures)
    (λ c. search rules)
    (λ c. search rules)
    (λ c κs. search rules)
    (λ c κs. search rules)
    (λ c κs. search rules)
    returns_2
    (λ c κs. search rules)
    (λ c. search rules))
