-- The last element is the one before the length.
use Rattle.std.proofs.Common.{◌≡◌, length, to_z, of_z, ltb-true, sym, ap, ◌∙◌, arith, rules}
use mathlib.Core.Path.{ap₂}
use lib.Signed.{lt_z}
use Rattle.std.specs.Int.{w64}
use Rattle.std.proofs.lemmas.Int.{ints}
use Rattle.rules.specs.Words.{if_some}
use Rattle.builder.proofs.Positions.{last_at}
use Rattle.builder.proofs.facts.is_last.Goals as goal

pub returns-in-Some : goal.returns-in-Some
returns-in-Some c =
    let x = c.in-Some.last.now in
    let id = c.args.id in
    let k = c.in-Some.ensures.item in
    let a : to_z w64 (of_z w64 x) ≡ x = search (rules, ints) in
    let b : to_z w64 (of_z w64 id) ≡ id = search (rules, ints) in
    ap₂ lt_z a b ∙ ap (λ y. lt_z y id) k.1 ∙ sym (ap (if_some (λ y. lt_z y id)) (last_at x c.args.ids.now (λ z. omega (arith, ltb-true 0 (length c.args.ids.now) (sym k.0)))))
