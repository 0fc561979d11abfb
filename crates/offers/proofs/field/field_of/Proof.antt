-- A number that an id of 32 bits can be is the id; the type and the name are as they stand.
use native.Mathlib.Omega.{arith}
use mathlib.Core.Path.{ap, ◌∙◌}
use borrow.Author.Rules.{rules}
use lib.IntN.{pos}
use lib.ListN.{get_or}
use mir.Syntax.{w32}
use mir.Facts.{to_z_pos}
use Rattle.rules.specs.Layout.{laid_schema_field}
use Rattle.offers.proofs.Fields.{id_small, name_tidy}
use Rattle.offers.proofs.field.field_of.Statement.{statement}
use Rattle.offers.proofs.field.field_of.Tie as tie

pub field_of_spec : {M : Type 1} → statement M
unfolding laid_schema_field
field_of_spec =
    tie.close
    (tie.spec
    (λ c κs. search rules)
    (λ c. record { sfits = omega (arith, c.number_at-id.ensures, id_small c.args.bytes.now c.requires.1) })
    (λ c κs. (search rules, name_tidy c.args.bytes.now c.requires.1))
    (λ c. search rules)
    (λ c. let n = c.before.before in let z = to_z_pos w32 (omega (arith, n.number_at-id.ensures, id_small n.args.bytes.now n.requires.1)) ∙ ap pos n.number_at-id.ensures in
    λ i. record { id = record { 0 = z i }; field_type = get_or n.args.bytes.now 4 0; name = c.name_at-name.ensures i }))
