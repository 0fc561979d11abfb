-- The place among the ids is that in the table.
use mir.Syntax.{w64}
use mathlib.Core.Path.{◌≡◌, ap, ◌∙◌}
use borrow.Author.Rules.{rules, sfits_of}
use lib.IntN.{ℤ}
use lib.ListN.{length}
use mir.Facts.{to_z-of_z}
use Rattle.rules.specs.Words.{eq_z}
use Rattle.rules.specs.Register as plain
use Rattle.search.specs.Places.{index_of}
use Rattle.tables.proofs.Keyed.{index_map}
use Rattle.schema_updates.specs.Keys.{lent_keys}
use Rattle.schema_updates.proofs.Lent.{keys_within, keys_slice, keys_lent}
use Rattle.schema_updates.proofs.keys.current_place.Statement.{statement}
use Rattle.schema_updates.proofs.keys.current_place.Tie as tie

long : (c : tie.Start) → length c.args.keys.items ≡ 16
long c = search rules

returns : tie.Need-returns
returns c l e =
    let k = c.before.before.before in
    let id : ℤ = k.args.b.fields.current_schema_id.0 in
    c.position.ensures
    ∙ ap (λ (z : ℤ). index_of (λ x. eq_z x z) (lent_keys k.args.keys)) (to_z-of_z {w = w64} (sfits_of c.struct_told-1.given.0.1) ∙ k.schema_key-k.ensures.0)
    ∙ ap (index_of (λ x. eq_z x id)) (keys_lent l e)
    ∙ index_map (λ x. eq_z x id) (λ (x : plain.Schema). x.id) l

pub current_place_spec : {M : Type 1} → statement M
current_place_spec =
    tie.close
    (tie.spec
    (λ c κs. search rules)
    (λ c. let s = c.before.before.before.before in keys_within s.requires (long s))
    (λ c. let s = c.before.before.before.before.before in keys_slice s.requires (long s))
    (λ c κs. search rules)
    returns)
