-- An equal one stands at the place, and its key is among those that count; where there is none the new id is the highest one's successor.
use Prim.Native.Nat.{ℕ}
use mathlib.Core.Path.{◌≡◌, refl, ap}
use borrow.Author.Rules.{rules}
use lib.IntN.{pos}
use lib.ListN.{length, get_or}
use mir.Syntax.{w32}
use mir.Val.{SFits}
use Rattle.rules.specs.Layout.{given}
use Rattle.tables.proofs.Keyed.{take_fits}
use Rattle.builder.proofs.NewIds.{given_fits, numbered}
use Rattle.schema_updates.specs.Keys.{lent_keys}
use Rattle.schema_updates.proofs.Lent.{keys_within, keys_slice}
use Rattle.schema_updates.proofs.reuse_or_create_new_schema_id.Statement.{statement}
use Rattle.schema_updates.proofs.reuse_or_create_new_schema_id.Tie as tie

long : (c : tie.Start) → length c.args.keys.items ≡ 16
long c = search rules

fits : (c : tie.Start) → (k : ℕ) → SFits w32 (get_or (lent_keys c.args.keys) k (pos 0))
fits c = take_fits w32 c.args.keys.count c.args.keys.items c.requires.narrow

returns : tie.Need-returns
returns c =
    let x = c.before.before in
    let k = x.before.before in
    let s = k.before.before in
    numbered w32 (fits s) x.reuse_or_create_new_id-x.ensures refl (ap (given s.args.has_last) k.schema_key-k.ensures.0) c.schema_id-id.ensures refl

pub reuse_or_create_new_schema_id_spec : {M : Type 1} → statement M
reuse_or_create_new_schema_id_spec =
    tie.close
    (tie.spec
    (λ c κs. search rules)
    (λ c. let s = c.before.before in keys_within s.requires (long s))
    (λ c. let s = c.before.before.before in keys_slice s.requires (long s))
    (λ c κs. search rules)
    (λ c κs. given_fits w32 (fits c.before.before.before.before.before) c.reuse_or_create_new_id-x.ensures)
    returns)
