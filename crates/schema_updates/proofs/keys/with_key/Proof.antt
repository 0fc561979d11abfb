-- The id and the number of fields go into the first slots that are free.
use Prim.Native.Nat.{ℕ, ◌+◌, ◌<◌}
use native.Mathlib.Omega.{arith}
use mathlib.Core.Path.{◌≡◌, sym, ap, subst, ◌∙◌}
use mathlib.Core.List.{List, [], ◌∷◌, ◌++◌, map-append}
use borrow.Author.Rules.{rules, sfits_of}
use lib.IntN.{ℤ, pos}
use lib.ListN.{length, set, length-append, length-map}
use mir.Syntax.{w32, w64}
use mir.Val.{SFits, to_z, of_z}
use mir.Facts.{to_z-of_z}
use Rattle.rules.specs.Register as plain
use Rattle.rules.specs.SchemaUpdates.{schema_ids}
use Rattle.rules.specs.Layout.{pad}
use Rattle.rules.proofs.Slots.Relaid.{set_pad}
use Rattle.tables.proofs.Keyed.{set_fits}
use Rattle.schema_updates.specs.declared.keys.SchemaKeys.{SchemaKeys}
use Rattle.schema_updates.specs.Keys.{field_counts, laid_keys}
use Rattle.schema_updates.proofs.keys.with_key.Statement.{statement}
use Rattle.schema_updates.proofs.keys.with_key.Tie as tie

one_more_lem : (l : List plain.Schema) (s : plain.Schema) {keys : SchemaKeys} {z : ℤ} {size : ℕ} → keys.count < 16 → keys ≡ laid_keys l → z ≡ s.id → length s.fields ≡ size
    → ◌≡◌ {A = SchemaKeys} (record { items = set keys.items keys.count z; sizes = set keys.sizes keys.count size; count = keys.count + 1 }) (laid_keys (l ++ (s ∷ [])))
unfolding laid_keys
one_more_lem l s {keys} {z} {size} h e q m =
    let n : keys.count ≡ length l = ap (λ (k : SchemaKeys). k.count) e in
    let i : set keys.items keys.count z ≡ pad 16 (pos 0) (schema_ids (l ++ (s ∷ []))) =
    rw (e, q) (set_pad 16 (pos 0) (schema_ids l) (length l) s.id (length-map l (λ (x : plain.Schema). x.id)) (omega (arith, n))) ∙ ap (pad 16 (pos 0)) (sym (map-append (λ (x : plain.Schema). x.id) l (s ∷ []))) in
    let w : set keys.sizes keys.count size ≡ pad 16 0 (field_counts (l ++ (s ∷ []))) =
    rw (e, ← m) (set_pad 16 0 (field_counts l) (length l) (length s.fields) (length-map l (λ (x : plain.Schema). length x.fields)) (omega (arith, n))) ∙ ap (pad 16 0) (sym (map-append (λ (x : plain.Schema). length x.fields) l (s ∷ []))) in
    let k : keys.count + 1 ≡ length (l ++ (s ∷ [])) = omega (arith, n, length-append l (s ∷ [])) in
    λ j. record { items = i j; sizes = w j; count = k j }

returns : tie.Need-returns
returns c =
    let k = c.schema_key-k in
    let z : to_z w64 (of_z w64 k.result.0) ≡ c.args.id.0 = to_z-of_z {w = w64} (sfits_of c.struct_told-1.given.0.1) ∙ k.ensures.0 in (
      record { within = omega (arith, c.requires.1); narrow = set_fits w32 c.args.keys.items c.args.keys.count _ c.requires.0.narrow (subst (SFits w32) (k.ensures.0 ∙ sym z) k.ensures.1) },
      λ l x e q m. one_more_lem l x c.requires.1 e (z ∙ sym q) m,
    )

pub with_key_spec : {M : Type 1} → statement M
with_key_spec =
    tie.close
    (tie.spec
    (λ c κs. search rules)
    (λ c. search rules)
    (λ c. search rules)
    (λ c. search rules)
    (λ c. search rules)
    (λ c. search rules)
    returns)
