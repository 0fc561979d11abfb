-- The keys that count: how many they are, and that those of a table are its ids and the numbers of fields.
use Prim.Native.Nat.{ℕ, ◌≤◌}
use native.Mathlib.Omega.{arith}
use mathlib.Core.Path.{◌≡◌, refl, sym, ap, ◌∙◌}
use mathlib.Core.Bool.{Bool}
use mathlib.Core.List.{List, [], ◌∷◌}
use borrow.Table.Steps.{cases}
use Rattle.std.specs.List.{list_any}
use lib.Dec.{eqb}
use lib.IntN.{ℤ}
use lib.ListN.{length, take, length-map}
use lib.Seq.{take_at, length-take-le}
use Rattle.rules.specs.Words.{eq_z, any, is_in}
use Rattle.rules.specs.Register as plain
use Rattle.rules.specs.SchemaUpdates.{schema_ids, holds_schema}
use Rattle.search.proofs.Places.{eq_z_turned}
use Rattle.tables.proofs.Search.{any_map}
use Rattle.schema_updates.specs.declared.keys.SchemaKeys.{SchemaKeys}
use Rattle.schema_updates.specs.Keys.{field_counts, laid_keys, lent_keys, KeysFit}

module _ {keys : SchemaKeys} (f : KeysFit keys) (n : length keys.items ≡ 16) where
  pub keys_within : keys.count ≤ length keys.items
  keys_within = omega (arith, f.within)

  pub keys_slice : keys.count ≡ length (lent_keys keys)
  keys_slice = sym (length-take-le keys.count keys.items keys_within)

pub keys_lent : (l : List plain.Schema) {keys : SchemaKeys} → keys ≡ laid_keys l → lent_keys keys ≡ schema_ids l
unfolding laid_keys
keys_lent l e = rw e (take_at (schema_ids l) _ (length l) (length-map l (λ (s : plain.Schema). s.id)))

-- an id is among them if the table holds it
pub keys_in : (l : List plain.Schema) {keys : SchemaKeys} → keys ≡ laid_keys l → (id : ℤ) → is_in (lent_keys keys) id ≡ holds_schema l id
keys_in l e id = ap (λ (k : List ℤ). is_in k id) (keys_lent l e) ∙ any_map (eq_z id) (λ (s : plain.Schema). s.id) l ∙ ap (λ (q : plain.Schema → Bool). any q l) (λ i s. eq_z_turned id s.id i)

-- ---- how many fields

abbrev pub lent_sizes : SchemaKeys → List ℕ
lent_sizes k = take k.count k.sizes

sizes_lent : (l : List plain.Schema) {keys : SchemaKeys} → keys ≡ laid_keys l → lent_sizes keys ≡ field_counts l
unfolding laid_keys
sizes_lent l e = rw e (take_at (field_counts l) _ (length l) (length-map l (λ (s : plain.Schema). length s.fields)))

any_is : (p : ℕ → Bool) (l : List ℕ) → list_any p l ≡ any p l
any_is p [] = refl
any_is p (x ∷ l) = cases (p x) (λ t. rw t) (λ f. rw f (any_is p l))

-- one of them is the number
pub size_found : (size : ℕ) {keys : SchemaKeys} {found : Bool} → found ≡ list_any (λ (k : ℕ). eqb k size) (lent_sizes keys)
    → (l : List plain.Schema) → keys ≡ laid_keys l → found ≡ any (λ (x : plain.Schema). eqb (length x.fields) size) l
size_found size {keys} a l e =
    let has : ℕ → Bool = λ (k : ℕ). eqb k size in
    a ∙ any_is has (lent_sizes keys) ∙ ap (any has) (sizes_lent l e) ∙ any_map has (λ (x : plain.Schema). length x.fields) l
