-- The ids of the schemas and how many fields they have, beside their table.
use Rattle.std.specs.Prelude.{ℕ, ◌≤◌, List, map, ℤ, pos, length, get_or, take}
use Rattle.std.specs.Int.{w32}
use Rattle.std.proofs.Common.{SFits}
use Rattle.rules.specs.Capacities.{schema_room}
use Rattle.rules.specs.Register as plain
use Rattle.rules.specs.SchemaUpdates.{schema_ids}
use Rattle.rules.specs.Layout.{pad}
use Rattle.schema_updates.specs.declared.keys.SchemaKeys.{SchemaKeys}

-- how many fields each schema has
abbrev pub field_counts : List plain.Schema → List ℕ
field_counts l = map (λ (s : plain.Schema). length s.fields) l

-- those of a table
unfoldable pub laid_keys : List plain.Schema → SchemaKeys
laid_keys l = record { items = pad schema_room (pos 0) (schema_ids l); sizes = pad schema_room 0 (field_counts l); count = length l }

-- those that count
abbrev pub lent_keys : SchemaKeys → List ℤ
lent_keys k = take k.count k.items

-- no more count than there are, and each id is a number of 32 bits
pub record KeysFit (k : SchemaKeys) : Type 0 where
  pub within : k.count ≤ schema_room
  pub narrow : (n : ℕ) → SFits w32 (get_or k.items n (pos 0))
