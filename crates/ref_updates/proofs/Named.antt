-- The ref that a search by name finds in a table is the first of that name.
use Prim.Native.Nat.{ℕ, ◌≤◌}
use mathlib.Core.Path.{◌≡◌, ◌∙◌}
use mathlib.Core.List.{List}
use lib.Dec.{ltb}
use lib.ListN.{length, get_or}
use Rattle.records.specs.declared.reference.NamedRef.{NamedRef}
use Rattle.records.specs.declared.reference.Refs.{Refs}
use Rattle.rules.specs.RefUpdates.{has_name, ref_named}
use Rattle.rules.specs.Layout.{given, read_ref, read_refs}
use Rattle.search.specs.Places.{index_of}
use Rattle.tables.specs.Laid.{LaidRefs}
use Rattle.tables.proofs.Table.{read_length, within}
use Rattle.tables.proofs.Each.{tidy_refs}
use Rattle.builder.proofs.Found.{found_at}

module _ {t : Refs} (h : LaidRefs t) where
  pub named_long : length (read_refs t) ≡ t.count
  named_long = read_length (tidy_refs h)

  pub named_within : t.count ≤ 16
  named_within = within (tidy_refs h)

  -- there is one exactly if the place is within the count
  pub named : (name : List ℕ) {i : ℕ} (d : NamedRef) → i ≡ index_of (has_name name) (read_refs t) → ref_named name (read_refs t) ≡ given (ltb i t.count) (read_ref (get_or t.items i d))
  named name d e = found_at (tidy_refs h) (has_name name) e d

  -- the same, of the ref that was taken from the place
  pub named_there : (name : List ℕ) {i : ℕ} → i ≡ index_of (has_name name) (read_refs t) → (d : NamedRef) {x : NamedRef} → x ≡ get_or t.items i d → ref_named name (read_refs t) ≡ given (ltb i t.count) (read_ref x)
  named_there name e d q = named name d e ∙ rw q
