-- The names of a schema that is added, against those of the partitions: where none meets one, none is taken.
use mathlib.Core.Path.{◌≡◌, refl}
use mathlib.Core.Bool.{Bool, false, ◌&&◌}
use mathlib.Core.List.{List, [], ◌∷◌}
use Rattle.rules.specs.Words.{any}
use Rattle.rules.specs.Register.{SchemaField, Schema, PartitionSpec}
use Rattle.rules.specs.SchemaUpdates.{names_partition, is_taken}
use Rattle.rules.proofs.Checks.{neither}

any_and : {A : Type 0} (p q : A → Bool) (l : List A) → any p l ≡ false → any (λ x. p x && q x) l ≡ false
any_and p q [] h = refl
any_and p q (x ∷ l) h = let k = neither (p x) (any p l) h in rw k.0 (any_and p q l k.1)

pub none_taken : (s : Schema) (schemas : List Schema) (specs : List PartitionSpec) → any (λ (f : SchemaField). names_partition specs f.name) s.fields ≡ false → is_taken s schemas specs ≡ false
unfolding is_taken
none_taken s schemas specs h = any_and (λ (f : SchemaField). names_partition specs f.name) _ s.fields h
