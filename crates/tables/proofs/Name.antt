-- The bytes of a name that count are what is read of it.
use Prim.Native.Nat.{◌-◌, ◌≤◌}
use native.Mathlib.Omega.{arith}
use mathlib.Core.Path.{◌≡◌, sym, ap}
use lib.ListN.{length, take, replicate, length-append}
use lib.Seq.{length-take-le}
use Rattle.records.specs.declared.text.Name.{Name}
use Rattle.rules.specs.Words.{same_bytes}
use Rattle.rules.specs.Capacities.{name_room}
use Rattle.rules.specs.Layout.{pad, read_name, laid_name}
use Rattle.rules.proofs.Slots.Relaid.{counted_take, length_counted}
use Rattle.equality.specs.Same.{same_name}
use Rattle.equality.proofs.Told.{names_alike}
use Rattle.tables.specs.Laid.{LaidName}

module _ {a : Name} (h : LaidName a) where
  pub name_within : a.len ≤ length a.bytes
  unfolding laid_name
  name_within =
      let e : length a.bytes ≡ length (pad name_room 0 (read_name a)) = ap (λ (t : Name). length t.bytes) (sym h.back) in
      omega (arith, e, length-append (read_name a) (replicate (name_room - length (read_name a)) 0), length_counted 0 a.bytes a.len)

  pub name_counted : a.len ≡ length (take a.len a.bytes)
  name_counted = sym (length-take-le a.len a.bytes name_within)

  pub name_read : take a.len a.bytes ≡ read_name a
  name_read = sym (counted_take 0 a.bytes a.len name_within)

-- two names that are laid out are the same as records exactly if the same is read of them
pub same_names : {a b : Name} → LaidName a → LaidName b → same_name a b ≡ same_bytes (read_name a) (read_name b)
same_names {a} {b} p q = names_alike a b p.back q.back
