-- A test that holds for one of some snapshots decides by those after it.
use Rattle.std.proofs.Common.{◌≡◌, ℕ, ◌+◌, ◌<◌, Bool, true, List, length, get_or, drop, map, add-one, drop-cons}
use Rattle.records.specs.declared.snapshot.Snapshot.{Snapshot}
use Rattle.rules.specs.Words.{all}
use Rattle.rules.specs.Register as plain
use Rattle.rules.specs.Layout.{read_snapshot}

pub all_next : (p : plain.Snapshot → Bool) (l : List Snapshot) (i : ℕ) (d : Snapshot) → i < length l → p (read_snapshot (get_or l i d)) ≡ true → all p (map read_snapshot (drop i l)) ≡ all p (map read_snapshot (drop (i + 1) l))
all_next p l i d h e = rw (drop-cons l i d h, add-one, e)
