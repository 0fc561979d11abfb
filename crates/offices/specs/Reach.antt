-- What is reached by parents, over the ids of snapshots and those of their parents: the rule's `reach` is this of a table's. And what has to stay of a removal.
use Rattle.std.specs.Prelude.{ℕ, suc, Bool, ◌&&◌, List, [], ℤ}
use Rattle.rules.specs.Words.{any, is_in}
use Rattle.rules.specs.Capacities.{snapshot_room}
use Rattle.rules.specs.Register.{NamedRef, LogEntry}
use Rattle.rules.specs.Walk.{parent_of, follow, listed_ids}
use Rattle.rules.specs.Others.{is_others_ref}

unfoldable pub reach_of : List ℤ → List ℤ → ℤ → List ℤ
reach_of ids parents start = listed_ids (follow (suc snapshot_room) (parent_of ids parents) is_in [] start)

-- a ref of the other office reaches one of those that are removed
abbrev pub ref_reaches : ℕ → List ℤ → List ℤ → List ℤ → NamedRef → Bool
ref_reaches office ids parents removed r = is_others_ref office r && any (is_in removed) (reach_of ids parents r.reference.snapshot)

-- an entry of the snapshot log names one that is removed and held
abbrev pub entry_names : List ℤ → List ℤ → LogEntry → Bool
entry_names ids removed e = is_in removed e.snapshot && is_in ids e.snapshot
