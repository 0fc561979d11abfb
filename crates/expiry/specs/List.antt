-- What goes, by what was found; the list of an expiry, over the refs and the ids that go; and the update at a place of it.
use Rattle.std.specs.Prelude.{ℕ, ◌-◌, ◌*◌, Bool, cond, List, [], ◌∷◌, ◌++◌, map, eqb, ℤ, length, take, drop}
use Rattle.rules.specs.Capacities.{removal_room}
use Rattle.rules.specs.Register.{Snapshot, NamedRef, Update}
use Rattle.rules.specs.Register.Update.{RemoveSnapshots, RemoveRef}
use Rattle.retention.specs.Expiry.{parts_of}
use Rattle.retention.specs.Reasons.{nothing}
use Rattle.expiry.specs.declared.policy.Reason.{Reason}

-- those of a list at whose place in another one stands that passes a test
abbrev pub picked : {A B : Type 0} → (B → Bool) → List B → List A → List A
picked q [] l = []
picked q (y ∷ ys) [] = []
picked q (y ∷ ys) (x ∷ l) = cond (q y) (x ∷ picked q ys l) (picked q ys l)

-- the refs that go, by what was found of them
abbrev pub refs_going : List Bool → List NamedRef → List NamedRef
refs_going going refs = picked (λ b. b) going refs

-- the snapshots that nothing keeps
abbrev pub snapshots_going : List Reason → List Snapshot → List Snapshot
snapshots_going stays snapshots = picked (λ (r : Reason). eqb r.why nothing) stays snapshots

abbrev pub list_of : List NamedRef → List ℤ → List Update
list_of refs ids = map (λ (r : NamedRef). RemoveRef r.name) refs ++ map RemoveSnapshots (parts_of removal_room ids)

-- the removal of the first of some refs; where there is none, of snapshots
abbrev pub removal : List NamedRef → List ℤ → Update
removal [] ids = RemoveSnapshots ids
removal (r ∷ refs) ids = RemoveRef r.name

-- the refs come first, then sixteen snapshots at a time
abbrev pub update_at : List NamedRef → List ℤ → ℕ → Update
update_at refs ids place = removal (drop place refs) (take removal_room (drop ((place - length refs) * removal_room) ids))
