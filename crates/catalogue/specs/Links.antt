-- Links: the ids and parents of snapshots as two arrays, and the walk over them.
use Rattle.std.specs.Prelude.{◌+◌, cond, List, [], ◌∷◌, ltb, leb, ℤ, pos, negsuc, take, set, replicate}
use Rattle.std.proofs.Math.Option.{Option}
use Rattle.rules.specs.Words.{or_else}
use Rattle.rules.specs.Capacities.{snapshot_room}
use Rattle.rules.specs.Register.{Snapshot}
use Rattle.rules.specs.Walk.{Walk, Bad, ancestors}
use Rattle.catalogue.specs.declared.links.Links.{Links}

-- "a parent below 0 means none"
abbrev pub parent_number : Snapshot → ℤ
parent_number s = or_else s.parent (negsuc 0)

unfoldable pub no_links : Links
no_links = record { ids = replicate snapshot_room (pos 0); parents = replicate snapshot_room (pos 0); count = 0 }

-- one snapshot more, where there is room
abbrev pub link : Links → Snapshot → Links
link l s =
    cond (ltb l.count snapshot_room)
    (record { ids = set l.ids l.count s.id; parents = set l.parents l.count (parent_number s); count = l.count + 1 })
    (record { ids = l.ids; parents = l.parents; count = snapshot_room + 1 })

abbrev pub link_all : Links → List Snapshot → Links
link_all l [] = l
link_all l (s ∷ ss) = link_all (link l s) ss

-- shut, so that nothing computes the two arrays
unfoldable pub gathered : List Snapshot → Links
gathered = link_all no_links

-- the walk over what is counted; "over 64 … give 1"
abbrev pub link_ancestors : Links → ℤ → Option ℤ → Walk
link_ancestors l start excluded =
    cond (leb l.count snapshot_room) (ancestors (take l.count l.ids) (take l.count l.parents) start excluded) Bad
