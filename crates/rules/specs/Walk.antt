-- Ancestor walks: document 01, "Ancestor walks".
use Rattle.std.specs.Prelude.{ℕ, zero, suc, Bool, cond, not, ◌&&◌, List, [], ◌∷◌, ◌++◌, map, eqb, leb, ℤ, negsuc, length, drop}
use Rattle.std.proofs.Math.Option.{Option, none, some}
use Rattle.std.specs.Int.Signed.{non_neg}
use Rattle.rules.specs.Words.{eq_z, all, is_in, unequal, some_with, or_else}
use Rattle.rules.specs.Replies.{accepted, start_not_formed, met_twice, buffer_too_short}
use Rattle.rules.specs.Capacities.{snapshot_room}
use Rattle.rules.specs.Register.{Snapshot}

-- what a walk finds: the ids that it lists; that it meets a snapshot twice; or that its lists are bad
pub data Walk : Type 0 where
  Listed : List ℤ → Walk
  Twice : Walk
  Bad : Walk

-- "Unequal lengths, over 64, equal ids or an id below 0 give 1, first."
abbrev pub lists_formed : List ℤ → List ℤ → Bool
lists_formed ids parents = eqb (length ids) (length parents) && leb (length ids) snapshot_room && unequal ids && all non_neg ids

-- the parent of a held id. "a parent below 0 means none"; as no id is below 0, a parent of none is one that is not held
abbrev pub parent_of : List ℤ → List ℤ → ℤ → Option ℤ
parent_of [] parents id = none
parent_of (x ∷ ids) [] id = none
parent_of (x ∷ ids) (p ∷ parents) id = cond (eq_z x id) (some p) (parent_of ids parents id)

-- From an id, with some listed already, for as many steps as the first number says. Whether it stops in front of an id is asked of those that are listed
-- and of the id.
unfoldable pub follow : ℕ → (ℤ → Option ℤ) → (List ℤ → ℤ → Bool) → List ℤ → ℤ → Walk
follow zero parent stops listed id = Twice
follow (suc steps) parent stops listed id = elim (parent id) [
  | none ↦ Listed listed
  | some next ↦ cond (stops listed id) (Listed listed) (cond (is_in listed id) Twice (follow steps parent stops (listed ++ (id ∷ [])) next))
]

-- "From a held snapshot, itself first, parent by parent, until no parent, an unheld parent, or (if given) the excluded id, itself not listed."
-- No id is listed twice and at most 64 are held, so 65 steps are enough.
unfoldable pub ancestors : List ℤ → List ℤ → ℤ → Option ℤ → Walk
ancestors ids parents start excluded =
    cond (lists_formed ids parents)
    (follow (suc snapshot_room) (parent_of ids parents) (λ listed id. some_with (eq_z id) excluded) [] start)
    Bad

-- the number, with room for so many ids: "24 before 25"
abbrev pub walk_number : ℕ → Walk → ℕ
walk_number room (Listed ids) = cond (leb (length ids) room) accepted buffer_too_short
walk_number room Twice = met_twice
walk_number room Bad = start_not_formed

-- "a refused walk: count 0"
abbrev pub walk_count : ℕ → Walk → ℕ
walk_count room (Listed ids) = cond (leb (length ids) room) (length ids) 0
walk_count room Twice = 0
walk_count room Bad = 0

-- "Bytes past the answer are kept"; a refused walk: "nothing written"
abbrev pub walk_buffer : List ℤ → Walk → List ℤ
walk_buffer buffer (Listed ids) = cond (leb (length ids) (length buffer)) (ids ++ drop (length ids) buffer) buffer
walk_buffer buffer Twice = buffer
walk_buffer buffer Bad = buffer

-- "A second entry reads the catalogue's snapshot records as one lent run of records and gives the same answer."
abbrev pub snapshot_ids : List Snapshot → List ℤ
snapshot_ids snapshots = map (λ (s : Snapshot). s.id) snapshots

abbrev pub snapshot_parents : List Snapshot → List ℤ
snapshot_parents snapshots = map (λ (s : Snapshot). or_else s.parent (negsuc 0)) snapshots

abbrev pub record_ancestors : List Snapshot → ℤ → Option ℤ → Walk
record_ancestors snapshots = ancestors (snapshot_ids snapshots) (snapshot_parents snapshots)

-- the ids that a walk lists
abbrev pub listed_ids : Walk → List ℤ
listed_ids (Listed ids) = ids
listed_ids Twice = []
listed_ids Bad = []

-- Document 02, request (xi), "reaches by parents": the same walk, of held snapshots, which a snapshot that is listed already ends and does not spoil.
unfoldable pub reach : List Snapshot → ℤ → List ℤ
reach snapshots start = listed_ids (follow (suc snapshot_room) (parent_of (snapshot_ids snapshots) (snapshot_parents snapshots)) is_in [] start)
