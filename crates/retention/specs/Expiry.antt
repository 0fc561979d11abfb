-- The list of updates that an expiry makes, and when there is none: document 02, request (viii).
use Rattle.std.specs.Prelude.{ℕ, zero, suc, Bool, cond, not, ◌&&◌, List, [], ◌∷◌, ◌++◌, map, eqb, length, take, drop}
use Rattle.rules.specs.Words.{first_of, Check}
use Rattle.rules.specs.Replies.{accepted, start_not_formed, update_not_formed, met_twice, office_unknown}
use Rattle.rules.specs.Capacities.{removal_room}
use Rattle.rules.specs.Offices.{is_office}
use Rattle.rules.specs.Register.{NamedRef, Metadata, Update}
use Rattle.rules.specs.Register.Update.{RemoveSnapshots, RemoveRef}
use Rattle.rules.specs.WellFormed.{at_least_one, metadata_formed}
use Rattle.retention.specs.Retention.{Policy, dropped_refs, is_cyclic, going_ids}

-- a list cut into parts of so many elements, the last of what is left; as many steps as the first number says are enough where it is the list's length
abbrev pub cut : {A : Type 0} → ℕ → ℕ → List A → List (List A)
cut zero size l = []
cut (suc steps) size [] = []
cut (suc steps) size (x ∷ l) = take size (x ∷ l) ∷ cut steps size (drop size (x ∷ l))

abbrev pub parts_of : {A : Type 0} → ℕ → List A → List (List A)
parts_of size l = cut (length l) size l

-- "Dropped refs come first in table order, then the rest ascending, 16 per update."
unfoldable pub expiring_updates : Policy → Metadata → List Update
expiring_updates p m = map (λ (r : NamedRef). RemoveRef r.name) (dropped_refs p m) ++ map RemoveSnapshots (parts_of removal_room (going_ids p m))

-- no default is below 1
abbrev pub policy_formed : Policy → Bool
policy_formed p = at_least_one p.min_snapshots && at_least_one p.max_snapshot_age && at_least_one p.max_ref_age

-- "Refusals: 1, then 3 for a default below 1, then 24 for a parent cycle met on a kept branch"; 39 stands behind 1 as it does in a run
unfoldable pub expiry_checks : Policy → Metadata → List Check
expiry_checks p m =
    (not (metadata_formed m), start_not_formed)
    ∷ (not (is_office p.office), office_unknown)
    ∷ (not (policy_formed p), update_not_formed)
    ∷ (is_cyclic p m, met_twice)
    ∷ []

-- a number, and a list that is empty on a refusal
pub record Expiry : Type 0 where
  pub number : ℕ
  pub updates : List Update

unfoldable pub expiry : Policy → Metadata → Expiry
expiry p m =
    cond (eqb (first_of (expiry_checks p m)) accepted)
    (record { number = accepted; updates = expiring_updates p m })
    (record { number = first_of (expiry_checks p m); updates = [] })
