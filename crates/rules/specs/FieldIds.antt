-- Ids of partition fields over a sequence of runs. Document 02, request (ix), has a field reuse an id or get a fresh one; that no fresh id is given out twice is this project's own.
use Rattle.std.specs.Prelude.{Bool, cond, not, List, [], ◌∷◌, ◌++◌, eqb, ℤ}
use Rattle.std.proofs.Math.Option.{Option, none, some}
use Rattle.std.specs.Int.Signed.{lt_z}
use Rattle.rules.specs.Words.{all, collect}
use Rattle.rules.specs.Replies.{accepted}
use Rattle.rules.specs.Register.{PartitionField, PartitionSpec, SpecOffer, Metadata, Update, Terms, State, Outcome}
use Rattle.rules.specs.Register.Outcome.{Refused, Accepted}
use Rattle.rules.specs.Register.Update.{AssignUuid, UpgradeFormatVersion, SetLocation, AddSnapshot, SetBranchSnapshot, RemoveSnapshots, SetRef, RemoveRef, AddSchema, SetCurrentSchema, RemoveSchemas, AddSortOrder, SetDefaultSortOrder, SetStatistics, RemoveStatistics, AddPartitionSpec, SetDefaultPartitionSpec, RemovePartitionSpecs, NotFormed}
use Rattle.rules.specs.Offers.{offered_spec}
use Rattle.rules.specs.SpecUpdates.{fields_of_all, reusing, reused_spec, fresh_of}
use Rattle.rules.specs.Updates.{update_number, effect}
use Rattle.rules.specs.Run.{started, run}
use Rattle.rules.specs.Rows.{Given, answered_from}

-- ---- the fresh ids that are given out

-- the spec that an update offers
abbrev pub spec_offer : Update → Option SpecOffer
spec_offer (AssignUuid uuid) = none
spec_offer (UpgradeFormatVersion v) = none
spec_offer (SetLocation location) = none
spec_offer (AddSnapshot s) = none
spec_offer (SetBranchSnapshot name s) = none
spec_offer (RemoveSnapshots ids) = none
spec_offer (SetRef name r) = none
spec_offer (RemoveRef name) = none
spec_offer (AddSchema o) = none
spec_offer (SetCurrentSchema id) = none
spec_offer (RemoveSchemas ids) = none
spec_offer (AddSortOrder o) = none
spec_offer (SetDefaultSortOrder id) = none
spec_offer (SetStatistics which f) = none
spec_offer (RemoveStatistics which id) = none
spec_offer (AddPartitionSpec o) = some o
spec_offer (SetDefaultPartitionSpec id) = none
spec_offer (RemovePartitionSpecs ids) = none
spec_offer (NotFormed counts) = none

-- of a spec with its given and reused ids: none where a held spec is reused
abbrev pub fresh_added : PartitionSpec → Metadata → List ℤ
fresh_added s m = elim (reused_spec s m.specs) [ none ↦ fresh_of m.fields.last_partition s | some id ↦ [] ]

-- by an accepted update
unfoldable pub fresh_by : Terms → Update → State → List ℤ
fresh_by terms u st = elim (spec_offer u) [ none ↦ [] | some o ↦ fresh_added (reusing st.metadata.specs (offered_spec terms.offers o)) st.metadata ]

-- by updates in order, up to the first that is refused
unfoldable pub fresh_from : Terms → List Update → State → List ℤ
fresh_from terms [] st = []
fresh_from terms (u ∷ us) st = cond (eqb (update_number terms u st) accepted) (fresh_by terms u st ++ fresh_from terms us (effect terms u st)) []

-- by a run with this outcome; a refused one changes nothing, and its ids are free again
abbrev pub fresh_in : Given → Metadata → Outcome → List ℤ
fresh_in g m (Refused number place) = []
fresh_in g m (Accepted m' log expired) = fresh_from g.terms g.updates (started m)

-- by runs, each starting from what the one before answered
unfoldable pub fresh_over : Metadata → List Given → List ℤ
fresh_over m [] = []
fresh_over m (g ∷ gs) =
    let o : Outcome = run g.terms m g.updates in
    fresh_in g m o ++ fresh_over (answered_from m o) gs

-- ---- last partition id and the ids that are held

abbrev pub last_partition_of : Metadata → ℤ
last_partition_of m = m.fields.last_partition

abbrev pub held_field_ids : Metadata → List ℤ
held_field_ids m = collect (λ (f : PartitionField). f.id) (fields_of_all m.specs)

-- the number is not above another
abbrev pub is_at_most : ℤ → ℤ → Bool
is_at_most last id = not (lt_z last id)

-- last partition id is at least every field id that is held; documents 01 and 02 do not ask it of metadata
unfoldable pub is_reached : Metadata → Bool
is_reached m = all (is_at_most (last_partition_of m)) (held_field_ids m)
