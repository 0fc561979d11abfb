-- Every list of updates that a function is given fits a log: what each kind of an update could say fits, so what its own kind says does.
use Prim.Native.Nat.{ℕ}
use mathlib.Core.Path.{◌≡◌, refl}
use mathlib.Core.Bool.{Bool, true}
use mathlib.Core.List.{List, [], ◌∷◌}
use lib.Dec.{eqb}
use mir.Val.{Val}
use denote.Laws.{Is}
use denote.Struct.Declared.{row}
use Rattle.records.specs.Blanks.{no_update}
use Rattle.records.specs.declared.update.TableUpdate.{TableUpdate}
use Rattle.records.specs.declared.update.UpdateList.{UpdateList}
use Rattle.records.specs.contracts.update.TableUpdate as update
use Rattle.records.specs.contracts.update.UpdateList as updates
use Rattle.rules.specs.Words.{all}
use Rattle.rules.specs.Capacities.{list_room}
use Rattle.rules.specs.Register.{Update}
use Rattle.rules.specs.Kinds.{is_tidy_update, at_kind, readings, read_update, read_updates}
use Rattle.rules.proofs.Checks.{by_test, both, and_left, and_right}
use Rattle.file_fitting.proofs.Slots.{number32, number64, uuid_fits_lem, table_fits}
use Rattle.file_fitting.proofs.Records.{snapshot_fits_lem, reference_fits_lem, order_fits_lem, statistics_fit}
use Rattle.log_rule.specs.Held.{update_fits, log_fits}
use Rattle.log_fitting.proofs.Ids.{snapshot_ids_fit, schema_ids_fit, spec_ids_fit, spec_offer_fits}

-- what a kind says fits
abbrev reading_fits : ℕ × Update → Bool
reading_fits x = update_fits x.1

at_kind_fits : (kind : ℕ) (l : List (ℕ × Update)) → all reading_fits l ≡ true → update_fits (at_kind kind l) ≡ true
unfolding update_fits
at_kind_fits kind [] h = refl
at_kind_fits kind (x ∷ l) h =
    by_test (λ (u : Update). update_fits u ≡ true) (eqb kind x.0) (λ e. and_left (reading_fits x) (all reading_fits l) h) (λ e. at_kind_fits kind l (and_right (reading_fits x) (all reading_fits l) h))

-- in the order of the kinds
readings_fit : (u : TableUpdate) (vs : List Val) → Is (row update.the_type) u vs → all reading_fits (readings u) ≡ true
unfolding update_fits
readings_fit u vs k =
    let fields = k.1.1.1.0 in
    let snapshots = k.1.1.1.1.0 in
    let refs = k.1.1.1.1.1.0 in
    let rest = k.1.1.1.1.1.1 in
    let schemas = rest.0 in
    let orders = rest.1.0 in
    let statistics = rest.1.1.0 in
    let specs = rest.1.1.1.0 in
    let added = snapshot_fits_lem u.snapshots.added snapshots.0.0 snapshots.1.1.0 in
    let file = statistics_fit u.statistics.file statistics.0.0 statistics.1.1.0 in
    let removed = number64 u.statistics.removed.0 statistics.1.1.1.0.1.1.0.1 in
    both (uuid_fits_lem u.fields.uuid fields.0.0 fields.1.1.0)
    (both refl
    (both refl
    (both added
    (both added
    (both (snapshot_ids_fit u.snapshots.removed snapshots.0.1.0 snapshots.1.1.1.0)
    (both (reference_fits_lem u.refs.reference refs.0.1.0 refs.1.1.1.0)
    (both refl
    (both (number32 u.schemas.added.schema_id.0 schemas.1.1.0.1.1.0.1.1.0.1)
    (both (number32 u.schemas.chosen.0 schemas.1.1.1.0.1.1.0.1)
    (both (schema_ids_fit u.schemas.removed schemas.0.1.1.0 schemas.1.1.1.1.0)
    (both (order_fits_lem u.sort_orders.added orders.0.0 orders.1.1.0)
    (both (number64 u.sort_orders.chosen.0 orders.1.1.1.0.1.1.0.1)
    (both file
    (both removed
    (both file
    (both removed
    (both (spec_offer_fits u.partition_specs.added specs.0.0 specs.1.1.0)
    (both (number32 u.partition_specs.chosen.0 specs.1.1.1.0.1.1.0.1)
    (both (spec_ids_fit u.partition_specs.removed specs.0.1.1.0 specs.1.1.1.1.0)
    refl)))))))))))))))))))

update_fits_lem : (u : TableUpdate) (vs : List Val) → Is (row update.the_type) u vs → update_fits (read_update u) ≡ true
unfolding read_update update_fits
update_fits_lem u vs k = by_test (λ (x : Update). update_fits x ≡ true) (is_tidy_update u) (λ t. at_kind_fits u.kind (readings u) (readings_fit u vs k)) (λ t. refl)

-- no kind is 0
blank_fits : update_fits (read_update no_update) ≡ true
unfolding read_update update_fits no_update
blank_fits = by_test (λ (x : Update). update_fits x ≡ true) (is_tidy_update no_update) (λ t. refl) (λ t. refl)

-- The bounds are those of the types of the fields. Nothing else is asked of the list: neither that its updates are well formed, nor that its count is within
-- the capacity.
pub updates_fit : (us : UpdateList) (vs : List Val) → Is (row updates.the_type) us vs → log_fits (read_updates us) ≡ true
unfolding read_updates
updates_fit us vs k = table_fits update.the_type read_update update_fits update_fits_lem no_update blank_fits list_room us.count us.items k.0.0 k.1.1.0
