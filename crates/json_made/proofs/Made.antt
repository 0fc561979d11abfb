-- An update of which the members are stored is made as the rule makes it, and offers what the rule says, with each of the fifteen actions.
use Prim.Native.Nat.{ℕ}
use mathlib.Core.Path.{◌≡◌, refl, sym, ap}
use mathlib.Core.Bool.{true, false, true≢false}
use mathlib.Core.List.{List, [], ◌∷◌}
use mathlib.Core.Option.{some}
use borrow.Author.Tests.{eqb-true}
use borrow.Table.Steps.{cases}
use lib.Dec.{eqb}
use Rattle.rules.specs.Words.{is_some, any}
use Rattle.rules.specs.Register.{Update}
use Rattle.rules.specs.Register.Update.{AssignUuid, UpgradeFormatVersion, SetLocation, AddSnapshot, RemoveSnapshots, SetRef, RemoveRef, AddSchema, SetCurrentSchema, RemoveSchemas, AddSortOrder, SetDefaultSortOrder, AddPartitionSpec, SetDefaultPartitionSpec, RemovePartitionSpecs}
use Rattle.rules.specs.Kinds.{assign_uuid_kind, upgrade_format_version_kind, set_location_kind, add_snapshot_kind, remove_snapshots_kind, set_ref_kind, remove_ref_kind, add_schema_kind, set_current_schema_kind, remove_schemas_kind, add_sort_order_kind, set_default_sort_order_kind, add_partition_spec_kind, set_default_partition_spec_kind, remove_partition_specs_kind}
use Rattle.json_rule.specs.Tree.{Members}
use Rattle.json_rule.specs.Members.{members_in, text_by, number_or0, items_by, members_by}
use Rattle.json_rule.specs.Records.{Sent, SendsSchema, SendsSpec, natural_of, numbers_of, uuid_of, snapshot_of, reference_of, order_of, schema_of, spec_of, offer_of, update_at}
use Rattle.json_rule.specs.Shapes.{Action, actions}
use Rattle.json_members.specs.Words.{kinds}
use Rattle.json_members.specs.Spots.{row_at}
use Rattle.json_members.specs.Rows.{action_in, action_at, span_of, through}
use Rattle.json_store.specs.Places.{uuid_at, location_at, ref_name_at}
use Rattle.json_store.specs.Puts.{part}
use Rattle.json_store.specs.Made.{text_in, snapshot_in, sort_order_in, snapshot_ids_in, schema_ids_in, spec_ids_in, update_in, offer_in}
use Rattle.json_store.specs.Stored.{member_at_lem, ValueHeld, Held, UpdateHeld}
use Rattle.json_made.proofs.Taken.{text_there, items_there, members_there, number_required}
use Rattle.json_made.proofs.Records.{must_there, snapshot_made, reference_made, schema_made, fields_offered, order_made, spec_made, partitions_offered}

-- the update of a kind whose offer begins at a place, and what it offers, are those of what is sent
pub record IsMade (kind place : ℕ) (slots numbers texts : List ℕ) (sent : Sent) : Type 0 where
  pub update : update_in kind place slots numbers texts ≡ some (update_at place sent)
  pub offer : offer_in kind numbers texts ≡ offer_of sent

abbrev Makes : ℕ → Action → Type 0
Makes kind a = (place : ℕ) (slots numbers texts : List ℕ) (ms : Members) → UpdateHeld slots numbers texts kind ms → IsMade kind place slots numbers texts (a.sends ms)

-- ---- something holds of each kind and its action

data Paired (P : ℕ → Action → Type 0) : List Action → List ℕ → Type 0 where
  no_more : Paired P [] []
  ◌then◌ : {a : Action} {k : ℕ} {acts : List Action} {ks : List ℕ} → P k a → Paired P acts ks → Paired P (a ∷ acts) (k ∷ ks)

infixr 5 ◌then◌
of_kind_lem : (P : ℕ → Action → Type 0) {acts : List Action} {ks : List ℕ} → Paired P acts ks → (kind : ℕ) (a : Action) → action_in kind acts ks ≡ some a → P kind a
of_kind_lem P no_more kind a e = absurd (true≢false (ap is_some (sym e)))
of_kind_lem P (◌then◌ {a = b} {k = k} h hs) kind a e =
    cases (eqb kind k)
    (λ t. let f = rw t at e in let s : b ≡ a = cc in rw (eqb-true kind k t) (rw s at h))
    (λ f. of_kind_lem P hs kind a (rw f at e))

-- ---- each update

-- one that offers nothing
module _ (place : ℕ) (slots numbers texts : List ℕ) (ms : Members) where
  abbrev Stored : ℕ → Type 0
  Stored kind = UpdateHeld slots numbers texts kind ms

  abbrev MadeAs : ℕ → Update → Type 0
  MadeAs kind u = update_in kind place slots numbers texts ≡ some u

  uuid_made : Stored assign_uuid_kind → MadeAs assign_uuid_kind (AssignUuid (uuid_of (text_by "uuid" ms)))
  unfolding update_in Held ValueHeld row_at span_of
  uuid_made h = ap (λ l. some (AssignUuid l)) (text_there (λ t. part uuid_at 16 texts ≡ uuid_of t) (member_at_lem 4 ms) (must_there slots numbers texts assign_uuid_kind ms h 4 refl) (h.members 4 refl).value)

  version_made : Stored upgrade_format_version_kind → MadeAs upgrade_format_version_kind (UpgradeFormatVersion (natural_of (number_or0 "format-version" ms)))
  unfolding update_in Held ValueHeld row_at span_of
  version_made h = ap (λ z. some (UpgradeFormatVersion (natural_of z))) (number_required _ _ (must_there slots numbers texts upgrade_format_version_kind ms h 5 refl) (h.members 5 refl).value)

  location_made : Stored set_location_kind → MadeAs set_location_kind (SetLocation (text_by "location" ms))
  unfolding update_in Held ValueHeld row_at span_of
  location_made h = ap (λ l. some (SetLocation l)) (text_there (λ t. text_in 96 location_at texts ≡ t) (member_at_lem 6 ms) (must_there slots numbers texts set_location_kind ms h 6 refl) (h.members 6 refl).value)

  snapshot_added : Stored add_snapshot_kind → MadeAs add_snapshot_kind (AddSnapshot (snapshot_of (members_by "snapshot" ms)))
  unfolding update_in Held ValueHeld row_at span_of
  snapshot_added h =
      ap (λ s. some (AddSnapshot s))
      (members_there (λ ns. snapshot_in slots numbers ≡ snapshot_of ns) (member_at_lem 7 ms) (must_there slots numbers texts add_snapshot_kind ms h 7 refl) (λ x e. snapshot_made slots numbers texts (members_in x) ((h.members 7 refl).value x e)))

  snapshots_removed : Stored remove_snapshots_kind → MadeAs remove_snapshots_kind (RemoveSnapshots (numbers_of (items_by "snapshot-ids" ms)))
  unfolding update_in Held ValueHeld row_at span_of
  snapshots_removed h =
      ap (λ l. some (RemoveSnapshots l)) (items_there (λ xs. snapshot_ids_in numbers ≡ numbers_of xs) (member_at_lem 8 ms) (must_there slots numbers texts remove_snapshots_kind ms h 8 refl) (h.members 8 refl).value)

  -- the name of a ref, in two actions
  name_made : (kind : ℕ) → Stored kind → any (eqb 9) (through (span_of kind).first (span_of kind).must) ≡ true → any (eqb 9) (through (span_of kind).first (span_of kind).last) ≡ true → text_in 32 ref_name_at texts ≡ text_by "ref-name" ms
  unfolding Held ValueHeld row_at
  name_made kind h a b = text_there (λ t. text_in 32 ref_name_at texts ≡ t) (member_at_lem 9 ms) (must_there slots numbers texts kind ms h 9 a) (h.members 9 b).value

  ref_set : Stored set_ref_kind → MadeAs set_ref_kind (SetRef (text_by "ref-name" ms) (reference_of ms))
  unfolding update_in span_of
  ref_set h = λ i. some (SetRef (name_made set_ref_kind h refl refl i) (reference_made slots numbers texts ms h i))

  ref_removed : Stored remove_ref_kind → MadeAs remove_ref_kind (RemoveRef (text_by "ref-name" ms))
  unfolding update_in span_of
  ref_removed h = ap (λ l. some (RemoveRef l)) (name_made remove_ref_kind h refl refl)

  schema_chosen : Stored set_current_schema_kind → MadeAs set_current_schema_kind (SetCurrentSchema (number_or0 "schema-id" ms))
  unfolding update_in Held ValueHeld row_at span_of
  schema_chosen h = ap (λ z. some (SetCurrentSchema z)) (number_required _ _ (must_there slots numbers texts set_current_schema_kind ms h 17 refl) (h.members 17 refl).value)

  schemas_removed : Stored remove_schemas_kind → MadeAs remove_schemas_kind (RemoveSchemas (numbers_of (items_by "schema-ids" ms)))
  unfolding update_in Held ValueHeld row_at span_of
  schemas_removed h =
      ap (λ l. some (RemoveSchemas l)) (items_there (λ xs. schema_ids_in numbers ≡ numbers_of xs) (member_at_lem 18 ms) (must_there slots numbers texts remove_schemas_kind ms h 18 refl) (h.members 18 refl).value)

  order_added : Stored add_sort_order_kind → MadeAs add_sort_order_kind (AddSortOrder (order_of (members_by "sort-order" ms)))
  unfolding update_in Held ValueHeld row_at span_of
  order_added h =
      ap (λ o. some (AddSortOrder o))
      (members_there (λ ns. sort_order_in numbers ≡ order_of ns) (member_at_lem 19 ms) (must_there slots numbers texts add_sort_order_kind ms h 19 refl) (λ x e. order_made slots numbers texts (members_in x) ((h.members 19 refl).value x e)))

  order_chosen : Stored set_default_sort_order_kind → MadeAs set_default_sort_order_kind (SetDefaultSortOrder (number_or0 "sort-order-id" ms))
  unfolding update_in Held ValueHeld row_at span_of
  order_chosen h = ap (λ z. some (SetDefaultSortOrder z)) (number_required _ _ (must_there slots numbers texts set_default_sort_order_kind ms h 20 refl) (h.members 20 refl).value)

  spec_chosen : Stored set_default_partition_spec_kind → MadeAs set_default_partition_spec_kind (SetDefaultPartitionSpec (number_or0 "spec-id" ms))
  unfolding update_in Held ValueHeld row_at span_of
  spec_chosen h = ap (λ z. some (SetDefaultPartitionSpec z)) (number_required _ _ (must_there slots numbers texts set_default_partition_spec_kind ms h 22 refl) (h.members 22 refl).value)

  specs_removed : Stored remove_partition_specs_kind → MadeAs remove_partition_specs_kind (RemovePartitionSpecs (numbers_of (items_by "spec-ids" ms)))
  unfolding update_in Held ValueHeld row_at span_of
  specs_removed h =
      ap (λ l. some (RemovePartitionSpecs l)) (items_there (λ xs. spec_ids_in numbers ≡ numbers_of xs) (member_at_lem 23 ms) (must_there slots numbers texts remove_partition_specs_kind ms h 23 refl) (h.members 23 refl).value)

-- those that offer something
schema_added : Makes add_schema_kind (record { word = []; rows = []; sends = λ ms. SendsSchema (schema_of (members_by "schema" ms)) })
unfolding update_in offer_in Held ValueHeld row_at span_of
schema_added place slots numbers texts ms h =
    members_there (λ ns. IsMade add_schema_kind place slots numbers texts (SendsSchema (schema_of ns))) (member_at_lem 15 ms) (must_there slots numbers texts add_schema_kind ms h 15 refl)
    (λ x e. let s = (h.members 15 refl).value x e in
    record { update = ap (λ o. some (AddSchema o)) (schema_made slots numbers texts (members_in x) s place); offer = fields_offered slots numbers texts (members_in x) s })

spec_added_lem : Makes add_partition_spec_kind (record { word = []; rows = []; sends = λ ms. SendsSpec (spec_of (members_by "spec" ms)) })
unfolding update_in offer_in Held ValueHeld row_at span_of
spec_added_lem place slots numbers texts ms h =
    members_there (λ ns. IsMade add_partition_spec_kind place slots numbers texts (SendsSpec (spec_of ns))) (member_at_lem 21 ms) (must_there slots numbers texts add_partition_spec_kind ms h 21 refl)
    (λ x e. let s = (h.members 21 refl).value x e in
    record { update = ap (λ o. some (AddPartitionSpec o)) (spec_made slots numbers texts (members_in x) s place); offer = partitions_offered slots numbers texts (members_in x) s })

-- ---- all of them

all_made : Paired Makes actions kinds
unfolding offer_in
all_made =
    (λ place slots numbers texts ms h. record { update = uuid_made place slots numbers texts ms h; offer = refl })
    then (λ place slots numbers texts ms h. record { update = version_made place slots numbers texts ms h; offer = refl })
    then (λ place slots numbers texts ms h. record { update = location_made place slots numbers texts ms h; offer = refl })
    then (λ place slots numbers texts ms h. record { update = snapshot_added place slots numbers texts ms h; offer = refl })
    then (λ place slots numbers texts ms h. record { update = snapshots_removed place slots numbers texts ms h; offer = refl })
    then (λ place slots numbers texts ms h. record { update = ref_set place slots numbers texts ms h; offer = refl })
    then (λ place slots numbers texts ms h. record { update = ref_removed place slots numbers texts ms h; offer = refl })
    then schema_added
    then (λ place slots numbers texts ms h. record { update = schema_chosen place slots numbers texts ms h; offer = refl })
    then (λ place slots numbers texts ms h. record { update = schemas_removed place slots numbers texts ms h; offer = refl })
    then (λ place slots numbers texts ms h. record { update = order_added place slots numbers texts ms h; offer = refl })
    then (λ place slots numbers texts ms h. record { update = order_chosen place slots numbers texts ms h; offer = refl })
    then spec_added_lem
    then (λ place slots numbers texts ms h. record { update = spec_chosen place slots numbers texts ms h; offer = refl })
    then (λ place slots numbers texts ms h. record { update = specs_removed place slots numbers texts ms h; offer = refl })
    then no_more

pub update_made_lem : (kind : ℕ) (a : Action) → action_at kind ≡ some a
    → (place : ℕ) (slots numbers texts : List ℕ) (ms : Members) → UpdateHeld slots numbers texts kind ms → IsMade kind place slots numbers texts (a.sends ms)
unfolding action_at
update_made_lem kind a e = of_kind_lem Makes all_made kind a e
