-- The rows of the actions, by the kinds of the updates that they say: from which member to which one a row goes, and up to which its members are required.
use Rattle.std.specs.Prelude.{ℕ, zero, suc, ◌-◌, Bool, cond, ◌&&◌, ◌||◌, List, [], ◌∷◌, eqb, leb, ltb}
use Rattle.std.proofs.Math.Option.{Option, none, some}
use Rattle.rules.specs.Kinds.{assign_uuid_kind, upgrade_format_version_kind, set_location_kind, add_snapshot_kind, remove_snapshots_kind, set_ref_kind, remove_ref_kind, add_schema_kind, set_current_schema_kind, remove_schemas_kind, add_sort_order_kind, set_default_sort_order_kind, add_partition_spec_kind, set_default_partition_spec_kind, remove_partition_specs_kind}
use Rattle.json_rule.specs.Shapes.{Action, actions}
use Rattle.json_members.specs.declared.row.Row.{Row}
use Rattle.json_members.specs.Words.{kinds}
use Rattle.json_members.specs.Spots.{beside}

-- the listed action of a kind
abbrev pub action_in : ℕ → List Action → List ℕ → Option Action
action_in kind [] ks = none
action_in kind (a ∷ others) [] = none
action_in kind (a ∷ others) (k ∷ ks) = cond (eqb kind k) (some a) (action_in kind others ks)

unfoldable pub action_at : ℕ → Option Action
action_at kind = action_in kind actions kinds

abbrev pub span : ℕ → ℕ → ℕ → Row
span first must last = record { first = first; must = must; last = last }

abbrev pub alone : ℕ → Row
alone spot = span spot spot spot

abbrev pub spans : List (ℕ × Row)
spans =
    (assign_uuid_kind, alone 4)
    ∷ (upgrade_format_version_kind, alone 5)
    ∷ (set_location_kind, alone 6)
    ∷ (add_snapshot_kind, alone 7)
    ∷ (remove_snapshots_kind, alone 8)
    ∷ (set_ref_kind, span 9 11 14)
    ∷ (remove_ref_kind, alone 9)
    ∷ (add_schema_kind, span 15 15 16)
    ∷ (set_current_schema_kind, alone 17)
    ∷ (remove_schemas_kind, alone 18)
    ∷ (add_sort_order_kind, alone 19)
    ∷ (set_default_sort_order_kind, alone 20)
    ∷ (add_partition_spec_kind, alone 21)
    ∷ (set_default_partition_spec_kind, alone 22)
    ∷ (remove_partition_specs_kind, alone 23)
    ∷ []

-- that of no kind has every member of an update, and requires none
unfoldable pub span_of : ℕ → Row
span_of kind = beside (span 3 0 23) spans kind

-- the numbers from one to another
abbrev pub up_from : ℕ → ℕ → List ℕ
up_from n zero = []
up_from n (suc k) = n ∷ up_from (suc n) k

abbrev pub through : ℕ → ℕ → List ℕ
through first last = up_from first (suc last - first)

-- a member of an update that stands in another row only; the action stands in every row
unfoldable pub is_foreign_at : Row → ℕ → Bool
is_foreign_at r spot = ltb 3 spot && leb spot 23 && (ltb spot r.first || ltb r.last spot)
