-- Words that stand for numbers: actions for kinds of updates, and the words of refs, fields, sort fields and partition fields.
use Rattle.std.specs.Prelude.{ℕ, cond, List, [], ◌∷◌, eqb}
use Rattle.rules.specs.Words.{same_bytes, pair_up}
use Rattle.rules.specs.Kinds.{assign_uuid_kind, upgrade_format_version_kind, set_location_kind, add_snapshot_kind, remove_snapshots_kind, set_ref_kind, remove_ref_kind, add_schema_kind, set_current_schema_kind, remove_schemas_kind, add_sort_order_kind, set_default_sort_order_kind, add_partition_spec_kind, set_default_partition_spec_kind, remove_partition_specs_kind}
use Rattle.rules.specs.Partitions.{identity, year, month, day}
use Rattle.rules.specs.WellFormed.{branch, tag, long, timestamp}
use Rattle.json_rule.specs.Letters.{bytes}
use Rattle.json_rule.specs.Shapes.{Action, actions}
use Rattle.json_rule.specs.Defects.{plain_transforms}

-- a word and the number that it stands for
pub record Entry : Type 0 where
  pub word : List ℕ
  pub number : ℕ

abbrev pub entry : List ℕ → ℕ → Entry
entry word number = record { word = word; number = number }

-- the number of a text; another where it is none of the words
unfoldable pub number_of : ℕ → List Entry → List ℕ → ℕ
number_of other [] text = other
number_of other (e ∷ es) text = cond (same_bytes text e.word) e.number (number_of other es text)

-- one that was found before, or the number of a text; 0 where it is none of the words
unfoldable pub number_after : ℕ → List Entry → List ℕ → ℕ
number_after found es text = cond (eqb found 0) (number_of 0 es text) found

-- the kinds of the actions, in the rule's order of them
abbrev pub kinds : List ℕ
kinds =
    assign_uuid_kind
    ∷ upgrade_format_version_kind
    ∷ set_location_kind
    ∷ add_snapshot_kind
    ∷ remove_snapshots_kind
    ∷ set_ref_kind
    ∷ remove_ref_kind
    ∷ add_schema_kind
    ∷ set_current_schema_kind
    ∷ remove_schemas_kind
    ∷ add_sort_order_kind
    ∷ set_default_sort_order_kind
    ∷ add_partition_spec_kind
    ∷ set_default_partition_spec_kind
    ∷ remove_partition_specs_kind
    ∷ []

abbrev pub action_words : List Entry
action_words = pair_up (λ (a : Action) (k : ℕ). entry a.word k) actions kinds

abbrev pub ref_words : List Entry
ref_words = entry (bytes "branch") branch ∷ entry (bytes "tag") tag ∷ []

abbrev pub type_words : List Entry
type_words = entry (bytes "long") long ∷ entry (bytes "timestamp") timestamp ∷ []

abbrev pub direction_words : List Entry
direction_words = entry (bytes "asc") 0 ∷ entry (bytes "desc") 1 ∷ []

abbrev pub null_words : List Entry
null_words = entry (bytes "nulls-first") 0 ∷ entry (bytes "nulls-last") 1 ∷ []

abbrev pub transform_words : List Entry
transform_words = pair_up entry plain_transforms (identity ∷ year ∷ month ∷ day ∷ [])
