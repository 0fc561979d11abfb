-- Whether an object lacks a member is asked of published names alone, so it is the same of all names that were there and of those that the judge keeps.
use mathlib.Core.Path.{◌≡◌, refl, ap, ap₂, ◌∙◌}
use mathlib.Core.Bool.{Bool, true, ◌&&◌, ◌||◌}
use mathlib.Core.List.{List, [], ◌∷◌}
use mathlib.Core.Option.{Option, none, some}
use Prim.Native.Nat.{ℕ}
use Rattle.rules.specs.Words.{if_some, all, same_bytes}
use Rattle.rules.proofs.Checks.{by_test}
use Rattle.rules.proofs.Tables.{all_head, all_tail, all_append, all_first}
use Rattle.json_rule.specs.Letters.{bytes}
use Rattle.json_rule.specs.Tree.{Json, Members}
use Rattle.json_rule.specs.Members.{is_one_of, value_of, text_in}
use Rattle.json_rule.specs.Shapes.{Kind, AnUpdate, ASnapshot, ASchema, AField, AnOrder, ASortField, ASpec, APartitionField, Action, action_name, actions, rows_of}
use Rattle.json_rule.specs.Defects.{listed_action, action_of, required_names, both_or_neither}
use Rattle.json_judge.specs.Frames.{needed}
use Rattle.json_judge.proofs.Names.{is_known}

-- what an action requires is published of updates
abbrev pub is_sound : Action → Bool
is_sound a = all (is_known (rows_of AnUpdate)) (required_names a.rows)

abbrev pub has_all_by : Kind → List (List ℕ) → Option Action → Bool
has_all_by kind names action = all (is_one_of names) (needed kind names action)

all_agree : {A : Type 0} (p q k : A → Bool) → ((x : A) → k x ≡ true → p x ≡ q x) → (l : List A) → all k l ≡ true → all p l ≡ all q l
all_agree p q k h [] e = refl
all_agree p q k h (x ∷ l) e = ap₂ ◌&&◌ (h x (all_head k x l e)) (all_agree p q k h l (all_tail k x l e))

needs_known : (kind : Kind) (names : List (List ℕ)) (action : Option Action) → if_some is_sound action ≡ true → all (is_known (rows_of kind)) (needed kind names action) ≡ true
needs_known AnUpdate names none s = refl
needs_known AnUpdate names (some a) s = s
needs_known ASnapshot names action s =
    all_append (is_known (rows_of ASnapshot)) (required_names (rows_of ASnapshot)) (both_or_neither names (bytes "first-row-id") (bytes "added-rows")) refl
    (by_test (λ (l : List (List ℕ)). all (is_known (rows_of ASnapshot)) l ≡ true) (is_one_of names (bytes "first-row-id") || is_one_of names (bytes "added-rows")) (λ e. refl) (λ e. refl))
needs_known ASchema names action s = refl
needs_known AField names action s = refl
needs_known AnOrder names action s = refl
needs_known ASortField names action s = refl
needs_known ASpec names action s = refl
needs_known APartitionField names action s = refl

needs_same : (kind : Kind) (a b : List (List ℕ)) (action : Option Action) → ((n : List ℕ) → is_known (rows_of kind) n ≡ true → is_one_of a n ≡ is_one_of b n) → needed kind a action ≡ needed kind b action
needs_same AnUpdate a b action h = refl
needs_same ASnapshot a b action h = rw (h (bytes "first-row-id") refl, h (bytes "added-rows") refl)
needs_same ASchema a b action h = refl
needs_same AField a b action h = refl
needs_same AnOrder a b action h = refl
needs_same ASortField a b action h = refl
needs_same ASpec a b action h = refl
needs_same APartitionField a b action h = refl

pub has_same : (kind : Kind) (a b : List (List ℕ)) (action : Option Action) → ((n : List ℕ) → is_known (rows_of kind) n ≡ true → is_one_of a n ≡ is_one_of b n) → if_some is_sound action ≡ true
    → has_all_by kind a action ≡ has_all_by kind b action
has_same kind a b action h s =
    all_agree (is_one_of a) (is_one_of b) (is_known (rows_of kind)) h (needed kind a action) (needs_known kind a action s)
    ∙ ap (all (is_one_of b)) (needs_same kind a b action h)

-- every listed action is sound
listed_sound : (word : Option (List ℕ)) → if_some is_sound (listed_action word) ≡ true
listed_sound none = refl
listed_sound (some word) = all_first is_sound (λ (a : Action). same_bytes a.word word) actions refl

-- the action that a value names
abbrev pub action_in : Option Json → Option Action
action_in none = none
action_in (some x) = listed_action (text_in x)

in_sound : (x : Option Json) → if_some is_sound (action_in x) ≡ true
in_sound none = refl
in_sound (some x) = listed_sound (text_in x)

pub action_sound : (ms : Members) → if_some is_sound (action_of ms) ≡ true
unfolding action_of
action_sound ms = in_sound (value_of action_name ms)
