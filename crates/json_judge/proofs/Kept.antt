-- What the judge keeps of an object's members while it goes over them: which published names were there, and which action is known.
use mathlib.Core.Path.{◌≡◌, refl, sym, ap, ap₂, ◌∙◌}
use mathlib.Core.Bool.{Bool, true, false, cond, not, ◌||◌, true≢false, false≢true}
use mathlib.Core.List.{List}
use mathlib.Core.Option.{Option, none, some}
use Prim.Native.Nat.{ℕ}
use Rattle.rules.specs.Words.{is_some, same_bytes}
use Rattle.rules.proofs.Checks.{or_left, or_right}
use Rattle.rules.proofs.Orders.{names_told_lem}
use Rattle.json_rule.specs.Lexemes.{Lexeme}
use Rattle.json_rule.specs.Members.{is_one_of}
use Rattle.json_rule.specs.Shapes.{Kind, AnUpdate, ASnapshot, ASchema, AField, AnOrder, ASortField, ASpec, APartitionField, Row, Action, action_name, rows_of}
use Rattle.json_rule.specs.Defects.{row_of, with_name}
use Rattle.json_judge.specs.Frames.{OpenObject, names_in, is_update, seeing, acting}
use Rattle.json_judge.proofs.Names.{is_said, with_name_lem, is_known, row_new, row_old}

-- ---- tests

absorbed : (a b : Bool) → (a ≡ true → b ≡ true) → (a || b) ≡ b
absorbed true b h = sym (h refl)
absorbed false b h = refl

absorbed_inside : (a b c : Bool) → (a ≡ true → b ≡ true) → (b || (a || c)) ≡ (b || c)
absorbed_inside a true c h = refl
absorbed_inside true false c h = absurd (false≢true (h refl))
absorbed_inside false false c h = refl

moved : (a b c : Bool) → (b || (a || c)) ≡ ((a || b) || c)
moved true true c = refl
moved true false c = refl
moved false b c = refl

-- ---- the action

-- the action of a whole object: the one that is known; else, unless none can be any more, the one that is named later
abbrev pub final_by : Option Action → Bool → Option Action → Option Action
final_by none true later = none
final_by none false later = later
final_by (some a) settled later = some a

-- no action can become known any more, unless it is known already
abbrev pub is_settled : OpenObject → Bool
is_settled o = not (is_update o.kind) || is_one_of (names_in o.seen) action_name

final_old : (a : Option Action) (update seen said : Bool) (now later : Option Action) → (update ≡ true → said ≡ true → seen ≡ true)
    → final_by a (not update || seen) later ≡ final_by a (not update || seen) (cond said now later)
final_old (some a) update seen said now later h = refl
final_old none false seen said now later h = refl
final_old none true true said now later h = refl
final_old none true false true now later h = absurd (false≢true (h refl refl))
final_old none true false false now later h = refl

final_new : (a : Option Action) (update seen said : Bool) (now later : Option Action) → (update ≡ true → said ≡ true → now ≡ none)
    → final_by a (not update || (said || seen)) later ≡ final_by a (not update || seen) (cond said now later)
final_new (some a) update seen said now later h = refl
final_new none false seen said now later h = refl
final_new none true true true now later h = refl
final_new none true true false now later h = refl
final_new none true false true now later h = sym (h refl refl)
final_new none true false false now later h = refl

final_now : (a : Option Action) (update seen said : Bool) (now later : Option Action) (b : Action) → a ≡ none → update ≡ true → seen ≡ false → said ≡ true → now ≡ some b
    → final_by a (not update || seen) (cond said now later) ≡ some b
final_now a update seen said now later b n u s d e = rw (n, u, s, d, e)

absent : (a : Option Action) → (is_some a ≡ true → ⊥) → a ≡ none
absent none h = refl
absent (some a) h = absurd (h refl)

-- an update may have an action
action_known : (kind : Kind) → is_update kind ≡ true → is_known (rows_of kind) action_name ≡ true
action_known AnUpdate e = refl
action_known ASnapshot e = absurd (false≢true e)
action_known ASchema e = absurd (false≢true e)
action_known AField e = absurd (false≢true e)
action_known AnOrder e = absurd (false≢true e)
action_known ASortField e = absurd (false≢true e)
action_known ASpec e = absurd (false≢true e)
action_known APartitionField e = absurd (false≢true e)

-- ---- what is kept

-- The names of the whole object and its action are given. Of the members that are left the names are `left`, and the action that they name is `later`.
pub record Kept (whole : List (List ℕ)) (final : Option Action) (o : OpenObject) (before left : List (List ℕ)) (later : Option Action) : Type 0 where
  pub told : (n : List ℕ) → is_known (rows_of o.kind) n ≡ true → is_one_of before n ≡ is_one_of (names_in o.seen) n
  pub total : (n : List ℕ) → is_known (rows_of o.kind) n ≡ true → is_one_of whole n ≡ (is_one_of (names_in o.seen) n || is_one_of left n)
  pub acts : final_by o.action (is_settled o) later ≡ final
  pub acted : is_some o.action ≡ true → is_one_of (names_in o.seen) action_name ≡ true

module _ (whole : List (List ℕ)) (final : Option Action) (o : OpenObject) (before left : List (List ℕ)) (now later : Option Action) (m : Option (List ℕ))
    (k : Kept whole final o before (with_name left m) (cond (is_said m action_name) now later)) where
  -- a name that is unknown or repeated changes nothing
  pub kept_old : row_of (rows_of o.kind) (names_in o.seen) m ≡ none → Kept whole final o (with_name before m) left later
  kept_old e =
      record {
        told = λ n u. with_name_lem before m n ∙ (ap (λ (b : Bool). is_said m n || b) (k.told n u) ∙ absorbed (is_said m n) (is_one_of (names_in o.seen) n) (row_old (rows_of o.kind) (names_in o.seen) m e n u));
        total = λ n u. k.total n u ∙ (ap (λ (b : Bool). is_one_of (names_in o.seen) n || b) (with_name_lem left m n) ∙ absorbed_inside (is_said m n) (is_one_of (names_in o.seen) n) (is_one_of left n) (row_old (rows_of o.kind) (names_in o.seen) m e n u));
        acts = final_old o.action (is_update o.kind) (is_one_of (names_in o.seen) action_name) (is_said m action_name) now later (λ p s. row_old (rows_of o.kind) (names_in o.seen) m e action_name (action_known o.kind p) s) ∙ k.acts;
        acted = k.acted;
      }

  module _ (ρ : Row) (e : row_of (rows_of o.kind) (names_in o.seen) m ≡ some ρ) where
    said : (n : List ℕ) → is_said m n ≡ same_bytes n ρ.name
    said n = ap (λ (x : Option (List ℕ)). is_said x n) (row_new (rows_of o.kind) (names_in o.seen) m ρ e).0

    told_new : (n : List ℕ) → is_known (rows_of o.kind) n ≡ true → is_one_of (with_name before m) n ≡ (same_bytes n ρ.name || is_one_of (names_in o.seen) n)
    told_new n u = with_name_lem before m n ∙ ap₂ ◌||◌ (said n) (k.told n u)

    total_new : (n : List ℕ) → is_known (rows_of o.kind) n ≡ true → is_one_of whole n ≡ ((same_bytes n ρ.name || is_one_of (names_in o.seen) n) || is_one_of left n)
    total_new n u =
        k.total n u
        ∙ (ap (λ (b : Bool). is_one_of (names_in o.seen) n || b) (with_name_lem left m n)
        ∙ (moved (is_said m n) (is_one_of (names_in o.seen) n) (is_one_of left n) ∙ ap (λ (b : Bool). (b || is_one_of (names_in o.seen) n) || is_one_of left n) (said n)))

    -- a new name that names no action
    pub kept_new : (t : Lexeme) → (is_update o.kind ≡ true → same_bytes action_name ρ.name ≡ true → now ≡ none) → Kept whole final (seeing t (some ρ) o) (with_name before m) left later
    kept_new t h =
        record {
          told = told_new;
          total = total_new;
          acts = ap (λ (b : Bool). final_by o.action (not (is_update o.kind) || (b || is_one_of (names_in o.seen) action_name)) later) (sym (said action_name))
              ∙ (final_new o.action (is_update o.kind) (is_one_of (names_in o.seen) action_name) (is_said m action_name) now later (λ p s. h p (sym (said action_name) ∙ s)) ∙ k.acts);
          acted = λ u. or_right (same_bytes action_name ρ.name) (k.acted u);
        }

    module _ (a : Action) (update : is_update o.kind ≡ true) (is_action : same_bytes action_name ρ.name ≡ true) (names : now ≡ some a) where
      unseen : is_one_of (names_in o.seen) action_name ≡ false
      unseen = ap (is_one_of (names_in o.seen)) (names_told_lem.equal action_name ρ.name is_action) ∙ (row_new (rows_of o.kind) (names_in o.seen) m ρ e).1

      -- the first action was not known before, and is the object's
      pub no_action_yet : o.action ≡ none
      no_action_yet = absent o.action (λ u. true≢false (sym (k.acted u) ∙ unseen))

      pub is_final : final ≡ some a
      is_final = sym k.acts ∙ final_now o.action (is_update o.kind) (is_one_of (names_in o.seen) action_name) (is_said m action_name) now later a no_action_yet update unseen (said action_name ∙ is_action) names

      pub kept_acting : (t : Lexeme) → Kept whole final (acting a (seeing t (some ρ) o)) (with_name before m) left later
      kept_acting t = record { told = told_new; total = total_new; acts = sym is_final; acted = λ u. or_left (is_one_of (names_in o.seen) action_name) is_action }
