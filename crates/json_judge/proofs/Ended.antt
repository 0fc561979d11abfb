-- When an object ends, the judge has its action, and has seen of the published names those that it has.
use mathlib.Core.Path.{◌≡◌, refl, sym, subst₂, ◌∙◌}
use mathlib.Core.Bool.{true, cond, or-false, false≢true}
use mathlib.Core.List.{List, []}
use mathlib.Core.Option.{Option, none, some}
use Prim.Native.Nat.{ℕ}
use Rattle.rules.specs.Words.{same_bytes}
use Rattle.rules.proofs.Checks.{and_right}
use Rattle.json_rule.specs.Lexemes.{Lexeme}
use Rattle.json_rule.specs.Values.{text_of}
use Rattle.json_rule.specs.Tree.{Json, Members, no_member, bare_name, member}
use Rattle.json_rule.specs.Members.{is_one_of, names_of, text_in}
use Rattle.json_rule.specs.Shapes.{Kind, Row, Action, action_name, rows_of}
use Rattle.json_rule.specs.Defects.{with_name, listed_action, action_of}
use Rattle.json_judge.specs.Frames.{OpenObject, Frame, InObject, names_in, row_in, is_update, wanted_by, seeing, acting, named}
use Rattle.json_judge.proofs.Walk.{action_said, behind}
use Rattle.json_judge.proofs.Passed.{no_action}
use Rattle.json_judge.proofs.Names.{is_said, is_known}
use Rattle.json_judge.proofs.Kept.{Kept, is_settled, kept_old, kept_new, kept_acting}
use Rattle.json_judge.proofs.Follow.{is_closed, are_all}
use Rattle.json_judge.proofs.Values.{final_of, opened, kept_opened}
use Rattle.json_judge.proofs.Objects.{final_end, names_here, action_here, no_action_named, action_named}

-- an object behind a member, of which as much is kept
pub record KeptBehind (whole : List (List ℕ)) (final : Option Action) (o : OpenObject) (before : List (List ℕ)) (t : Lexeme) (x : Json) (ms : Members) : Type 0 where
  pub object : OpenObject
  pub is : behind (InObject o) t x ≡ InObject object
  pub kind : object.kind ≡ o.kind
  pub kept : Kept whole final object (with_name before (text_of t)) (names_of ms) (action_of ms)

module _ (whole : List (List ℕ)) (final : Option Action) (o : OpenObject) (before : List (List ℕ)) (t : Lexeme) (x : Json) (ms : Members)
    (k : Kept whole final o before (names_of (member t x ms)) (action_of (member t x ms))) where
  here : Kept whole final o before (with_name (names_of ms) (text_of t)) (cond (is_said (text_of t) action_name) (listed_action (text_in x)) (action_of ms))
  here = subst₂ (λ (l : List (List ℕ)) (a : Option Action). Kept whole final o before l a) (names_here (names_of ms) (text_of t)) (action_here t x ms) k

  by_row : (row : Option Row) → row_in o t ≡ row → KeptBehind whole final o before t x ms
  by_row none e =
      record {
        object = o;
        is = rw (e, no_action (text_in x));
        kind = refl;
        kept = kept_old whole final o before (names_of ms) (listed_action (text_in x)) (action_of ms) (text_of t) here e;
      }
  by_row (some ρ) e = by_action (action_said (wanted_by o.kind (some ρ)) x) refl
    where
      by_action : (a : Option Action) → action_said (wanted_by o.kind (some ρ)) x ≡ a → KeptBehind whole final o before t x ms
      by_action none n =
          record {
            object = seeing t (some ρ) o;
            is = rw (e, n);
            kind = refl;
            kept = kept_new whole final o before (names_of ms) (listed_action (text_in x)) (action_of ms) (text_of t) here ρ e t (no_action_named (is_update o.kind) (same_bytes action_name ρ.name) (text_in x) n);
          }
      by_action (some a) n =
          let d = action_named (is_update o.kind) (same_bytes action_name ρ.name) (text_in x) a n in
          record {
            object = acting a (seeing t (some ρ) o);
            is = rw (e, n);
            kind = refl;
            kept = kept_acting whole final o before (names_of ms) (listed_action (text_in x)) (action_of ms) (text_of t) here ρ e a d.0 d.1 d.2 t;
          }

  pub kept_behind : KeptBehind whole final o before t x ms
  kept_behind = by_row (row_in o t) refl

-- ---- the end

-- the frame behind all members
abbrev pub through : Members → Frame → Frame
through no_member f = f
through (bare_name t) f = named f t
through (member t x ms) f = through ms (behind f t x)

-- an object of a kind that has these names and this action
pub record Ended (whole : List (List ℕ)) (final : Option Action) (kind : Kind) (f : Frame) : Type 0 where
  pub object : OpenObject
  pub is : f ≡ InObject object
  pub of_kind : object.kind ≡ kind
  pub acts : object.action ≡ final
  pub tells : (n : List ℕ) → is_known (rows_of kind) n ≡ true → is_one_of (names_in object.seen) n ≡ is_one_of whole n

pub ended : (ms : Members) (whole : List (List ℕ)) (final : Option Action) (o : OpenObject) (before : List (List ℕ)) → are_all ms ≡ true → Kept whole final o before (names_of ms) (action_of ms)
    → Ended whole final o.kind (through ms (InObject o))
unfolding is_closed action_of
ended no_member whole final o before c k =
    record { object = o; is = refl; of_kind = refl; acts = sym (final_end o.action (is_settled o)) ∙ k.acts; tells = λ n u. sym (k.total n u ∙ or-false (is_one_of (names_in o.seen) n)) }
ended (bare_name t) whole final o before c k = absurd (false≢true c)
ended (member t x ms) whole final o before c k =
    let b : KeptBehind whole final o before t x ms = kept_behind whole final o before t x ms k in
    let e : Ended whole final b.object.kind (through ms (InObject b.object)) = ended ms whole final b.object (with_name before (text_of t)) (and_right (is_closed x) (are_all ms) c) b.kept in
    subst₂ (λ (kind : Kind) (f : Frame). Ended whole final kind (through ms f)) b.kind (sym b.is) e

-- of an object from its bracket on: the action is that of its members, if it is an update
pub ended_object : (ms : Members) (kind : Kind) (place schema : ℕ) → are_all ms ≡ true → Ended (names_of ms) (final_of kind ms) kind (through ms (InObject (opened kind place schema)))
ended_object ms kind place schema c = ended ms (names_of ms) (final_of kind ms) (opened kind place schema) [] c (kept_opened ms kind place schema)
