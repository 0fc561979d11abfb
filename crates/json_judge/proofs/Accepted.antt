-- A text in which nothing is refused: its lexemes are those of one closed value with which nothing is wrong, and what happens over them is what happens over it.
use Prim.Native.Nat.{ℕ, ◌+◌, ◌*◌}
use native.Mathlib.Omega.{arith}
use mathlib.Core.Path.{◌≡◌, refl, sym, ap, ◌∙◌}
use mathlib.Core.Bool.{true, false, cond}
use mathlib.Core.List.{List, [], ◌∷◌, ◌++◌, append-nil}
use mathlib.Core.Option.{Option, none, some}
use lib.ListN.{length}
use Rattle.json_rule.specs.Lexemes.{Lexeme}
use Rattle.json_rule.specs.Tree.{Defect, not_json, Json, Value, Whole, Cut, Missing, stop_at, text_of_value, text_of_lexemes, value}
use Rattle.json_rule.specs.Shapes.{update_list}
use Rattle.json_rule.specs.Defects.{least, defects, text_defects_by}
use Rattle.json_judge.specs.Frames.{plainly, Outside, Bracket}
use Rattle.json_judge.specs.Course.{AfterValue, start, Happening, Stops, is_outside, at_end, happenings}
use Rattle.json_judge.specs.Judging.{judged}
use Rattle.json_judge.proofs.Least.{least_append, never_none, least_none}
use Rattle.json_judge.proofs.Walk.{settled, settled_bracket, happen}
use Rattle.json_judge.proofs.Follow.{is_closed, from, FollowsValue, value_follows}
use Rattle.json_judge.proofs.Judged.{judged_is_least}

pub record Accepted (hs : List Happening) (tree : Option Json) : Type 0 where
  pub value : Json
  pub read : tree ≡ some value
  pub happens : hs ≡ happen value (plainly update_list) Outside []
  pub closed : is_closed value ≡ true
  pub right : defects 0 false update_list value ≡ []

-- where reading stops something is refused
stop_refused : (ds : List Defect) (d : Defect) → least (ds ++ (d ∷ [])) ≡ none → ⊥
stop_refused ds d e = never_none (least ds) d (sym (least_append ds (d ∷ [])) ∙ e)

module _ (len : ℕ) where
  -- behind the value the text may end
  nothing_behind : (x : Json) → from len AfterValue (settled (plainly update_list) x Outside) [] [] ≡ []
  unfolding at_end
  nothing_behind x = ap (λ (b : Bracket). cond (is_outside b) [] (Stops (record { place = len; number = not_json }) ∷ [])) (settled_bracket (plainly update_list) x Outside)

  by_value : (hs : List Happening) (n : ℕ) (v : Value) → FollowsValue len (plainly update_list) Outside [] hs n v → least (text_defects_by update_list (text_of_value len v)) ≡ none → Accepted hs (text_of_value len v).tree
  unfolding text_defects_by
  by_value hs n (Whole x []) h e =
      record {
        value = x;
        read = refl;
        happens = h.0 ∙ ap (λ (later : List Happening). happen x (plainly update_list) Outside later) (nothing_behind x);
        closed = h.2;
        right = sym (append-nil (defects 0 false update_list x)) ∙ least_none (defects 0 false update_list x ++ []) e;
      }
  by_value hs n (Whole x (t ∷ ts)) h e = absurd (stop_refused (defects 0 false update_list x) (stop_at len (t ∷ ts)) e)
  by_value hs n (Cut x stop) h e = absurd (stop_refused (defects 0 false update_list x) stop e)
  by_value hs n (Missing stop) h e = absurd (stop_refused [] stop e)

  pub accepted : (ts : List Lexeme) → judged len ts ≡ none → Accepted (happenings len start ts) (text_of_lexemes len ts).tree
  accepted ts e =
      by_value (happenings len start ts) (length ts) (value len (2 * length ts + 1) 0 ts)
      (value_follows len (2 * length ts + 1) (plainly update_list) Outside [] ts (omega arith)) (sym (judged_is_least len ts) ∙ e)
