-- The judge's answer is the least of what the rule finds wrong with the text.
use Prim.Native.Nat.{ℕ, ◌+◌, ◌*◌}
use native.Mathlib.Omega.{arith}
use mathlib.Core.Path.{◌≡◌, refl, sym, ap, ◌∙◌}
use mathlib.Core.Bool.{false}
use mathlib.Core.List.{List, [], ◌∷◌, ◌++◌, append-nil}
use mathlib.Core.Option.{Option, none}
use lib.ListN.{length}
use Rattle.json_rule.specs.Lexemes.{Lexeme}
use Rattle.json_rule.specs.Tree.{Defect, Json, Value, Whole, Cut, Missing, stop_at, text_of_value, text_of_lexemes, value}
use Rattle.json_rule.specs.Members.{text_in}
use Rattle.json_rule.specs.Shapes.{update_list}
use Rattle.json_rule.specs.Defects.{defects, least, text_defects_by}
use Rattle.json_judge.specs.Frames.{plainly, Outside}
use Rattle.json_judge.specs.Course.{AfterValue, start, Happening, step, at_end, happenings}
use Rattle.json_judge.specs.Judging.{heard, heard_all, Judge, outcome, judged, take}
use Rattle.json_judge.proofs.Least.{sooner_none, least_append}
use Rattle.json_judge.proofs.Walk.{settled, value_heard, happen, happen_heard}
use Rattle.json_judge.proofs.Follow.{from, stays, FollowsValue, value_follows}
use Rattle.json_judge.proofs.Passed.{no_action}
use Rattle.json_judge.proofs.Values.{value_said_lem}

-- ---- lexeme by lexeme is happening by happening

heard_append : (a b : List Happening) (r : Option Defect) → heard_all (a ++ b) r ≡ heard_all b (heard_all a r)
heard_append [] b r = refl
heard_append (h ∷ a) b r = heard_append a b (heard h r)

outcome_heard : (len : ℕ) (j : Judge) (ts : List Lexeme) → outcome len j ts ≡ heard_all (happenings len j.course ts) j.refusal
outcome_heard len j [] = refl
outcome_heard len j (t ∷ ts) =
    outcome_heard len (take j t) ts ∙ sym (heard_append (step j.course t).happened (happenings len (step j.course t).course ts) j.refusal)

-- ---- the value that is the whole text

value_heard_lem : (x : Json) → value_heard x (plainly update_list) Outside none ≡ least (defects 0 false update_list x)
value_heard_lem x = rw (no_action (text_in x)) (value_said_lem x (plainly update_list) Outside none ∙ sooner_none (least (defects 0 false update_list x)))

-- with what happens behind it
with_rest : (x : Json) (later : List Happening) → heard_all (happen x (plainly update_list) Outside later) none ≡ heard_all later (least (defects 0 false update_list x))
with_rest x later = happen_heard x (plainly update_list) Outside later none ∙ ap (λ (r : Option Defect). heard_all later r) (value_heard_lem x)

module _ (len : ℕ) where
  -- behind it the text ends, or goes on
  rest_heard : (x : Json) (us : List Lexeme)
      → heard_all (from len AfterValue (settled (plainly update_list) x Outside) [] us) (least (defects 0 false update_list x)) ≡ least (text_defects_by update_list (text_of_value len (Whole x us)))
  unfolding text_defects_by step at_end
  rest_heard x [] = rw (no_action (text_in x)) (sym (ap least (append-nil (defects 0 false update_list x))))
  rest_heard x (t ∷ ts) = rw (no_action (text_in x), stays len Outside [] ts) (sym (least_append (defects 0 false update_list x) (stop_at len (t ∷ ts) ∷ [])))

  by_value : (hs : List Happening) (n : ℕ) (v : Value) → FollowsValue len (plainly update_list) Outside [] hs n v → heard_all hs none ≡ least (text_defects_by update_list (text_of_value len v))
  unfolding text_defects_by
  by_value hs n (Whole x us) h = ap (λ (l : List Happening). heard_all l none) h.0 ∙ (with_rest x (from len AfterValue (settled (plainly update_list) x Outside) [] us) ∙ rest_heard x us)
  by_value hs n (Cut x stop) h = ap (λ (l : List Happening). heard_all l none) h ∙ (with_rest x _ ∙ sym (least_append (defects 0 false update_list x) (stop ∷ [])))
  by_value hs n (Missing stop) h = ap (λ (l : List Happening). heard_all l none) h

  pub judged_is_least : (ts : List Lexeme) → judged len ts ≡ least (text_defects_by update_list (text_of_lexemes len ts))
  unfolding judged
  judged_is_least ts =
      outcome_heard len (record { course = start; refusal = none }) ts
      ∙ by_value (happenings len start ts) (length ts) (value len (2 * length ts + 1) 0 ts) (value_follows len (2 * length ts + 1) (plainly update_list) Outside [] ts (omega arith))
