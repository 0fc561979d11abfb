-- The number that the rule answers is below 256: 0, or 27 to 29.
use Prim.Native.Nat.{ℕ, ◌<◌}
use native.Mathlib.Omega.{arith}
use mathlib.Core.Path.{◌≡◌, refl}
use mathlib.Core.Bool.{Bool, true, cond}
use mathlib.Core.List.{List, [], ◌∷◌}
use mathlib.Core.Option.{Option, none, some}
use borrow.Author.Tests.{ltb-true, eqb-true}
use lib.Dec.{eqb, ltb}
use lib.ListN.{length}
use Rattle.rules.specs.Words.{if_some, all}
use Rattle.rules.proofs.Checks.{by_test, both, and_left, and_right, by_either}
use Rattle.rules.proofs.Tables.{all_append, all_then}
use Rattle.json_rule.specs.Lexemes.{Lexeme, lexemes}
use Rattle.json_rule.specs.Tree.{Defect, over_capacity, text}
use Rattle.json_rule.specs.Records.{Sent}
use Rattle.json_rule.specs.Shapes.{update_list}
use Rattle.json_rule.specs.Defects.{not_published, is_sooner, least, tree_defects, stop_defects, text_defects_by}
use Rattle.json_rule.specs.Reading.{list_of, answered, reading}
use Rattle.json_rule.proofs.Walk.{Want, AValue, Turn, Goes, Stops, turn, onward, walk, turn_says, end_says, text_walk}
use Rattle.json_rule.proofs.Faultless.{is_of_tree, tree_numbers}

abbrev is_low : Defect → Bool
is_low d = ltb d.number 256

-- ---- where reading stops

abbrev TurnLow : Turn → Type 0
TurnLow (Goes want around) = Unit {0}
TurnLow (Stops d) = is_low d ≡ true

onward_low : (k : Want → List Bool → Option Defect) → ((want : Want) (around : List Bool) → if_some is_low (k want around) ≡ true) → (u : Turn) → TurnLow u → if_some is_low (onward k u) ≡ true
onward_low k h (Goes want around) p = h want around
onward_low k h (Stops d) p = p

walk_low : (len : ℕ) (want : Want) (around : List Bool) (ts : List Lexeme) → if_some is_low (walk len want around ts) ≡ true
walk_low len want around [] = end_says (λ o. if_some is_low o ≡ true) len refl refl want
walk_low len want around (t ∷ ts) = onward_low (λ w o. walk len w o ts) (λ w o. walk_low len w o ts) (turn want around t) (turn_says TurnLow t (λ _ _. tt) refl refl (λ _. refl) want around)

stop_low : (stop : Option Defect) → if_some is_low stop ≡ true → all is_low (stop_defects stop) ≡ true
stop_low none p = refl
stop_low (some d) p = both p refl

-- ---- the least of all

of_tree_low : (d : Defect) → is_of_tree d ≡ true → is_low d ≡ true
of_tree_low d h = by_either (eqb d.number not_published) (eqb d.number over_capacity) (λ e. rw (eqb-true d.number not_published e)) (λ e. rw (eqb-true d.number over_capacity e)) h

least_low : (ds : List Defect) → all is_low ds ≡ true → if_some is_low (least ds) ≡ true
least_low [] p = refl
least_low (d ∷ ds) p = go (least ds) (least_low ds (and_right (is_low d) (all is_low ds) p))
  where
    go : (o : Option Defect) → if_some is_low o ≡ true → if_some is_low (elim o [ none ↦ some d | some e ↦ cond (is_sooner e d) (some e) (some d) ]) ≡ true
    go none q = and_left (is_low d) (all is_low ds) p
    go (some e) q = by_test (λ o. if_some is_low o ≡ true) (is_sooner e d) (λ _. q) (λ _. and_left (is_low d) (all is_low ds) p)

answered_low : (l : List Sent) (o : Option Defect) → if_some is_low o ≡ true → (answered l o).number < 256
answered_low l none p = omega arith
answered_low l (some d) p = ltb-true d.number 256 p

pub number_low : (bs : List ℕ) → (reading bs).number < 256
unfolding reading text_defects_by
number_low bs =
    let t = text bs in
    let tree = tree_defects update_list t.tree in
    answered_low (list_of t.tree) (least (text_defects_by update_list t))
    (least_low (text_defects_by update_list t)
    (all_append is_low tree (stop_defects t.stop) (all_then is_of_tree is_low of_tree_low tree (tree_numbers update_list t.tree)) (stop_low t.stop (rw text_walk (walk_low (length bs) AValue [] (lexemes (length bs) 0 bs))))))
