-- "27 not JSON, at the first byte that cannot continue, or the length": of a text that is answered with 27, no text that begins with the bytes up to and with
-- the one at its place is JSON (`first_that_cannot`), and some text that begins with the bytes before it is (`those_before_can`).
use Prim.Native.Nat.{ℕ, suc, ◌<◌}
use native.Mathlib.Omega.{arith}
use mathlib.Core.Path.{◌≡◌, refl, ◌∙◌, ap}
use mathlib.Core.Bool.{true, cond}
use mathlib.Core.List.{List, [], ◌∷◌, ◌++◌}
use mathlib.Core.Option.{Option, none, some}
use lib.Dec.{eqb}
use lib.ListN.{length, take}
use borrow.Author.Tests.{eqb-true}
use Rattle.rules.specs.Words.{all}
use Rattle.rules.proofs.Checks.{by_test, by_either}
use Rattle.rules.proofs.Tables.{all_head, all_tail}
use Rattle.json_rule.specs.Tree.{Defect, not_json, over_capacity, text}
use Rattle.json_rule.specs.Records.{Sent}
use Rattle.json_rule.specs.Shapes.{update_list}
use Rattle.json_rule.specs.Defects.{not_published, is_sooner, least, tree_defects, stop_defects, text_defects_by}
use Rattle.json_rule.specs.Reading.{list_of, answered, reading}
use Rattle.json_rule.proofs.Faultless.{is_of_tree, tree_numbers}
use Rattle.json_rule.proofs.Stop.{never_json}
use Rattle.json_rule.proofs.Completed.{some_json}

-- ---- 27 is answered where reading stops

not_of_tree : (d : Defect) → is_of_tree d ≡ true → d.number ≡ not_json → ⊥
not_of_tree d h n =
    by_either (eqb d.number not_published) (eqb d.number over_capacity)
    (λ e. let k : d.number ≡ not_published = eqb-true d.number not_published e in omega arith)
    (λ e. let k : d.number ≡ over_capacity = eqb-true d.number over_capacity e in omega arith)
    h

-- the least of a tree's defects and of where reading stops is the stop, where it is 27
least_stop : (ds : List Defect) (stop : Option Defect) → all is_of_tree ds ≡ true → (d : Defect) → d.number ≡ not_json → least (ds ++ stop_defects stop) ≡ some d → stop ≡ some d
least_stop [] none h d n e = e
least_stop [] (some c) h d n e = e
least_stop (c ∷ ds) stop h d n e = go (least (ds ++ stop_defects stop)) e (λ q. least_stop ds stop (all_tail is_of_tree c ds h) d n q)
  where
    first : some c ≡ some d → stop ≡ some d
    first q = let k : c ≡ d = cc in absurd (not_of_tree c (all_head is_of_tree c ds h) (ap (λ (f : Defect). f.number) k ∙ n))

    go : (o : Option Defect) → ◌≡◌ {A = Option Defect} (elim o [ none ↦ some c | some f ↦ cond (is_sooner f c) (some f) (some c) ]) (some d) → (o ≡ some d → stop ≡ some d) → stop ≡ some d
    go none q r = first q
    go (some f) q r = by_test (λ o. o ≡ some d → stop ≡ some d) (is_sooner f c) (λ _. r) (λ _. first) q

answered_defect : (l : List Sent) (o : Option Defect) → (answered l o).number ≡ not_json → o ≡ some (record { place = (answered l o).place; number = not_json })
answered_defect l none e = absurd (let k : 0 ≡ 27 = e in omega arith)
answered_defect l (some d) e = λ i. some (record { place = d.place; number = e i })

pub read_stops : (bs : List ℕ) → (reading bs).number ≡ not_json → (text bs).stop ≡ some (record { place = (reading bs).place; number = not_json })
unfolding reading text_defects_by
read_stops bs e =
    least_stop (tree_defects update_list (text bs).tree) (text bs).stop (tree_numbers update_list (text bs).tree) (record { place = (reading bs).place; number = not_json }) refl
    (answered_defect (list_of (text bs).tree) (least (text_defects_by update_list (text bs))) e)

-- ---- and there alone

pub first_that_cannot : (bs rest : List ℕ) → (reading bs).number ≡ not_json → (reading bs).place < length bs → (text (take (suc (reading bs).place) bs ++ rest)).stop ≡ none → ⊥
first_that_cannot bs rest e l n = never_json bs rest (record { place = (reading bs).place; number = not_json }) (read_stops bs e) l n

pub those_before_can : (bs : List ℕ) → (reading bs).number ≡ not_json → (rest : List ℕ) × ((text (take (reading bs).place bs ++ rest)).stop ≡ none)
those_before_can bs e = some_json bs (record { place = (reading bs).place; number = not_json }) (read_stops bs e)
