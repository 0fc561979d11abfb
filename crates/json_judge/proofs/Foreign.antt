-- Names of other actions: those before the action are refused when it becomes known, those behind it at once; together they are those that the rule refuses.
use mathlib.Core.Path.{◌≡◌, refl, sym, ap, ◌∙◌}
use mathlib.Core.Bool.{not}
use mathlib.Core.List.{List, ◌∷◌}
use mathlib.Core.Option.{Option, none, some}
use Prim.Native.Nat.{ℕ}
use Rattle.rules.specs.Words.{some_with}
use Rattle.json_rule.specs.Lexemes.{Lexeme}
use Rattle.json_rule.specs.Values.{text_of}
use Rattle.json_rule.specs.Tree.{Defect}
use Rattle.json_rule.specs.Shapes.{Action}
use Rattle.json_rule.specs.Defects.{not_published, unless, is_foreign, foreign_name, least}
use Rattle.json_judge.specs.Refusal.{sooner}
use Rattle.json_judge.specs.Frames.{Seen, foreign_by, foreign_seen}
use Rattle.json_judge.proofs.Least.{sooner_none, sooner_associates, sooner_swaps, least_append, found_later}
use Rattle.json_judge.proofs.Elements.{again}

-- of the names that were seen: they wait until the action is known
abbrev pub waiting : Option Action → Action → List Seen → Option Defect
waiting none a seen = least (foreign_seen a seen)
waiting (some b) a seen = none

-- what is still to be said of them and of those that come later, where the object's action is the first
abbrev pub foreign_left : Option Action → Option Action → List Seen → (Action → Option Defect) → Option Defect
foreign_left none known seen later = none
foreign_left (some a) known seen later = sooner (waiting known a seen) (later a)

-- a name and the later ones
abbrev pub also_later : Lexeme → (Action → Option Defect) → Action → Option Defect
also_later t later a = sooner (least (foreign_name a t)) (later a)

-- one that is refused already
pub foreign_old : (final known : Option Action) (seen : List Seen) (t : Lexeme) (later : Action → Option Defect)
    → sooner (some (record { place = t.first; number = not_published })) (foreign_left final known seen later)
    ≡ sooner (some (record { place = t.first; number = not_published })) (foreign_left final known seen (also_later t later))
foreign_old none known seen t later = refl
foreign_old (some a) known seen t later =
    found_later (some (record { place = t.first; number = not_published })) (waiting known a seen) (least (foreign_name a t)) (later a)
    (again (not (some_with (is_foreign a) (text_of t))) t.first not_published)

module _ (t : Lexeme) (name : List ℕ) (e : text_of t ≡ some name) (seen : List Seen) (later : Action → Option Defect) where
  -- with a new name, which is one of those that were seen
  abbrev now_seen : List Seen
  now_seen = record { name = name; place = t.first } ∷ seen

  seen_first : (a : Action) → least (foreign_seen a now_seen) ≡ sooner (least (foreign_name a t)) (least (foreign_seen a seen))
  seen_first a =
      least_append (unless (not (is_foreign a name)) t.first not_published) (foreign_seen a seen)
      ∙ ap (λ (o : Option (List ℕ)). sooner (least (unless (not (some_with (is_foreign a) o)) t.first not_published)) (least (foreign_seen a seen))) (sym e)

  turned : (a : Action) → sooner (least (foreign_seen a now_seen)) (later a) ≡ sooner (least (foreign_seen a seen)) (also_later t later a)
  turned a =
      ap (λ (d : Option Defect). sooner d (later a)) (seen_first a)
      ∙ (sooner_associates (least (foreign_name a t)) (least (foreign_seen a seen)) (later a) ∙ sooner_swaps (least (foreign_name a t)) (least (foreign_seen a seen)) (later a))

  -- it is said at once, or waits
  pub foreign_new : (final known : Option Action) → ((b : Action) → known ≡ some b → final ≡ some b)
      → sooner (least (foreign_by known t)) (foreign_left final known now_seen later) ≡ foreign_left final known seen (also_later t later)
  foreign_new none none h = refl
  foreign_new none (some b) h = let w : none ≡ some b = h b refl in cc
  foreign_new (some a) none h = sooner_none (sooner (least (foreign_seen a now_seen)) (later a)) ∙ turned a
  foreign_new (some a) (some b) h =
      let w : some a ≡ some b = h b refl in
      let v : a ≡ b = cc in
      ap (λ (x : Action). sooner (least (foreign_name x t)) (sooner none (later a))) (sym v)
      ∙ (ap (λ (y : Option Defect). sooner (least (foreign_name a t)) y) (sooner_none (later a)) ∙ sym (sooner_none (also_later t later a)))

  -- the action becomes known: all that were seen are said
  pub foreign_acting : (a : Action) → sooner (least (foreign_seen a now_seen)) (foreign_left (some a) (some a) now_seen later) ≡ foreign_left (some a) none seen (also_later t later)
  foreign_acting a = ap (λ (y : Option Defect). sooner (least (foreign_seen a now_seen)) y) (sooner_none (later a)) ∙ turned a
