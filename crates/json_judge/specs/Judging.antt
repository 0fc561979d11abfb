-- The judge: the course over the lexemes, and the least refusal so far.
use Rattle.std.specs.Prelude.{ℕ, List, [], ◌∷◌}
use Rattle.std.proofs.Math.Option.{Option, none, some}
use Rattle.json_rule.specs.Lexemes.{Lexeme}
use Rattle.json_rule.specs.Values.{text_of}
use Rattle.json_rule.specs.Tree.{Defect}
use Rattle.json_rule.specs.Defects.{scalar_defects}
use Rattle.json_judge.specs.Refusal.{sooner, refusing}
use Rattle.json_judge.specs.Frames.{stands, list_said, object_said, counted, count_said, name_said, action_said_by, known_said, lacking}
use Rattle.json_judge.specs.Course.{Course, start, Happening, ListBegins, ObjectBegins, ScalarStands, NameStands, FrameEnds, Stops, step, at_end}

-- what is refused at once
abbrev pub heard : Happening → Option Defect → Option Defect
heard (ListBegins w f place) r = refusing (list_said w f place) (refusing (count_said f) r)
heard (ObjectBegins w f place) r = refusing (object_said w f place) (refusing (count_said f) r)
heard (ScalarStands w f t) r = refusing (known_said (action_said_by w.is_action (text_of t)) (counted f)) (refusing (scalar_defects w.shape (stands w f t.first) t) (refusing (count_said f) r))
heard (NameStands f t) r = refusing (name_said f t) r
heard (FrameEnds f) r = refusing (lacking f) r
heard (Stops d) r = sooner r (some d)

abbrev pub heard_all : List Happening → Option Defect → Option Defect
heard_all [] r = r
heard_all (h ∷ hs) r = heard_all hs (heard h r)

pub record Judge : Type 0 where
  pub course : Course
  pub refusal : Option Defect

-- one more lexeme
abbrev pub take : Judge → Lexeme → Judge
take j t = record { course = (step j.course t).course; refusal = heard_all (step j.course t).happened j.refusal }

-- at the end of the text, of this length
abbrev pub finished : ℕ → Judge → Option Defect
finished len j = heard_all (at_end len j.course) j.refusal

-- what is answered when all these lexemes were taken
abbrev pub outcome : ℕ → Judge → List Lexeme → Option Defect
outcome len j [] = finished len j
outcome len j (t ∷ ts) = outcome len (take j t) ts

unfoldable pub judged : ℕ → List Lexeme → Option Defect
judged len ts = outcome len (record { course = start; refusal = none }) ts
