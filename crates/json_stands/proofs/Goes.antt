-- Where a step leads, with the state that stands for it.
use mathlib.Core.Path.{◌≡◌}
use mathlib.Core.List.{List}
use mathlib.Core.Option.{Option}
use Prim.Native.Nat.{ℕ}
use Rattle.json_rule.specs.Tree.{Defect}
use Rattle.json_judge.specs.Course.{Step}
use Rattle.json_judge.specs.Judging.{heard_all}
use Rattle.json_stands.proofs.Laid.{State, laid}
use Rattle.json_stands.proofs.Stands.{Stands}
use Rattle.json_stands.proofs.Reach.{Reaches}

-- from a refusal so far
abbrev pub StandsAfter : Option Defect → Step → State → Type 0
StandsAfter r st s = Stands st.course.next st.course.within st.course.around (heard_all st.happened r) s

pub reaches_so : {r : Option Defect} {st : Step} {slots : List ℕ} (s : State) → slots ≡ laid s → StandsAfter r st s → Reaches r st slots
reaches_so s e x = record { reached = record { by = s; laid_so = e; stands = x } }
