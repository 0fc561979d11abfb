-- Where a step of the judge leads, in slots; and reading that stops.
use Prim.Native.Nat.{ℕ}
use mathlib.Core.Path.{◌≡◌, refl, sym, ap, ◌∙◌}
use mathlib.Core.Bool.{Bool, true, false, cond}
use mathlib.Core.List.{List, [], ◌∷◌}
use mathlib.Core.Option.{Option}
use lib.ListN.{set}
use Rattle.json_rule.specs.Tree.{Defect}
use Rattle.json_judge.specs.Frames.{Frame}
use Rattle.json_judge.specs.Course.{Next, Step, stop}
use Rattle.json_judge.specs.Judging.{heard_all}
use Rattle.json_members.specs.Refusing.{stopping}
use Rattle.json_stands.proofs.Laid.{State, state, laid}
use Rattle.json_stands.proofs.Refused.{refuse_laid}
use Rattle.json_stands.proofs.Stands.{stopped, Stands, StandsFor}

-- from a refusal so far
pub record Reaches (r : Option Defect) (st : Step) (slots : List ℕ) : Type 0 where
  pub reached : StandsFor (record { course = st.course; refusal = heard_all st.happened r }) slots

-- by a test
pub by_flag : {r : Option Defect} {st su : Step} {slots other : List ℕ} (b : Bool) → (b ≡ true → Reaches r st slots) → (b ≡ false → Reaches r su other) → Reaches r (cond b st su) (cond b slots other)
by_flag true t f = t refl
by_flag false t f = f refl

module _ {next : Next} {f : Frame} {around : List Frame} {r : Option Defect} (s : State) (st : Stands next f around r s) where
  pub stops : (k q : ℕ) → (k ≡ 0 → ⊥) → Reaches r (stop f around q k) (stopping k q (laid s))
  unfolding stopping
  stops k q n =
      let x = refuse_laid s st.refusal k q n in
      record {
        reached =
            record {
              by = state 6 s.kinds s.within s.wanted s.passed x.number x.place s.held;
              laid_so = ap (λ (l : List ℕ). set l 0 6) x.laid_so;
              stands = record { nexts = stopped; frames = st.frames; refusal = x.is };
            };
      }
