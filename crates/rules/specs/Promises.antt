-- What an entry point's contract has to be: it leaves no freedom, document 01, "What the promises have to exclude"; and it asks nothing of a caller.
use Rattle.std.specs.Prelude.{ℕ, ◌≡◌, List}
use base.Logic.{SProp, ent, emp}
use borrow.Fn.Kinds.{ParamKind, ResultKind, Dens, Out, res_t, ended_of}
use contract.Lifetimes.{Lfts}
use contract.Monad.{Fun}
use denote.Signature.{Signature}
use denote.Triple.Clauses.{AtExit}
use denote.Triple.Entry.{Args}
use denote.Triple.Spec.{Spec}
use types.Logic.{Logic}
use seplogic.Ra.Ura.{Ura}
use prog.Memory.{Memory}
use prog.Routine.{Routine}

-- ---- "Every entry point answers under a promise that leaves no freedom"

module _ {n : ℕ} (ps : List (ParamKind n)) (r : ResultKind n) (says : Out n ps r) where
  -- what holds of any two results x and y, with the parameters as they are left, s and t, that the contract allows for the same arguments
  abbrev pub OfTwo : ((κs : Lfts n) (x y : (res_t r κs).Denot) (s t : AtExit (ended_of n ps r) κs) → Type 0) → Type 0
  OfTwo P = (κs : Lfts n) (a : Dens κs ps) (x y : (res_t r κs).Denot) (s t : AtExit (ended_of n ps r) κs) → says κs a x s → says κs a y t → P κs x y s t

  -- they are equal
  abbrev pub Unique : Type 0
  Unique = OfTwo (λ κs x y s t. x ≡ y)

-- ---- it asks nothing

-- in every model of the machine, for any arguments, what the contract requires follows from the empty assertion
abbrev pub AsksNothing : (S : Signature) → ((M : Type 1) (𝓤 : Ura M) → (𝓛 : Logic 𝓤) → (Memory → SProp 𝓤) → (Routine → Fun 𝓤) → Spec 𝓤 S) → Type 2
AsksNothing S says =
    (M : Type 1) (𝓤 : Ura M) (𝓛 : Logic 𝓤) (mem : Memory → SProp 𝓤) (run : Routine → Fun 𝓤) (κs : Lfts S.lifetimes) (a : Args S κs)
    → (g : (says M 𝓤 𝓛 mem run κs a).ghost) × ent 𝓤 (emp 𝓤) ((says M 𝓤 𝓛 mem run κs a).requires g)
