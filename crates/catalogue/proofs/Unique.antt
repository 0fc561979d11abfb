-- The contracts leave no freedom and ask nothing: any two outcomes that a contract allows for the same arguments have equal answers and equal buffers, and any arguments are allowed.
use mathlib.Core.Path.{◌≡◌, sym, ◌∙◌}
use mathlib.Core.List.{map}
use base.Logic.{SProp, ent, sep, emp, id⊢, via, fst∗, snd∗}
use contract.Lifetimes.{Lfts}
use contract.Monad.{Fun, fact, fact_i, fact_use}
use denote.Triple.Clauses.{AtExit}
use denote.Triple.Entry.{Args, Res}
use types.Logic.{Logic}
use seplogic.Ra.Ura.{Ura}
use lib.ListN.{length}
use prog.Memory.{Memory}
use prog.Routine.{Routine}
use Rattle.rules.specs.Layout.{given, read_snapshot}
use Rattle.rules.specs.Promises.{OfTwo, AsksNothing}
use Rattle.rules.specs.Walk.{Walk, record_ancestors, walk_buffer}
use Rattle.walk.specs.Answers.{walked}
use Rattle.catalogue.specs.contracts.record_ancestors as entry
use Rattle.catalogue.proofs.table_ancestors as table
use Rattle.catalogue.specs.contracts.table_ancestors as table_contract

-- ---- the entry over a lent slice: its contract is an assertion, which a caller holds once the call has returned

module _ {M : Type 1} {𝓤 : Ura M} (𝓛 : Logic 𝓤) (mem : Memory → SProp 𝓤) (run : Routine → Fun 𝓤) (κs : Lfts 2) (a : Args entry.signature κs) where
  -- what is ensured of an answer, and of what lies behind the references at the exit
  abbrev pub Ensures : Res entry.signature κs → AtExit entry.ended κs → SProp 𝓤
  Ensures x s = (entry.clauses 𝓛 mem run κs a).ensures tt x s

  abbrev found : Walk
  found = record_ancestors (map read_snapshot a.0.now) a.1.0 (given a.1.1.0 a.1.1.1.0)

  abbrev pub Answer : Res entry.signature κs → Type 0
  Answer x = x ≡ walked (length a.1.1.1.1.0.now) found

  abbrev pub Buffer : AtExit entry.ended κs → Type 0
  Buffer s = s.1.1.1.1.0.now ≡ walk_buffer a.1.1.1.1.0.now found

  -- it is two plain facts
  pub said : (P : SProp 𝓤) (x : Res entry.signature κs) (s : AtExit entry.ended κs) → ent 𝓤 P (Ensures x s) → {Q : SProp 𝓤} → (Answer x → Buffer s → ent 𝓤 P Q) → ent 𝓤 P Q
  said P x s h k =
      fact_use 𝓤 (Answer x) (via 𝓤 (Ensures x s) h (fst∗ 𝓤 (fact 𝓤 (Answer x)) (fact 𝓤 (Buffer s)))) (λ e.
      fact_use 𝓤 (Buffer s) (via 𝓤 (Ensures x s) h (snd∗ 𝓤 (fact 𝓤 (Answer x)) (fact 𝓤 (Buffer s)))) (λ f. k e f))

  pub record_unique : (x y : Res entry.signature κs) (s t : AtExit entry.ended κs) → ent 𝓤 (sep 𝓤 (Ensures x s) (Ensures y t)) (fact 𝓤 ((x ≡ y) × (s.1.1.1.1.0.now ≡ t.1.1.1.1.0.now)))
  record_unique x y s t =
      let both = sep 𝓤 (Ensures x s) (Ensures y t) in
      said both x s (fst∗ 𝓤 (Ensures x s) (Ensures y t)) (λ e f. said both y t (snd∗ 𝓤 (Ensures x s) (Ensures y t)) (λ e' f'.
      fact_i 𝓤 ((x ≡ y) × (s.1.1.1.1.0.now ≡ t.1.1.1.1.0.now)) both (e ∙ sym e', f ∙ sym f')))

pub record_asks_nothing : AsksNothing entry.signature (λ M 𝓤. entry.spec)
record_asks_nothing M 𝓤 𝓛 mem run κs a = (tt, id⊢ 𝓤 (emp 𝓤))

-- ---- the entry over a table

pub table_unique : OfTwo table.Kinds.ps table.Kinds.r table.Reads.Post (λ κs x y s t. (x ≡ y) × (s.1.1.1.1.0.now ≡ t.1.1.1.1.0.now))
table_unique κs a x y s t p q = (p.0 ∙ sym q.0, p.1 ∙ sym q.1)

pub table_asks_nothing : AsksNothing table_contract.signature (λ M 𝓤. table_contract.spec)
table_asks_nothing M 𝓤 𝓛 mem run κs a = (tt, id⊢ 𝓤 (emp 𝓤))
