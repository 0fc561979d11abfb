-- The two entries give the same answer on the same snapshots: what the contract of `record_ancestors` says of an outcome is what the contract of `walk::ancestors` says
-- for the records' ids and parents, with -1 for a parent behind a flag that is not set.
use mathlib.Core.Path.{◌≡◌, refl, sym, ap, ap₂, ◌∙◌}
use mathlib.Core.Bool.{Bool, true, false, cond}
use mathlib.Core.List.{List, [], ◌∷◌, map}
use mathlib.Core.Option.{Option}
use base.Logic.{SProp, ent, id⊢}
use borrow.Fn.Kinds.{Dens, res_t, ended_of}
use contract.Lifetimes.{Lfts}
use contract.Monad.{Fun, fact, fact_i}
use denote.Triple.Clauses.{AtExit}
use denote.Triple.Entry.{Args, Res}
use types.Logic.{Logic}
use seplogic.Ra.Ura.{Ura}
use lib.IntN.{ℤ, negsuc}
use lib.ListN.{length}
use prog.Memory.{Memory}
use prog.Routine.{Routine}
use Rattle.records.specs.declared.snapshot.Snapshot.{Snapshot}
use Rattle.rules.specs.Words.{or_else}
use Rattle.rules.specs.Layout.{given, read_snapshot}
use Rattle.rules.specs.Walk.{Walk, ancestors, record_ancestors, walk_buffer}
use Rattle.walk.specs.Answers.{walked}
use Rattle.walk.proofs.ancestors.Kinds.{ps, r}
use Rattle.walk.proofs.ancestors.Reads.{Post}
use Rattle.catalogue.specs.Links.{parent_number}
use Rattle.catalogue.proofs.Unique.{Ensures, said}
use Rattle.catalogue.specs.contracts.record_ancestors as entry

-- ---- the same walk

abbrev pub record_id : Snapshot → ℤ
record_id s = s.snapshot_id.0

abbrev pub record_parent : Snapshot → ℤ
record_parent s = cond s.has_parent s.parent_snapshot_id.0 (negsuc 0)

behind_flag : (b : Bool) (z d : ℤ) → or_else (given b z) d ≡ cond b z d
behind_flag true z d = refl
behind_flag false z d = refl

ids_read : (ss : List Snapshot) → map (λ s. s.id) (map read_snapshot ss) ≡ map record_id ss
ids_read [] = refl
ids_read (s ∷ ss) = ap (λ (l : List ℤ). record_id s ∷ l) (ids_read ss)

parents_read : (ss : List Snapshot) → map parent_number (map read_snapshot ss) ≡ map record_parent ss
parents_read [] = refl
parents_read (s ∷ ss) = ap₂ (λ (z : ℤ) (l : List ℤ). z ∷ l) (behind_flag s.has_parent s.parent_snapshot_id.0 (negsuc 0)) (parents_read ss)

pub same_walk : (ss : List Snapshot) (start : ℤ) (excluded : Option ℤ) → record_ancestors (map read_snapshot ss) start excluded ≡ ancestors (map record_id ss) (map record_parent ss) start excluded
same_walk ss start excluded = ap₂ (λ (is ps : List ℤ). ancestors is ps start excluded) (ids_read ss) (parents_read ss)

-- ---- the same answer

-- a call of each entry, on the same snapshots, from the same start, with the same excluded id and the same buffer
pub record SameCalls (κs : Lfts 3) (a : Dens κs ps) (κs' : Lfts 2) (c : Args entry.signature κs') : Type 0 where
  pub ids : a.0.now ≡ map record_id c.0.now
  pub parents : a.1.0.now ≡ map record_parent c.0.now
  pub start : a.1.1.0 ≡ c.1.0
  pub flag : a.1.1.1.0 ≡ c.1.1.0
  pub excluded : a.1.1.1.1.0 ≡ c.1.1.1.0
  pub buffer : a.1.1.1.1.1.0.now ≡ c.1.1.1.1.0.now

module _ {M : Type 1} {𝓤 : Ura M} (𝓛 : Logic 𝓤) (mem : Memory → SProp 𝓤) (run : Routine → Fun 𝓤) (κs : Lfts 3) (a : Dens κs ps) (κs' : Lfts 2) (c : Args entry.signature κs') where
  pub same_answer : SameCalls κs a κs' c → (x : (res_t r κs).Denot) (s : AtExit (ended_of 3 ps r) κs) (y : Res entry.signature κs') (t : AtExit entry.ended κs')
      → Post κs a x s → ent 𝓤 (Ensures 𝓛 mem run κs' c y t) (fact 𝓤 ((x ≡ y) × (s.1.1.1.1.1.0.now ≡ t.1.1.1.1.0.now)))
  same_answer h x s y t p =
      let this = Ensures 𝓛 mem run κs' c y t in
      let walk : ancestors a.0.now a.1.0.now a.1.1.0 (given a.1.1.1.0 a.1.1.1.1.0) ≡ record_ancestors (map read_snapshot c.0.now) c.1.0 (given c.1.1.0 c.1.1.1.0)
      = cc (same_walk c.0.now c.1.0 (given c.1.1.0 c.1.1.1.0)) in
      said 𝓛 mem run κs' c this y t (id⊢ 𝓤 this) (λ e f. fact_i 𝓤 ((x ≡ y) × (s.1.1.1.1.1.0.now ≡ t.1.1.1.1.0.now)) this
      (p.0 ∙ ap₂ (λ (n : List ℤ) (w : Walk). walked (length n) w) h.buffer walk ∙ sym e, p.1 ∙ ap₂ walk_buffer h.buffer walk ∙ sym f))
