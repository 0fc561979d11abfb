-- None of the refs so far is `main`.
use Rattle.formed.proofs.Main.{Sought}
use Rattle.formed.proofs.metadata.main_agrees.Given as goal

abbrev pub invariant-loop-r : goal.invariant-loop-r
invariant-loop-r l = Sought l.fn.t l.fn.f.has_current l.fn.f.current_snapshot_id.0 l.r-index
