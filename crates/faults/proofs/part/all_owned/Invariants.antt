-- All owners are well formed exactly if those that are left are.
use Rattle.std.proofs.Common.{◌≡◌, drop, map}
use Rattle.rules.specs.Words.{all}
use Rattle.rules.specs.Layout.{read_ref}
use Rattle.rules.specs.WellFormed.{owner_formed}
use Rattle.faults.proofs.part.all_owned.Given as goal

abbrev pub invariant-loop-held : goal.invariant-loop-held
invariant-loop-held l = all owner_formed (map read_ref l.refs) ≡ all owner_formed (map read_ref (drop l.held-index l.refs))
