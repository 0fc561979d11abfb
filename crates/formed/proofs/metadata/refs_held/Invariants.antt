-- The refs that are left decide.
use Rattle.std.proofs.Common.{◌≡◌, take, drop}
use Rattle.records.specs.declared.reference.NamedRef.{NamedRef}
use Rattle.rules.specs.Words.{all, is_in}
use Rattle.rules.specs.Layout.{read_refs}
use Rattle.formed.proofs.metadata.refs_held.Given as goal

abbrev pub invariant-loop-x : goal.invariant-loop-x
invariant-loop-x l =
    all (λ x. is_in (take l.fn.k.count l.fn.k.ids) x.reference.snapshot) (read_refs l.fn.t) ≡ all (λ (x : NamedRef). is_in (take l.fn.k.count l.fn.k.ids) x.reference.snapshot_id.0) (drop l.x-index l.x-items)
