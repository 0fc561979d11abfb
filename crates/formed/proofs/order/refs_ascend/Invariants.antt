-- What was found of the names so far.
use Rattle.std.proofs.Common.{List, ℕ, take}
use Rattle.records.specs.declared.reference.NamedRef.{NamedRef}
use Rattle.rules.specs.Names.{name_below}
use Rattle.rules.specs.Layout.{read_name}
use Rattle.formed.proofs.Ascends.{Ascended}
use Rattle.formed.proofs.order.refs_ascend.Given as goal

abbrev pub ref_name : NamedRef → List ℕ
ref_name r = read_name r.name

abbrev pub invariant-loop-i : goal.invariant-loop-i
invariant-loop-i l = Ascended name_below ref_name (take l.t.count l.t.items) l.i l.ok
