-- It is told of what is kept.
use mathlib.Core.Path.{ap, ◌∙◌}
use borrow.Author.Rules.{rules}
use Prim.Native.Nat.{ℕ}
use Rattle.file_members.specs.Faults.{fault_in}
use Rattle.file_members.proofs.Faults.{fault_in_lem}
use Rattle.file_walk.proofs.scalar.fault.Statement.{statement}
use Rattle.file_walk.proofs.scalar.fault.Tie as tie

pub fault_spec : {M : Type 1} → statement M
fault_spec =
    tie.close
    (tie.spec
    (λ c κs. search rules)
    (λ c k. let a = c.args in c.fault_of.ensures ∙ (ap (λ (h : ℕ). fault_in a.want a.kept.now h a.t.len a.t.integer a.t.magnitude) k.head ∙ fault_in_lem a.kept.now a.t.len a.t.integer a.t.magnitude k.lexeme k.kept a.want)))
